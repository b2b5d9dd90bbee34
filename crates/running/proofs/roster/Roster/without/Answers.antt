-- The next rule comes on behind the others if it has another number.
use Rattle.std.proofs.Common.{true, false, not, ap, take}
use borrow.Author.Tests.{eq-eqb, ne_eqb}
use Rattle.running.specs.Lists.{filter}
use Rattle.running.specs.Duty.{without}
use Rattle.running.proofs.RosterLaws.{staying_few, without_next, pushed_onto}
use Rattle.running.proofs.roster.Roster.without.Goals as goal
use Rattle.running.proofs.roster.Roster.without.Goals.{then-rule-number, else-rule-number}

pub loop-rule-init : goal.loop-rule-init
unfolding filter
loop-rule-init c = c.new-others.ensures

pub push-requires : goal.push-requires
push-requires c = staying_few c.args.number _ c.loop-rule.rule-index c.args.self.now.duty c.loop-rule.invariant c.args.self.now.few c.rules-rule-items.ensures c.loop-rule-test.true

pub loop-rule-preserved : goal.loop-rule-preserved
loop-rule-preserved c =
    let number = c.args.number in
    let rules = c.rules-rule-items.result.now in
    let i = c.loop-rule.rule-index in
    elim c.if-rule-number.branch [
      | then-rule-number w ↦
          rw (w.others-is, without_next number rules i true c.loop-rule-test.true (ap not (ne_eqb _ _ w.if-rule-number.true)))
          (pushed_onto (without number (take i rules)) _ c.loop-rule.invariant w.push.ensures)
      | else-rule-number w ↦
          rw (w.others-is, without_next number rules i false c.loop-rule-test.true (ap not (eq-eqb _ _ w.if-rule-number.false)))
          c.loop-rule.invariant
    ]
