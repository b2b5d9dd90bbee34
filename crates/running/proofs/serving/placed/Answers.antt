-- The next rule comes on behind the others.
use Rattle.std.proofs.Common.{◌≡◌, ◌∙◌, ap, length, get_or, arith}
use Rattle.running.specs.Duty.{vacant}
use Rattle.running.specs.Places.{standing}
use Rattle.running.specs.declared.Duty.{Duty}
use Rattle.running.proofs.PlaceLaws.{places_length, places_at, standing_more, standing_length}
use Rattle.running.proofs.RosterLaws.{pushed_onto}
use Rattle.running.proofs.serving.placed.Goals as goal

pub loop-i-init : goal.loop-i-init
unfolding standing
loop-i-init c = c.new-moved.ensures

pub push-requires : goal.push-requires
push-requires c =
    let d = c.args.roster.duty in
    let count = ap (λ (e : Duty). e.count) c.loop-i.invariant in
    let many = ap length c.rules-rule-items.ensures ∙ places_length d.count d.rules in
    let few = c.args.roster.few in
    omega (arith, count, many, few, standing_length c.loop-i.i d.rules c.args.equations)

pub loop-i-preserved : goal.loop-i-preserved
loop-i-preserved c =
    let d = c.args.roster.duty in
    let i = c.loop-i.i in
    let many = ap length c.rules-rule-items.ensures ∙ places_length d.count d.rules in
    let at : get_or c.rules-rule-items.result.now i vacant ≡ get_or d.rules i vacant =
    ap (λ l. get_or l i vacant) c.rules-rule-items.ensures ∙ places_at d.count d.rules i (omega (arith, many))
    in
    rw (standing_more i d.rules c.args.equations, ← at)
    (pushed_onto (standing i d.rules c.args.equations) _ c.loop-i.invariant c.push.ensures)
