use Rattle.std.proofs.Common.{◌≡◌, ◌-◌, ◌≤◌, length, take, append-nil, length-set, length-take-le, ◌∙◌, arith}
use Rattle.running.specs.Duty.{vacant}
use Rattle.running.proofs.RosterLaws.{places_front, sound_by, rules_of, tidy_by, cleared_next, cleared_all}
use Rattle.running.proofs.roster.Roster.of.Goals as goal

pub returns-then-not-are_distinct : goal.returns-then-not-are_distinct
returns-then-not-are_distinct c = rw (sound_by c.args.duty (omega arith) (omega arith)) (cc, cc)

pub loop-i-init : goal.loop-i-init
loop-i-init c =
    let d = c.args.duty in
    let none : d.count - d.count ≡ 0 = omega arith in
    (rw (none, append-nil (take d.count d.rules)), omega arith)

pub loop-i-preserved : goal.loop-i-preserved
loop-i-preserved c =
    let d = c.args.duty in (
      cleared_next (take d.count d.rules) c.loop-i.places d.count c.loop-i.i c.loop-i.auto.i (omega (arith, c.loop-i.invariant.1, c.loop-i-test.true)) c.loop-i.invariant.0,
      omega (arith, length-set c.loop-i.places c.loop-i.i vacant, c.loop-i.invariant.1),
    )

pub invariant_of-result : goal.invariant_of-result
invariant_of-result c =
    let d = c.args.duty in
    let few : d.count ≤ length d.rules = omega arith in
    let is =
    cleared_all (take d.count d.rules) c.loop-i.places d.count c.loop-i.i (length-take-le d.count d.rules few) (omega arith) c.loop-i.invariant.1 c.loop-i.invariant.0
    in
    record { few = omega arith; tidy = tidy_by (take d.count d.rules) is }

pub returns : goal.returns
returns c =
    let d = c.args.duty in
    let few : d.count ≤ length d.rules = omega arith in
    let is =
    cleared_all (take d.count d.rules) c.loop-i.places d.count c.loop-i.i (length-take-le d.count d.rules few) (omega arith) c.loop-i.invariant.1 c.loop-i.invariant.0
    in (
      rw (sound_by d (omega arith) (omega arith)) cc,
      rules_of (take d.count d.rules) is ∙ places_front d.count d.rules few,
    )
