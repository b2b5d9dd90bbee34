-- The rule goes into the place behind the others.
use Rattle.std.proofs.Common.{◌∷◌, ◌++◌, [], arith}
use Rattle.running.specs.Duty.{on_duty}
use Rattle.running.proofs.RosterLaws.{tidy_by, pushed_is}
use Rattle.running.proofs.roster.Roster.push.Goals as goal

pub invariant_of-self : goal.invariant_of-self
invariant_of-self c =
    let roster = c.args.self.now in
    let rule = c.args.rule in
    record { few = omega arith; tidy = tidy_by (on_duty roster.duty ++ (rule ∷ [])) (pushed_is roster.duty rule roster.tidy c.requires) }

pub returns : goal.returns
returns c = let roster = c.args.self.now in pushed_is roster.duty c.args.rule roster.tidy c.requires
