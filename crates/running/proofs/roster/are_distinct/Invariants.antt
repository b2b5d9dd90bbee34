-- `all` is the answer for the rules so far.
use Rattle.std.proofs.Common.{◌≡◌, take}
use Rattle.running.specs.Duty.{are_distinct}
use Rattle.running.proofs.roster.are_distinct.Given as goal

abbrev pub invariant-loop-i : goal.invariant-loop-i
invariant-loop-i l = l.all ≡ are_distinct (take l.i l.rules)
