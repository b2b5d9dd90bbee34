-- The rules so far are on duty, each in its equation.
use Rattle.std.proofs.Common.{◌≡◌}
use Rattle.running.specs.Duty.{duty_of}
use Rattle.running.specs.Places.{standing}
use Rattle.running.proofs.serving.placed.Given as goal

abbrev pub invariant-loop-i : goal.invariant-loop-i
invariant-loop-i l = l.moved.duty ≡ duty_of (standing l.i l.fn.roster.duty.rules l.equations)
