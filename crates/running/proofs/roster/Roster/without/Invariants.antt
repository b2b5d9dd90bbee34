-- Those of the rules so far that have another number are on duty.
use Rattle.std.proofs.Common.{◌≡◌, take}
use Rattle.running.specs.Duty.{duty_of, without}
use Rattle.running.proofs.roster.Roster.without.Given as goal

abbrev pub invariant-loop-rule : goal.invariant-loop-rule
invariant-loop-rule l = l.others.duty ≡ duty_of (without l.number (take l.rule-index l.rule-items))
