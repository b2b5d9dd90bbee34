-- The rules stand in front, and nothing behind them in the places so far.
use Rattle.std.proofs.Common.{◌≡◌, ◌-◌, ◌++◌, length, take, replicate}
use Rattle.running.specs.Duty.{vacant}
use Rattle.running.proofs.roster.Roster.of.Given as goal

abbrev pub invariant-loop-i : goal.invariant-loop-i
invariant-loop-i l = (take l.i l.places ≡ take l.duty.count l.duty.rules ++ replicate (l.i - l.duty.count) vacant) × (length l.places ≡ 4)
