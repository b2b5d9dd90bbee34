-- The loop keeps what is read so far; the measure is how many patterns are left.
use Rattle.std.proofs.Common.{◌-◌}
use Rattle.reading.proofs.Functions.Heads.{PatternsBegun}
use Rattle.reading.proofs.patterns.read_patterns.Given as goal

abbrev pub invariant-loop-list : goal.invariant-loop-list
invariant-loop-list l = PatternsBegun l.bytes l.list l.at l.count

abbrev pub decreases-loop-list : goal.decreases-loop-list
decreases-loop-list l = 32 - l.count
