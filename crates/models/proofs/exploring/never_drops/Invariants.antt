-- The invariant of the search. The measure is how many pairs may still be expanded.
use Rattle.std.proofs.Common.{◌-◌}
use Rattle.models.specs.Exploring.{pair_limit}
use Rattle.models.specs.Searching.{Explored}
use Rattle.models.proofs.exploring.never_drops.Given as goal

abbrev pub invariant-loop-pair : goal.invariant-loop-pair
invariant-loop-pair l = Explored l.steps l.table l.worklist

abbrev pub decreases-loop-pair : goal.decreases-loop-pair
decreases-loop-pair l = pair_limit - l.worklist.expanded
