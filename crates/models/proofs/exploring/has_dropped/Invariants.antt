-- The steps after the next one on the chain have been followed. The measure bounds the steps before it.
use Rattle.models.proofs.Pairs.Expanding.{left_of, ExpandedUpTo}
use Rattle.models.proofs.exploring.has_dropped.Given as goal

abbrev pub invariant-loop-next : goal.invariant-loop-next
invariant-loop-next l = ExpandedUpTo l.steps l.table l.pair l.fn.worklist l.worklist l.next

abbrev pub decreases-loop-next : goal.decreases-loop-next
decreases-loop-next l = left_of l.next
