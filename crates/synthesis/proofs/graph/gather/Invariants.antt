-- The sets of the members taken out so far are in; the measure is the set that is left.
use Rattle.std.proofs.Common.{◌≡◌, ◌≤◌}
use Rattle.synthesis.specs.NodeSet.{union}
use Rattle.synthesis.specs.Arrays.{gathered}
use Rattle.synthesis.proofs.graph.gather.Given as goal

abbrev pub invariant-loop-rest : goal.invariant-loop-rest
invariant-loop-rest l = record { fewer : l.rest ≤ l.live; gathered_so_far : union l.all (gathered l.sets l.rest) ≡ gathered l.sets l.live }

abbrev pub decreases-loop-rest : goal.decreases-loop-rest
decreases-loop-rest l = l.rest
