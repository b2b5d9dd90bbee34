-- The measure is how many of the 64 nodes come from here on.
use Rattle.std.proofs.Common.{◌-◌}
use Rattle.synthesis.proofs.graph.+opening.Given as goal

abbrev pub decreases-opening : goal.decreases-opening
decreases-opening l = 64 - l.k
