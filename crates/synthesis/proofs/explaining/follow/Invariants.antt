-- From here the scans that are left lead where all lead from the first equation.
use Rattle.std.proofs.Common.{◌≡◌}
use Rattle.synthesis.proofs.Functions.FollowingScans.{followed_from}
use Rattle.synthesis.proofs.explaining.follow.Given as goal

abbrev pub invariant-loop-i : goal.invariant-loop-i
invariant-loop-i l = followed_from l.graph l.scans l.e l.i ≡ followed_from l.graph l.scans l.graph.first 0
