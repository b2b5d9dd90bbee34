-- Steps are read up to `at`. The measure is how many bytes are left.
use Rattle.std.proofs.Common.{◌-◌, length}
use Rattle.models.specs.Loading.{StepsBegun}
use Rattle.models.proofs.loading.read_steps.Given as goal

abbrev pub invariant-loop-at : goal.invariant-loop-at
invariant-loop-at l = StepsBegun l.bytes l.states l.steps l.n l.at

abbrev pub decreases-loop-at : goal.decreases-loop-at
decreases-loop-at l = length l.bytes - l.at
