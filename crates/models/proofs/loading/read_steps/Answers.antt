-- A step is refused, or one step more is read, and in the end all of them.
use Rattle.std.proofs.Common.{refl}
use Rattle.reading.proofs.Basics.Results.{passed_up}
use Rattle.models.proofs.Files.FileWays.{steps_all, steps_refused, steps_next}
use Rattle.models.proofs.loading.read_steps.Goals as goal

pub returns-in_err-step : goal.returns-in_err-step
returns-in_err-step c =
    steps_refused _ _ c.loop-at.invariant c.loop-at-test.true c.in_err-step.ensures _ (passed_up _ _ c.from_residual.ensures.1 refl)

pub loop-at-preserved : goal.loop-at-preserved
loop-at-preserved c = rw c.record_length-at.ensures (steps_next _ _ c.loop-at.invariant c.loop-at-test.true c.in_ok-step.ensures)

pub returns : goal.returns
returns c = steps_all _ _ c.loop-at.invariant c.loop-at-test.false
