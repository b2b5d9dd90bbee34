-- A byte with which no step begins.
use Rattle.std.proofs.Common.{sym}
use Rattle.models.specs.declared.kind.StepKind.TheVariants.{Code, Silent}
use Rattle.models.proofs.Files.RecordChecks.{no_step}
use Rattle.models.proofs.records.read_step.Goals as goal

pub returns-in_default : goal.returns-in_default
returns-in_default c =
    rw c.at.ensures (sym (no_step c.args.bytes.now c.args.states c.args.at c.args.left
    (λ e. c.in_default.ensures Code (sym e)) (λ e. c.in_default.ensures Silent (sym e))))
