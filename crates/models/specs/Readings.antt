-- The kinds of the records of steps. No public contract cites these.
use Rattle.std.specs.Prelude.{ℕ, ◌≡◌, Result, MatchResult}
use Rattle.models.specs.Phone.{code_step_kind, silent_step_kind}
use Rattle.models.specs.declared.kind.StepKind.{StepKind}
use Rattle.models.specs.declared.kind.StepKind.TheVariants.{Code, Silent}
use Rattle.models.specs.declared.kind.NoStep.{NoStep}

-- ---- the kinds of steps

-- the byte with which its record begins
abbrev pub kind_byte : StepKind → ℕ
kind_byte Code = code_step_kind
kind_byte Silent = silent_step_kind

-- the kind with this byte, or that none has it
abbrev pub StepKindRead : ℕ → Result StepKind NoStep → Type 0
StepKindRead byte r = MatchResult r (λ kind. kind_byte kind ≡ byte) (λ _. (kind : StepKind) → kind_byte kind ≡ byte → ⊥)
