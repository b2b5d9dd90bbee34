-- Reading the steps of a model file one record after the other. No public contract cites these.
use Rattle.std.specs.Prelude.{◌≡◌, List, ℕ, length, Result, Ok}
use Rattle.reading.specs.File.{Outcome, accepted, refused, Records}
use Rattle.reading.specs.Refusals.{as_outcome}
use Rattle.reading.specs.Numbered.{padded}
use Rattle.reading.specs.Representations.{RecordsBegun}
use Rattle.models.specs.Phone.{no_step, step_format}
use Rattle.reading.specs.declared.refusals.Refusal.{Refusal}
use Rattle.models.specs.declared.Step.{Step}

-- n steps are read, up to `at`, and stand in 512 records, of which the others are blank
abbrev pub StepsBegun : List ℕ → (states : ℕ) (steps : List Step) (n at : ℕ) → Type 0
StepsBegun f states steps n at = RecordsBegun (step_format f states) no_step 512 2 steps n at

-- how many steps an outcome has, with them in 512 records; of a refusal that alone
abbrev pub LoadedAs : Outcome (Records Step) → (steps : List Step) (result : Result ℕ Refusal) → Type 0
LoadedAs (accepted xs) steps result = (result ≡ Ok (length xs.list)) × (steps ≡ padded 512 no_step xs.list)
LoadedAs (refused number place) steps result = as_outcome result ≡ refused number place
