-- The steps of a phone model, by the places of its records: what holds of every record holds of every step.
use Prim.Native.Nat.{ℕ, zero, suc, ◌<◌}
use mathlib.Core.Path.{refl}
use mathlib.Core.List.{List, [], ◌∷◌}
use native.Mathlib.Omega.{arith}
use lib.ListN.{length, get_or}
use Rattle.reading.specs.Rule.{All}
use Rattle.enforcement.specs.Model.{Label}
use Rattle.models.specs.Phone.{label_of, no_step, StepIn}
use Rattle.models.specs.declared.Step.{Step}

-- the step that the record at a place says
abbrev pub StepAt : List Step → (place : ℕ) → Type 0
StepAt steps i = let x = get_or steps i no_step in StepIn steps x.from (label_of x.label) x.to

pub step_at_lem : (steps : List Step) (i : ℕ) → i < length steps → StepAt steps i
step_at_lem steps i h = record { index = i; inside = h; from_is = refl; label_is = refl; to_is = refl }

-- What holds of every record holds of every step.
module _ (P : ℕ → Label → ℕ → Type 0) where
  abbrev Says : Step → Type 0
  Says x = P x.from (label_of x.label) x.to

  says_at : (steps : List Step) → All Says steps → (i : ℕ) → i < length steps → Says (get_or steps i no_step)
  says_at [] all i h = absurd (omega (arith, h))
  says_at (x ∷ steps) all zero h = all.0
  says_at (x ∷ steps) all (suc i) h = says_at steps all.1 i (omega (arith, h))

  pub every_step : (steps : List Step) → All Says steps → {s t : ℕ} {a : Label} → StepIn steps s a t → P s a t
  every_step steps all x = rw (← x.from_is, ← x.label_is, ← x.to_is) (says_at steps all x.index x.inside)
