-- The rows of the model file's refusal table: where the checks before it pass and its own doesn't, its refusal is what the record says.
use mathlib.Core.Path.{◌≡◌, refl}
use mathlib.Core.Bool.{Bool, true, false}
use mathlib.Core.List.{List}
use Prim.Native.Nat.{ℕ, ◌<◌}
use lib.ListN.{length, get_or}
use lib.Dec.{eqb}
use borrow.Author.Tests.{lt-ltb, eq-eqb, ne_eqb}
use Rattle.reading.specs.File.{refused, refuse}
use Rattle.reading.specs.Representations.{record_at}
use Rattle.models.specs.Phone.{states_kind, code_step_kind, silent_step_kind, is_step, states_of, step_format}
use Rattle.models.specs.declared.Step.{Step}

-- ---- the count of states

module _ (f : List ℕ) where
  pub file_empty : length f ≡ 0 → states_of f ≡ refused 11 (length f)
  unfolding states_of
  file_empty h = simp (eq-eqb _ _ h)

  module _ (b : length f ≡ 0 → ⊥) where
    pub other_kind : (get_or f 0 0 ≡ states_kind → ⊥) → states_of f ≡ refused 12 0
    unfolding states_of
    other_kind h = simp (ne_eqb _ _ b, ne_eqb _ _ h)

    module _ (k : get_or f 0 0 ≡ states_kind) where
      pub states_cut : length f ≡ 1 → states_of f ≡ refused 11 (length f)
      unfolding states_of
      states_cut h = simp (ne_eqb _ _ b, eq-eqb _ _ k, eq-eqb _ _ h)

      module _ (w : length f ≡ 1 → ⊥) where
        pub no_states : get_or f 1 0 ≡ 0 → states_of f ≡ refused 12 0
        unfolding states_of
        no_states h = simp (ne_eqb _ _ b, eq-eqb _ _ k, ne_eqb _ _ w, eq-eqb _ _ h)

        module _ (s : get_or f 1 0 ≡ 0 → ⊥) where
          pub states_over : 64 < get_or f 1 0 → states_of f ≡ refused 12 0
          unfolding states_of
          states_over h = simp (ne_eqb _ _ b, eq-eqb _ _ k, ne_eqb _ _ w, ne_eqb _ _ s, lt-ltb _ _ h)

-- ---- the record of a step

module _ (f : List ℕ) (states at left : ℕ) where
  pub no_step : (get_or f at 0 ≡ code_step_kind → ⊥) → (get_or f at 0 ≡ silent_step_kind → ⊥)
      → record_at (step_format f states) left at ≡ refused 12 at
  no_step c s = rw (ne_eqb _ _ c, ne_eqb _ _ s) (on (eqb left 0))
    where
      on : (none_left : Bool) → refuse {A = Step} none_left 12 at (refused 12 at) ≡ refused 12 at
      on true = refl
      on false = refl

  pub no_step-left : is_step (get_or f at 0) ≡ true → left ≡ 0 → record_at (step_format f states) left at ≡ refused 14 at
  no_step-left kind h = simp (kind, h)
