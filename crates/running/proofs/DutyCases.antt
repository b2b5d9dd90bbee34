-- The ways of a coming, of a going and of a run on duty, by their tests: each refusal, and what comes of none. What holds in each way, holds of the
-- outcome.
use Prim.Native.Nat.{ℕ}
use mathlib.Core.Path.{◌≡◌, refl}
use mathlib.Core.Bool.{Bool, true, false, not}
use mathlib.Core.List.{List, [], ◌∷◌, ◌++◌}
use lib.Dec.{leb}
use Rattle.reading.specs.File.{Outcome, accepted, refused, refuse}
use Rattle.running.specs.Lists.{all}
use Rattle.running.specs.Running.{has_room, RunOver, run_by}
use Rattle.running.specs.Duty.{on_duty, is_on, is_sound, together, fits_at, at_start, coming_of, without, going_of, duty_run_of}
use Rattle.running.specs.declared.OnDuty.{OnDuty}
use Rattle.running.specs.declared.Duty.{Duty}

-- ---- a coming

module _ (limit mark : ℕ) (d : Duty) (number : ℕ) (tables : List ℕ) (base count : ℕ) where
  pub coming_cases : (P : Outcome (List OnDuty) → Type 0) → (is_sound d ≡ false → P (refused 16 0))
      → (is_sound d ≡ true → leb 4 d.count ≡ true → P (refused 19 0))
      → (is_sound d ≡ true → leb 4 d.count ≡ false → is_on number (on_duty d) ≡ true → P (refused 20 0))
      → (is_sound d ≡ true → leb 4 d.count ≡ false → is_on number (on_duty d) ≡ false
      → fits_at limit mark tables (at_start number base count) ≡ false → P (refused 16 0))
      → (is_sound d ≡ true → leb 4 d.count ≡ false → is_on number (on_duty d) ≡ false
      → fits_at limit mark tables (at_start number base count) ≡ true → P (accepted (on_duty d ++ (at_start number base count ∷ []))))
      → P (coming_of limit mark d number tables base count)
  unfolding coming_of
  coming_cases P unsound full known unfit fit =
      on (is_sound d) (leb 4 d.count) (is_on number (on_duty d)) (fits_at limit mark tables (at_start number base count)) refl refl refl refl
    where
      on : (s f k t : Bool) → is_sound d ≡ s → leb 4 d.count ≡ f → is_on number (on_duty d) ≡ k
          → fits_at limit mark tables (at_start number base count) ≡ t
          → P (refuse (not s) 16 0 (refuse f 19 0 (refuse k 20 0 (refuse (not t) 16 0 (accepted (on_duty d ++ (at_start number base count ∷ [])))))))
      on false f k t es ef ek et = unsound es
      on true true k t es ef ek et = full es ef
      on true false true t es ef ek et = known es ef ek
      on true false false false es ef ek et = unfit es ef ek et
      on true false false true es ef ek et = fit es ef ek et

-- ---- a going

module _ (d : Duty) (number : ℕ) where
  pub going_cases : (P : Outcome (List OnDuty) → Type 0) → (is_sound d ≡ false → P (refused 16 0))
      → (is_sound d ≡ true → is_on number (on_duty d) ≡ false → P (refused 21 0))
      → (is_sound d ≡ true → is_on number (on_duty d) ≡ true → P (accepted (without number (on_duty d)))) → P (going_of d number)
  unfolding going_of
  going_cases P unsound absent fit = on (is_sound d) (is_on number (on_duty d)) refl refl
    where
      on : (s k : Bool) → is_sound d ≡ s → is_on number (on_duty d) ≡ k
          → P (refuse (not s) 16 0 (refuse (not k) 21 0 (accepted (without number (on_duty d)))))
      on false k es ek = unsound es
      on true false es ek = absent es ek
      on true true es ek = fit es ek

-- ---- a run

module _ (limit mark : ℕ) (tables : List ℕ) (d : Duty) (scans : List ℕ) (output verdicts : ℕ) where
  pub duty_run_cases : (P : Outcome (RunOver (List OnDuty)) → Type 0) → (has_room scans output verdicts ≡ false → P (refused 15 0))
      → (has_room scans output verdicts ≡ true → is_sound d ≡ false → P (refused 16 0))
      → (has_room scans output verdicts ≡ true → is_sound d ≡ true → all (fits_at limit mark tables) (on_duty d) ≡ false → P (refused 16 0))
      → (has_room scans output verdicts ≡ true → is_sound d ≡ true → all (fits_at limit mark tables) (on_duty d) ≡ true
      → P (accepted (run_by (together mark tables) (on_duty d) scans)))
      → P (duty_run_of limit mark tables d scans output verdicts)
  unfolding duty_run_of
  duty_run_cases P short unsound unfit fit = on (has_room scans output verdicts) (is_sound d) (all (fits_at limit mark tables) (on_duty d)) refl refl refl
    where
      on : (r s t : Bool) → has_room scans output verdicts ≡ r → is_sound d ≡ s → all (fits_at limit mark tables) (on_duty d) ≡ t
          → P (refuse (not r) 15 0 (refuse (not s) 16 0 (refuse (not t) 16 0 (accepted (run_by (together mark tables) (on_duty d) scans)))))
      on false s t er es et = short er
      on true false t er es et = unsound er es
      on true true false er es et = unfit er es et
      on true true true er es et = fit er es et
