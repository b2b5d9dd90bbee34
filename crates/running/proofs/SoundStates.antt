-- States of duty by their tests: each test holds exactly of what the promises say of it, by the rules on duty place by place.
use Prim.Native.Nat.{ℕ, zero, suc, ◌-◌, ◌≤◌, ◌<◌}
use mathlib.Core.Path.{◌≡◌, refl, sym, ◌∙◌, ap}
use mathlib.Core.Logic.{◌↔◌}
use mathlib.Core.Bool.{Bool, true, false, not, cond, ◌&&◌, and-eq-true_iff, not-eq-not}
use mathlib.Core.List.{List, [], ◌∷◌}
use native.Mathlib.Omega.{arith}
use lib.Dec.{eqb, leb}
use lib.ListN.{length, get_or, drop, replicate, length-append, length-replicate, get_or-eq_default}
use borrow.Author.Tests.{eqb-true, eq-eqb, leb-true, le-leb, not-true}
use Rattle.reading.proofs.Numbering.NumberedLaws.{padded_at}
use Rattle.running.specs.Lists.{all, filter}
use Rattle.running.specs.Running.{start, moved}
use Rattle.running.specs.Duty.{vacant, on_duty, duty_of, is_on, are_distinct, is_sound, fits_at}
use Rattle.running.specs.DutyPromises.{rule_in, SoundDuty, OnDutyUnder, RestVacant, FitRule}
use Rattle.running.specs.declared.OnDuty.{OnDuty}
use Rattle.running.specs.declared.Duty.{Duty}
use Rattle.running.proofs.Tables.{fits_well_formed, well_formed_fits}
use Rattle.running.proofs.ListTests.{any_some, all_each, filter_none, some_at}
use Rattle.running.proofs.PlaceLaws.{places_length, places_at, places_of}

-- a test that holds exactly of a fact fails exactly where there is none
pub fails : {P : Type 0} (b : Bool) → (b ≡ true) ↔ P → (b ≡ false) ↔ (P → ⊥)
fails b holds = (λ e p. not-eq-not.1 e (holds.1 p), λ n. not-eq-not.0 (λ t. n (holds.0 t)))

-- ---- the rules of a list

-- no two have one number
abbrev Distinct : List OnDuty → Type 0
Distinct ds = (i j : ℕ) → i < length ds → j < length ds → (get_or ds i vacant).number ≡ (get_or ds j vacant).number → i ≡ j

is_on-at : (number : ℕ) (ds : List OnDuty)
    → (is_on number ds ≡ true) ↔ ((i : ℕ) × (i < length ds) × ((get_or ds i vacant).number ≡ number))
is_on-at number ds =
    let some = any_some (λ d. eqb d.number number) (λ d. d.number ≡ number) (λ d. (eqb-true d.number number, eq-eqb d.number number)) ds in
    let at = some_at (λ (d : OnDuty). d.number ≡ number) vacant ds in
    (λ e. at.0 (some.0 e), λ h. some.1 (at.1 h))

distinct_iff : (ds : List OnDuty) → (are_distinct ds ≡ true) ↔ Distinct ds
unfolding are_distinct
distinct_iff [] = (λ e i j h k same. absurd (omega arith), λ h. refl)
distinct_iff (d ∷ ds) = (λ e. first (both.0 e) (distinct_iff ds), λ h. back h (distinct_iff ds))
  where
    both : ((not (is_on d.number ds) && are_distinct ds) ≡ true) ↔ ((not (is_on d.number ds) ≡ true) × (are_distinct ds ≡ true))
    both = and-eq-true_iff (not (is_on d.number ds)) (are_distinct ds)

    free : (is_on d.number ds ≡ false) ↔ ((i : ℕ) × (i < length ds) × ((get_or ds i vacant).number ≡ d.number) → ⊥)
    free = fails (is_on d.number ds) (is_on-at d.number ds)

    other : not (is_on d.number ds) ≡ true → (j : ℕ) → j < length ds → (get_or ds j vacant).number ≡ d.number → ⊥
    other e j k same = free.0 (not-true (is_on d.number ds) e) (j, k, same)

    first : (not (is_on d.number ds) ≡ true) × (are_distinct ds ≡ true) → (are_distinct ds ≡ true) ↔ Distinct ds → Distinct (d ∷ ds)
    first e rest zero zero h k same = refl
    first e rest zero (suc j) h k same = absurd (other e.0 j (omega arith) (sym same))
    first e rest (suc i) zero h k same = absurd (other e.0 i (omega arith) same)
    first e rest (suc i) (suc j) h k same = ap suc (rest.0 e.1 i j (omega arith) (omega arith) same)

    back : Distinct (d ∷ ds) → (are_distinct ds ≡ true) ↔ Distinct ds → (not (is_on d.number ds) && are_distinct ds) ≡ true
    back h rest =
        rw (free.1 (λ (i, k, same). omega (arith, h 0 (suc i) (omega arith) (omega arith) (sym same))))
        (rest.1 (λ i j k l same. omega (arith, h (suc i) (suc j) (omega arith) (omega arith) same)))

-- those that pass a test
pub distinct_filter : (test : OnDuty → Bool) (ds : List OnDuty) → are_distinct ds ≡ true → are_distinct (filter test ds) ≡ true
unfolding are_distinct filter
distinct_filter test [] e = refl
distinct_filter test (d ∷ ds) e =
    let both = (and-eq-true_iff (not (is_on d.number ds)) (are_distinct ds)).0 e in
    on (test d) (not-true (is_on d.number ds) both.0) (distinct_filter test ds both.1)
  where
    on : (b : Bool) → is_on d.number ds ≡ false → are_distinct (filter test ds) ≡ true → are_distinct (cond b (d ∷ filter test ds) (filter test ds)) ≡ true
    on true free rest = rw (filter_none test (λ x. eqb x.number d.number) ds free) rest
    on false free rest = rest

-- ---- the state of these rules

module _ (ds : List OnDuty) where
  pub duty_of-rules : on_duty (duty_of ds) ≡ ds
  duty_of-rules = places_of ds (replicate (4 - length ds) vacant) (length ds) refl

  pub duty_of-at : (i : ℕ) → rule_in (duty_of ds) i ≡ get_or ds i vacant
  duty_of-at = padded_at vacant 4 ds

  pub rest_vacant : length ds ≤ 4 → RestVacant (duty_of ds)
  rest_vacant h = record {
    places = simp (length-append, length-replicate) (omega arith);
    rest = λ i k. duty_of-at i ∙ get_or-eq_default ds vacant k;
  }

-- ---- the rules of a state

module _ (d : Duty) where
  pub duty_length : length (on_duty d) ≡ d.count
  duty_length = places_length d.count d.rules

  pub duty_at : (i : ℕ) → i < d.count → get_or (on_duty d) i vacant ≡ rule_in d i
  duty_at = places_at d.count d.rules

  -- a place in the list is one on duty
  pub listed : (i : ℕ) → (i < length (on_duty d)) ↔ (i < d.count)
  listed i = (λ h. omega (arith, duty_length), λ h. omega (arith, duty_length))

  pub on_duty_lem : (number : ℕ) → (is_on number (on_duty d) ≡ true) ↔ OnDutyUnder number d
  on_duty_lem number =
      let on = is_on-at number (on_duty d) in (
        λ e. let (i, h, is) = on.0 e in let k = (listed i).0 h in (i, k, rw (duty_at i k) at is),
        λ h. on.1 (h.0, (listed h.0).1 h.1, rw (duty_at h.0 h.1) h.2),
      )

  pub off_duty : (number : ℕ) → (is_on number (on_duty d) ≡ false) ↔ (OnDutyUnder number d → ⊥)
  off_duty number = fails (is_on number (on_duty d)) (on_duty_lem number)

  pub sound : (is_sound d ≡ true) ↔ SoundDuty d
  sound = (
    λ e. record {
      few = leb-true d.count 4 (both.0 e).0;
      distinct = λ i j h k same.
          (distinct_iff (on_duty d)).0 (both.0 e).1 i j ((listed i).1 h) ((listed j).1 k) (rw (duty_at i h, duty_at j k) same);
    },
    λ s.
        both.1 (
          le-leb d.count 4 s.few,
          (distinct_iff (on_duty d)).1
              (λ i j h k same.
              let h' = (listed i).0 h in
              let k' = (listed j).0 k in
              s.distinct i j h' k' (rw (duty_at i h', duty_at j k') at same)),
        ),
  )
    where
      both : ((leb d.count 4 && are_distinct (on_duty d)) ≡ true) ↔ ((leb d.count 4 ≡ true) × (are_distinct (on_duty d) ≡ true))
      both = and-eq-true_iff (leb d.count 4) (are_distinct (on_duty d))

  pub unsound : (is_sound d ≡ false) ↔ (SoundDuty d → ⊥)
  unsound = fails (is_sound d) sound

-- ---- fit rules

module _ (limit mark : ℕ) (tables : List ℕ) where
  pub fit_rule : (x : OnDuty) → (fits_at limit mark tables x ≡ true) ↔ FitRule limit mark tables x
  fit_rule x =
      let table = drop x.base tables in
      let s = moved start x.equation in (
        λ e. let both = fits_well_formed limit mark table x.count s e in record { table = both.0; equation = both.1 },
        λ h. well_formed_fits limit mark table x.count s h.table h.equation,
      )

  pub fit_rules : (d : Duty) → (all (fits_at limit mark tables) (on_duty d) ≡ true) ↔ ((i : ℕ) → i < d.count → FitRule limit mark tables (rule_in d i))
  fit_rules d =
      let each = all_each (fits_at limit mark tables) (FitRule limit mark tables) fit_rule vacant (on_duty d) in (
        λ e i h. rw (duty_at d i h) at (each.0 e i ((listed d i).1 h)),
        λ h. each.1 (λ i k. let k' = (listed d i).0 k in rw (duty_at d i k') (h i k')),
      )
