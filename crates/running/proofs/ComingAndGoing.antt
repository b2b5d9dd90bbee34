-- Comings and goings. Each way has its own answer, by the tests, each of which holds exactly of a fact; a coming goes behind the others, and a going
-- takes out the one rule with its number.
use Prim.Native.Nat.{ℕ, suc, ◌+◌, ◌≤◌, ◌<◌}
use mathlib.Core.Path.{◌≡◌, refl, sym, ◌∙◌}
use mathlib.Core.Logic.{◌↔◌, ◌⊎◌, inl, inr, ⊎_elim}
use mathlib.Core.Bool.{Bool, true, false, not, and-eq-true_iff}
use mathlib.Core.List.{List, [], ◌∷◌, ◌++◌}
use native.Mathlib.Omega.{arith}
use lib.Dec.{eqb, leb}
use lib.ListN.{length, get_or, drop, length-append, get_or-append}
use lib.Seq.{get_or_at}
use borrow.Author.Tests.{leb-true, leb-false, le-leb, lt-leb, eqb-true, eq-eqb, not-false}
use Rattle.reading.specs.File.{Outcome, accepted, refused, refuse}
use Rattle.synthesis.specs.Table.{WellFormedTable}
use Rattle.running.specs.Duty.{vacant, on_duty, duty_of, is_on, are_distinct, is_sound, fits_at, at_start, coming_of, without, going_of, changed_of}
use Rattle.running.specs.DutyPromises.{rule_in, SoundDuty, OnDutyUnder, ComesLast, LeavesPlace, Comes, Goes, MakesRoom}
use Rattle.running.specs.declared.OnDuty.{OnDuty}
use Rattle.running.specs.declared.Duty.{Duty}
use Rattle.running.proofs.DutyCases.{coming_cases, going_cases}
use Rattle.running.proofs.ListTests.{filter_one, filter_none, none_left, removed_length, removed_before, removed_behind}
use Rattle.running.proofs.SoundStates.{fails, distinct_filter, duty_of-rules, duty_of-at, rest_vacant, duty_length, duty_at, listed}
use Rattle.running.proofs.SoundStates.{on_duty_lem, off_duty, sound, unsound, fit_rule}

-- a refusal hands back what it was given
changed_refused : (d : Duty) (o : Outcome (List OnDuty)) (n place : ℕ) → (changed_of d o).checked ≡ refused n place → (changed_of d o).duty ≡ d
changed_refused d (accepted ds) n place e = let z : ◌≡◌ {A = ℕ} 0 1 = cc in absurd (omega arith)
changed_refused d (refused m at) n place e = refl

-- ---- a coming

comes_last : (d : Duty) (x : OnDuty) → d.count < 4 → ComesLast d x (duty_of (on_duty d ++ (x ∷ [])))
comes_last d x few =
    let ds = on_duty d ++ (x ∷ []) in
    let more : length ds ≡ d.count + 1 = length-append (on_duty d) (x ∷ []) ∙ rw (duty_length d) in
    record {
      count = more;
      others = λ i h. duty_of-at ds i ∙ get_or-append (on_duty d) (x ∷ []) vacant i ((listed d i).1 h) ∙ duty_at d i h;
      last = duty_of-at ds d.count ∙ get_or_at (on_duty d) x [] vacant d.count (duty_length d);
      rest = rest_vacant ds (omega arith);
    }

module _ (limit mark : ℕ) (d : Duty) (number : ℕ) (tables : List ℕ) (base count : ℕ) where
  abbrev Table : Type 0
  Table = WellFormedTable limit mark count (drop base tables)

  table_fit : (fits_at limit mark tables (at_start number base count) ≡ true) ↔ Table
  table_fit =
      let fit = fit_rule limit mark tables (at_start number base count) in
      (λ e. (fit.0 e).table, λ wf. fit.1 (record { table = wf; equation = wf.some }))

  table_unfit : (fits_at limit mark tables (at_start number base count) ≡ false) ↔ (Table → ⊥)
  table_unfit = fails (fits_at limit mark tables (at_start number base count)) table_fit

  -- the ways, by their answers
  data Coming : Outcome Unit → Type 0 where
    no_state : (SoundDuty d → ⊥) → Coming (refused 16 0)
    full : SoundDuty d × (d.count ≡ 4) → Coming (refused 19 0)
    known : SoundDuty d × (d.count < 4) × OnDutyUnder number d → Coming (refused 20 0)
    no_table : SoundDuty d × (d.count < 4) × (OnDutyUnder number d → ⊥) × (Table → ⊥) → Coming (refused 16 0)
    on : SoundDuty d × (d.count < 4) × (OnDutyUnder number d → ⊥) × Table → Coming (accepted tt)

  coming : Coming (changed_of d (coming_of limit mark d number tables base count)).checked
  coming =
      coming_cases limit mark d number tables base count (λ o. Coming (changed_of d o).checked) (λ s. no_state ((unsound d).0 s))
      (λ s f. let is = (sound d).0 s in full (is, omega (arith, is.few, leb-true 4 d.count f)))
      (λ s f k. known ((sound d).0 s, leb-false 4 d.count f, (on_duty_lem d number).0 k))
      (λ s f k t. no_table ((sound d).0 s, leb-false 4 d.count f, (off_duty d number).0 k, table_unfit.0 t))
      (λ s f k t. on ((sound d).0 s, leb-false 4 d.count f, (off_duty d number).0 k, table_fit.0 t))

  -- by the tests
  coming_by : (s f k t : Bool) → is_sound d ≡ s → leb 4 d.count ≡ f → is_on number (on_duty d) ≡ k
      → fits_at limit mark tables (at_start number base count) ≡ t
      → coming_of limit mark d number tables base count
      ≡ refuse (not s) 16 0 (refuse f 19 0 (refuse k 20 0 (refuse (not t) 16 0 (accepted (on_duty d ++ (at_start number base count ∷ []))))))
  unfolding coming_of
  coming_by s f k t es ef ek et = rw (es, ef, ek, et)

  taken_on : SoundDuty d × (d.count < 4) × (OnDutyUnder number d → ⊥) × Table
      → coming_of limit mark d number tables base count ≡ accepted (on_duty d ++ (at_start number base count ∷ []))
  taken_on (s, few, free, t) =
      coming_by true false false true ((sound d).1 s) (lt-leb 4 d.count few) ((off_duty d number).1 free) (table_fit.1 t)

  -- each way has its answer
  coming_answer : {c : Outcome Unit} → Coming c → (changed_of d (coming_of limit mark d number tables base count)).checked ≡ c
  coming_answer (no_state n) = rw (coming_by false _ _ _ ((unsound d).1 n) refl refl refl)
  coming_answer (full (s, four)) = rw (coming_by true true _ _ ((sound d).1 s) (le-leb 4 d.count (omega arith)) refl refl)
  coming_answer (known (s, few, k)) = rw (coming_by true false true _ ((sound d).1 s) (lt-leb 4 d.count few) ((on_duty_lem d number).1 k) refl)
  coming_answer (no_table (s, few, free, t)) =
      rw (coming_by true false false false ((sound d).1 s) (lt-leb 4 d.count few) ((off_duty d number).1 free) (table_unfit.1 t))
  coming_answer (on h) = rw (taken_on h)

  pub comes : Comes limit mark d number tables base count (changed_of d (coming_of limit mark d number tables base count))
  comes = record {
    unfit = (λ e. with_16 (rw e at coming), ⊎_elim (λ n. coming_answer (no_state n)) (λ h. coming_answer (no_table h)));
    fifth = (λ e. with_19 (rw e at coming), λ h. coming_answer (full h));
    known = (λ e. with_20 (rw e at coming), λ h. coming_answer (known h));
    fit = (λ e. with_none (rw e at coming), λ h. coming_answer (on h));
    last = λ e. let h = with_none (rw e at coming) in rw (taken_on h) (comes_last d (at_start number base count) h.1);
    refused = changed_refused d (coming_of limit mark d number tables base count);
  }
    where
      with_16 : Coming (refused 16 0) → (SoundDuty d → ⊥) ⊎ (SoundDuty d × (d.count < 4) × (OnDutyUnder number d → ⊥) × (Table → ⊥))
      with_16 (no_state n) = inl n
      with_16 (no_table h) = inr h

      with_19 : Coming (refused 19 0) → SoundDuty d × (d.count ≡ 4)
      with_19 (full h) = h

      with_20 : Coming (refused 20 0) → SoundDuty d × (d.count < 4) × OnDutyUnder number d
      with_20 (known h) = h

      with_none : Coming (accepted tt) → SoundDuty d × (d.count < 4) × (OnDutyUnder number d → ⊥) × Table
      with_none (on h) = h

-- ---- a going

module _ (d : Duty) (number : ℕ) where
  -- the rule with the number is the only one that doesn't pass
  leaves_place : SoundDuty d → (i : ℕ) → i < d.count → (rule_in d i).number ≡ number → LeavesPlace d i (duty_of (without number (on_duty d)))
  leaves_place s i h is =
      let ds = on_duty d in
      let inside = (listed d i).1 h in
      let others = filter_one (λ x. not (eqb x.number number)) vacant ds i inside (rw (duty_at d i h, eq-eqb (rule_in d i).number number is)) one in
      let less : length (without number ds) + 1 ≡ d.count = rw others (removed_length vacant ds i inside ∙ duty_length d) in
      record {
        count = less;
        before = λ j k. duty_of-at (without number ds) j ∙ rw others (removed_before vacant ds i inside j k ∙ duty_at d j (omega arith));
        behind = λ j k l. duty_of-at (without number ds) j ∙ rw others (removed_behind vacant ds i inside j k ∙ duty_at d (suc j) (omega arith));
        rest = rest_vacant (without number ds) (omega (arith, s.few));
      }
    where
      one : (j : ℕ) → j < length (on_duty d) → not (eqb (get_or (on_duty d) j vacant).number number) ≡ false → j ≡ i
      one j k f =
          let k' = (listed d j).0 k in
          let same = not-false (eqb (rule_in d j).number number) (rw (duty_at d j k') at f) in
          s.distinct j i k' h (eqb-true (rule_in d j).number number same ∙ sym is)

  sound_without : SoundDuty d → OnDutyUnder number d → SoundDuty (duty_of (without number (on_duty d)))
  sound_without s (i, h, is) =
      let ds = without number (on_duty d) in
      let few : length ds ≤ 4 = omega (arith, s.few, (leaves_place s i h is).count) in
      let before = (and-eq-true_iff (leb d.count 4) (are_distinct (on_duty d))).0 ((sound d).1 s) in
      let distinct = distinct_filter (λ x. not (eqb x.number number)) (on_duty d) before.1 in
      (sound (duty_of ds)).0 (rw (duty_of-rules ds, le-leb (length ds) 4 few) distinct)

  -- a number that wasn't on duty still isn't, and that of the rule that went off no longer is
  free_without : (other : ℕ) → (other ≡ number) ⊎ (OnDutyUnder other d → ⊥) → OnDutyUnder other (duty_of (without number (on_duty d))) → ⊥
  free_without other free = (off_duty (duty_of ds) other).0 (rw (duty_of-rules ds) (on free))
    where
      ds : List OnDuty
      ds = without number (on_duty d)

      on : (other ≡ number) ⊎ (OnDutyUnder other d → ⊥) → is_on other ds ≡ false
      on (inl same) = rw same (none_left (λ x. eqb x.number number) (on_duty d))
      on (inr n) = filter_none (λ x. not (eqb x.number number)) (λ x. eqb x.number other) (on_duty d) ((off_duty d other).1 n)

  -- the ways, by their answers
  data Going : Outcome Unit → Type 0 where
    no_state : (SoundDuty d → ⊥) → Going (refused 16 0)
    absent : SoundDuty d × (OnDutyUnder number d → ⊥) → Going (refused 21 0)
    off : SoundDuty d × OnDutyUnder number d → Going (accepted tt)

  going : Going (changed_of d (going_of d number)).checked
  going =
      going_cases d number (λ o. Going (changed_of d o).checked) (λ s. no_state ((unsound d).0 s))
      (λ s k. absent ((sound d).0 s, (off_duty d number).0 k)) (λ s k. off ((sound d).0 s, (on_duty_lem d number).0 k))

  going_by : (s k : Bool) → is_sound d ≡ s → is_on number (on_duty d) ≡ k
      → going_of d number ≡ refuse (not s) 16 0 (refuse (not k) 21 0 (accepted (without number (on_duty d))))
  unfolding going_of
  going_by s k es ek = rw (es, ek)

  taken_off : SoundDuty d × OnDutyUnder number d → going_of d number ≡ accepted (without number (on_duty d))
  taken_off (s, k) = going_by true true ((sound d).1 s) ((on_duty_lem d number).1 k)

  going_answer : {c : Outcome Unit} → Going c → (changed_of d (going_of d number)).checked ≡ c
  going_answer (no_state n) = rw (going_by false _ ((unsound d).1 n) refl)
  going_answer (absent (s, k)) = rw (going_by true false ((sound d).1 s) ((off_duty d number).1 k))
  going_answer (off h) = rw (taken_off h)

  went_off_lem : (changed_of d (going_of d number)).checked ≡ accepted tt → SoundDuty d × OnDutyUnder number d
  went_off_lem e = on (rw e at going)
    where
      on : Going (accepted tt) → SoundDuty d × OnDutyUnder number d
      on (off h) = h

  pub goes : Goes d number (changed_of d (going_of d number))
  goes = record {
    unfit = (λ e. with_16 (rw e at going), λ n. going_answer (no_state n));
    absent = (λ e. with_21 (rw e at going), λ h. going_answer (absent h));
    fit = (went_off_lem, λ h. going_answer (off h));
    leaves = λ e i h is. let s = went_off_lem e in rw (taken_off s) (leaves_place s.0 i h is);
    free = λ e. let s = went_off_lem e in rw (taken_off s) (sound_without s.0 s.1, free_without number (inl refl));
    refused = changed_refused d (going_of d number);
  }
    where
      with_16 : Going (refused 16 0) → SoundDuty d → ⊥
      with_16 (no_state n) = n

      with_21 : Going (refused 21 0) → SoundDuty d × (OnDutyUnder number d → ⊥)
      with_21 (absent h) = h

-- ---- a coming after a going

pub makes_room : (limit mark : ℕ) (d : Duty) (number : ℕ) → MakesRoom limit mark d number
makes_room limit mark d number = record {
  taken = λ e other tables base count free table.
      let (s, k) = went_off_lem d number e in
      let d' = duty_of (without number (on_duty d)) in
      let less = (leaves_place d number s k.0 k.1 k.2).count in
      let came = comes limit mark d' other tables base count in
      let fit = came.fit.1 (sound_without d number s k, omega (arith, s.few), free_without d number other free, table) in
      rw (taken_off d number (s, k)) (fit, came.last fit);
}
