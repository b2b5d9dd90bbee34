-- The test of a table holds exactly where the table is well formed, since what it looks at are the entries of the rows. A run on a
-- well-formed table never leaves its equations, and goes alike on every table with the same rows.
use Prim.Native.Nat.{ℕ, ◌+◌, ◌*◌, ◌≤◌, ◌<◌}
use mathlib.Core.Path.{◌≡◌, refl, ap}
use mathlib.Core.Logic.{◌↔◌, inl, inr}
use mathlib.Core.Bool.{Bool, true, false, ◌&&◌, and-eq-true_iff}
use mathlib.Core.List.{List}
use native.Mathlib.Omega.{arith}
use lib.Dec.{eqb, ltb, leb}
use lib.ListN.{length, get_or, take}
use lib.Seq.{length-take-le, get_or-take}
use borrow.Author.Tests.{eqb-true, eqb-false, ltb-true, lt-ltb, leb-true, le-leb}
use Rattle.synthesis.specs.Monitor.{Answer, dropped, next, cases, ended, meaning, lookup}
use Rattle.synthesis.specs.Table.{InRange, WellFormedTable}
use Rattle.synthesis.proofs.Tables.Rows.{row_at}
use Rattle.synthesis.proofs.Tables.WellFormedTables.{well_formed_room, well_formed_row, well_formed_element, well_formed_by_elements}
use Rattle.synthesis.proofs.Tables.WellFormedTables.{lookup_inside, same_row}
use Rattle.synthesis.proofs.Monitors.Runs.{run_induction}
use Rattle.running.specs.Running.{moved, answer_in, in_range, entries_in_range, is_well_formed, fits}
use Rattle.running.specs.declared.State.{State}
use Rattle.running.proofs.ListTests.{all_each}

-- ---- the test of a table

module _ (mark count : ℕ) where
  pub in_range_lem : (x : ℕ) → (in_range mark count x ≡ true) ↔ InRange mark count x
  in_range_lem x = on (eqb x mark) refl
    where
      on : (b : Bool) → eqb x mark ≡ b → (in_range mark count x ≡ true) ↔ InRange mark count x
      on true q = (λ e. inl (eqb-true x mark q), λ h. rw q)
      on false q = (λ e. inr (ltb-true x count (rw q at e)), λ h. rw q (under h))
        where
          under : InRange mark count x → ltb x count ≡ true
          under (inl z) = absurd (eqb-false x mark q z)
          under (inr h) = lt-ltb x count h

  -- a list is in range where each of its elements is
  all_in_range : (l : List ℕ) → (entries_in_range mark count l ≡ true) ↔ ((i : ℕ) → i < length l → InRange mark count (get_or l i 0))
  all_in_range l = all_each (in_range mark count) (InRange mark count) in_range_lem 0 l

module _ (limit mark : ℕ) (table : List ℕ) (count : ℕ) where
  -- what is left of the test after each of its parts
  abbrev entries_test : Bool
  entries_test = entries_in_range mark count (take (256 * count) table)

  abbrev rows_test : Bool
  rows_test = leb (256 * count) (length table) && entries_test

  test_well_formed : is_well_formed limit mark table count ≡ true → WellFormedTable limit mark count table
  unfolding is_well_formed
  test_well_formed e =
      let one = (and-eq-true_iff (leb 1 count) (leb count limit && rows_test)).0 e in
      let two = (and-eq-true_iff (leb count limit) rows_test).0 one.1 in
      let three = (and-eq-true_iff (leb (256 * count) (length table)) entries_test).0 two.1 in
      let room : 256 * count ≤ length table = leb-true (256 * count) (length table) three.0 in
      let long : length (take (256 * count) table) ≡ 256 * count = length-take-le (256 * count) table room in
      let entries-in-range-at = (all_in_range mark count (take (256 * count) table)).0 three.1 in
      well_formed_by_elements limit mark count table (leb-true 1 count one.0) (leb-true count limit two.0) room
      (λ i h. rw (get_or-take (256 * count) table i 0 h) at (entries-in-range-at i (omega arith)))

  well_formed_test : WellFormedTable limit mark count table → is_well_formed limit mark table count ≡ true
  unfolding is_well_formed
  well_formed_test wf =
      let room = well_formed_room wf in
      let long : length (take (256 * count) table) ≡ 256 * count = length-take-le (256 * count) table room in
      rw (le-leb 1 count wf.some, le-leb count limit wf.few, le-leb (256 * count) (length table) room)
      ((all_in_range mark count (take (256 * count) table)).1
      (λ i h. rw (get_or-take (256 * count) table i 0 (omega arith)) (well_formed_element wf i (omega arith))))

  pub is_well_formed-iff : (is_well_formed limit mark table count ≡ true) ↔ WellFormedTable limit mark count table
  is_well_formed-iff = (test_well_formed, well_formed_test)

  module _ (s : State) where
    pub fits_well_formed : fits limit mark table count s ≡ true → WellFormedTable limit mark count table × (s.equation < count)
    unfolding fits
    fits_well_formed e =
        let both-tests = (and-eq-true_iff (is_well_formed limit mark table count) (ltb s.equation count)).0 e in
        (is_well_formed-iff.0 both-tests.0, ltb-true s.equation count both-tests.1)

    pub well_formed_fits : WellFormedTable limit mark count table → s.equation < count → fits limit mark table count s ≡ true
    unfolding fits
    well_formed_fits wf inside = rw (well_formed_test wf) (lt-ltb s.equation count inside)

-- ---- a run on a well-formed table

module _ (limit mark count : ℕ) (table : List ℕ) (wf : WellFormedTable limit mark count table) where
  pub answer_in-is : (s : State) (c : ℕ) → s.equation < count → c < 256
      → answer_in mark table s c ≡ cases (meaning mark (get_or table (256 * s.equation + c) 0)) dropped (λ e. next (moved s e))
  answer_in-is s c h b = rw (row_at table s.equation c mark (well_formed_row wf s.equation h) b)

  pub next_inside : (s s' : State) (c : ℕ) → s.equation < count → answer_in mark table s c ≡ next s' → s'.equation < count
  next_inside s s' c h e = on (lookup 256 mark table s.equation c) refl e
    where
      on : (a : Answer ℕ) → lookup 256 mark table s.equation c ≡ a → cases a dropped (λ x. next (moved s x)) ≡ next s' → s'.equation < count
      on dropped q e = let z : ◌≡◌ {A = ℕ} 0 1 = cc in absurd (omega arith)
      on (next x) q e = let is : moved s x ≡ s' = cc in omega (arith, lookup_inside wf s.equation c x h q, ap (λ (s : State). s.equation) is)

  pub ends_inside : (s : State) (scans : List ℕ) → s.equation < count → (ended (answer_in mark table) s scans).equation < count
  ends_inside =
      run_induction (answer_in mark table) (λ s w. s.equation < count → (ended (answer_in mark table) s w).equation < count) (λ s h. h)
      (λ s c w q ih h. rw q (ih h)) (λ s s' c w q ih h. rw q (ih (next_inside s s' c h q)))

-- ---- tables with the same rows

pub same_answer-in : {limit mark count : ℕ} {table : List ℕ} → WellFormedTable limit mark count table → (other : List ℕ)
    → take (256 * count) other ≡ take (256 * count) table → (s : State) (c : ℕ) → s.equation < count
    → answer_in mark other s c ≡ answer_in mark table s c
same_answer-in wf other same s c h = rw (same_row wf other same s.equation h)
