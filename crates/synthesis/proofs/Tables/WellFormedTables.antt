-- Well-formed tables by their elements: entry c of row k is element 256 × k + c, and every element before the end of the rows is such an entry.
use Prim.Native.Nat.{ℕ, ◌+◌, ◌*◌, ◌/◌, ◌%◌, ◌-◌, ◌≤◌, ◌<◌}
use mathlib.Core.Path.{◌≡◌, refl, sym, ◌∙◌, ap, subst}
use mathlib.Core.Logic.{inl, inr}
use mathlib.Core.Bool.{Bool, true, false, cond}
use mathlib.Core.List.{List}
use native.Mathlib.Decide.{dec_lt}
use native.Mathlib.Nat.{div-add-mod, mod-lt}
use native.Mathlib.Omega.{arith}
use lib.Dec.{eqb}
use lib.ListN.{length, get_or, take, length-take, get_or-eq_default}
use lib.Seq.{length-take-le, get_or-take, ext_get_or}
use borrow.Author.Tests.{eqb-false}
use Rattle.synthesis.specs.Monitor.{dropped, next, row_of, lookup}
use Rattle.synthesis.specs.Table.{InRange, RowInRange, WellFormedTable}
use Rattle.synthesis.proofs.Tables.Rows.{row_length, row_inside, row_at}

-- an entry in range that isn't the mark
pub not_mark : {mark count x : ℕ} → InRange mark count x → (x ≡ mark → ⊥) → x < count
not_mark (inl e) other = absurd (other e)
not_mark (inr h) other = h

-- a row in range for a count is so for any greater one
pub row_in_range_weaken : (mark count most : ℕ) → count ≤ most → (row : List ℕ) → RowInRange mark count row → RowInRange mark most row
row_in_range_weaken mark count most h row fits = record { whole = fits.whole; range = λ c b. wider (get_or row c 0) (fits.range c b) }
  where
    wider : (x : ℕ) → InRange mark count x → InRange mark most x
    wider x (inl e) = inl e
    wider x (inr less) = inr (omega arith)

-- a table that is well formed within a limit is so within any greater one
pub well_formed_weaken : {limit mark count : ℕ} {table : List ℕ} (limit' : ℕ) → limit ≤ limit' → WellFormedTable limit mark count table
    → WellFormedTable limit' mark count table
well_formed_weaken limit' h wf = record { some = wf.some; few = omega (arith, wf.few); row = wf.row }

-- ---- the entries of a well-formed table

module _ {limit mark count : ℕ} {table : List ℕ} (wf : WellFormedTable limit mark count table) where
  -- it has room for its rows
  pub well_formed_room : 256 * count ≤ length table
  well_formed_room =
      let last = count - 1 in
      let inside = (row_inside 256 table last 0 (omega (arith, wf.some, (wf.row last (omega (arith, wf.some))).whole))).0 in
      omega (arith, wf.some)

  pub well_formed_row : (k : ℕ) → k < count → 256 * k + 256 ≤ length table
  well_formed_row k h = omega (arith, well_formed_room)

  pub well_formed_entry : (k c : ℕ) → k < count → c < 256 → InRange mark count (get_or table (256 * k + c) 0)
  well_formed_entry k c h b = rw (row_at table k c 0 (well_formed_row k h) b) at ((wf.row k h).range c b)

  pub well_formed_element : (i : ℕ) → i < 256 * count → InRange mark count (get_or table i 0)
  well_formed_element i h =
      let is : 256 * (i / 256) + i % 256 ≡ i = div-add-mod i 256 in
      let code : i % 256 < 256 = mod-lt i (omega arith) in
      rw is at (well_formed_entry (i / 256) (i % 256) (omega arith) code)

  -- every number has an entry in range, also one that isn't a code
  pub row_entry_in_range : (k c : ℕ) → k < count → InRange mark count (get_or (row_of 256 table k) c mark)
  row_entry_in_range k c h = on (dec_lt c 256)
    where
      on : Dec (c < 256) → InRange mark count (get_or (row_of 256 table k) c mark)
      on (yes b) = rw (row_at table k c mark (well_formed_row k h) b) (well_formed_entry k c h b)
      on (no b) = inl (get_or-eq_default (row_of 256 table k) mark (omega (arith, (wf.row k h).whole)))

  -- what is kept leads to a row
  pub lookup_inside : (k c j : ℕ) → k < count → lookup 256 mark table k c ≡ next j → j < count
  lookup_inside k c j h e = on (eqb x mark) refl (row_entry_in_range k c h) e
    where
      x : ℕ
      x = get_or (row_of 256 table k) c mark

      on : (b : Bool) → eqb x mark ≡ b → InRange mark count x → cond b dropped (next x) ≡ next j → j < count
      on true q r e = let z : ◌≡◌ {A = ℕ} 0 1 = cc in absurd (omega arith)
      on false q r e = let same : x ≡ j = cc in omega (arith, not_mark r (eqb-false x mark q))

pub well_formed_by_elements : (limit mark count : ℕ) (table : List ℕ) → 1 ≤ count → count ≤ limit → 256 * count ≤ length table
    → ((i : ℕ) → i < 256 * count → InRange mark count (get_or table i 0)) → WellFormedTable limit mark count table
well_formed_by_elements limit mark count table some few room range = record {
  some = some;
  few = few;
  row = λ k h. record {
    whole = row_length 256 table k (omega arith);
    range = λ c b. rw (row_at table k c 0 (omega arith) b) (range (256 * k + c) (omega arith));
  };
}

-- ---- tables with the same rows

module _ {limit mark count : ℕ} {table : List ℕ} (wf : WellFormedTable limit mark count table) (other : List ℕ)
    (same : take (256 * count) other ≡ take (256 * count) table) where
  other_room : 256 * count ≤ length other
  other_room =
      let long = length-take-le (256 * count) table (well_formed_room wf) in
      omega (arith, length-take (256 * count) other, ap length same)

  same_element : (i : ℕ) → i < 256 * count → get_or other i 0 ≡ get_or table i 0
  same_element i h = rw (← get_or-take (256 * count) other i 0 h, ← get_or-take (256 * count) table i 0 h, same)

  pub same_row : (k : ℕ) → k < count → row_of 256 other k ≡ row_of 256 table k
  same_row k h =
      let inside : 256 * k + 256 ≤ length other = omega (arith, other_room) in
      let long = row_length 256 other k inside in
      ext_get_or 0 (row_of 256 other k) (row_of 256 table k) (long ∙ sym (wf.row k h).whole)
      (λ c b.
      let code : c < 256 = omega arith in
      row_at other k c 0 inside code ∙ (same_element (256 * k + c) (omega arith) ∙ sym (row_at table k c 0 (well_formed_row wf k h) code)))

  pub same_rows_well_formed : WellFormedTable limit mark count other
  same_rows_well_formed = record {
    some = wf.some;
    few = wf.few;
    row = λ k h. subst (RowInRange mark count) (sym (same_row k h)) (wf.row k h);
  }
