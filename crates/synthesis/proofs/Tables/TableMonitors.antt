-- The filled table of a closed list of equations answers as they do: each entry is the index of the equation that its row's equation answers, so the
-- table is their monitor, each equation renamed to its index.
use Prim.Native.Nat.{ℕ, ◌*◌, ◌≤◌, ◌<◌}
use mathlib.Core.Path.{◌≡◌, refl, ◌∙◌, ap}
use mathlib.Core.Logic.{◌⊎◌, inl, inr}
use mathlib.Core.List.{List}
use native.Mathlib.Omega.{arith}
use lib.ListN.{length, get_or}
use borrow.Author.Tests.{eq-eqb, ne_eqb}
use Rattle.synthesis.specs.Monitor.{Answer, dropped, next, cases, row_of, meaning, lookup}
use Rattle.synthesis.proofs.Monitors.Renaming.{Renames}
use Rattle.synthesis.specs.Search.{index_of}
use Rattle.synthesis.specs.Table.{WellFormedTable, entry_of, filled}
use Rattle.synthesis.specs.Promises.{SameAfterRows}
use Rattle.synthesis.proofs.Numberings.Indices.{Member, index_is}
use Rattle.synthesis.proofs.Numberings.Finding.{ClosedUnder}
use Rattle.synthesis.proofs.Tables.FilledTables.{entries_length, filled_length, filled_row, filled_entry, filled_rest}

-- ---- the table renames the equations to their indices

module _ (codes mark : ℕ) (answer : ℕ → ℕ → Answer ℕ) (l : List ℕ) (closed : ClosedUnder codes answer l) (table : List ℕ)
    (room : codes * length l ≤ length table) where
  -- the index of what its row's equation answers
  pub table_numbered : length l ≤ mark → (k c : ℕ) → k < length l → c < codes
      → lookup codes mark (filled mark answer l codes table) k c ≡ cases (answer (get_or l k 0) c) dropped (λ e. next (index_of e l))
  table_numbered few k c h b = rw (filled_entry mark answer l codes table room k c mark h b) (on (answer (get_or l k 0) c) refl)
    where
      on : (a : Answer ℕ) → answer (get_or l k 0) c ≡ a → meaning mark (entry_of mark l a) ≡ cases a dropped (λ e. next (index_of e l))
      on dropped q = rw (eq-eqb mark mark refl)
      on (next e) q = let m = closed k c e h b q in rw (ne_eqb (index_of e l) mark (λ z. omega arith))

  pub table_renames : length l ≤ mark
      → Renames codes (λ e. Member e l) answer (lookup codes mark (filled mark answer l codes table)) (λ e. index_of e l)
  table_renames few = record {
    invariant = λ e e' c m h q. closed (index_of e l) c e' m h (rw (index_is e l m) q);
    drops = λ e c m h q. table_numbered few (index_of e l) c m h ∙ rw (index_is e l m, q);
    follows = λ e e' c m h q. table_numbered few (index_of e l) c m h ∙ rw (index_is e l m, q);
  }

  -- ---- the range of its entries

  -- an entry is the mark, or the index of an equation
  pub table_range : (k c : ℕ) → k < length l → c < codes
      → (get_or (row_of codes (filled mark answer l codes table) k) c 0 ≡ mark)
      ⊎ (get_or (row_of codes (filled mark answer l codes table) k) c 0 < length l)
  table_range k c h b = rw (filled_entry mark answer l codes table room k c 0 h b) (on (answer (get_or l k 0) c) refl)
    where
      on : (a : Answer ℕ) → answer (get_or l k 0) c ≡ a → (entry_of mark l a ≡ mark) ⊎ (entry_of mark l a < length l)
      on dropped q = inl refl
      on (next e) q = inr (closed k c e h b q)

  -- ---- what its entries answer

  -- Each entry, with the equation of its number for the number, is the answer of its row's equation.
  pub table_answers : length l ≤ mark → (k c : ℕ) → k < length l → c < codes
      → (cases (lookup codes mark (filled mark answer l codes table) k c) dropped (λ j. next (get_or l j 0)) ≡ answer (get_or l k 0) c)
      × ((j : ℕ) → lookup codes mark (filled mark answer l codes table) k c ≡ next j → j < length l)
  table_answers few k c h b = rw (table_numbered few k c h b) (on (answer (get_or l k 0) c) refl)
    where
      on : (a : Answer ℕ) → answer (get_or l k 0) c ≡ a
          → (cases (cases a dropped (λ e. next (index_of e l))) dropped (λ j. next (get_or l j 0)) ≡ a)
          × ((j : ℕ) → cases a dropped (λ e. next (index_of e l)) ≡ next j → j < length l)
      on dropped q = (refl, λ j e. let z : ◌≡◌ {A = ℕ} 0 1 = cc in absurd (omega arith))
      on (next e) q =
          let m = closed k c e h b q in
          (ap next (index_is e l m), λ j p. let z : index_of e l ≡ j = cc in omega arith)

-- ---- a table with a row of 256 entries for each equation

module _ (limit mark : ℕ) (answer : ℕ → ℕ → Answer ℕ) (l : List ℕ) (table : List ℕ) (room : 256 * length l ≤ length table) where
  pub filled_well_formed : ClosedUnder 256 answer l → 0 < length l → length l ≤ limit
      → WellFormedTable limit mark (length l) (filled mark answer l 256 table)
  filled_well_formed closed some few = record {
    some = some;
    few = few;
    row = λ k h. record {
      whole = ap length (filled_row mark answer l 256 table room k h) ∙ entries_length mark answer l (get_or l k 0) 256;
      range = λ c b. table_range 256 mark answer l closed table room k c h b;
    };
  }

  pub filled_same_after : SameAfterRows (length l) table (filled mark answer l 256 table)
  filled_same_after = record { long = filled_length mark answer l 256 table room; rest = filled_rest mark answer l 256 table }
