-- The rows of any table: row k is the 256 elements from 256 × k on where the table has them all, and else it has no entry.
use Prim.Native.Nat.{ℕ, zero, suc, ◌+◌, ◌*◌, ◌/◌, ◌≤◌, ◌<◌}
use mathlib.Core.Path.{◌≡◌, refl, sym, ap, ◌∙◌}
use mathlib.Core.Logic.{◌⊎◌, inl, inr, ⊎_elim}
use mathlib.Core.Bool.{Bool, true, false}
use mathlib.Core.List.{List, []}
use native.Mathlib.Nat.{add_comm, mul-zero, mul-suc, mul-le-mul_left}
use native.Mathlib.Omega.{arith}
use lib.Dec.{leb}
use lib.ListN.{length, get_or, take, drop, length-take, length-drop}
use lib.Seq.{get_or-take, get_or-drop, drop-drop}
use borrow.Author.Tests.{leb-true, leb-false, le-leb, lt-leb}
use Rattle.std.specs.Simd.{first_chunks}
use Rattle.reading.proofs.Basics.ListLaws.{get_or-inside}
use Rattle.synthesis.specs.Monitor.{row_of}
use Rattle.synthesis.specs.Promises.{HandsBackRows}

-- ---- where a row stands

-- row k of n rows ends before they do
pub row_before_end : (codes k n : ℕ) → k < n → codes * k + codes ≤ codes * n
row_before_end codes k n h = omega (arith, mul-le-mul_left {m = suc k} {n = n} codes h)

module _ (codes : ℕ) (table : List ℕ) (k : ℕ) where
  pub row_is : codes * k + codes ≤ length table → row_of codes table k ≡ take codes (drop (codes * k) table)
  unfolding row_of
  row_is h = rw (le-leb (codes * k + codes) (length table) h)

  pub row_length : codes * k + codes ≤ length table → length (row_of codes table k) ≡ codes
  row_length h = rw (row_is h) (length-take codes (drop (codes * k) table) ∙ omega (arith, length-drop (codes * k) table))

  pub row_none : length table < codes * k + codes → row_of codes table k ≡ []
  unfolding row_of
  row_none h = rw (lt-leb (codes * k + codes) (length table) h)

  row_whole_or_none : (codes * k + codes ≤ length table) ⊎ (length table < codes * k + codes)
  row_whole_or_none = on (leb (codes * k + codes) (length table)) refl
    where
      on : (b : Bool) → leb (codes * k + codes) (length table) ≡ b → (codes * k + codes ≤ length table) ⊎ (length table < codes * k + codes)
      on true e = inl (leb-true (codes * k + codes) (length table) e)
      on false e = inr (leb-false (codes * k + codes) (length table) e)

  -- a row with an entry is whole
  pub row_inside : (c : ℕ) → c < length (row_of codes table k) → (codes * k + codes ≤ length table) × (length (row_of codes table k) ≡ codes)
  row_inside c h = ⊎_elim (λ inside. (inside, row_length inside)) (λ outside. absurd (omega (arith, ap length (row_none outside)))) row_whole_or_none

  -- one that has fewer entries isn't there
  pub row_short : length (row_of codes table k) < codes → length table < codes * k + codes
  row_short h = ⊎_elim (λ inside. absurd (omega (arith, row_length inside))) (λ outside. outside) row_whole_or_none

-- ---- a row as one of the chunks into which the table is cut

-- chunk k of the first m
chunk_at : (codes m : ℕ) (table : List ℕ) (k : ℕ) (d : List ℕ) → k < m → get_or (first_chunks codes m table) k d ≡ take codes (drop (codes * k) table)
chunk_at codes zero table k d h = absurd (omega arith)
chunk_at codes (suc m) table zero d h = rw mul-zero
chunk_at codes (suc m) table (suc k) d h =
    chunk_at codes m (drop codes table) k d (omega arith) ∙ rw (drop-drop (codes * k) codes table, add_comm codes (codes * k), mul-suc codes k)

module _ (table : List ℕ) (k : ℕ) where
  pub row_is_chunk : k < length table / 256 → (d : List ℕ) → get_or (first_chunks 256 (length table / 256) table) k d ≡ row_of 256 table k
  row_is_chunk h d = chunk_at 256 (length table / 256) table k d h ∙ sym (row_is 256 table k (omega arith))

  pub row_is_none : length table / 256 ≤ k → row_of 256 table k ≡ []
  row_is_none h = row_none 256 table k (omega arith)

-- ---- its entries

-- an entry by its place in the table, whatever stands for a missing one
pub row_at : (table : List ℕ) (k c d : ℕ) → 256 * k + 256 ≤ length table → c < 256 → get_or (row_of 256 table k) c d ≡ get_or table (256 * k + c) 0
row_at table k c d room b =
    ap (λ (l : List ℕ). get_or l c d) (row_is 256 table k room)
    ∙ (get_or-take 256 (drop (256 * k) table) c d b
    ∙ (get_or-drop (256 * k) table c d
    ∙ get_or-inside table (256 * k + c) d 0 (omega arith)))

pub hands_back_rows : HandsBackRows
hands_back_rows table k = record { whole = row_length 256 table k; entries = λ room c b. row_at table k c 0 room b; none = row_none 256 table k }
