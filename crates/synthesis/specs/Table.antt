-- Tables: which are well formed, and the rows that are filled in. The mark is the entry that stands for dropped, which
-- should be no equation's number; the paper's is `mark` of Monitor.antt. Rows are filled for any number of codes; the paper's is 256.
use Rattle.std.specs.Prelude.{ℕ, zero, suc, ◌*◌, ◌≤◌, ◌<◌, ◌≡◌, ◌⊎◌, List, [], ◌∷◌, ◌++◌, length, get_or, drop}
use Rattle.synthesis.specs.Monitor.{Answer, cases, row_of}
use Rattle.synthesis.specs.Search.{index_of}

-- ---- well-formed tables

-- an entry is the mark, or the number of an equation
abbrev pub InRange : (mark count : ℕ) → ℕ → Type 0
InRange mark count x = (x ≡ mark) ⊎ (x < count)

-- a whole row, each entry in range
pub record RowInRange (mark count : ℕ) (row : List ℕ) : Type 0 where
  pub whole : length row ≡ 256
  pub range : (c : ℕ) → c < 256 → InRange mark count (get_or row c 0)

-- A table is well formed for a count of equations: there are from 1 to `limit` of them, and each has its row.
pub record WellFormedTable (limit mark count : ℕ) (table : List ℕ) : Type 0 where
  pub some : 1 ≤ count
  pub few : count ≤ limit
  pub row : (k : ℕ) → k < count → RowInRange mark count (row_of 256 table k)

-- ---- the rows of equations

-- the entry for an answer: where its equation stands among those found
abbrev pub entry_of : (mark : ℕ) → (found : List ℕ) → Answer ℕ → ℕ
entry_of mark found a = cases a mark (λ e. index_of e found)

module _ (mark : ℕ) (answer : ℕ → ℕ → Answer ℕ) (found : List ℕ) where
  -- the entries of the equation e for the first c codes
  unfoldable pub entries_of : ℕ → (c : ℕ) → List ℕ
  entries_of e zero = []
  entries_of e (suc c) = entries_of e c ++ (entry_of mark found (answer e c) ∷ [])

  -- the rows of the first k equations
  unfoldable pub rows : (codes k : ℕ) → List ℕ
  rows codes zero = []
  rows codes (suc k) = rows codes k ++ entries_of (get_or found k 0) codes

  -- a table with a row for each equation; the entries after the last row are as they were
  unfoldable pub filled : (codes : ℕ) → List ℕ → List ℕ
  filled codes table = rows codes (length found) ++ drop (codes * length found) table
