-- The filled table: its entries, its rows and what stands behind them. A list of rows grows at its end, so each row is found by induction on
-- the number of rows.
use Prim.Native.Nat.{ℕ, zero, suc, ◌*◌, ◌≤◌, ◌<◌}
use mathlib.Core.Path.{◌≡◌, refl, ◌∙◌}
use mathlib.Core.List.{List, [], ◌∷◌, ◌++◌, append_assoc}
use native.Mathlib.Decide.{dec_lt}
use native.Mathlib.Omega.{arith}
use lib.ListN.{length, get_or, take, drop, length-append, length-drop, get_or-append}
use lib.Seq.{take_at, drop_at, get_or_at}
use Rattle.synthesis.specs.Monitor.{Answer, row_of}
use Rattle.synthesis.specs.Table.{entry_of, entries_of, rows, filled}
use Rattle.synthesis.proofs.Tables.Rows.{row_before_end, row_is}

module _ (mark : ℕ) (answer : ℕ → ℕ → Answer ℕ) (l : List ℕ) where
  -- ---- entries

  pub entries_length : (e n : ℕ) → length (entries_of mark answer l e n) ≡ n
  unfolding entries_of
  entries_length e zero = refl
  entries_length e (suc n) =
      length-append (entries_of mark answer l e n) (entry_of mark l (answer e n) ∷ []) ∙ omega (arith, entries_length e n)

  pub entries_at : (e n c d : ℕ) → c < n → get_or (entries_of mark answer l e n) c d ≡ entry_of mark l (answer e c)
  unfolding entries_of
  entries_at e zero c d h = absurd (omega arith)
  entries_at e (suc n) c d h = on (dec_lt c n) (entries_at e n c d)
    where
      last : List ℕ
      last = entry_of mark l (answer e n) ∷ []

      on : Dec (c < n) → (c < n → get_or (entries_of mark answer l e n) c d ≡ entry_of mark l (answer e c))
          → get_or (entries_of mark answer l e n ++ last) c d ≡ entry_of mark l (answer e c)
      on (yes k) ih = get_or-append (entries_of mark answer l e n) last d c (rw (entries_length e n) k) ∙ ih k
      on (no k) ih =
          let z : c ≡ n = omega arith in
          rw z (get_or_at (entries_of mark answer l e n) (entry_of mark l (answer e n)) [] d n (entries_length e n))

  -- ---- rows

  module _ (codes : ℕ) where
    pub rows_length : (n : ℕ) → length (rows mark answer l codes n) ≡ codes * n
    unfolding rows
    rows_length zero = omega arith
    rows_length (suc n) =
        length-append (rows mark answer l codes n) (entries_of mark answer l (get_or l n 0) codes)
        ∙ omega (arith, rows_length n, entries_length (get_or l n 0) codes)

    -- row k of a table is that of equation k
    abbrev HasRow : ℕ → List ℕ → Type 0
    HasRow k table = take codes (drop (codes * k) table) ≡ entries_of mark answer l (get_or l k 0) codes

    rows_row : (n k : ℕ) (rest : List ℕ) → k < n → HasRow k (rows mark answer l codes n ++ rest)
    unfolding rows
    rows_row zero k rest h = absurd (omega arith)
    rows_row (suc n) k rest h = rw append_assoc (on (dec_lt k n) (rows_row n k (entries_of mark answer l (get_or l n 0) codes ++ rest)))
      where
        before : List ℕ
        before = rows mark answer l codes n

        last : List ℕ
        last = entries_of mark answer l (get_or l n 0) codes

        on : Dec (k < n) → (k < n → HasRow k (before ++ (last ++ rest))) → HasRow k (before ++ (last ++ rest))
        on (yes a) ih = ih a
        on (no a) ih =
            let z : k ≡ n = omega arith in
            rw (z, drop_at before (last ++ rest) (codes * n) (rows_length n)) (take_at last rest codes (entries_length (get_or l n 0) codes))

    -- ---- the filled table

    module _ (table : List ℕ) (room : codes * length l ≤ length table) where
      pub filled_length : length (filled mark answer l codes table) ≡ length table
      unfolding filled
      filled_length =
          length-append (rows mark answer l codes (length l)) (drop (codes * length l) table)
          ∙ omega (arith, rows_length (length l), length-drop (codes * length l) table)

      pub filled_row : (k : ℕ) → k < length l
          → row_of codes (filled mark answer l codes table) k ≡ entries_of mark answer l (get_or l k 0) codes
      unfolding filled
      filled_row k h =
          row_is codes (filled mark answer l codes table) k (omega (arith, row_before_end codes k (length l) h, filled_length))
          ∙ rows_row (length l) k (drop (codes * length l) table) h

      -- an entry of a row, whatever stands for a missing one
      pub filled_entry : (k c d : ℕ) → k < length l → c < codes
          → get_or (row_of codes (filled mark answer l codes table) k) c d ≡ entry_of mark l (answer (get_or l k 0) c)
      filled_entry k c d h b = rw (filled_row k h) (entries_at (get_or l k 0) codes c d b)

    -- what stands after the last row stays
    pub filled_rest : (table : List ℕ) → drop (codes * length l) (filled mark answer l codes table) ≡ drop (codes * length l) table
    unfolding filled
    filled_rest table =
        let n = length l in
        drop_at (rows mark answer l codes n) (drop (codes * n) table) (codes * n) (rows_length n)

-- ---- answers that agree on the listed equations and the codes fill alike

module _ (mark codes : ℕ) (answer answer' : ℕ → ℕ → Answer ℕ) (l : List ℕ) where
  entries_cong : (e : ℕ) → ((c : ℕ) → c < codes → answer e c ≡ answer' e c) → (n : ℕ) → n ≤ codes
      → entries_of mark answer l e n ≡ entries_of mark answer' l e n
  unfolding entries_of
  entries_cong e agree zero h = refl
  entries_cong e agree (suc n) h = rw (agree n h, entries_cong e agree n (omega arith))

  module _ (agree : (i c : ℕ) → i < length l → c < codes → answer (get_or l i 0) c ≡ answer' (get_or l i 0) c) where
    rows_cong : (n : ℕ) → n ≤ length l → rows mark answer l codes n ≡ rows mark answer' l codes n
    unfolding rows
    rows_cong zero h = refl
    rows_cong (suc n) h = rw (rows_cong n (omega arith), entries_cong (get_or l n 0) (λ c b. agree n c h b) codes (omega arith))

    pub filled_cong : (table : List ℕ) → filled mark answer l codes table ≡ filled mark answer' l codes table
    unfolding filled
    filled_cong table = rw (rows_cong (length l) (omega arith))
