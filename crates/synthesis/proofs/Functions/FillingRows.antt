-- A table that is filled from its front: what is written next goes behind the front, and all after it is as it was.
use Prim.Native.Nat.{ℕ, suc, ◌+◌, ◌-◌, ◌*◌, ◌≤◌, ◌<◌}
use mathlib.Core.Path.{◌≡◌, sym, ap, ◌∙◌}
use mathlib.Core.List.{List, [], ◌∷◌, ◌++◌, append_assoc, append-nil}
use native.Mathlib.Nat.{mul-suc, add-sub_cancel_left}
use native.Mathlib.Numerals.{add-one}
use lib.ListN.{length, get_or, drop, set, drop_of_length-le}
use lib.Seq.{length_front, length-take-le, drop-cons, drop-drop, set_at, take_at, drop_at}
use borrow.Rule.Slice.PartMut.{put_mid}
use Rattle.synthesis.specs.Monitor.{Answer}
use Rattle.synthesis.specs.Table.{entry_of, entries_of, rows, filled}
use Rattle.synthesis.proofs.Tables.FilledTables.{entries_length, rows_length}

-- ---- a list d whose first n elements are overwritten by p

module _ (p d : List ℕ) (n : ℕ) (length_is : length p ≡ n) where
  front_length : n ≤ length d → length (p ++ drop n d) ≡ length d
  front_length h = length_front d p n (length_is ∙ sym (length-take-le n d h))

  -- by one element more
  front_set : (v : ℕ) → n < length d → set (p ++ drop n d) n v ≡ (p ++ (v ∷ [])) ++ drop (suc n) d
  front_set v h =
      rw (drop-cons d n 0 h)
      (set_at p (get_or d n 0) (drop (suc n) d) v n length_is ∙ sym (append_assoc p (v ∷ []) (drop (suc n) d)))

  -- by a part of m elements more, which was lent and came back as q
  front_put : (m : ℕ) (q : List ℕ) → put_mid n m (p ++ drop n d) q ≡ (p ++ q) ++ drop (n + m) d
  front_put m q =
      rw (take_at p (drop n d) n length_is, drop_at p (drop n d) n length_is, drop-drop m n d) (sym (append_assoc p q (drop (n + m) d)))

module _ (mark : ℕ) (answer : ℕ → ℕ → Answer ℕ) (found : List ℕ) where
  -- ---- a row with the entries of the equation e for the first c codes

  module _ (e : ℕ) (row₀ row : List ℕ) (c : ℕ) (begun : row ≡ entries_of mark answer found e c ++ drop c row₀) where
    pub entries_next : (v : ℕ) → c < length row₀ → v ≡ entry_of mark found (answer e c)
        → set row c v ≡ entries_of mark answer found e (c + 1) ++ drop (c + 1) row₀
    unfolding entries_of
    entries_next v h is =
        rw (begun, is, add-one c)
        (front_set (entries_of mark answer found e c) row₀ c (entries_length mark answer found e c) (entry_of mark found (answer e c)) h)

    pub entries_all : length row₀ ≤ c → row ≡ entries_of mark answer found e c
    entries_all h = begun ∙ rw (drop_of_length-le row₀ {i = c} h, append-nil)

  -- ---- a table with the rows of the first k equations

  module _ (codes : ℕ) (table₀ table : List ℕ) (k : ℕ) (begun : table ≡ rows mark answer found codes k ++ drop (codes * k) table₀) where
    length_is : length (rows mark answer found codes k) ≡ codes * k
    length_is = rows_length mark answer found codes k

    pub rows_keep_length : codes * k ≤ length table₀ → length table ≡ length table₀
    rows_keep_length h = ap length begun ∙ front_length (rows mark answer found codes k) table₀ (codes * k) length_is h

    -- the next row is lent, and comes back filled
    pub rows_next : (e : ℕ) (q : List ℕ) → get_or found k 0 ≡ e → q ≡ entries_of mark answer found e codes
        → put_mid (codes * k) (codes * k + codes - codes * k) table q ≡ rows mark answer found codes (k + 1) ++ drop (codes * (k + 1)) table₀
    unfolding rows
    rows_next e q at is =
        rw (begun, is, add-one k, at, mul-suc codes k, add-sub_cancel_left (codes * k) codes)
        (front_put (rows mark answer found codes k) table₀ (codes * k) length_is codes (entries_of mark answer found e codes))

    pub rows_all : length found ≡ k → table ≡ filled mark answer found codes table₀
    unfolding filled
    rows_all h = rw h begun
