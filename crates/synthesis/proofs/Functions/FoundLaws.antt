-- Laws of an array that holds the found equations in front: a new one is put behind them, unless they are as many as the limit. What is over the limit
-- at some step of the search is so at its end.
use Prim.Native.Nat.{ℕ, zero, suc, ◌+◌, ◌≤◌, ◌<◌}
use mathlib.Core.Path.{◌≡◌, refl, sym, ◌∙◌}
use mathlib.Core.List.{List, [], ◌∷◌, ◌++◌}
use native.Mathlib.Decide.{dec_lt}
use native.Mathlib.Numerals.{add-one}
use native.Mathlib.Omega.{arith}
use lib.ListN.{length, take, set, length-append}
use lib.Seq.{take-suc-set, length-take-le}
use Rattle.std.specs.Prelude.{◌==◌, false, Option, Some, None}
use Rattle.std.specs.List.{position}
use Rattle.std.specs.Option.{is_some}
use Rattle.synthesis.specs.Monitor.{Answer, dropped, next, cases, most}
use Rattle.synthesis.specs.Search.{insert, explored, expanded, found}
use Rattle.synthesis.specs.Arrays.{Found, FoundWithin}
use Rattle.synthesis.proofs.Numberings.Indices.{Member, position_none, insert_new, distinct_last}
use Rattle.synthesis.proofs.Numberings.Finding.{grows_length, insert_grows, expanded_grows}

-- what was looked for in equations and isn't there is none of them
pub not_found : (e : ℕ) {f g : Found} {o : Option ℕ} → f ≡ g → o ≡ position (λ x. x == e) g.equations → is_some o ≡ false → Member e f.equations → ⊥
not_found e {g = g} same looked none = rw same (position_none e g.equations (rw looked at none))

module _ {limit count : ℕ} {array : List ℕ} (w : FoundWithin limit count array) (long : length array ≡ most) (e : ℕ)
    (absent : Member e (take count array) → ⊥) where
  length_is : length (take count array) ≡ count
  length_is = length-take-le count array (omega (arith, w.few, w.small, long))

  pub over_limit : count ≡ limit → limit < length (insert (take count array) e)
  over_limit h = rw (insert_new (take count array) e absent) (omega (arith, length_is, length-append (take count array) (e ∷ [])))

  module _ (room : count ≡ limit → ⊥) where
    put_last : take (count + 1) (set array count e) ≡ take count array ++ (e ∷ [])
    put_last = rw (add-one count) (take-suc-set array count e (omega (arith, w.few, w.small, long, room)))

    pub inserted : take (count + 1) (set array count e) ≡ insert (take count array) e
    inserted = put_last ∙ sym (insert_new (take count array) e absent)

    pub inserted_within : FoundWithin limit (count + 1) (set array count e)
    inserted_within = record {
      few = omega (arith, w.few, room);
      small = w.small;
      distinct = rw put_last (distinct_last (take count array) e absent w.distinct);
    }

-- ---- an answer as an option

pub answered_next : {a : Answer ℕ} {e : ℕ} → Some e ≡ cases a None Some → a ≡ next e
answered_next {a = dropped} q = cc
answered_next {a = next x} q = cc

pub answered_dropped : {a : Answer ℕ} → None ≡ cases {A = Option ℕ} a None Some → a ≡ dropped
answered_dropped {a = dropped} q = refl
answered_dropped {a = next x} q = cc

-- ---- the steps of the search

module _ (codes : ℕ) (answer : ℕ → ℕ → Answer ℕ) where
  module _ (e c : ℕ) (l : List ℕ) where
    pub explored_some : {e' : ℕ} → Some e' ≡ cases (answer e c) None Some → explored codes answer e (c + 1) l ≡ insert (explored codes answer e c l) e'
    unfolding explored
    explored_some is = rw (add-one c, answered_next is) refl

    pub explored_none : None ≡ cases {A = Option ℕ} (answer e c) None Some → explored codes answer e (c + 1) l ≡ explored codes answer e c l
    unfolding explored
    explored_none is = rw (add-one c, answered_dropped is) refl

  pub found_next : (k first : ℕ) → found codes answer (suc k) first ≡ expanded codes answer k (found codes answer k first)
  unfolding found
  found_next k first = refl

  -- ---- what is longer than the limit stays so

  answered_longer : (a : Answer ℕ) (l : List ℕ) → length l ≤ length (cases a l (insert l))
  answered_longer dropped l = omega arith
  answered_longer (next e') l = grows_length l (insert l e') (insert_grows l e')

  pub explored_longer : (e c n : ℕ) (l : List ℕ) → c ≤ n → length (explored codes answer e c l) ≤ length (explored codes answer e n l)
  unfolding explored
  explored_longer e c zero l h = let z : c ≡ 0 = omega arith in rw z (omega arith)
  explored_longer e c (suc n) l h = on (dec_lt n c) (explored_longer e c n l)
    where
      m : List ℕ
      m = explored codes answer e n l

      on : Dec (n < c) → (c ≤ n → length (explored codes answer e c l) ≤ length m) → length (explored codes answer e c l) ≤ length (cases (answer e n) m (insert m))
      on (yes a) ih = let z : c ≡ suc n = omega arith in rw z (omega arith)
      on (no a) ih = omega (arith, ih (omega arith), answered_longer (answer e n) m)

  pub found_longer : (k n first : ℕ) → k ≤ n → length (found codes answer k first) ≤ length (found codes answer n first)
  unfolding found
  found_longer k zero first h = let z : k ≡ 0 = omega arith in rw z (omega arith)
  found_longer k (suc n) first h = on (dec_lt n k) (found_longer k n first)
    where
      m : List ℕ
      m = found codes answer n first

      on : Dec (n < k) → (k ≤ n → length (found codes answer k first) ≤ length m) → length (found codes answer k first) ≤ length (expanded codes answer n m)
      on (yes a) ih = let z : k ≡ suc n = omega arith in rw z (omega arith)
      on (no a) ih = omega (arith, ih (omega arith), grows_length m (expanded codes answer n m) (expanded_grows codes answer n m))
