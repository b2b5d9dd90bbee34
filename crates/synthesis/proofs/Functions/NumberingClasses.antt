-- Laws of the arrays that number classes, equation by equation. The first equation of a new class goes last, so the classes before it keep their
-- numbers; any other class has a number already.
use Prim.Native.Nat.{ℕ, suc, ◌+◌, ◌<◌}
use mathlib.Core.Path.{◌≡◌, sym, ◌∙◌, ap}
use mathlib.Core.List.{List, [], ◌∷◌, ◌++◌}
use native.Mathlib.Decide.{dec_lt}
use native.Mathlib.Numerals.{add-one}
use native.Mathlib.Omega.{arith}
use lib.ListN.{length, get_or, take, set, length-append}
use lib.Seq.{get_or-set_same, get_or-set_other, take-suc-set}
use borrow.Author.Tests.{eq-eqb, ne_eqb}
use Rattle.synthesis.specs.Search.{index_of}
use Rattle.synthesis.specs.Merging.{firsts}
use Rattle.synthesis.specs.Arrays.{AreNumbers, ClassesNumbered}
use Rattle.synthesis.proofs.Numberings.Indices.{index_append, index_new}
use Rattle.synthesis.proofs.Quotients.Firsts.{member_first}

-- ---- numbers

module _ (classes : List ℕ) (n : ℕ) (listed numbers : List ℕ) (was : AreNumbers n classes listed numbers) where
  -- the number of one equation more
  numbers_next : (v : ℕ) → n < length numbers → v ≡ index_of (get_or classes n 0) listed → v < length listed
      → AreNumbers (suc n) classes listed (set numbers n v)
  numbers_next v room is below = record { is = λ k h. (on k h (dec_lt k n)).0; below = λ k h. (on k h (dec_lt k n)).1 }
    where
      on : (k : ℕ) → k < suc n → Dec (k < n)
          → (get_or (set numbers n v) k 0 ≡ index_of (get_or classes k 0) listed) × (get_or (set numbers n v) k 0 < length listed)
      on k h (yes less) = rw (get_or-set_other numbers n k v 0 (λ e. omega arith)) (was.is k less, was.below k less)
      on k h (no over) = let z : k ≡ n = omega arith in rw (z, get_or-set_same numbers n v 0 room) (is, below)

  -- a longer list
  numbers_append : (rest : List ℕ) → AreNumbers n classes (listed ++ rest) numbers
  numbers_append rest = record {
    is = λ k h. was.is k h ∙ sym (index_append (get_or classes k 0) listed rest (omega (arith, was.is k h, was.below k h)));
    below = λ k h. omega (arith, was.below k h, length-append listed rest);
  }

-- ---- the first equations

module _ (classes : List ℕ) (n : ℕ) where
  firsts_new : get_or classes n 0 ≡ n → firsts classes (suc n) ≡ firsts classes n ++ (n ∷ [])
  unfolding firsts
  firsts_new e = rw (eq-eqb (get_or classes n 0) n e)

  firsts_old : (get_or classes n 0 ≡ n → ⊥) → firsts classes (suc n) ≡ firsts classes n
  unfolding firsts
  firsts_old e = rw (ne_eqb (get_or classes n 0) n e)

module _ (classes : List ℕ) (n m : ℕ) (array numbers : List ℕ) (was : ClassesNumbered n classes m array numbers) where
  pub numbered_front : AreNumbers n classes (take m array) numbers
  numbered_front = rw was.firsts_are was.numbers_are

  -- ---- one equation more

  module _ (room : n < length numbers) where
    pub numbered_new : get_or classes n 0 ≡ n → m < length array → ClassesNumbered (n + 1) classes (m + 1) (set array m n) (set numbers n m)
    numbered_new first space =
        let more-listed = numbers_append classes n (firsts classes n) numbers was.numbers_are (n ∷ []) in
        let absent = index_new n (firsts classes n) (λ h. omega (arith, (member_first classes n n h).below)) in
        let more = length-append (firsts classes n) (n ∷ []) in
        rw (add-one n, add-one m) (record {
          firsts_are = take-suc-set array m n space ∙ rw (was.firsts_are, firsts_new classes n first);
          count_is = rw (firsts_new classes n first) (omega (arith, was.count_is, more));
          numbers_are = rw (firsts_new classes n first)
              (numbers_next classes n (firsts classes n ++ (n ∷ [])) numbers more-listed m room
              (rw (first, absent) was.count_is) (omega (arith, was.count_is, more)));
        })

    pub numbered_old : (class : ℕ) → get_or classes n 0 ≡ class → get_or classes class 0 ≡ class → class < n
        → ClassesNumbered (n + 1) classes m array (set numbers n (get_or numbers class 0))
    numbered_old class of-class first less =
        let same = firsts_old classes n (λ e. omega arith) in
        rw (add-one n) (record {
          firsts_are = was.firsts_are ∙ sym same;
          count_is = was.count_is ∙ ap length (sym same);
          numbers_are = rw same
              (numbers_next classes n (firsts classes n) numbers was.numbers_are (get_or numbers class 0) room
              (was.numbers_are.is class less ∙ rw (first, of-class)) (was.numbers_are.below class less));
        })
