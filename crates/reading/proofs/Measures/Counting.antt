-- Laws of the least number that a test holds of, and of how many numbers it holds of, for any test, each by recursion over the bound.
use mathlib.Core.Path.{◌≡◌, refl, sym, ◌∙◌, ap}
use mathlib.Core.Bool.{Bool, true, false, cond, ◌&&◌, true≢false}
use Prim.Native.Nat.{ℕ, zero, suc, ◌+◌, ◌*◌, ◌≤◌, ◌<◌}
use native.Mathlib.Decide.{dec_lt}
use native.Mathlib.Nat.{add-zero, add-suc}
use native.Mathlib.Omega.{arith}
use Rattle.reading.specs.Pattern.{least, count_below}

-- ---- the least

-- what holds of a number and of none below it
pub least_is :
    (n low : ℕ) (holds : ℕ → Bool) → low < n → holds low ≡ true → ((i : ℕ) → i < low → holds i ≡ false)
    → least n holds ≡ low
unfolding least
least_is zero low holds h t f = absurd (omega arith)
least_is (suc n) zero holds h t f = rw t
least_is (suc n) (suc low) holds h t f =
    rw (f zero (omega arith))
    (ap suc (least_is n low (λ i. holds (suc i)) (omega arith) t (λ i l. f (suc i) (omega arith))))

pub least_holds : (n : ℕ) (holds : ℕ → Bool) → least n holds < n → holds (least n holds) ≡ true
unfolding least
least_holds zero holds h = absurd (omega arith)
least_holds (suc n) holds h = on (holds zero) refl h (least_holds n (λ i. holds (suc i)))
  where
    on : (b : Bool) → holds zero ≡ b → {m : ℕ} → cond b zero (suc m) < suc n → (m < n → holds (suc m) ≡ true)
        → holds (cond b zero (suc m)) ≡ true
    on true e h rest = e
    on false e h rest = rest (omega arith)

pub least_below : (n : ℕ) (holds : ℕ → Bool) (i : ℕ) → i < least n holds → holds i ≡ false
unfolding least
least_below zero holds i h = absurd (omega arith)
least_below (suc n) holds i h = on (holds zero) refl i h (least_below n (λ j. holds (suc j)))
  where
    on : (b : Bool) → holds zero ≡ b → (i : ℕ) {m : ℕ} → i < cond b zero (suc m)
        → ((j : ℕ) → j < m → holds (suc j) ≡ false) → holds i ≡ false
    on true e i h rest = absurd (omega arith)
    on false e zero h rest = e
    on false e (suc i) h rest = rest i (omega arith)

pub least_le : (n : ℕ) (holds : ℕ → Bool) → least n holds ≤ n
unfolding least
least_le zero holds = omega arith
least_le (suc n) holds = on (holds zero) (least_le n (λ i. holds (suc i)))
  where
    on : (b : Bool) {m : ℕ} → m ≤ n → cond b zero (suc m) ≤ suc n
    on true h = omega arith
    on false h = omega arith

-- it is over no number that the test holds of
pub least_min : (n : ℕ) (holds : ℕ → Bool) (i : ℕ) → holds i ≡ true → least n holds ≤ i
least_min n holds i t = on (dec_lt i (least n holds))
  where
    on : Dec (i < least n holds) → least n holds ≤ i
    on (yes h) = absurd (true≢false (sym t ∙ least_below n holds i h))
    on (no h) = omega arith

-- where the test holds of none, the bound itself
pub least_none : (n : ℕ) (holds : ℕ → Bool) → ((i : ℕ) → i < n → holds i ≡ false) → least n holds ≡ n
unfolding least
least_none zero holds h = refl
least_none (suc n) holds h = rw (h zero (omega arith), least_none n (λ i. holds (suc i)) (λ i l. h (suc i) (omega arith)))

-- tests that agree have the same least
pub least_same : (n : ℕ) (one other : ℕ → Bool) → ((i : ℕ) → i < n → one i ≡ other i) → least n one ≡ least n other
unfolding least
least_same zero one other h = refl
least_same (suc n) one other h =
    rw (h zero (omega arith), least_same n (λ i. one (suc i)) (λ i. other (suc i)) (λ i l. h (suc i) (omega arith)))

-- ---- how many

-- the two equations of the definition, where it doesn't unfold
pub count_below-zero : (holds : ℕ → Bool) → count_below 0 holds ≡ 0
unfolding count_below
count_below-zero holds = refl

pub count_below-last : (n : ℕ) (holds : ℕ → Bool) → count_below (suc n) holds ≡ count_below n holds + cond (holds n) 1 0
unfolding count_below
count_below-last n holds = refl

-- 0, and the n from 1
pub count_below-first :
    (n : ℕ) (holds : ℕ → Bool)
    → count_below (suc n) holds ≡ cond (holds zero) 1 0 + count_below n (λ i. holds (suc i))
unfolding count_below
count_below-first zero holds = omega arith
count_below-first (suc n) holds = omega (arith, count_below-first n holds)

pub count_below-le : (n : ℕ) (holds : ℕ → Bool) → count_below n holds ≤ n
unfolding count_below
count_below-le zero holds = omega arith
count_below-le (suc n) holds = on (holds n) (count_below-le n holds)
  where
    on : (b : Bool) {m : ℕ} → m ≤ n → m + cond b 1 0 ≤ suc n
    on true h = omega arith
    on false h = omega arith

-- the numbers below a, and the m from there
pub count_below-split :
    (a m : ℕ) (holds : ℕ → Bool) → count_below (a + m) holds ≡ count_below a holds + count_below m (λ i. holds (a + i))
unfolding count_below
count_below-split a zero holds = rw (add-zero a) (omega arith)
count_below-split a (suc m) holds = rw (add-suc a m) (omega (arith, count_below-split a m holds))

-- three parts, one after the other
pub count_below-parts :
    (a b c : ℕ) (holds : ℕ → Bool)
    → count_below (a + b + c) holds ≡ count_below a holds + count_below b (λ i. holds (a + i)) + count_below c (λ i. holds (a + b + i))
count_below-parts a b c holds = omega (arith, count_below-split (a + b) c holds, count_below-split a b holds)

-- tests that agree count the same
pub count_below-same :
    (n : ℕ) (one other : ℕ → Bool) → ((i : ℕ) → i < n → one i ≡ other i) → count_below n one ≡ count_below n other
unfolding count_below
count_below-same zero one other h = refl
count_below-same (suc n) one other h =
    rw (h n (omega arith), count_below-same n one other (λ i l. h i (omega arith)))

pub count_below-none : (n : ℕ) (holds : ℕ → Bool) → ((i : ℕ) → i < n → holds i ≡ false) → count_below n holds ≡ 0
unfolding count_below
count_below-none zero holds h = refl
count_below-none (suc n) holds h =
    rw (h n (omega arith)) (omega (arith, count_below-none n holds (λ i l. h i (omega arith))))

pub count_below-all : (n : ℕ) (holds : ℕ → Bool) → ((i : ℕ) → i < n → holds i ≡ true) → count_below n holds ≡ n
unfolding count_below
count_below-all zero holds h = refl
count_below-all (suc n) holds h =
    rw (h n (omega arith)) (omega (arith, count_below-all n holds (λ i l. h i (omega arith))))

-- A wider test counts no less. Where it counts no more, it is no wider.
module _ (narrow wide : ℕ → Bool) where
  abbrev Wider : ℕ → Type 0
  Wider n = (i : ℕ) → i < n → narrow i ≡ true → wide i ≡ true

  one_wider : (i : ℕ) → Wider (suc i) → cond {A = ℕ} (narrow i) 1 0 ≤ cond (wide i) 1 0
  one_wider i wider = on (narrow i) (wider i (omega arith))
    where
      on : (b : Bool) → (b ≡ true → wide i ≡ true) → cond {A = ℕ} b 1 0 ≤ cond (wide i) 1 0
      on true t = rw (t refl) (omega arith)
      on false t = omega arith

  pub count_below-wider : (n : ℕ) → Wider n → count_below n narrow ≤ count_below n wide
  unfolding count_below
  count_below-wider zero wider = omega arith
  count_below-wider (suc n) wider = omega (arith, count_below-wider n (λ i h. wider i (omega arith)), one_wider n wider)

  pub count_below-no_wider :
      (n : ℕ) → Wider n → count_below n wide ≤ count_below n narrow → (i : ℕ) → i < n → wide i ≡ true → narrow i ≡ true
  unfolding count_below
  count_below-no_wider zero wider few i h t = absurd (omega arith)
  count_below-no_wider (suc n) wider few i h t = on (dec_lt i n) (λ few l. count_below-no_wider n below few i l t)
    where
      below : Wider n
      below i h = wider i (omega arith)

      last : (b : Bool) → narrow n ≡ b → wide n ≡ true → narrow n ≡ true
      last true e t = e
      last false e t = absurd (omega (arith, rw (e, t) at few, count_below-wider n below))

      on : Dec (i < n) → (count_below n wide ≤ count_below n narrow → i < n → narrow i ≡ true) → narrow i ≡ true
      on (yes l) ih = ih (omega (arith, one_wider n wider)) l
      on (no l) ih = let z : i ≡ n = omega arith in rw z (last (narrow n) refl (rw z at t))

-- a condition beside the test
pub count_below-and :
    (n : ℕ) (b : Bool) (holds : ℕ → Bool) → count_below n (λ i. b && holds i) ≡ cond b 1 0 * count_below n holds
count_below-and n true holds = omega arith
count_below-and n false holds = omega (arith, count_below-none n (λ i. false) (λ i l. refl))
