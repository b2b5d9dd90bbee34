-- The bits of a number tell the number; its trailing zeros give the least of those that are set, and its ones how many are. All goes by halving: the
-- lowest bit is the number modulo 2, and the bits above it are the bits of its half.
use mathlib.Core.Path.{◌≡◌, refl, sym, ◌∙◌}
use mathlib.Core.Bool.{Bool, cond}
use Prim.Native.Nat.{ℕ, zero, suc, ◌+◌, ◌*◌, ◌/◌, ◌%◌, ◌^◌, ◌≤◌, ◌<◌}
use native.Mathlib.Nat.{lt_of_lt_of_le, mod-lt, div-one, div-eq_of_lt, div-div-eq-div-mul, div-lt_iff_lt-mul, mul_comm, pow-suc, pow-le-pow_right, zero-lt-suc}
use native.Mathlib.Omega.{arith}
use lib.Bits.{bit_xor, differ, xor_shr, xor_step}
use lib.Dec.{eqb}
use lib.Count.{ones, count_trailing_zeros, under, ones_step}
use Rattle.reading.specs.Pattern.{bit, least, count_below}
use Rattle.reading.specs.Promises.{BinaryDigits}
use Rattle.reading.proofs.Measures.Counting.{count_below-first}

-- ---- the lowest bit, and the bits above it

pub bit_zero : (n : ℕ) → bit 0 n ≡ n % 2
unfolding bit
bit_zero n = rw (div-one n)

pub bit_suc : (i n : ℕ) → bit (suc i) n ≡ bit i (n / 2)
unfolding bit
bit_suc i n = rw (pow-suc 2 i, mul_comm (2 ^ i) 2, ← div-div-eq-div-mul n 2 (2 ^ i))

pub binary_digits : BinaryDigits
binary_digits = record { lowest = bit_zero; above = bit_suc }

pub bit_small : (i n : ℕ) → bit i n < 2
unfolding bit
bit_small i n = mod-lt (n / 2 ^ i) (omega arith)

pub bit_not_set : (i n : ℕ) → (bit i n ≡ 1 → ⊥) → bit i n ≡ 0
bit_not_set i n h = not_one (bit i n) (bit_small i n) h
  where
    not_one : (d : ℕ) → d < 2 → (d ≡ 1 → ⊥) → d ≡ 0
    not_one zero l h = refl
    not_one (suc zero) l h = absurd (h refl)
    not_one (suc (suc d)) l h = absurd (omega arith)

-- a number below 2 ^ k has no bit from k on
pub bit_over : (k i n : ℕ) → n < 2 ^ k → k ≤ i → bit i n ≡ 0
unfolding bit
bit_over k i n h over = let small : n < 2 ^ i = lt_of_lt_of_le h (pow-le-pow_right {n = 2} (zero-lt-suc 1) over) in rw (div-eq_of_lt small)

-- ---- numbers with the same bits

pub bits_same : (a b : ℕ) → ((i : ℕ) → bit i a ≡ bit i b) → a ≡ b
bits_same a b h = below (a + b) a b (omega arith) (omega arith) h
  where
    below : (k a b : ℕ) → a ≤ k → b ≤ k → ((i : ℕ) → bit i a ≡ bit i b) → a ≡ b
    below zero a b p q h = omega arith
    below (suc k) a b p q h =
        let high : a / 2 ≡ b / 2 = below k (a / 2) (b / 2) (omega arith) (omega arith) (λ i. sym (bit_suc i a) ∙ h (suc i) ∙ bit_suc i b) in
        let low : a % 2 ≡ b % 2 = sym (bit_zero a) ∙ h 0 ∙ bit_zero b in
        omega arith

-- a number without bits from k on is below 2 ^ k
pub bits_under : (k n : ℕ) → ((i : ℕ) → k ≤ i → bit i n ≡ 0) → n < 2 ^ k
bits_under zero n h = omega (arith, bits_same n 0 (λ i. h i (omega arith) ∙ sym (bit_over 0 i 0 (omega arith) (omega arith))))
bits_under (suc k) n h =
    let half = bits_under k (n / 2) (λ i o. sym (bit_suc i n) ∙ h (suc i) (omega arith)) in
    let double = pow-suc 2 k in
    omega (arith, half, double)

-- ---- an operation that goes digit by digit

low_digit : (z u v : ℕ) → z ≡ u * 2 + v → v < 2 → z % 2 ≡ v
low_digit z u v e h = omega arith

module _ (op digit : ℕ → ℕ → ℕ) (shift : (a b i : ℕ) → op a b / 2 ^ i ≡ op (a / 2 ^ i) (b / 2 ^ i))
    (step : (a b : ℕ) → op a b ≡ op (a / 2) (b / 2) * 2 + digit (a % 2) (b % 2))
    (small : (x y : ℕ) → x < 2 → y < 2 → digit x y < 2) where
  pub bit_wise : (a b i : ℕ) → bit i (op a b) ≡ digit (bit i a) (bit i b)
  unfolding bit
  bit_wise a b i =
      rw (shift a b i)
      (low_digit _ _ _ (step (a / 2 ^ i) (b / 2 ^ i)) (small _ _ (mod-lt _ (omega arith)) (mod-lt _ (omega arith))))

differ_small : (x y : ℕ) → x < 2 → y < 2 → differ x y < 2
differ_small zero y h k = k
differ_small (suc zero) zero h k = h
differ_small (suc zero) (suc y) h k = omega arith
differ_small (suc (suc x)) y h k = absurd (omega arith)

pub bit-xor : (a b i : ℕ) → bit i (bit_xor a b) ≡ differ (bit i a) (bit i b)
bit-xor = bit_wise bit_xor differ xor_shr xor_step differ_small

-- ---- set bits

-- whether bit i of a number is set
abbrev pub is_set : ℕ → ℕ → Bool
is_set n i = eqb (bit i n) 1

half_lt : (k n : ℕ) → n < 2 ^ suc k → n / 2 < 2 ^ k
half_lt k n h = (div-lt_iff_lt-mul (zero-lt-suc 1)).1 (rw pow-suc at h)

-- ---- trailing zeros

under_digit : (d t : ℕ) → d < 2 → under d t ≡ cond (eqb d 1) zero (suc t)
under_digit zero t h = refl
under_digit (suc zero) t h = refl
under_digit (suc (suc d)) t h = absurd (omega arith)

pub trailing_is_least : (k n : ℕ) → count_trailing_zeros k n ≡ least k (is_set n)
unfolding count_trailing_zeros least
trailing_is_least zero n = refl
trailing_is_least (suc k) n =
    simp (bit_zero, bit_suc, ← trailing_is_least k (n / 2))
    (under_digit (n % 2) (count_trailing_zeros k (n / 2)) (omega arith))

under_lt : (d t k : ℕ) → (d ≡ 0 → t < k) → under d t < suc k
under_lt zero t k h = omega (arith, h refl)
under_lt (suc d) t k h = omega arith

-- a number above 0 has a set bit
pub trailing_lt : (k n : ℕ) → 0 < n → n < 2 ^ k → count_trailing_zeros k n < k
unfolding count_trailing_zeros
trailing_lt zero n p h = omega arith
trailing_lt (suc k) n p h =
    under_lt (n % 2) (count_trailing_zeros k (n / 2)) k (λ e. trailing_lt k (n / 2) (omega arith) (half_lt k n h))

-- ---- ones

digit_count : (d : ℕ) → d < 2 → cond (eqb d 1) 1 0 ≡ d
digit_count zero h = refl
digit_count (suc zero) h = refl
digit_count (suc (suc d)) h = absurd (omega arith)

pub ones_is_count : (k n : ℕ) → n < 2 ^ k → ones n ≡ count_below k (is_set n)
unfolding count_below ones
ones_is_count zero zero h = refl
ones_is_count zero (suc n) h = absurd (omega arith)
ones_is_count (suc k) n h =
    let lowest : cond (is_set n 0) 1 0 ≡ n % 2 = rw bit_zero (digit_count (n % 2) (omega arith)) in
    let rest = ones_is_count k (n / 2) (half_lt k n h) in
    let above : ones (n / 2) ≡ count_below k (λ i. is_set n (suc i)) = simp bit_suc rest in
    ones_step n ∙ omega arith ∙ sym (count_below-first k (is_set n))
