-- Laws of sets of nodes, from laws of the bits of numbers. Nothing but these looks at the bits.
use Prim.Native.Nat.{ℕ, zero, suc, ◌+◌, ◌-◌, ◌*◌, ◌/◌, ◌%◌, ◌^◌, ◌≤◌, ◌<◌, min, max}
use mathlib.Core.Path.{◌≡◌, refl, sym, ◌∙◌, ap}
use mathlib.Core.Logic.{◌↔◌, ◌⊎◌, inl, inr}
use mathlib.Core.Bool.{true}
use native.Mathlib.Nat.{mod-eq_of_lt, one-mul, mul-div-mul_right, pow-suc, one-le-pow, zero-lt-suc}
use native.Mathlib.Nat.{div-one, div-eq_of_lt, div-lt_iff_lt-mul, div_self, zero-div}
use native.Mathlib.Omega.{arith}
use lib.Bits.{bit_and, bit_or, bit_xor, differ, or_shr, or_step, and_self, and_shr, and_step, xor_step, xor_zero_r, xor_add_and}
use lib.Count.{count_trailing_zeros, under}
use lib.Pow.{pow-lt}
use borrow.Author.Tests.{eq-eqb, eqb-true}
use Rattle.reading.specs.Pattern.{bit}
use Rattle.reading.proofs.Measures.Bits.{bit_zero, bit_suc, bit_small, bits_same, bit_wise, bit-xor}
use Rattle.synthesis.specs.NodeSet.{Has, has, empty_set, singleton, union, intersection}
use Rattle.synthesis.specs.Promises.{SameMembersSameSet}

-- ---- bits

no_bit : (x : ℕ) → x ≡ 0 → x % 2 ≡ 1 → ⊥
no_bit x e h = omega arith

bit_union : (a b i : ℕ) → bit i (union a b) ≡ max (bit i a) (bit i b)
bit_union = bit_wise bit_or max or_shr or_step (λ x y h k. omega arith)

bit_common : (a b i : ℕ) → bit i (intersection a b) ≡ min (bit i a) (bit i b)
bit_common = bit_wise bit_and min and_shr and_step (λ x y h k. omega arith)

-- ---- members

pub has_none : (n : ℕ) → Has empty_set n → ⊥
unfolding bit
has_none n h = no_bit (0 / 2 ^ n) (zero-div (2 ^ n)) h

pub has_union : (a b n : ℕ) → Has (union a b) n ↔ (Has a n ⊎ Has b n)
has_union a b n = (λ h. max_one_either _ _ (sym (bit_union a b n) ∙ h) (bit_small n a) (bit_small n b), either_has_union)
  where
    max_one_either : (x y : ℕ) → max x y ≡ 1 → x < 2 → y < 2 → (x ≡ 1) ⊎ (y ≡ 1)
    max_one_either zero y e h k = inr (omega arith)
    max_one_either (suc x) y e h k = inl (omega arith)

    either_max_one : (x y : ℕ) → (x ≡ 1) ⊎ (y ≡ 1) → x < 2 → y < 2 → max x y ≡ 1
    either_max_one x y (inl e) h k = omega arith
    either_max_one x y (inr e) h k = omega arith

    either_has_union : Has a n ⊎ Has b n → Has (union a b) n
    either_has_union h = bit_union a b n ∙ either_max_one _ _ h (bit_small n a) (bit_small n b)

pub has_common : (a b n : ℕ) → Has (intersection a b) n ↔ (Has a n × Has b n)
has_common a b n =
    (λ h. min_one_both _ _ (sym (bit_common a b n) ∙ h) (bit_small n a) (bit_small n b), λ h. bit_common a b n ∙ rw (h.0, h.1))
  where
    min_one_both : (x y : ℕ) → min x y ≡ 1 → x < 2 → y < 2 → (x ≡ 1) × (y ≡ 1)
    min_one_both x y e h k = (omega arith, omega arith)

pub has_singleton : (k : ℕ) → Has (singleton k) k
unfolding bit
has_singleton k = rw (div_self {n = 2 ^ k} (one-le-pow k 2 (omega arith)))

pub singleton_has : (k n : ℕ) → Has (singleton k) n → k ≡ n
unfolding bit
singleton_has zero zero h = refl
singleton_has zero (suc n) h = absurd (no_bit (1 / 2 ^ suc n) (div-eq_of_lt (pow-lt {i = 0} {j = suc n} (omega arith))) h)
singleton_has (suc k) zero h = absurd (even (2 ^ k) (rw (pow-suc 2 k, div-one (2 ^ k * 2)) at h))
  where
    even : (x : ℕ) → x * 2 % 2 ≡ 1 → ⊥
    even x h = omega arith
singleton_has (suc k) (suc n) h =
    ap suc (singleton_has k n (rw (pow-suc 2 k, pow-suc 2 n, mul-div-mul_right {m = 2} (2 ^ k) (2 ^ n) (omega arith)) at h))

-- the lowest node taken out, and every other moved down by one
pub half_has : (e n : ℕ) → Has (e / 2) n ↔ Has e (suc n)
half_has e n = (λ h. bit_suc n e ∙ h, λ h. sym (bit_suc n e) ∙ h)

-- a one shifted by k in 64 bits, as the code has it
abbrev pub shifted_one : ℕ → ℕ
shifted_one k = 1 * 2 ^ k % 18446744073709551616

pub shl_one : (k : ℕ) → k < 64 → shifted_one k ≡ singleton k
shl_one k h = rw (one-mul (2 ^ k), mod-eq_of_lt (pow-lt {j = 64} h))

-- ---- the test for a member

pub has_true : (e n : ℕ) → has e n ≡ true → Has e n
has_true e n h = eqb-true (bit n e) 1 h

pub true_has : (e n : ℕ) → Has e n → has e n ≡ true
true_has e n h = eq-eqb (bit n e) 1 h

-- ---- two sets with the same members are one

digits_same : (x y : ℕ) → x < 2 → y < 2 → (x ≡ 1) ↔ (y ≡ 1) → x ≡ y
digits_same zero zero p q h = refl
digits_same zero (suc y) p q h = omega (arith, h.1 (omega arith))
digits_same (suc x) y p q h = omega (arith, h.0 (omega arith))

pub same_members_same_set : SameMembersSameSet
same_members_same_set a b h = bits_same a b (λ n. digits_same (bit n a) (bit n b) (bit_small n a) (bit_small n b) (h n))

-- a set without members is none
pub no_member_empty : (e : ℕ) → ((n : ℕ) → Has e n → ⊥) → e ≡ empty_set
no_member_empty e h = same_members_same_set e empty_set (λ n. (λ x. absurd (h n x), λ x. absurd (has_none n x)))

-- a set that isn't none has a member
pub nonempty_member : (e : ℕ) → 0 < e → (n : ℕ) × Has e n
nonempty_member e h = nonempty_member_below e e (omega arith) h
  where
    nonempty_member_below : (k e : ℕ) → e ≤ k → 0 < e → (n : ℕ) × Has e n
    nonempty_member_below zero e p h = absurd (omega arith)
    nonempty_member_below (suc k) e p h = on (e % 2) refl (nonempty_member_below k (e / 2))
      where
        on : (d : ℕ) → e % 2 ≡ d → (e / 2 ≤ k → 0 < e / 2 → (n : ℕ) × Has (e / 2) n) → (n : ℕ) × Has e n
        on zero q ih = let r = ih (omega arith) (omega arith) in (suc r.0, (half_has e r.0).0 r.1)
        on (suc d) q ih = (0, bit_zero e ∙ omega arith)

-- ---- a set without one of its members

-- the set with a node put in, or taken out where it was in
abbrev pub toggled : ℕ → ℕ → ℕ
toggled e k = bit_xor e (singleton k)

differ_none : (x y : ℕ) → y < 2 → (y ≡ 1 → ⊥) → differ x y ≡ x
differ_none zero zero h n = refl
differ_none (suc x) zero h n = refl
differ_none x (suc zero) h n = absurd (n refl)
differ_none x (suc (suc y)) h n = absurd (omega arith)

-- the other members stay
pub toggled_other : (e k n : ℕ) → (k ≡ n → ⊥) → Has (toggled e k) n ↔ Has e n
toggled_other e k n d = (λ h. sym bit_same ∙ h, λ h. bit_same ∙ h)
  where
    bit_same : bit n (toggled e k) ≡ bit n e
    bit_same = bit-xor e (singleton k) n ∙ differ_none (bit n e) (bit n (singleton k)) (bit_small n (singleton k)) (λ h. d (singleton_has k n h))

pub toggled_lt : (e k : ℕ) → Has e k → toggled e k < e
toggled_lt e k h =
    less_by_common (toggled e k) (intersection e (singleton k)) e (singleton k) singleton_inside (xor_add_and e (singleton k)) (one-le-pow k 2 (omega arith))
  where
    same_node_member : (n : ℕ) → k ≡ n → Has e n
    same_node_member n q = rw (← q) h

    singleton_inside : intersection e (singleton k) ≡ singleton k
    singleton_inside = same_members_same_set (intersection e (singleton k)) (singleton k) (λ n.
        (λ x. ((has_common e (singleton k) n).0 x).1, λ x. (has_common e (singleton k) n).1 (same_node_member n (singleton_has k n x), x)))

    less_by_common : (x c e s : ℕ) → c ≡ s → x + c * 2 ≡ e + s → 0 < s → x < e
    less_by_common x c e s p q r = omega arith

-- ---- a set without its lowest member

-- an operation that goes digit by digit, from the halves and the lowest digits of two numbers
digit_wise : (op digit : ℕ → ℕ → ℕ) → ((a b : ℕ) → op a b ≡ op (a / 2) (b / 2) * 2 + digit (a % 2) (b % 2))
    → (a b x y u v : ℕ) → a / 2 ≡ x → b / 2 ≡ y → a % 2 ≡ u → b % 2 ≡ v → op a b ≡ op x y * 2 + digit u v
digit_wise op digit step a b x y u v p q r s = step a b ∙ rw (p, q, r, s) refl

doubles_same : (z w x y : ℕ) → z ≡ x * 2 + 0 → w ≡ y * 2 + 0 → x ≡ y → z ≡ w
doubles_same z w x y p q e = omega arith

half_double : (x y : ℕ) → y ≡ x * 2 → y / 2 ≡ x
half_double x y h = omega arith

even_double : (x y : ℕ) → y ≡ x * 2 → y % 2 ≡ 0
even_double x y h = omega arith

-- the intersection of a number with the one before it has all its members but the lowest
pub without_lowest : (k e : ℕ) → 0 < e → e < 2 ^ k → intersection e (e - 1) ≡ toggled e (count_trailing_zeros k e)
unfolding count_trailing_zeros
without_lowest zero e p h = absurd (omega arith)
without_lowest (suc k) e p h = on (e % 2) refl (without_lowest k (e / 2))
  where
    half : e / 2 < 2 ^ k
    half = (div-lt_iff_lt-mul (zero-lt-suc 1)).1 (rw pow-suc at h)

    on : (d : ℕ) → e % 2 ≡ d → (0 < e / 2 → e / 2 < 2 ^ k → intersection (e / 2) (e / 2 - 1) ≡ toggled (e / 2) (count_trailing_zeros k (e / 2)))
        → intersection e (e - 1) ≡ toggled e (under d (count_trailing_zeros k (e / 2)))
    on zero q ih =
        let t = count_trailing_zeros k (e / 2) in
        let double = pow-suc 2 t in
        doubles_same _ _ _ _ (digit_wise bit_and min and_step e (e - 1) (e / 2) (e / 2 - 1) 0 1 refl (omega arith) q (omega arith))
        (digit_wise bit_xor differ xor_step e (2 ^ suc t) (e / 2) (2 ^ t) 0 0 refl (half_double _ _ double) q (even_double _ _ double))
        (ih (omega arith) half)
    on (suc d) q ih =
        doubles_same _ _ _ _ (digit_wise bit_and min and_step e (e - 1) (e / 2) (e / 2) 1 0 refl (omega arith) (omega arith) (omega arith))
        (digit_wise bit_xor differ xor_step e 1 (e / 2) 0 1 1 refl refl (omega arith) refl) (and_self (e / 2) ∙ sym (xor_zero_r (e / 2)))
