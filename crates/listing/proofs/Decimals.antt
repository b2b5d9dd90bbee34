-- Decimal numbers: the definition's two cases, by which more digits than enough change nothing; how many digits there are; the text of an entry; and
-- the line of a pattern.
use mathlib.Core.Path.{◌≡◌, refl, ap, ◌∙◌}
use mathlib.Core.Bool.{Bool, true, false}
use mathlib.Core.List.{[], ◌∷◌, ◌++◌}
use Prim.Native.Nat.{ℕ, zero, suc, ◌+◌, ◌/◌, ◌%◌, ◌^◌, ◌≤◌, ◌<◌}
use native.Mathlib.Nat.{pow-suc, div-lt_iff_lt-mul}
use native.Mathlib.Omega.{arith}
use lib.ListN.{length, length-append}
use lib.Dec.{ltb, eqb}
use borrow.Author.Tests.{lt-ltb, le-ltb, eq-eqb, ne_eqb, ltb-true, ltb-false, eqb-true, eqb-false}
use Rattle.reading.specs.declared.Pattern.{Pattern}
use Rattle.reading.proofs.Measures.Extents.{no_extent_lem}
use Rattle.synthesis.specs.Monitor.{mark, meaning}
use Rattle.listing.specs.Text.{text, digit, decimal_in, decimal}
use Rattle.listing.specs.Lines.{pattern_line, answer_text}
use Rattle.listing.specs.Promises.{SpellsDecimal, PatternListed}

-- ---- the two cases of the definition

-- more digits than enough change nothing
decimal_in-enough : (most more n : ℕ) → n < most → n < more → decimal_in most n ≡ decimal_in more n
unfolding decimal_in
decimal_in-enough zero more n h k = absurd (omega arith)
decimal_in-enough (suc most) zero n h k = absurd (omega arith)
decimal_in-enough (suc most) (suc more) n h k = on (ltb n 10) refl (λ e. decimal_in-enough most more (n / 10) (omega arith) (omega arith))
  where
    on : (b : Bool) → ltb n 10 ≡ b → (10 ≤ n → decimal_in most (n / 10) ≡ decimal_in more (n / 10))
        → decimal_in (suc most) n ≡ decimal_in (suc more) n
    on true e less = rw e
    on false e less = rw (e, less (ltb-false n 10 e))

pub decimal_one : (n : ℕ) → n < 10 → decimal n ≡ digit n ∷ []
unfolding decimal decimal_in
decimal_one n h = rw (lt-ltb n 10 h)

pub decimal_more : (n : ℕ) → 10 ≤ n → decimal n ≡ decimal (n / 10) ++ (digit (n % 10) ∷ [])
unfolding decimal decimal_in
decimal_more n h = rw (le-ltb n 10 h, decimal_in-enough n (suc (n / 10)) (n / 10) (omega arith) (omega arith))

pub spells_decimal : (n : ℕ) → SpellsDecimal n
spells_decimal n = record { one = decimal_one n; more = decimal_more n }

-- ---- how many digits there are

pub decimal_length : (n : ℕ) → 10 ≤ n → length (decimal n) ≡ length (decimal (n / 10)) + 1
decimal_length n h = rw (decimal_more n h) (length-append (decimal (n / 10)) (digit (n % 10) ∷ []))

-- a number below 10 ^ (k + 1) has at most k + 1 digits
pub decimal_digits : (k n : ℕ) → n < 10 ^ suc k → length (decimal n) ≤ suc k
decimal_digits zero n h = rw (decimal_one n h) (omega arith)
decimal_digits (suc k) n h = on (ltb n 10) refl (decimal_digits k (n / 10) fewer)
  where
    fewer : n / 10 < 10 ^ suc k
    fewer = (div-lt_iff_lt-mul {k = 10} {y = 10 ^ suc k} (omega arith)).1 (rw (pow-suc 10 (suc k)) at h)

    on : (b : Bool) → ltb n 10 ≡ b → length (decimal (n / 10)) ≤ suc k → length (decimal n) ≤ suc (suc k)
    on true e rest = rw (decimal_one n (ltb-true n 10 e)) (omega arith)
    on false e rest = omega (arith, decimal_length n (ltb-false n 10 e))

-- so of a number of 8, 16 and 64 bits
pub digits_byte : (n : ℕ) → n < 2 ^ 8 → length (decimal n) ≤ 3
digits_byte n h = decimal_digits 2 n (omega arith)

pub digits_short : (n : ℕ) → n < 2 ^ 16 → length (decimal n) ≤ 5
digits_short n h = decimal_digits 4 n (omega arith)

pub digits_word : (n : ℕ) → n < 2 ^ 64 → length (decimal n) ≤ 20
digits_word n h = decimal_digits 19 n (omega arith)

-- ---- the text of an entry

module _ (x : ℕ) where
  pub drop_text : x ≡ mark → answer_text (meaning mark x) ≡ text "drop"
  drop_text e = rw (eq-eqb x mark e)

  pub next_text : (x ≡ mark → ⊥) → answer_text (meaning mark x) ≡ decimal x
  next_text e = rw (ne_eqb x mark e)

  pub answer_digits : x < 65536 → length (answer_text (meaning mark x)) ≤ 5
  answer_digits h = on (eqb x mark) refl
    where
      on : (b : Bool) → eqb x mark ≡ b → length (answer_text (meaning mark x)) ≤ 5
      on true e = rw (drop_text (eqb-true x mark e)) (omega arith)
      on false e = rw (next_text (eqb-false x mark e)) (omega (arith, decimal_digits 4 x (omega arith)))

-- how long the fields of a line are
pub ruleset field_lengths = (length-append, digits_byte, digits_short, digits_word, answer_digits)

-- ---- the line of a pattern

decimal_zero : decimal 0 ≡ text "0"
unfolding decimal decimal_in
decimal_zero = refl

pub pattern_listed : (i : ℕ) (p : Pattern) → PatternListed i p
pattern_listed i p = record {
  code = λ low e. rw e;
  none = λ e. ap (pattern_line i) (no_extent_lem p e) ∙ rw decimal_zero;
}
