-- Words as sets of slots. A word has no bit but those of the 32 slots, so its members tell it; its trailing zeros and its ones measure the bits that are
-- set, and these are its members. The exclusive or of two words has the members of one of them that aren't members of the other.
use mathlib.Core.Path.{◌≡◌, refl, sym, ◌∙◌}
use mathlib.Core.Logic.{◌↔◌}
use mathlib.Core.Bool.{Bool, true, false, cond, ◌&&◌, xor, true≢false, and-eq-true_iff}
use Prim.Native.Nat.{ℕ, ◌^◌, ◌≤◌, ◌<◌}
use native.Mathlib.Nat.{lt_of_not-le}
use native.Mathlib.Decide.{dec_le}
use native.Mathlib.Omega.{arith}
use lib.Bits.{bit_xor, differ, xor_lt}
use lib.Dec.{eqb, ltb}
use borrow.Author.Tests.{eqb-true, eq-eqb, ltb-true}
use Rattle.reading.specs.Pattern.{bit, IsSlotSet, every}
use Rattle.reading.specs.Promises.{HasExactly, MeasuresSlots}
use Rattle.reading.proofs.Measures.Bits.{bit_not_set, bit_over, bits_under, bits_same, bit-xor, is_set, trailing_is_least, ones_is_count}
use Rattle.reading.proofs.Measures.BoundedTests.{every_is}
use Rattle.reading.proofs.Measures.Counting.{least_same, count_below-same}

-- ---- found by computing

abbrev member_test : (holds : ℕ → Bool) (word slot : ℕ) → Bool
member_test holds word slot = eqb (bit slot word) (cond (holds slot) 1 0)

-- whether a word is the set of the slots that a test holds of
abbrev pub is_slot_set : (holds : ℕ → Bool) (word : ℕ) → Bool
is_slot_set holds word = every 32 (member_test holds word) && ltb word (2 ^ 32)

pub slot_set_is : (holds : ℕ → Bool) (word : ℕ) → is_slot_set holds word ≡ true → IsSlotSet holds word
slot_set_is holds word h =
    let (members, small) = (and-eq-true_iff (every 32 (member_test holds word)) (ltb word (2 ^ 32))).0 h in
    record {
      has = λ slot l. eqb-true _ _ ((every_is 32 (member_test holds word)).0 members slot l);
      few = ltb-true word (2 ^ 32) small;
    }

-- ---- tests that agree on the slots

pub same_slots : (one other : ℕ → Bool) (word : ℕ) → ((slot : ℕ) → slot < 32 → one slot ≡ other slot) → IsSlotSet one word → IsSlotSet other word
same_slots one other word same set = record {
  has = λ slot l. rw (← same slot l) (set.has slot l);
  few = set.few;
}

-- ---- the word of a set

module _ (holds : ℕ → Bool) (word : ℕ) (set : IsSlotSet holds word) where
  pub member : (slot : ℕ) → slot < 32 → is_set word slot ≡ holds slot
  member slot l = rw (set.has slot l) (on (holds slot))
    where
      on : (b : Bool) → eqb (cond b 1 0) 1 ≡ b
      on true = refl
      on false = refl

  -- the bits of another word with these members are the same, below 32 and from there on
  only : (other : ℕ) → IsSlotSet holds other → other ≡ word
  only other also = bits_same other word (λ slot. by slot (dec_le 32 slot))
    where
      by : (slot : ℕ) → Dec (32 ≤ slot) → bit slot other ≡ bit slot word
      by slot (yes o) = bit_over 32 slot other also.few o ∙ sym (bit_over 32 slot word set.few o)
      by slot (no l) = also.has slot (lt_of_not-le l) ∙ sym (set.has slot (lt_of_not-le l))

  pub measures_slots : MeasuresSlots holds word
  measures_slots = record {
    only = only;
    by_zeros = trailing_is_least 32 word ∙ least_same 32 (is_set word) holds member;
    by_ones = ones_is_count 32 word set.few ∙ count_below-same 32 (is_set word) holds member;
  }

-- ---- members in words

module _ (holds : ℕ → Bool) (Member : ℕ → Type 0) (means : (slot : ℕ) → (holds slot ≡ true) ↔ Member slot) (word : ℕ) where
  has_exactly : IsSlotSet holds word → HasExactly word Member
  has_exactly set slot =
      (λ h. forth h (dec_le slot 31), λ (l, m). eqb-true (bit slot word) 1 (member holds word set slot (omega arith) ∙ (means slot).1 m))
    where
      forth : bit slot word ≡ 1 → Dec (slot ≤ 31) → (slot ≤ 31) × Member slot
      forth h (yes l) = (l, (means slot).0 (sym (member holds word set slot (omega arith)) ∙ eq-eqb (bit slot word) 1 h))
      forth h (no o) = absurd (omega (arith, bit_over 32 slot word set.few (lt_of_not-le o)))

  exactly_has : HasExactly word Member → IsSlotSet holds word
  exactly_has exactly = record {
    has = λ slot l. on slot l (holds slot) refl;
    few = bits_under 32 word (λ slot o. bit_not_set slot word (λ h. omega (arith, ((exactly slot).0 h).0)));
  }
    where
      on : (slot : ℕ) → slot < 32 → (b : Bool) → holds slot ≡ b → bit slot word ≡ cond b 1 0
      on slot l true e = (exactly slot).1 (omega arith, (means slot).0 e)
      on slot l false e = bit_not_set slot word (λ h. true≢false (sym ((means slot).1 ((exactly slot).0 h).1) ∙ e))

  pub in_words : IsSlotSet holds word ↔ HasExactly word Member
  in_words = (has_exactly, exactly_has)

-- ---- the exclusive or of two sets

differ_digits : (a b : Bool) → differ (cond a 1 0) (cond b 1 0) ≡ cond (xor a b) 1 0
unfolding xor
differ_digits true true = refl
differ_digits true false = refl
differ_digits false true = refl
differ_digits false false = refl

pub of_one_alone :
    (one other : ℕ → Bool) (word word' : ℕ) → IsSlotSet one word → IsSlotSet other word'
    → IsSlotSet (λ slot. xor (one slot) (other slot)) (bit_xor word word')
of_one_alone one other word word' set set' = record {
  has = λ slot l. bit-xor word word' slot ∙ rw (set.has slot l, set'.has slot l) (differ_digits (one slot) (other slot));
  few = xor_lt 32 word word' set.few set'.few;
}
