-- The table of words, as src/slots.rt has it: word w has the slots under w. One test is computed over the whole table, for all 33 words and their 32 bits,
-- and a law turns it into the rule at each width.
use mathlib.Core.Path.{◌≡◌, refl}
use mathlib.Core.Bool.{Bool, true, ◌&&◌, and-eq-true_iff}
use mathlib.Core.List.{List, [], ◌∷◌}
use Prim.Native.Nat.{ℕ, ◌-◌, ◌^◌, ◌≤◌, ◌<◌, min}
use native.Mathlib.Nat.{lt_of_not-le}
use native.Mathlib.Decide.{dec_le}
use native.Mathlib.Omega.{arith}
use lib.Dec.{eqb, ltb}
use lib.ListN.{get_or}
use borrow.Author.Tests.{eqb-true, ltb-true, lt-ltb}
use Rattle.reading.specs.Pattern.{bit, IsSlotSet, least, every}
use Rattle.reading.specs.Promises.{WordsOfSlots}
use Rattle.reading.proofs.Measures.BoundedTests.{every_is}
use Rattle.reading.proofs.Measures.SlotSets.{is_slot_set, slot_set_is, same_slots, measures_slots, in_words}

unfoldable pub table : List ℕ
table =
    0 ∷ 1 ∷ 3 ∷ 7 ∷ 15 ∷ 31 ∷ 63 ∷ 127 ∷ 255 ∷ 511 ∷ 1023 ∷ 2047 ∷ 4095 ∷ 8191 ∷ 16383 ∷ 32767 ∷ 65535 ∷ 131071 ∷ 262143 ∷ 524287 ∷ 1048575 ∷ 2097151
    ∷ 4194303 ∷ 8388607 ∷ 16777215 ∷ 33554431 ∷ 67108863 ∷ 134217727 ∷ 268435455 ∷ 536870911 ∷ 1073741823 ∷ 2147483647 ∷ 4294967295 ∷ []

abbrev pub is_under : (width slot : ℕ) → Bool
is_under width slot = ltb slot width

-- ---- the test

right : (width : ℕ) → Bool
right width = is_slot_set (is_under width) (get_or table width 0) && eqb (get_or table width 0) (2 ^ width - 1)

all_right : every 33 right ≡ true
unfolding right table bit least
all_right = refl

-- ---- the rule at each width

right_at : (width : ℕ) → width < 33 → IsSlotSet (is_under width) (get_or table width 0) × (get_or table width 0 ≡ 2 ^ width - 1)
unfolding right
right_at width h =
    let (set, power) = (and-eq-true_iff (is_slot_set (is_under width) (get_or table width 0)) (eqb (get_or table width 0) (2 ^ width - 1))).0
    ((every_is 33 right).0 all_right width h) in
    (slot_set_is (is_under width) (get_or table width 0) set, eqb-true _ _ power)

-- over 32 there are no more slots
pub word_slots : (width : ℕ) → IsSlotSet (is_under width) (get_or table (min width 32) 0)
word_slots width = by (dec_le width 32)
  where
    by : Dec (width ≤ 32) → IsSlotSet (is_under width) (get_or table (min width 32) 0)
    by (yes h) = let e : min width 32 ≡ width = omega arith in rw e ((right_at width (omega arith)).0)
    by (no h) =
        let over = lt_of_not-le h in
        let e : min width 32 ≡ 32 = omega arith in
        rw e (same_slots (is_under 32) (is_under width) _ (λ slot l. rw (lt-ltb slot 32 l, lt-ltb slot width (omega arith))) (right_at 32 (omega arith)).0)

-- ---- the words

pub power : (width : ℕ) → IsSlotSet (is_under width) (2 ^ min width 32 - 1)
power width = rw (right_at (min width 32) (omega arith)).1 at (word_slots width)

pub words_of_slots : WordsOfSlots
words_of_slots = record {
  members = λ width. in_words (is_under width) (λ slot. slot < width) (λ slot. (ltb-true slot width, lt-ltb slot width));
  power = λ width word. (λ set. (measures_slots (is_under width) (2 ^ min width 32 - 1) (power width)).only word set, λ e. rw e (power width));
}
