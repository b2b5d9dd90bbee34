-- The set of two ends. Of the slots under last + 1 and those under first, the exclusive or has those that lie between the ends, and these are named where
-- first isn't over last. Where it is, they are the ones that aren't named, and the exclusive or with all slots has the rest.
use mathlib.Core.Path.{◌≡◌}
use mathlib.Core.Bool.{xor}
use Prim.Native.Nat.{ℕ, ◌+◌, ◌≤◌, ◌<◌}
use native.Mathlib.Nat.{lt_of_not-le}
use native.Mathlib.Decide.{dec_le}
use native.Mathlib.Omega.{arith}
use lib.Bits.{bit_xor}
use borrow.Author.Tests.{le-leb, lt-leb, le-ltb, lt-ltb}
use Rattle.reading.specs.Pattern.{named, IsSlotSet}
use Rattle.reading.specs.Promises.{Names, SetsOfSlots}
use Rattle.reading.proofs.Measures.NamedSlots.{named_means}
use Rattle.reading.proofs.Measures.SlotSets.{same_slots, of_one_alone, in_words}
use Rattle.reading.proofs.Measures.SlotTable.{is_under, power}

module _ (first last under_last Under-first : ℕ) (to_last : IsSlotSet (is_under (last + 1)) under_last) (to-first : IsSlotSet (is_under first) Under-first) where
  between : IsSlotSet (λ slot. xor (is_under (last + 1) slot) (is_under first slot)) (bit_xor under_last Under-first)
  between = of_one_alone (is_under (last + 1)) (is_under first) under_last Under-first to_last to-first

  pub ends_in_order : first ≤ last → IsSlotSet (named first last) (bit_xor under_last Under-first)
  unfolding xor
  ends_in_order o = same_slots _ (named first last) _ (λ slot l. on slot (dec_le first slot) (dec_le slot last)) between
    where
      on : (slot : ℕ) → Dec (first ≤ slot) → Dec (slot ≤ last) → xor (is_under (last + 1) slot) (is_under first slot) ≡ named first last slot
      on slot (yes f) (yes l) = rw (le-leb _ _ o, le-leb _ _ f, le-leb _ _ l, lt-ltb slot (last + 1) (omega arith), le-ltb slot first f)
      on slot (yes f) (no l) =
          let over = lt_of_not-le l in
          rw (le-leb _ _ o, le-leb _ _ f, lt-leb _ _ over, le-ltb slot (last + 1) (omega arith), le-ltb slot first f)
      on slot (no f) l =
          let before = lt_of_not-le f in
          rw (le-leb _ _ o, lt-leb _ _ before, lt-ltb slot (last + 1) (omega arith), lt-ltb slot first before)

  pub ends_round :
      last < first → (whole : ℕ) → IsSlotSet (is_under 32) whole → IsSlotSet (named first last) (bit_xor (bit_xor under_last Under-first) whole)
  unfolding xor
  ends_round o whole all =
      same_slots _ (named first last) _ (λ slot l. on slot l (dec_le first slot) (dec_le slot last)) (of_one_alone _ (is_under 32) _ whole between all)
    where
      on : (slot : ℕ) → slot < 32 → Dec (first ≤ slot) → Dec (slot ≤ last)
          → xor (xor (is_under (last + 1) slot) (is_under first slot)) (is_under 32 slot) ≡ named first last slot
      on slot s (yes f) l = rw (lt-leb _ _ o, le-leb _ _ f, le-ltb slot (last + 1) (omega arith), le-ltb slot first f, lt-ltb slot 32 s)
      on slot s (no f) (yes l) =
          let before = lt_of_not-le f in
          rw (lt-leb _ _ o, lt-leb _ _ before, le-leb _ _ l, lt-ltb slot (last + 1) (omega arith), lt-ltb slot first before, lt-ltb slot 32 s)
      on slot s (no f) (no l) =
          let before = lt_of_not-le f in
          let over = lt_of_not-le l in
          rw (lt-leb _ _ o, lt-leb _ _ before, lt-leb _ _ over, le-ltb slot (last + 1) (omega arith), lt-ltb slot first before, lt-ltb slot 32 s)

pub sets_of_slots : SetsOfSlots
sets_of_slots = record {
  exists = λ first last. by first last (dec_le first last);
  members = λ first last. in_words (named first last) (Names first last) (named_means first last);
}
  where
    by : (first last : ℕ) → Dec (first ≤ last) → (word : ℕ) × IsSlotSet (named first last) word
    by first last (yes o) = (_, ends_in_order first last _ _ (power (last + 1)) (power first) o)
    by first last (no o) = (_, ends_round first last _ _ (power (last + 1)) (power first) (lt_of_not-le o) _ (power 32))
