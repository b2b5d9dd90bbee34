-- Each word is found by computing its 32 bits; another word isn't the set, since a set has one word.
use mathlib.Core.Path.{refl}
use native.Mathlib.Omega.{arith}
use Rattle.reading.specs.Pattern.{bit, least}
use Rattle.reading.proofs.Measures.SlotSets.{slot_set_is, measures_slots}
use Rattle.examples.specs.SlotExamples.{SlotsUnder, SlotsNamed, SlotExamples}

pub slot_examples : SlotExamples
unfolding bit least
slot_examples = record {
  no_width = slot_set_is _ 0 refl;
  three = three;
  all = slot_set_is _ 4294967295 refl;
  no_more = slot_set_is _ 4294967295 refl;
  not_3 = λ h. omega (arith, (measures_slots _ 7 three).only 3 h);
  not_15 = λ h. omega (arith, (measures_slots _ 7 three).only 15 h);
  not_bit_32 = λ h. omega (arith, (measures_slots _ 7 three).only 4294967303 h);
  one = slot_set_is _ 32 refl;
  eight = slot_set_is _ 65280 refl;
  round = round;
  whole_ring = slot_set_is _ 4294967295 refl;
  not_without_31 = λ h. omega (arith, (measures_slots _ 3221225479 round).only 1073741831 h);
  last_over = slot_set_is _ 4026531840 refl;
  both_over = slot_set_is _ 0 refl;
  first_over = slot_set_is _ 15 refl;
  round_over = slot_set_is _ 4294967295 refl;
}
  where
    three : SlotsUnder 3 7
    three = slot_set_is _ 7 refl

    round : SlotsNamed 30 2 3221225479
    round = slot_set_is _ 3221225479 refl
