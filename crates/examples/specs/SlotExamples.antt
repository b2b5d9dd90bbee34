-- Words that stand on the card of slot sets: of widths, and of first and last slots in order, round the ring, and over 31.
use Rattle.std.specs.Prelude.{ℕ, ltb}
use Rattle.reading.specs.Pattern.{named, IsSlotSet}

abbrev pub SlotsUnder : (width word : ℕ) → Type 0
SlotsUnder width = IsSlotSet (λ slot. ltb slot width)

abbrev pub SlotsNamed : (first last word : ℕ) → Type 0
SlotsNamed first last = IsSlotSet (named first last)

pub record SlotExamples : Type 0 where
  pub no_width : SlotsUnder 0 0
  pub three : SlotsUnder 3 7
  pub all : SlotsUnder 32 4294967295
  pub no_more : SlotsUnder 33 4294967295
  -- not with a slot less, a slot more, or a bit that is no slot's
  pub not_3 : SlotsUnder 3 3 → ⊥
  pub not_15 : SlotsUnder 3 15 → ⊥
  pub not_bit_32 : SlotsUnder 3 4294967303 → ⊥
  -- slot 5; slots 8 to 15
  pub one : SlotsNamed 5 5 32
  pub eight : SlotsNamed 8 15 65280
  -- slots 30, 31, 0, 1 and 2; every slot
  pub round : SlotsNamed 30 2 3221225479
  pub whole_ring : SlotsNamed 6 5 4294967295
  pub not_without_31 : SlotsNamed 30 2 1073741831 → ⊥
  -- from 28 on; none; up to 3; every slot
  pub last_over : SlotsNamed 28 39 4026531840
  pub both_over : SlotsNamed 32 39 0
  pub first_over : SlotsNamed 35 3 15
  pub round_over : SlotsNamed 39 35 4294967295
