-- Scans and patterns. A scan is its code, made of its kind, 0 to 7, and its slot, 0 to 31. A pattern is a set of codes, maybe of none: the mask says for
-- each kind whether it belongs, first and last name the slots. `Pattern` and `Extent` are those of src/lib.rt.
use Rattle.std.specs.Prelude.{ℕ, ◌+◌, ◌-◌, ◌*◌, ◌/◌, ◌%◌, zero, suc, ◌^◌, ◌≤◌, ◌<◌, ◌≡◌, Bool, cond, not, ◌&&◌, ◌||◌, ltb, leb, eqb}
use Rattle.std.specs.Prelude.{Option, Some, None}
use Rattle.reading.specs.declared.Pattern.{Pattern}
use Rattle.reading.specs.declared.Extent.{Extent}

-- ---- codes

abbrev pub code_of : ℕ → ℕ → ℕ
code_of kind slot = 32 * kind + slot

abbrev pub kind_of : ℕ → ℕ
kind_of code = code / 32

abbrev pub slot_of : ℕ → ℕ
slot_of code = code % 32

-- The eight kinds. The slot of a sync is the phone's number.
abbrev pub issue : ℕ
issue = 0

abbrev pub cancel : ℕ
cancel = 1

abbrev pub collect : ℕ
collect = 2

abbrev pub deliver : ℕ
deliver = 3

abbrev pub sync : ℕ
sync = 4

abbrev pub return : ℕ
return = 5

abbrev pub note : ℕ
note = 6

abbrev pub handover : ℕ
handover = 7

-- ---- patterns

-- bit i of a number, 0 or 1
unfoldable pub bit : ℕ → ℕ → ℕ
bit i n = n / 2 ^ i % 2

-- The slots that first and last name: from first to last, and where first is over last, from first on and from 0 to last.
abbrev pub named : (first last slot : ℕ) → Bool
named first last slot = cond (leb first last) (leb first slot && leb slot last) (leb first slot || leb slot last)

-- A word is the set of the slots that a test holds of: slot s is a member where bit s is 1, and there are no bits but those of the 32 slots.
pub record IsSlotSet (holds : ℕ → Bool) (word : ℕ) : Type 0 where
  pub has : (slot : ℕ) → slot < 32 → bit slot word ≡ cond (holds slot) 1 0
  pub few : word < 2 ^ 32

unfoldable pub covers : Pattern → ℕ → Bool
covers p code = eqb (bit (kind_of code) p.mask) 1 && named p.first p.last (slot_of code)

-- the least number below n that a test holds of; n where there is none
unfoldable pub least : ℕ → (ℕ → Bool) → ℕ
least zero holds = zero
least (suc n) holds = cond (holds zero) zero (suc (least n (λ i. holds (suc i))))

-- a test holds of every number below n
abbrev pub every : ℕ → (ℕ → Bool) → Bool
every n holds = leb n (least n (λ i. not (holds i)))

-- how many numbers below n a test holds of
unfoldable pub count_below : ℕ → (ℕ → Bool) → ℕ
count_below zero holds = zero
count_below (suc n) holds = count_below n holds + cond (holds n) 1 0

-- the lowest of the 256 codes that a pattern covers; none where it covers none
abbrev pub lowest_of : Pattern → Option ℕ
lowest_of p = let low = least 256 (covers p) in cond (ltb low 256) (Some low) None

-- the lowest code that a pattern covers, and how many it covers
abbrev pub extent_of : Pattern → Extent
extent_of p = record { lowest = lowest_of p; count = count_below 256 (covers p) }

-- Where both are slots, the lowest of those that first and last name, and how many these are.
abbrev pub lowest_slot : (first last : ℕ) → ℕ
lowest_slot first last = cond (leb first last) first 0

abbrev pub slot_width : (first last : ℕ) → ℕ
slot_width first last = cond (leb first last) (last - first + 1) (32 - first + last + 1)

-- what refusal 5 lets through; a mask is any byte
pub record WellFormedPattern (p : Pattern) : Type 0 where
  pub byte : p.mask ≤ 255
  pub first_slot : p.first ≤ 31
  pub last_slot : p.last ≤ 31
