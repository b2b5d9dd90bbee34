-- Sets of nodes, as the bits of a number: node n is a member where bit n is 1.
use Rattle.std.specs.Prelude.{ℕ, ◌^◌, ◌≡◌, Bool, eqb}
use Rattle.std.specs.Int.Bits.{bit_and, bit_or}
use Rattle.reading.specs.Pattern.{bit}

abbrev pub Has : (set node : ℕ) → Type 0
Has e n = bit n e ≡ 1

abbrev pub has : (set node : ℕ) → Bool
has e n = eqb (bit n e) 1

abbrev pub empty_set : ℕ
empty_set = 0

abbrev pub singleton : ℕ → ℕ
singleton n = 2 ^ n

abbrev pub union : ℕ → ℕ → ℕ
union = bit_or

abbrev pub intersection : ℕ → ℕ → ℕ
intersection = bit_and
