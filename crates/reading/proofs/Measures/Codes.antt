-- A code stands for one kind and one slot below 32: each code has these parts, and the parts make the code again.
use mathlib.Core.Path.{◌≡◌}
use Prim.Native.Nat.{ℕ, ◌<◌}
use native.Mathlib.Omega.{arith}
use Rattle.reading.specs.Pattern.{code_of, kind_of, slot_of}

pub kind_of-code : (kind slot : ℕ) → slot < 32 → kind_of (code_of kind slot) ≡ kind
kind_of-code kind slot h = omega arith

pub slot_of-code : (kind slot : ℕ) → slot < 32 → slot_of (code_of kind slot) ≡ slot
slot_of-code kind slot h = omega arith

pub code_of-parts : (code : ℕ) → code_of (kind_of code) (slot_of code) ≡ code
code_of-parts code = omega arith

pub slot_lt : (code : ℕ) → slot_of code < 32
slot_lt code = omega arith

-- a byte is a code of one of the eight kinds, and the other way round
pub kind_lt : (code : ℕ) → code < 256 → kind_of code < 8
kind_lt code h = omega arith

pub code_lt : (kind slot : ℕ) → kind < 8 → slot < 32 → code_of kind slot < 256
code_lt kind slot k s = omega arith
