-- Laws of lists of bytes, from those of a property that every element has.
use mathlib.Core.List.{List, ◌++◌}
use Prim.Native.Nat.{ℕ, ◌<◌}
use native.Mathlib.Omega.{arith}
use lib.ListN.{get_or}
use mir.Syntax.{w8}
use mir.Val.{Fits}
use Rattle.reading.specs.Rule.{Bytes}
use Rattle.reading.proofs.Basics.AllLaws.{all-get_or, all_append, all_of}

-- A slice of u8 consists of bytes.
pub slice_bytes : (s : List ℕ) → ((i : ℕ) → Fits w8 (get_or s i 0)) → Bytes s
slice_bytes s known = all_of (λ b. b < 256) s 0 (λ i h. (known i).fits)

-- an element, or 0 where there is none
pub byte_at : (s : List ℕ) → Bytes s → (i : ℕ) → get_or s i 0 < 256
byte_at s bytes i = all-get_or (λ b. b < 256) s i 0 bytes (omega arith)

pub bytes_append : (s t : List ℕ) → Bytes s → Bytes t → Bytes (s ++ t)
bytes_append = all_append (λ b. b < 256)
