-- Bytes at a place of a file. That the bytes `l` are the file from `at` on is said by `drop at s ≡ l`; what stands further on is found by dropping
-- more.
use mathlib.Core.Path.{◌≡◌, refl, ap, ◌∙◌}
use mathlib.Core.List.{List, ◌∷◌, ◌++◌}
use Prim.Native.Nat.{ℕ, suc, ◌+◌, ◌<◌}
use native.Mathlib.Omega.{arith}
use lib.ListN.{length, get_or, drop, length-drop}
use lib.Seq.{drop-cons, drop-drop, get_or-drop, drop-append_seam}

-- the byte at `at` is x
pub record Byte (s : List ℕ) (at x : ℕ) : Type 0 where
  pub inside : at < length s
  pub is : get_or s at 0 ≡ x

-- The byte at `at`, whatever it is, and what follows it: the library's `drop-cons` with a name for the next place, which is at + 1, at + 2 and so on in a
-- record, and `suc` of the place before there.
pub from_place : (s : List ℕ) (at next : ℕ) → at < length s → at + 1 ≡ next → drop at s ≡ get_or s at 0 ∷ drop next s
from_place s at next inside e = let after : suc at ≡ next = omega arith in rw (← after) (drop-cons s at 0 inside)

pub from_byte : {s : List ℕ} {at x : ℕ} (next : ℕ) → Byte s at x → at + 1 ≡ next → drop at s ≡ x ∷ drop next s
from_byte {s} {at} next b e = from_place s at next b.inside e ∙ rw b.is

-- where the file from `at` on is l, its byte and its rest i places on
module _ (s : List ℕ) (at i place : ℕ) {l : List ℕ} (from : drop at s ≡ l) (e : at + i ≡ place) where
  pub byte_of : i < length l → Byte s place (get_or l i 0)
  byte_of h = record {
    inside = omega (arith, ap length from, length-drop at s);
    is = rw (← e, ← get_or-drop, from);
  }

  pub rest_of : drop place s ≡ drop i l
  rest_of = rw (← e, ← drop-drop i at s, from)

pub first_byte : (s : List ℕ) (at : ℕ) {x : ℕ} {ys : List ℕ} → drop at s ≡ x ∷ ys → Byte s at x
first_byte s at from = byte_of s at 0 at from (omega arith) (omega arith)

pub rest_after : (s : List ℕ) (at : ℕ) (bs : List ℕ) {rest : List ℕ} → drop at s ≡ bs ++ rest → drop (at + length bs) s ≡ rest
rest_after s at bs {rest} from = rest_of s at (length bs) (at + length bs) from refl ∙ drop-append_seam bs rest
