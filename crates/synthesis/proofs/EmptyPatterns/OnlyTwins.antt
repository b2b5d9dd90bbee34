-- A node has one twin only, since the numbers tell the place: counted on from two nodes that stand at the same place, the places in their formulas are
-- places in the whole, and there the parts of a formula have numbers apart from each other.
use Prim.Native.Nat.{ℕ, suc, ◌+◌, ◌<◌}
use mathlib.Core.Path.{◌≡◌, refl}
use mathlib.Core.Bool.{Bool}
use mathlib.Core.List.{List}
use native.Mathlib.Omega.{arith}
use Rattle.reading.specs.Rule.{Formula, both, necessity, max, size}
use Rattle.reading.specs.Nodes.{EnclosingMax}
use Rattle.reading.proofs.Numbering.Listings.{size_positive}
use Rattle.synthesis.proofs.EmptyPatterns.Twins.{SamePlace, wholes, firsts, seconds, afters, bodies, has_twin, Twins}

-- ---- places from the root down

-- Node i of f is opposite to node i' of f': they stand at the same place.
data Opposite : Formula → Formula → (i i' : ℕ) → Type 0 where
  here : {f f' : Formula} → Opposite f f' 0 0
  in_first : {f g f' g' : Formula} {i i' : ℕ} → Opposite f f' i i' → Opposite (both f g) (both f' g') (suc i) (suc i')
  in_second : {f g f' g' : Formula} {i i' : ℕ} → Opposite g g' i i' → Opposite (both f g) (both f' g') (suc (size f + i)) (suc (size f' + i'))
  in_after : {p p' : ℕ} {f f' : Formula} {i i' : ℕ} → Opposite f f' i i' → Opposite (necessity p f) (necessity p' f') (suc i) (suc i')
  in_body : {f f' : Formula} {i i' : ℕ} → Opposite f f' i i' → Opposite (max f) (max f') (suc i) (suc i')

opposite_inside : {f f' : Formula} {i i' : ℕ} → Opposite f f' i i' → i < size f
opposite_inside {f} here = size_positive f
opposite_inside (in_first o) = omega (arith, opposite_inside o)
opposite_inside (in_second o) = omega (arith, opposite_inside o)
opposite_inside (in_after o) = omega (arith, opposite_inside o)
opposite_inside (in_body o) = omega (arith, opposite_inside o)

opposite_only : {f f' : Formula} {i i' j j' : ℕ} → Opposite f f' i i' → Opposite f f' j j' → i ≡ j → i' ≡ j'
opposite_only here here e = refl
opposite_only here (in_first o') e = absurd (omega arith)
opposite_only here (in_second o') e = absurd (omega arith)
opposite_only here (in_after o') e = absurd (omega arith)
opposite_only here (in_body o') e = absurd (omega arith)
opposite_only (in_first o) here e = absurd (omega arith)
opposite_only (in_first o) (in_first o') e = omega (arith, opposite_only o o' (omega arith))
opposite_only (in_first o) (in_second o') e = absurd (omega (arith, opposite_inside o))
opposite_only (in_second o) here e = absurd (omega arith)
opposite_only (in_second o) (in_first o') e = absurd (omega (arith, opposite_inside o'))
opposite_only (in_second o) (in_second o') e = omega (arith, opposite_only o o' (omega arith))
opposite_only (in_after o) here e = absurd (omega arith)
opposite_only (in_after o) (in_after o') e = omega (arith, opposite_only o o' (omega arith))
opposite_only (in_body o) here e = absurd (omega arith)
opposite_only (in_body o) (in_body o') e = omega (arith, opposite_only o o' (omega arith))

-- ---- twins

-- the same numbers, written otherwise
opposite_at : {f f' : Formula} {i i' j j' : ℕ} → i ≡ j → i' ≡ j' → Opposite f f' i i' → Opposite f f' j j'
opposite_at e e' o = rw (← e, ← e') o

module _ {covered covered' : (pattern code : ℕ) → Bool} {root root' : Formula} where
  opposite_from : {k k' i i' : ℕ} {ms ms' : List EnclosingMax} {f f' : Formula} → SamePlace covered covered' root root' k k' ms ms' f f'
      → Opposite f f' i i' → Opposite root root' (k + i) (k' + i')
  opposite_from wholes o = opposite_at (omega arith) (omega arith) o
  opposite_from (firsts s) o = opposite_at (omega arith) (omega arith) (opposite_from s (in_first o))
  opposite_from (seconds s) o = opposite_at (omega arith) (omega arith) (opposite_from s (in_second o))
  opposite_from (afters s) o = opposite_at (omega arith) (omega arith) (opposite_from s (in_after o))
  opposite_from (bodies a s) o = opposite_at (omega arith) (omega arith) (opposite_from s (in_body o))

  pub one_twin : {k k' k'' : ℕ} → Twins covered covered' root root' k k' → Twins covered covered' root root' k k'' → k' ≡ k''
  one_twin (ms, f, has_twin s a) (ms'', f'', has_twin s'' a'') = omega (arith, opposite_only (opposite_from s here) (opposite_from s'' here) refl)
