-- Stores of a list from an index on: two lists one after the other, and a store before them. Each goes through the list, as stores at different
-- indices may change places.
use mathlib.Core.Path.{◌≡◌, refl, sym, ap, ◌∙◌}
use mathlib.Core.List.{List, [], ◌∷◌, ◌++◌}
use Prim.Native.Nat.{ℕ, suc, ◌+◌, ◌≤◌, ◌<◌}
use native.Mathlib.Omega.{arith}
use native.Mathlib.Nat.{add-zero}
use lib.ListN.{length, set, replicate, length-replicate}
use lib.Seq.{sets, sets-eq, set_comm}
use Rattle.std.proofs.lemmas.List.{drop-replicate}
use Rattle.reading.specs.Numbered.{padded}

module _ {A : Type 0} where
  pub sets_append : (l : List A) (i : ℕ) (xs ys : List A) → sets l i (xs ++ ys) ≡ sets (sets l i xs) (i + length xs) ys
  sets_append l i [] ys = rw (add-zero i)
  sets_append l i (x ∷ xs) ys =
      let e : suc i + length xs ≡ i + suc (length xs) = omega arith in
      sets_append (set l i x) (suc i) xs ys ∙ rw e

  set_before : (l : List A) (i j : ℕ) (x : A) (vs : List A) → i < j → set (sets l j vs) i x ≡ sets (set l i x) j vs
  set_before l i j x [] h = refl
  set_before l i j x (v ∷ vs) h =
      set_before (set l j v) i (suc j) x vs (omega arith)
      ∙ ap (λ (k : List A). sets k (suc j) vs) (set_comm l j i v x (λ e. omega arith))

  -- a list after a place, then the place's own value, and another list
  pub two_lists : (l : List A) (k : ℕ) (x : A) (xs ys : List A) → sets (set (sets l (suc k) xs) k x) (suc k + length xs) ys ≡ sets l k (x ∷ (xs ++ ys))
  two_lists l k x xs ys = rw (set_before l k (suc k) x xs (omega arith)) (sym (sets_append (set l k x) (suc k) xs ys))

  -- all of a list, into an array that is filled with one value
  pub sets_filled : (m : ℕ) (x : A) (vs : List A) → length vs ≤ m → sets (replicate m x) 0 vs ≡ padded m x vs
  sets_filled m x vs h =
      let e : 0 + length vs ≡ length vs = omega arith in
      sets-eq vs (replicate m x) 0 (omega (arith, length-replicate m x)) ∙ rw (e, drop-replicate (length vs) m x)
