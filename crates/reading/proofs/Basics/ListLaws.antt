-- Elements of a list by their place, by going through the list to it.
use mathlib.Core.Path.{◌≡◌, refl, ◌∙◌}
use mathlib.Core.List.{List, [], ◌∷◌, map}
use Prim.Native.Nat.{ℕ, zero, suc, ◌<◌}
use native.Mathlib.Omega.{arith}
use lib.ListN.{length, get_or, length-map, get_or-map}

-- an element that is there, whatever stands for a missing one
pub get_or-inside : {A : Type 0} (l : List A) (i : ℕ) (d d' : A) → i < length l → get_or l i d ≡ get_or l i d'
get_or-inside [] i d d' h = absurd (omega arith)
get_or-inside (x ∷ l) zero d d' h = refl
get_or-inside (x ∷ l) (suc i) d d' h = get_or-inside l i d d' (omega arith)

pub mapped_at : {A B : Type 0} (f : A → B) (l : List A) (i : ℕ) (x : A) (y : B) → i < length l → get_or (map f l) i y ≡ f (get_or l i x)
mapped_at f l i x y h = get_or-inside (map f l) i y (f x) (rw length-map h) ∙ get_or-map f l i x
