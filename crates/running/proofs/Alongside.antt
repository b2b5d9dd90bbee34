-- Two lists whose elements stand to each other, place by place, as the rules on duty and their spells do: laws by induction on the two.
use mathlib.Core.Path.{◌≡◌, refl}
use mathlib.Core.Logic.{◌↔◌, ⊎_map}
use mathlib.Core.Bool.{Bool, true, false, cond}
use mathlib.Core.List.{List, [], ◌∷◌, ◌++◌, map}
use Rattle.reading.specs.Rule.{All}
use Rattle.synthesis.specs.Joined.{Some}
use Rattle.running.specs.Lists.{filter}

pub data Along {A B : Type 0} (R : A → B → Type 0) : List A → List B → Type 0 where
  none : Along R [] []
  one : {x : A} {y : B} {xs : List A} {ys : List B} → R x y → Along R xs ys → Along R (x ∷ xs) (y ∷ ys)

module _ {A B : Type 0} {R : A → B → Type 0} where
  -- ---- what the elements have

  pub along_left : {P : A → Type 0} → ((x : A) (y : B) → R x y → P x) → {xs : List A} {ys : List B} → Along R xs ys → All P xs
  along_left f none = tt
  along_left f (one {x = x} {y = y} h rest) = (f x y h, along_left f rest)

  pub along_right : {P : B → Type 0} → ((x : A) (y : B) → R x y → P y) → {xs : List A} {ys : List B} → Along R xs ys → All P ys
  along_right f none = tt
  along_right f (one {x = x} {y = y} h rest) = (f x y h, along_right f rest)

  pub along_some : {P : A → Type 0} {Q : B → Type 0} → ((x : A) (y : B) → R x y → P x ↔ Q y) → {xs : List A} {ys : List B} → Along R xs ys
      → Some P xs ↔ Some Q ys
  along_some f none = (λ s. s, λ s. s)
  along_some f (one {x = x} {y = y} h rest) =
      let here = f x y h in
      let there = along_some f rest in
      (⊎_map here.0 there.0, ⊎_map here.1 there.1)

  pub along_same : {C : Type 0} (f : A → C) (g : B → C) → ((x : A) (y : B) → R x y → f x ≡ g y) → {xs : List A} {ys : List B} → Along R xs ys
      → map f xs ≡ map g ys
  along_same f g same none = refl
  along_same f g same (one {x = x} {y = y} h rest) = rw (same x y h, along_same f g same rest)

  -- ---- other lists

  -- elements that stand to each other in another way
  pub along_change : {B' : Type 0} {S : A → B' → Type 0} (g : B → B') → ((x : A) (y : B) → R x y → S x (g y)) → {xs : List A} {ys : List B}
      → Along R xs ys → Along S xs (map g ys)
  along_change g f none = none
  along_change g f (one {x = x} {y = y} h rest) = one (f x y h) (along_change g f rest)

  -- and the second ones have a property
  pub along_with : {P : B → Type 0} {xs : List A} {ys : List B} → Along R xs ys → All P ys → Along (λ x y. R x y × P y) xs ys
  along_with none all = none
  along_with (one h rest) all = one (h, all.0) (along_with rest all.1)

  pub along_last : {xs : List A} {ys : List B} {x : A} {y : B} → Along R xs ys → R x y → Along R (xs ++ (x ∷ [])) (ys ++ (y ∷ []))
  along_last none h = one h none
  along_last (one h' rest) h = one h' (along_last rest h)

  pub along_filter : (p : A → Bool) (q : B → Bool) → ((x : A) (y : B) → R x y → p x ≡ q y) → {xs : List A} {ys : List B} → Along R xs ys
      → Along R (filter p xs) (filter q ys)
  unfolding filter
  along_filter p q same none = none
  along_filter p q same (one {x = x} {y = y} {xs = xs} {ys = ys} h rest) = rw (same x y h) (on (q y) (along_filter p q same rest))
    where
      on : (b : Bool) → Along R (filter p xs) (filter q ys) → Along R (cond b (x ∷ filter p xs) (filter p xs)) (cond b (y ∷ filter q ys) (filter q ys))
      on true ih = one h ih
      on false ih = ih

-- a list along what it is mapped to
pub along_mapped : {A B : Type 0} (f : B → A) (l : List B) → Along (λ x y. f y ≡ x) (map f l) l
along_mapped f [] = none
along_mapped f (y ∷ l) = one refl (along_mapped f l)
