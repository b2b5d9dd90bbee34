-- Laws of a property that every element of a list has, each by going through the list.
use mathlib.Core.List.{List, [], ◌∷◌, ◌++◌}
use Prim.Native.Nat.{ℕ, zero, suc, ◌<◌}
use native.Mathlib.Omega.{arith}
use lib.ListN.{length, get_or}
use Rattle.reading.specs.Rule.{All}

module _ {A : Type 0} (P : A → Type 0) where
  -- an element, or the value that stands for a missing one
  pub all-get_or : (l : List A) (i : ℕ) (d : A) → All P l → P d → P (get_or l i d)
  all-get_or [] i d all other = other
  all-get_or (x ∷ l) zero d all other = all.0
  all-get_or (x ∷ l) (suc i) d all other = all-get_or l i d all.1 other

  -- an element that is there
  pub all_at : (l : List A) (i : ℕ) (d : A) → All P l → i < length l → P (get_or l i d)
  all_at [] i d all h = absurd (omega arith)
  all_at (x ∷ l) zero d all h = all.0
  all_at (x ∷ l) (suc i) d all h = all_at l i d all.1 (omega arith)

  pub all_append : (l l' : List A) → All P l → All P l' → All P (l ++ l')
  all_append [] l' all all' = all'
  all_append (x ∷ l) l' all all' = (all.0, all_append l l' all.1 all')

  pub all_front : (l l' : List A) → All P (l ++ l') → All P l
  all_front [] l' all = tt
  all_front (x ∷ l) l' all = (all.0, all_front l l' all.1)

  pub all_last : (l : List A) (x : A) → All P (l ++ x ∷ []) → P x
  all_last [] x all = all.0
  all_last (y ∷ l) x all = all_last l x all.1

  -- from every element
  pub all_of : (l : List A) (d : A) → ((i : ℕ) → i < length l → P (get_or l i d)) → All P l
  all_of [] d each = tt
  all_of (x ∷ l) d each = (each 0 (omega arith), all_of l d (λ i h. each (suc i) (omega arith)))

-- a weaker property
pub all_map : {A : Type 0} {P Q : A → Type 0} (l : List A) → ((x : A) → P x → Q x) → All P l → All Q l
all_map [] f all = tt
all_map (x ∷ l) f all = (f x all.0, all_map l f all.1)
