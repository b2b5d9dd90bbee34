-- A test on the elements of a list: whether one passes, whether all do, and those that do.
use Rattle.std.specs.Prelude.{Bool, true, false, cond, ◌&&◌, ◌||◌, List, [], ◌∷◌}

module _ {A : Type 0} (test : A → Bool) where
  unfoldable pub any : List A → Bool
  any [] = false
  any (x ∷ xs) = test x || any xs

  unfoldable pub all : List A → Bool
  all [] = true
  all (x ∷ xs) = test x && all xs

  unfoldable pub filter : List A → List A
  filter [] = []
  filter (x ∷ xs) = cond (test x) (x ∷ filter xs) (filter xs)
