-- Classes that no further round would part: those after as many rounds as there are equations.
use Prim.Native.Nat.{ℕ, ◌<◌}
use mathlib.Core.Path.{◌≡◌}
use mathlib.Core.List.{List}
use lib.ListN.{get_or}
use Rattle.synthesis.specs.Monitor.{Answer, next}
use Rattle.synthesis.specs.Merging.{DropAlike, merged}
use Rattle.synthesis.specs.Arrays.{AreClasses}

-- The first `count` equations lead to each other alone.
abbrev pub Inside : (codes : ℕ) → (answer : ℕ → ℕ → Answer ℕ) → (count : ℕ) → Type 0
Inside codes answer count = (k c j : ℕ) → k < count → c < codes → answer k c ≡ next j → j < count

-- A class has the number of its first equation; equations of one class answer alike, up to classes; and those that drop alike are of one class.
pub record Settled (codes : ℕ) (answer : ℕ → ℕ → Answer ℕ) (count : ℕ) (classes : List ℕ) : Type 0 where
  pub are_classes : AreClasses count classes
  pub alike : (k l c : ℕ) → k < count → l < count → c < codes → get_or classes k 0 ≡ get_or classes l 0
      → merged classes answer k c ≡ merged classes answer l c
  pub parts : (k l : ℕ) → k < count → l < count → DropAlike codes answer k answer l → get_or classes k 0 ≡ get_or classes l 0
