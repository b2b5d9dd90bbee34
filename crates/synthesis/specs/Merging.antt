-- Equations that drop alike on every list of codes are merged, by Moore's partition refinement. Equations are numbers, as those of a table's rows; their
-- answers, the number of codes and the number of equations are any. Classes are a list with the class of each equation, which has the number of its
-- first equation. At first all equations are of one class. Each round parts those that answer some code differently, up to classes.
use Rattle.std.specs.Prelude.{ℕ, zero, suc, ◌<◌, ◌≡◌, Bool, true, false, cond, ◌&&◌, List, [], ◌∷◌, ◌++◌, eqb, get_or, replicate}
use Rattle.reading.specs.Rule.{All}
use Rattle.reading.specs.Pattern.{least, every}
use Rattle.synthesis.specs.Monitor.{Answer, dropped, next, cases, verdicts}

-- ---- what is merged

-- Two equations, of one monitor or of two, drop alike: every list of codes gets the same verdicts from both. A dropped code leaves an equation where it
-- is, so it tells no more than that it is dropped.
abbrev pub DropAlike : {E F : Type 0} → (codes : ℕ) → (answer : E → ℕ → Answer E) → E → (answer' : F → ℕ → Answer F) → F → Type 0
DropAlike codes answer e answer' f = (w : List ℕ) → All (λ c. c < codes) w → verdicts answer e w ≡ verdicts answer' f w

-- ---- answers up to classes

-- an answer with the first equation of its class for an equation
abbrev pub up_to : (classes : List ℕ) → Answer ℕ → Answer ℕ
up_to classes a = cases a dropped (λ j. next (get_or classes j 0))

-- the monitor in which each equation leads to first equations alone
abbrev pub merged : (classes : List ℕ) → (answer : ℕ → ℕ → Answer ℕ) → (k c : ℕ) → Answer ℕ
merged classes answer k c = up_to classes (answer k c)

abbrev pub same_answer : Answer ℕ → Answer ℕ → Bool
same_answer dropped dropped = true
same_answer dropped (next j) = false
same_answer (next i) dropped = false
same_answer (next i) (next j) = eqb i j

-- ---- rounds

-- the values of f at the numbers below n, in order
unfoldable pub tabulate : (f : ℕ → ℕ) → (n : ℕ) → List ℕ
tabulate f zero = []
tabulate f (suc n) = tabulate f n ++ (f n ∷ [])

module _ (codes : ℕ) (answer : ℕ → ℕ → Answer ℕ) where
  -- Equations k and l stay together: they are of one class, and answer every code the same up to classes.
  unfoldable pub together : (classes : List ℕ) → (k l : ℕ) → Bool
  together classes k l =
      eqb (get_or classes k 0) (get_or classes l 0) && every codes (λ c. same_answer (merged classes answer k c) (merged classes answer l c))

  -- The classes of the first n equations after one more round: of each, the first equation with which it stays together.
  unfoldable pub refined : (classes : List ℕ) → (n : ℕ) → List ℕ
  refined classes n = tabulate (λ k. least k (together classes k)) n

  -- the classes of `count` equations after some rounds
  unfoldable pub rounds : (count r : ℕ) → List ℕ
  rounds count zero = replicate count 0
  rounds count (suc r) = refined (rounds count r) count

-- the first equation of each class, among the first n equations
unfoldable pub firsts : (classes : List ℕ) → (n : ℕ) → List ℕ
firsts classes zero = []
firsts classes (suc n) = cond (eqb (get_or classes n 0) n) (firsts classes n ++ (n ∷ [])) (firsts classes n)
