-- What is said of a file, from what reading says of it; and the row of a rule whose equations are known. Counting is checks after reading, and filling
-- goes by counting, so each answer is a computation from there.
use Prim.Native.Nat.{ℕ, ◌*◌, ◌≤◌, ◌<◌}
use mathlib.Core.Path.{◌≡◌, refl, ◌∙◌, ap}
use mathlib.Core.Bool.{true, false}
use mathlib.Core.List.{List}
use native.Mathlib.Omega.{arith}
use lib.ListN.{length, get_or}
use Rattle.reading.specs.Rule.{Rule, Bytes}
use Rattle.reading.specs.File.{accepted, refused, rule_of, Outcome}
use Rattle.synthesis.specs.Answering.{answer_of, unsatisfiable}
use Rattle.synthesis.specs.Monitor.{mark, most, row_of}
use Rattle.synthesis.specs.Table.{entries_of}
use Rattle.synthesis.specs.Building.{equations_of, with_equations, synthesis_of, filling_of, counted_of, table_left, Fills}
use Rattle.synthesis.proofs.Tables.Built.{counted_row}
use Rattle.synthesis.proofs.Tables.SynthesisOutcomes.{accepts_with_equations, refuses_eight, refuses_nine, counted_accepts, accepts_as}
use Rattle.synthesis.proofs.Tables.SynthesisOutcomes.{filling_by_count, filling_accepts, fills_as_counted}
use Rattle.examples.specs.Examples.{CountedAs, Refuses, ReadAs}

module _ (s : List ℕ) where
  -- with the entries for the answer, filling answers as counting does
  answers : (answer : Outcome ℕ) → counted_of (synthesis_of most s) ≡ answer → CountedAs s answer
  answers (accepted n) e = record { counting = e; filling = λ capacity. (fills_as_counted most s capacity).enough n e }
  answers (refused number place) e = record { counting = e; filling = λ capacity none. (fills_as_counted most s capacity).refused number place e }

  pub refuses : (number place : ℕ) → rule_of s ≡ refused number place → Refuses s number place
  unfolding synthesis_of
  refuses number place read = record { reading = read; answers = answers (refused number place) (rw read) }

  module _ (r : Rule) (read : rule_of s ≡ accepted r) where
    pub reads_unsatisfiable : unsatisfiable r ≡ true → ReadAs s r (refused 8 0)
    reads_unsatisfiable h = record { reading = read; answers = answers (refused 8 0) (rw (refuses_eight most s r read h)) }

    pub reads_too_many : unsatisfiable r ≡ false → most < length (equations_of most r) → ReadAs s r (refused 9 0)
    reads_too_many h over = record { reading = read; answers = answers (refused 9 0) (rw (refuses_nine most s r read h over)) }

    module _ (satisfiable : unsatisfiable r ≡ false) (l : List ℕ) (equations : equations_of most r ≡ l) (few : length l ≤ most) where
      synthesis : synthesis_of most s ≡ accepted (with_equations most r)
      synthesis = accepts_with_equations most s r read satisfiable (rw equations few)

      pub reads : ReadAs s r (accepted (length l))
      reads = record { reading = read; answers = answers (accepted (length l)) (rw (synthesis, equations)) }

      pub row_left : (table : List ℕ) → 256 * length l ≤ length table → (k : ℕ) → k < length l
          → row_of 256 (table_left most mark s table) k ≡ entries_of mark (answer_of r) l (get_or l k 0) 256
      row_left table room k h = rw equations at (counted_row most mark s table (with_equations most r) synthesis (rw equations room) k (rw equations h))

-- ---- a file that is read and counted

module _ (s : List ℕ) (r : Rule) (n : ℕ) (file : ReadAs s r (accepted n)) where
  -- with room for its rows, filling accepts it
  pub reads_filling : (capacity : ℕ) → 256 * n ≤ capacity → filling_of most s capacity ≡ accepted (with_equations most r)
  reads_filling capacity room =
      let (y, is, n-is) = counted_accepts (synthesis_of most s) n file.answers.counting in
      filling_accepts capacity (filling_by_count most s capacity) is (omega (arith, n-is)) ∙ ap accepted (accepts_as most s r file.reading y is)

  pub reads_fills : Bytes s → (table : List ℕ) → 256 * n ≤ length table → Fills most mark s table r n (table_left most mark s table)
  reads_fills bytes table room =
      record { below = omega arith; bytes = bytes; read = file.reading; counted = file.answers.filling (length table) room; left_is = refl }
