-- What is listed of a rule whose equations are known: its lines are computed from what the equations answer.
use Prim.Native.Nat.{ℕ, zero, suc, ◌+◌, ◌≤◌, ◌<◌}
use mathlib.Core.Path.{◌≡◌, refl, ◌∙◌}
use mathlib.Core.Bool.{false}
use mathlib.Core.List.{List, [], ◌++◌, map}
use native.Mathlib.Omega.{arith}
use lib.ListN.{length, get_or}
use Rattle.reading.specs.Pattern.{extent_of}
use Rattle.reading.specs.Rule.{Rule}
use Rattle.reading.specs.File.{accepted, rule_of}
use Rattle.synthesis.specs.Monitor.{mark, most, Answer, row_of}
use Rattle.synthesis.specs.Answering.{answer_of, unsatisfiable}
use Rattle.synthesis.specs.Table.{entries_of}
use Rattle.synthesis.specs.Building.{equations_of, table_left}
use Rattle.listing.specs.Runs.{runs}
use Rattle.listing.specs.Lines.{patterns_line, pattern_lines, equations_line, run_lines, row_lines, listing}
use Rattle.examples.specs.NumberingExamples.{Numbers}
use Rattle.examples.proofs.FileAnswers.{reads, row_left}

-- the lines of some equations, numbered from k on, by their answers and without a table
abbrev pub lines_of : (answer : ℕ → ℕ → Answer ℕ) → (sets : List ℕ) → (k many : ℕ) → List ℕ
lines_of answer sets k zero = []
lines_of answer sets k (suc many) = run_lines k (runs (entries_of mark answer sets (get_or sets k 0) 256)) ++ lines_of answer sets (suc k) many

abbrev pub listing_of : Rule → (answer : ℕ → ℕ → Answer ℕ) → (sets : List ℕ) → List ℕ
listing_of r answer sets =
    let extents = map extent_of r.patterns in
    patterns_line (length extents) ++ (pattern_lines 0 extents ++ (equations_line (length sets) ++ lines_of answer sets 0 (length sets)))

module _ (answer : ℕ → ℕ → Answer ℕ) (sets table : List ℕ)
    (rows : (k : ℕ) → k < length sets → row_of 256 table k ≡ entries_of mark answer sets (get_or sets k 0) 256) where
  row_lines_lem : (k many : ℕ) → k + many ≤ length sets → row_lines table k many ≡ lines_of answer sets k many
  unfolding row_lines
  row_lines_lem k zero h = refl
  row_lines_lem k (suc many) h = rw (rows k (omega arith), row_lines_lem (suc k) many (omega arith))

  -- what is listed of a table with these rows
  pub listed_of : (r : Rule) → listing (map extent_of r.patterns) (length sets) table ≡ listing_of r answer sets
  unfolding listing
  listed_of r = rw (row_lines_lem 0 (length sets) (omega arith))

pub numbers : (s : List ℕ) (r : Rule) (sets lines : List ℕ) → rule_of s ≡ accepted r → unsatisfiable r ≡ false → equations_of most r ≡ sets
    → length sets ≤ most → listing_of r (answer_of r) sets ≡ lines → Numbers s r sets lines
numbers s r sets lines read satisfiable equations few is = record {
  file = reads s r read satisfiable sets equations few;
  equations = equations;
  listed = λ table room.
      listed_of (answer_of r) sets (table_left most mark s table) (row_left s r read satisfiable sets equations few table room) r ∙ is;
}
