-- The rule whose branches overlap: its equations, its lines and the verdicts are computed.
use Prim.Native.Nat.{ℕ, ◌≤◌}
use mathlib.Core.Path.{◌≡◌, refl}
use mathlib.Core.Bool.{false}
use mathlib.Core.List.{List}
use native.Mathlib.Omega.{arith}
use lib.ListN.{length}
use Rattle.reading.specs.Pattern.{bit, covers, least, count_below}
use Rattle.reading.specs.File.{accepted, records_at, formula_at, formula_of, rule_of}
use Rattle.synthesis.specs.Monitor.{mark, most}
use Rattle.synthesis.specs.Answering.{first_of, answer_of, unsatisfiable}
use Rattle.synthesis.specs.Search.{explored, found}
use Rattle.synthesis.specs.Table.{entries_of}
use Rattle.synthesis.specs.Building.{equations_of, table_left}
use Rattle.running.specs.Running.{start, run_from}
use Rattle.listing.specs.Text.{decimal_in, decimal}
use Rattle.examples.specs.NumberingExamples.{Numbers}
use Rattle.examples.specs.OverlapExample.{overlap_file, overlap_rule, overlap_sets, overlap_listing, overlap_scans, overlap_run, OverlapExample}
use Rattle.examples.proofs.FileAnswers.{row_left, reads_fills}
use Rattle.examples.proofs.Listed.{numbers}
use Rattle.examples.proofs.RunAnswers.{run_left}

overlap_read : rule_of overlap_file ≡ accepted overlap_rule
unfolding rule_of records_at formula_of formula_at
overlap_read = refl

overlap_satisfiable : unsatisfiable overlap_rule ≡ false
unfolding unsatisfiable first_of
overlap_satisfiable = refl

overlap_equations : equations_of most overlap_rule ≡ overlap_sets
unfolding equations_of found explored first_of answer_of bit covers
overlap_equations = refl

overlap_numbers : Numbers overlap_file overlap_rule overlap_sets overlap_listing
unfolding entries_of answer_of bit covers least count_below decimal decimal_in
overlap_numbers = numbers overlap_file overlap_rule overlap_sets overlap_listing overlap_read overlap_satisfiable overlap_equations (omega arith) refl

-- a row for each equation that the run comes to, in order
overlap_run_lem : (table : List ℕ) → 768 ≤ length table → run_from mark (table_left most mark overlap_file table) start overlap_scans ≡ overlap_run
unfolding entries_of answer_of bit covers
overlap_run_lem table room =
    let row = row_left overlap_file overlap_rule overlap_read overlap_satisfiable overlap_sets overlap_equations (omega arith) table room in
    let fresh = row 0 (omega arith) in
    let ended = row 1 (omega arith) in
    let asked = row 2 (omega arith) in
    rw (fresh, asked, fresh, asked, fresh, ended, ended)

pub overlap_example : OverlapExample
overlap_example = record {
  numbers = overlap_numbers;
  run = λ table room.
      run_left (reads_fills overlap_file overlap_rule 3 overlap_numbers.file (search arith) table room) overlap_scans overlap_run
      (overlap_run_lem table room);
  ends_in = refl;
}
