-- The number-pool rule: its equations, the table that filling leaves of it, the listing, and the run of the paper's scans. The rule and its equations are
-- computed from the file; the rows of the table are those of the equations, and from them the listing and the run are computed.
use Prim.Native.Nat.{ℕ, ◌≤◌, ◌<◌}
use mathlib.Core.Path.{◌≡◌, refl}
use mathlib.Core.Bool.{false}
use mathlib.Core.List.{List, [], ◌∷◌, map}
use native.Mathlib.Omega.{arith}
use lib.ListN.{length, get_or}
use Rattle.reading.specs.Pattern.{bit, covers, least, count_below, extent_of}
use Rattle.reading.specs.File.{Outcome, accepted, records_at, formula_at, formula_of, rule_of}
use Rattle.synthesis.specs.Answering.{first_of, answer_of, unsatisfiable}
use Rattle.synthesis.specs.Search.{explored, found}
use Rattle.synthesis.specs.Monitor.{mark, most, row_of}
use Rattle.synthesis.specs.Table.{entries_of}
use Rattle.synthesis.specs.Building.{equations_of, table_left, Fills}
use Rattle.running.specs.Running.{start, Run, run_from, run_of, occurrences}
use Rattle.running.proofs.Refusals.{runs_on_tables}
use Rattle.listing.specs.Text.{decimal_in, decimal}
use Rattle.listing.specs.Lines.{row_lines, listing}
use Rattle.examples.specs.Examples.{pool_file, pool_rule, NumberPool, pool_listing, PoolRows, PoolTable}
use Rattle.examples.specs.Examples.{pool_scans, pool_run, RunsPool, PoolScans}
use Rattle.examples.proofs.FileAnswers.{reads, row_left, reads_fills}
use Rattle.examples.proofs.RunAnswers.{run_left}

-- ---- its equations

-- {1}, the empty set and {3, 5}
abbrev pool_equations : List ℕ
pool_equations = 2 ∷ 0 ∷ 40 ∷ []

pool_read : rule_of pool_file ≡ accepted pool_rule
unfolding rule_of records_at formula_of formula_at
pool_read = refl

pool_satisfiable : unsatisfiable pool_rule ≡ false
unfolding unsatisfiable first_of
pool_satisfiable = refl

pool_equations_lem : equations_of most pool_rule ≡ pool_equations
unfolding equations_of found explored first_of answer_of bit covers
pool_equations_lem = refl

pub number_pool : NumberPool
unfolding bit covers least count_below
number_pool = record {
  file = reads pool_file pool_rule pool_read pool_satisfiable pool_equations pool_equations_lem (omega arith);
  extents = refl;
}

-- ---- its table

pub pool_fills : (table : List ℕ) → 768 ≤ length table → Fills most mark pool_file table pool_rule 3 (table_left most mark pool_file table)
pool_fills = reads_fills pool_file pool_rule 3 number_pool.file (search arith)

pool_rows : (table : List ℕ) → 768 ≤ length table → PoolRows (table_left most mark pool_file table)
unfolding entries_of answer_of bit covers
pool_rows table room = record { row_0 = row 0 (omega arith); row_1 = row 1 (omega arith); row_2 = row 2 (omega arith) }
  where
    row : (k : ℕ) → k < 3
        → row_of 256 (table_left most mark pool_file table) k ≡ entries_of mark (answer_of pool_rule) pool_equations (get_or pool_equations k 0) 256
    row = row_left pool_file pool_rule pool_read pool_satisfiable pool_equations pool_equations_lem (omega arith) table room

pool_listed : (table : List ℕ) → PoolRows table → listing (map extent_of pool_rule.patterns) 3 table ≡ pool_listing
unfolding decimal decimal_in listing row_lines bit covers least count_below
pool_listed table rows = rw (rows.row_0, rows.row_1, rows.row_2)

pub pool_table : (table : List ℕ) → 768 ≤ length table → PoolTable (table_left most mark pool_file table)
pool_table table room = let rows = pool_rows table room in record { rows = rows; listed = pool_listed (table_left most mark pool_file table) rows }

-- ---- the paper's scans

-- a row for each scan that is kept, in order
pool_run_lem : (table : List ℕ) → PoolRows table → run_from mark table start pool_scans ≡ pool_run
pool_run_lem table rows = rw (rows.row_0, rows.row_2, rows.row_0, rows.row_1, rows.row_1)

runs_pool : (outcome : Outcome Run) → outcome ≡ accepted pool_run → RunsPool outcome
unfolding occurrences
runs_pool outcome e = record { accepts = e; handed_back_lem = rw e; ends_in = rw e; output = λ bytes. rw e; verdicts = λ bytes. rw e }

pub pool_scans_lem : (table : List ℕ) → 768 ≤ length table → PoolScans (table_left most mark pool_file table)
pool_scans_lem table room = record {
  enough = λ output verdicts h k. runs_pool (run_of most mark (table_left most mark pool_file table) 3 start pool_scans output verdicts)
      (run_left (pool_fills table room) pool_scans pool_run pool_run-is output verdicts h k);
  short = λ output verdicts. (runs_on_tables most mark (table_left most mark pool_file table) 3 start pool_scans output verdicts).short.1;
}
  where
    pool_run-is : run_from mark (table_left most mark pool_file table) start pool_scans ≡ pool_run
    pool_run-is = pool_run_lem (table_left most mark pool_file table) (pool_rows table room)
