-- The run is within the row, and the row within the table.
use Rattle.std.proofs.Common.{ℕ, ◌+◌, ◌-◌, ◌*◌, ◌/◌, ◌%◌, ◌<◌, ◌≤◌, ◌≡◌, ap, List, length, get_or, arith}
use Rattle.synthesis.specs.Monitor.{row_of}
use Rattle.synthesis.proofs.Tables.Rows.{row_inside}
use Rattle.listing.specs.Runs.{code_run, RunTo}
use Rattle.listing.specs.Lines.{run_line}
use Rattle.listing.specs.LineParts.{Prints, Gives}
use Rattle.listing.specs.Positions.{row_line_at}
use Rattle.listing.specs.declared.Line.{Line}
use Rattle.listing.proofs.LineLaws.{at_run, gives, gives_line}
use Rattle.listing.proofs.row_line.Goals as goal

-- a run of a row that was handed out
run_given : (table row : List ℕ) (count start k c at last : ℕ) (l : Line) → row ≡ row_of 256 table k → k < count → RunTo row c last
    → Prints (run_line k (code_run c last (get_or row c 0))) l
    → Gives (row_line_at table count start k c at) (record { line = l; next = start + 256 * k + last + 1 })
run_given table row count start k c at last l e h r p =
    gives (at_run table count start k c at last h (rw e at r)) (gives_line _ _ (omega arith) (rw e at p))

-- how far the row and its run go
run_fits : (table row : List ℕ) (k c last : ℕ) → row ≡ row_of 256 table k → RunTo row c last → (last < 256) × (256 * k + 256 ≤ length table)
run_fits table row k c last e r =
    let whole = row_inside 256 table k last (rw e at r.inside) in
    (omega (arith, ap length e, r.inside, whole.1), whole.0)

pub overflow_cast-last : goal.overflow_cast-last
overflow_cast-last c = omega (arith, (run_fits c.args.table.now _ _ _ _ c.row-row.ensures c.run_end-last.ensures).0)

pub overflow_add-result-2 : goal.overflow_add-result-2
overflow_add-result-2 c = omega (arith, run_fits c.args.table.now _ _ _ _ c.row-row.ensures c.run_end-last.ensures)

pub overflow_add-result-3 : goal.overflow_add-result-3
overflow_add-result-3 c = omega (arith, run_fits c.args.table.now _ _ _ _ c.row-row.ensures c.run_end-last.ensures)

pub returns : goal.returns
returns c =
    let codes : ℕ = c.args.at - c.args.start in
    run_given c.args.table.now _ c.args.count c.args.start (codes / 256) (codes % 256) c.args.at c.run_end-last.result _
    c.row-row.ensures c.if-count-k.false c.run_end-last.ensures c.run-line.ensures
