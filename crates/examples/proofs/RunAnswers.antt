-- A run from the start over a table that filling leaves: the table is well formed, so with room for the scans the run goes by its rows.
use Prim.Native.Nat.{ℕ, ◌≤◌}
use mathlib.Core.Path.{◌≡◌, ◌∙◌, ap}
use mathlib.Core.List.{List}
use lib.ListN.{length}
use Rattle.reading.specs.Rule.{Rule}
use Rattle.reading.specs.File.{accepted}
use Rattle.synthesis.specs.Building.{Fills}
use Rattle.synthesis.proofs.Tables.Built.{built_well_formed}
use Rattle.running.specs.Running.{start, Run, run_from, run_of}
use Rattle.running.proofs.Refusals.{runs_on_tables}

pub run_left : {limit mark : ℕ} {s table : List ℕ} {r : Rule} {n : ℕ} {left : List ℕ} → Fills limit mark s table r n left
    → (scans : List ℕ) (run : Run) → run_from mark left start scans ≡ run
    → (output verdicts : ℕ) → length scans ≤ output → length scans ≤ verdicts → run_of limit mark left n start scans output verdicts ≡ accepted run
run_left {limit} {mark} {s} {table} {r} {n} {left} b scans run e output verdicts h k =
    let wf = built_well_formed limit mark s table r n left b in
    (runs_on_tables limit mark left n start scans output verdicts).follows h k wf wf.some ∙ ap accepted e
