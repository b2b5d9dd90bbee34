-- How many scans a run keeps and drops: each is kept or has verdict 1, by induction on the run.
use Prim.Native.Nat.{ℕ, ◌+◌, ◌-◌, ◌≤◌}
use mathlib.Core.Path.{◌≡◌, refl}
use mathlib.Core.List.{List}
use native.Mathlib.Omega.{arith}
use lib.ListN.{length}
use Rattle.synthesis.specs.Monitor.{Answer, kept, verdicts}
use Rattle.synthesis.proofs.Monitors.Runs.{run_induction}
use Rattle.running.specs.Running.{run_by, occurrences}

-- a scan is kept, or its verdict is 1
pub kept_dropped : {E : Type 0} (answer : E → ℕ → Answer E) (e : E) (w : List ℕ)
    → length (kept answer e w) + occurrences 1 (verdicts answer e w) ≡ length w
unfolding occurrences
kept_dropped answer =
    run_induction answer (λ e w. length (kept answer e w) + occurrences 1 (verdicts answer e w) ≡ length w) (λ e. refl)
    (λ e c w q h. rw q (omega arith)) (λ e e' c w q h. rw q (omega arith))

-- so all but the kept ones are dropped
module _ {E : Type 0} (answer : E → ℕ → Answer E) (e : E) (w : List ℕ) {n : ℕ} (count : n ≡ length (run_by answer e w).kept) where
  pub kept_few : n ≤ length w
  kept_few = omega (arith, kept_dropped answer e w)

  pub rest_dropped : length w - n ≡ occurrences 1 (run_by answer e w).verdicts
  rest_dropped = omega (arith, kept_dropped answer e w)
