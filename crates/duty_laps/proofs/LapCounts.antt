-- What a run on duty counts: refused or not, it keeps and drops no more scans than there are.
use Prim.Native.Nat.{ℕ, ◌+◌, ◌≤◌}
use mathlib.Core.Path.{◌≡◌, ap}
use mathlib.Core.List.{List}
use native.Mathlib.Omega.{arith}
use lib.ListN.{length}
use Rattle.running.specs.Running.{Returned}
use Rattle.running.specs.Duty.{on_duty, together, duty_run_of, duty_ran_of}
use Rattle.running.specs.declared.Duty.{Duty}
use Rattle.running.proofs.Counting.{kept_dropped}
use Rattle.running.proofs.DutyCases.{duty_run_cases}

module _ (limit mark : ℕ) (tables : List ℕ) (d : Duty) (scans : List ℕ) (output verdicts : ℕ) where
  pub lap_counts : {ran : Returned Duty} → ran ≡ duty_ran_of d (duty_run_of limit mark tables d scans output verdicts)
      → ran.kept + ran.dropped ≤ length scans
  lap_counts e =
      rw (ap (λ (r : Returned Duty). r.kept + r.dropped) e)
      (duty_run_cases limit mark tables d scans output verdicts
      (λ o. (duty_ran_of d o).kept + (duty_ran_of d o).dropped ≤ length scans) (λ r. omega arith) (λ r s. omega arith) (λ r s f. omega arith)
      (λ r s f. omega (arith, kept_dropped (together mark tables) (on_duty d) scans)))
