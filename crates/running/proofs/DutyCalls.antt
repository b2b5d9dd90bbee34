-- Calls of a run on duty, each by its three ways and the laws of any monitor's runs: two calls do what one does, since the rules that the first leaves are
-- fit again; no scan is lost; and the buffers are as they were but for the fronts.
use Prim.Native.Nat.{ℕ}
use mathlib.Core.Path.{◌≡◌, refl}
use mathlib.Core.List.{◌++◌}
use native.Mathlib.Omega.{arith}
use lib.ListN.{length}
use Rattle.synthesis.specs.Monitor.{ended}
use Rattle.running.specs.Duty.{on_duty, duty_of, together, duty_run_of, duty_ran_of}
use Rattle.running.specs.Promises.{Conserved, Fronts}
use Rattle.running.specs.DutyPromises.{DutyTogether, DutyTwoCalls, DutyConserves, DutyUnchanged, DutyRefusedUnchanged, DutyRestUnchanged}
use Rattle.running.proofs.Refusals.{has_room-lengths}
use Rattle.running.proofs.Joining.{joined_runs}
use Rattle.running.proofs.Conservation.{run_conserved, refused_conserved}
use Rattle.running.proofs.Leaving.{run_fronts}
use Rattle.running.proofs.SoundStates.{duty_of-rules}
use Rattle.running.proofs.DutyRuns.{duty_run_ways, duty_run_fit, duty_run_unfit, no_short, fit_after}
use Rattle.reading.specs.File.{accepted, refused}

-- ---- two calls

pub duty_two_calls : DutyTwoCalls
duty_two_calls limit mark tables d v w o₁ v₁ o₂ v₂ o₃ v₃ r₁ r₂ r₃ =
    let F = together mark tables in
    let ds = ended F (on_duty d) v in
    let (h₁, k₁) = has_room-lengths v o₁ v₁ r₁ in
    let (h₂, k₂) = has_room-lengths w o₂ v₂ r₂ in
    let (h₃, k₃) = has_room-lengths (v ++ w) o₃ v₃ r₃ in
    duty_run_ways limit mark tables d v o₁ v₁
    (λ one. DutyTogether d one (duty_run_of limit mark tables (duty_ran_of d one).state w o₂ v₂) (duty_run_of limit mark tables d (v ++ w) o₃ v₃))
    (λ short. absurd (no_short v o₁ v₁ h₁ k₁ short))
    (λ h k n. rw (duty_run_unfit limit mark tables d w o₂ v₂ h₂ k₂ n, duty_run_unfit limit mark tables d (v ++ w) o₃ v₃ h₃ k₃ n)
    (record { checked = refl; handed_back_lem = refl; kept = refl; verdicts = refl }))
    (λ h k is. let both = joined_runs F (on_duty d) v w in
    rw (
      duty_run_fit limit mark tables (duty_of ds) w o₂ v₂ h₂ k₂ (fit_after limit mark tables d v is),
      duty_run_fit limit mark tables d (v ++ w) o₃ v₃ h₃ k₃ is,
      duty_of-rules ds,
    )
    (record { checked = refl; handed_back_lem = rw (both.ends, both.keeps_count, both.drops_count); kept = both.keeps; verdicts = both.judges }))

-- ---- one call

pub duty_conserves : DutyConserves
duty_conserves limit mark tables d scans output verdicts =
    duty_run_ways limit mark tables d scans output verdicts (λ o. Conserved scans o (duty_ran_of d o).kept (duty_ran_of d o).dropped)
    (λ short. refused_conserved scans 15 0) (λ h k n. refused_conserved scans 16 0) (λ h k is. run_conserved (together mark tables) (on_duty d) scans)

pub duty_refused_unchanged : DutyRefusedUnchanged
duty_refused_unchanged limit mark tables d scans output verdicts number place =
    duty_run_ways limit mark tables d scans (length output) (length verdicts)
    (λ o. (duty_ran_of d o).checked ≡ refused number place → DutyUnchanged d output verdicts o)
    (λ short e. record { handed_back_lem = refl; output_same = refl; verdicts_same = refl })
    (λ h k n e. record { handed_back_lem = refl; output_same = refl; verdicts_same = refl })
    (λ h k is e. let z : ◌≡◌ {A = ℕ} 0 1 = cc in absurd (omega arith))

pub duty_rest_unchanged : DutyRestUnchanged
duty_rest_unchanged limit mark tables d scans output verdicts =
    duty_run_ways limit mark tables d scans (length output) (length verdicts)
    (λ o. (duty_ran_of d o).checked ≡ accepted tt → Fronts scans output verdicts o (duty_ran_of d o).kept)
    (λ short e. let z : ◌≡◌ {A = ℕ} 0 1 = cc in absurd (omega arith)) (λ h k n e. let z : ◌≡◌ {A = ℕ} 0 1 = cc in absurd (omega arith))
    (λ h k is e. run_fronts (together mark tables) (on_duty d) scans output verdicts h k)
