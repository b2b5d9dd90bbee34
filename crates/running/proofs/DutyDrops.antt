-- The verdicts of a run on duty, by the rules alone: a scan is dropped where some rule drops it, and each rule then stands by its spell with what the run
-- kept before.
use Prim.Native.Nat.{ℕ, ◌<◌}
use native.Mathlib.Omega.{arith}
use lib.ListN.{get_or, take, drop, take-append-drop}
use Rattle.reading.specs.Rule.{Bytes}
use Rattle.reading.specs.File.{accepted}
use Rattle.reading.proofs.Basics.AllLaws.{all_front}
use Rattle.reading.proofs.Basics.ByteLaws.{byte_at}
use Rattle.synthesis.specs.Monitor.{ended}
use Rattle.synthesis.proofs.Monitors.Verdicts.{verdicts_take, dropped_at}
use Rattle.running.specs.Running.{run_by}
use Rattle.running.specs.Duty.{together, on_duty}
use Rattle.running.specs.Spells.{DutyCall, Desk}
use Rattle.running.specs.SpellPromises.{DropsBySpells}
use Rattle.running.proofs.WithVerdicts.{kept_with}
use Rattle.running.proofs.TogetherLaws.{together_drops}
use Rattle.running.proofs.Alongside.{Along, along_some}
use Rattle.running.proofs.Standing.{Stands, Lent, stands_drops, run_stands}

pub run_drops_by_spells : {limit mark : ℕ} (desk : Desk) (call : DutyCall) → Bytes call.scans
    → Along (λ d s. Stands limit mark d s × Lent call.tables s) (on_duty desk.duty) desk.spells
    → DropsBySpells desk call (accepted (run_by (together mark call.tables) (on_duty desk.duty) call.scans))
run_drops_by_spells {limit} {mark} desk call bytes h i b =
    let T = together mark call.tables in
    let ds = on_duty desk.duty in
    let w = call.scans in
    let front = take i w in
    let before : Bytes front = all_front (λ b. b < 256) front (drop i w) (rw take-append-drop bytes) in
    let verdict = dropped_at T ds w i b in
    let some = together_drops mark call.tables (get_or w i 0) (ended T ds front) in
    let stands = run_stands call.tables h front before in
    let violated = along_some (λ d s r. stands_drops r.0 call.tables r.1 (get_or w i 0) (byte_at w bytes i)) stands in
    rw (verdicts_take T ds w i (omega arith), ← kept_with T ds front)
    (λ e. violated.0 (some.0 (verdict.0 e)), λ v. verdict.1 (some.1 (violated.1 v)))
