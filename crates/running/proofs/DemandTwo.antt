-- Demand 2: over any number of calls, a scan is dropped exactly where it would make what was kept violate the rule. All calls on the table are one
-- run, and the table monitors the rule.
use Prim.Native.Nat.{ℕ, ◌<◌}
use mathlib.Core.Path.{◌≡◌, refl}
use mathlib.Core.Logic.{◌↔◌, ◌⊎◌, inl}
use mathlib.Core.List.{List, [], ◌∷◌, ◌++◌}
use native.Mathlib.Omega.{arith}
use lib.ListN.{length, get_or, take}
use lib.Seq.{length-take-le, get_or-take}
use Rattle.reading.specs.Rule.{Rule, Bytes}
use Rattle.reading.proofs.Basics.AllLaws.{all-get_or, all_of}
use Rattle.reading.proofs.Basics.ByteLaws.{byte_at}
use Rattle.synthesis.specs.Violation.{ViolatesRule}
use Rattle.synthesis.specs.Monitor.{Answer, verdicts, Monitors, lookup}
use Rattle.synthesis.proofs.Monitors.Runs.{verdicts_length}
use Rattle.synthesis.proofs.Monitors.Verdicts.{verdicts_range, verdicts_take, dropped_at}
use Rattle.synthesis.proofs.Monitors.MonitorLaws.{drops_violations, kept_safe}
use Rattle.synthesis.proofs.Monitors.Renaming.{Renames, renamed_monitors}
use Rattle.synthesis.proofs.Tables.Built.{table_monitors, built_well_formed}
use Rattle.synthesis.proofs.Quotients.ShortFillings.{short_monitors, short_in_range}
use Rattle.running.specs.Running.{start, moved, answer_in}
use Rattle.running.specs.Calls.{History, with_verdict}
use Rattle.running.specs.Promises.{Sifted, DropsExactly, ShortDropsExactly, MonitorsSift}
use Rattle.running.proofs.WithVerdicts.{kept_with}
use Rattle.running.proofs.Histories.{OneRun, one_run}

-- ---- any monitor

module _ {E : Type 0} (r : Rule) (answer : E → ℕ → Answer E) (first : E) (monitors : Monitors r answer first) (w : List ℕ) (bytes : Bytes w) where
  -- the scan at place i
  run_drops : (i : ℕ) → i < length w
      → (get_or (verdicts answer first w) i 0 ≡ 1)
      ↔ ViolatesRule r (with_verdict 0 (take i (verdicts answer first w)) (take i w) ++ (get_or w i 0 ∷ []))
  run_drops i h =
      let front = take i w in
      let c = get_or w i 0 in
      let long : length front ≡ i = length-take-le i w (omega arith) in
      let before : Bytes front = all_of (λ b. b < 256) front 0 (λ j b. rw (get_or-take i w j 0 (omega arith)) (byte_at w bytes j)) in
      let drops = drops_violations r answer first monitors front c before (byte_at w bytes i) in
      let verdict = dropped_at answer first w i h in
      rw (verdicts_take answer first w i (omega arith), ← kept_with answer first front) (λ e. drops.0 (verdict.0 e), λ v. verdict.1 (drops.1 v))

-- ---- a table

-- the states of a run are the equations under a new name
pub state_renames : (mark : ℕ) (table : List ℕ) → Renames 256 (λ e. Unit) (lookup 256 mark table) (answer_in mark table) (moved start)
state_renames mark table = record { invariant = λ e e' c ok b q. tt; drops = λ e c ok b q. rw q; follows = λ e e' c ok b q. rw q }

answer_in-monitors : (r : Rule) (mark : ℕ) (table : List ℕ) → Monitors r (lookup 256 mark table) 0 → Monitors r (answer_in mark table) start
answer_in-monitors r mark table =
    renamed_monitors r (λ e. Unit) (lookup 256 mark table) (answer_in mark table) (moved start) (state_renames mark table) 0 tt

sifted : (r : Rule) (mark : ℕ) (table : List ℕ) (count : ℕ) (h : History)
    → Monitors r (answer_in mark table) start → OneRun mark table count h → Sifted r h
sifted r mark table count h monitors run =
    let F = answer_in mark table in
    let w = h.scans in
    record {
      one_each = rw run.verdicts (verdicts_length F start w);
      kept_or_dropped = λ i b. rw run.verdicts (all-get_or (λ v. (v ≡ 0) ⊎ (v ≡ 1)) (verdicts F start w) i 0 (verdicts_range F start w) (inl refl));
      kept = rw (run.verdicts, run.kept) (kept_with F start w);
      drops = λ i b. rw run.verdicts (run_drops r F start monitors w run.bytes i b);
      safe = rw run.kept (kept_safe r F start monitors w run.bytes);
    }

pub monitors_sift : MonitorsSift
monitors_sift limit mark r n table wf monitors h calls =
    sifted r mark table n h (answer_in-monitors r mark table monitors) (one_run limit mark n table wf h calls)

pub drops_exactly : DropsExactly
drops_exactly limit mark s table r n left b =
    monitors_sift limit mark r n left (built_well_formed limit mark s table r n left b) (table_monitors limit mark s table r n left b)

pub short_drops_exactly : ShortDropsExactly
short_drops_exactly limit mark s table r n left b =
    monitors_sift limit mark r n left (short_in_range limit mark s table r n left b) (short_monitors limit mark s table r n left b)
