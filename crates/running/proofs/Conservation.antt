-- No scan is lost: of each code, a run's scans are those that it keeps and those that it drops, by induction on the run and then on the calls.
use Prim.Native.Nat.{ℕ, suc, ◌+◌}
use mathlib.Core.Path.{◌≡◌, refl, ap}
use mathlib.Core.List.{List, [], ◌∷◌}
use native.Mathlib.Omega.{arith}
use lib.ListN.{length, length-append}
use Rattle.reading.specs.File.{accepted, refused}
use Rattle.synthesis.specs.Monitor.{Answer, kept, verdicts}
use Rattle.synthesis.proofs.Monitors.Runs.{run_induction, verdicts_length}
use Rattle.running.specs.Running.{answer_in, run_by, occurrences, result_of}
use Rattle.running.specs.Calls.{Call, History, with_verdict}
use Rattle.running.specs.Promises.{Conserved, Conserves, CallsConserve}
use Rattle.running.proofs.Counting.{kept_dropped}
use Rattle.running.proofs.WithVerdicts.{occurrences_append, with_append}
use Rattle.running.proofs.RunCases.{run_cases}
use Rattle.running.proofs.Histories.{with_run, calls_induction}

-- ---- any monitor

-- of each code, the scans are those kept and those with verdict 1
abbrev Splits : (scans kept verdicts : List ℕ) → Type 0
Splits scans kept verdicts = (x : ℕ) → occurrences x scans ≡ occurrences x kept + occurrences x (with_verdict 1 verdicts scans)

module _ {E : Type 0} (answer : E → ℕ → Answer E) where
  run_splits : (e : E) (w : List ℕ) → Splits w (kept answer e w) (verdicts answer e w)
  unfolding with_verdict
  run_splits =
      run_induction answer (λ e w. Splits w (kept answer e w) (verdicts answer e w))
      (λ e x. unfold occurrences in refl)
      (λ e c w q h x. rw q
      (omega (arith, h x, occurrences_append x (c ∷ []) w, occurrences_append x (c ∷ []) (with_verdict 1 (verdicts answer e w) w))))
      (λ e e' c w q h x. rw q (omega (arith, h x, occurrences_append x (c ∷ []) w, occurrences_append x (c ∷ []) (kept answer e' w))))

  kept_zeros : (e : E) (w : List ℕ) → length (kept answer e w) ≡ occurrences 0 (verdicts answer e w)
  unfolding occurrences
  kept_zeros =
      run_induction answer (λ e w. length (kept answer e w) ≡ occurrences 0 (verdicts answer e w)) (λ e. refl)
      (λ e c w q h. rw q h) (λ e e' c w q h. rw q (ap suc h))

-- ---- a call

-- any monitor's run
pub run_conserved : {E : Type 0} (answer : E → ℕ → Answer E) (e : E) (scans : List ℕ)
    → Conserved scans (accepted (run_by answer e scans)) (length (kept answer e scans)) (occurrences 1 (verdicts answer e scans))
run_conserved answer e scans = record {
  codes = run_splits answer e scans;
  one_each = verdicts_length answer e scans;
  kept = (refl, kept_zeros answer e scans);
  dropped = refl;
  all = kept_dropped answer e scans;
}

-- a refusal
pub refused_conserved : {E : Type 0} (scans : List ℕ) (number place : ℕ) → Conserved {S = E} scans (refused number place) 0 0
unfolding occurrences with_verdict
refused_conserved scans number place = record { codes = λ c. refl; one_each = refl; kept = (refl, refl); dropped = refl; all = refl }

pub conserves : Conserves
conserves limit mark table count s scans output verdicts =
    run_cases limit mark table count s scans output verdicts (λ o. Conserved scans o (result_of s o).kept (result_of s o).dropped)
    (λ r. refused_conserved scans 15 0) (λ r f. refused_conserved scans 16 0)
    (λ r f. run_conserved (answer_in mark table) s scans)

-- ---- any number of calls

record Conserving (h : History) : Type 0 where
  one_each : length h.verdicts ≡ length h.scans
  splits : Splits h.scans h.kept h.verdicts

conserving_next : (mark : ℕ) (h : History) (c : Call) → Conserving h → Conserving (with_run mark h c)
conserving_next mark h c before =
    let F = answer_in mark c.table in
    let w = c.scans in
    let k = kept F h.state w in
    let v = verdicts F h.state w in
    record {
      one_each = simp length-append (omega (arith, before.one_each, verdicts_length F h.state w));
      splits = λ x.
          rw (
            with_append 1 h.verdicts h.scans v w before.one_each,
            occurrences_append x h.scans w,
            occurrences_append x h.kept k,
            occurrences_append x (with_verdict 1 h.verdicts h.scans) (with_verdict 1 v w),
          )
          (omega (arith, before.splits x, run_splits F h.state w x));
    }

pub calls_conserve : CallsConserve
calls_conserve limit mark h calls =
    (calls_induction limit mark (λ h c. Unit) Conserving (unfold occurrences with_verdict in record { one_each = refl; splits = λ x. refl })
    (λ h c before bytes may e. conserving_next mark h c before) h calls).splits
