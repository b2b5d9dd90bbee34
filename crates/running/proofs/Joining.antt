-- Two calls do what one call on both lists of scans does: the second run goes on in the state in which the first ended, which fits the table too.
use Prim.Native.Nat.{ℕ, ◌+◌}
use mathlib.Core.Path.{◌≡◌, refl, ap, ◌∙◌}
use mathlib.Core.Bool.{Bool, true, false}
use mathlib.Core.List.{List, ◌++◌}
use lib.ListN.{length, length-append}
use Rattle.reading.specs.File.{accepted}
use Rattle.synthesis.specs.Monitor.{Answer, kept, verdicts, ended}
use Rattle.synthesis.proofs.Monitors.Runs.{kept_append, verdicts_append, ended_append}
use Rattle.running.specs.Running.{answer_in, fits, run_from, run_of, occurrences, result_of}
use Rattle.running.specs.Promises.{Together, TwoCalls}
use Rattle.running.specs.declared.State.{State}
use Rattle.running.proofs.WithVerdicts.{occurrences_append}
use Rattle.running.proofs.RunCases.{run_unfit, run_fit}
use Rattle.running.proofs.Tables.{fits_well_formed, well_formed_fits, ends_inside}

-- two runs of any monitor, the second from where the first ended
pub record Joined {E : Type 0} (answer : E → ℕ → Answer E) (e : E) (v w : List ℕ) : Type 0 where
  pub ends : ended answer e (v ++ w) ≡ ended answer (ended answer e v) w
  pub keeps : kept answer e (v ++ w) ≡ kept answer e v ++ kept answer (ended answer e v) w
  pub judges : verdicts answer e (v ++ w) ≡ verdicts answer e v ++ verdicts answer (ended answer e v) w
  pub keeps_count : length (kept answer e (v ++ w)) ≡ length (kept answer e v) + length (kept answer (ended answer e v) w)
  pub drops_count : occurrences 1 (verdicts answer e (v ++ w))
      ≡ occurrences 1 (verdicts answer e v) + occurrences 1 (verdicts answer (ended answer e v) w)

pub joined_runs : {E : Type 0} (answer : E → ℕ → Answer E) (e : E) (v w : List ℕ) → Joined answer e v w
joined_runs answer e v w =
    let e' = ended answer e v in
    record {
      ends = ended_append answer e v w;
      keeps = kept_append answer e v w;
      judges = verdicts_append answer e v w;
      keeps_count = ap length (kept_append answer e v w) ∙ length-append (kept answer e v) (kept answer e' w);
      drops_count = ap (occurrences 1) (verdicts_append answer e v w) ∙ occurrences_append 1 (verdicts answer e v) (verdicts answer e' w);
    }

run_from-together : (mark : ℕ) (table : List ℕ) (s : State) (v w : List ℕ)
    → Together s (accepted (run_from mark table s v)) (accepted (run_from mark table (ended (answer_in mark table) s v) w))
    (accepted (run_from mark table s (v ++ w)))
run_from-together mark table s v w =
    let both = joined_runs (answer_in mark table) s v w in
    record { checked = refl; handed_back_lem = rw (both.ends, both.keeps_count, both.drops_count); kept = both.keeps; verdicts = both.judges }

pub two_calls : TwoCalls
two_calls limit mark table count s v w o₁ v₁ o₂ v₂ o₃ v₃ r₁ r₂ r₃ = on (fits limit mark table count s) refl
  where
    on : (b : Bool) → fits limit mark table count s ≡ b
        → let one = run_of limit mark table count s v o₁ v₁ in
        Together s one (run_of limit mark table count (result_of s one).state w o₂ v₂) (run_of limit mark table count s (v ++ w) o₃ v₃)
    on true f =
        let well = fits_well_formed limit mark table count s f in
        let e = ended (answer_in mark table) s v in
        let f' = well_formed_fits limit mark table count e well.0 (ends_inside limit mark count table well.0 s v well.1) in
        rw (
          run_fit limit mark table count s v o₁ v₁ r₁ f,
          run_fit limit mark table count e w o₂ v₂ r₂ f',
          run_fit limit mark table count s (v ++ w) o₃ v₃ r₃ f,
        )
        (run_from-together mark table s v w)
    on false f =
        rw (
          run_unfit limit mark table count s v o₁ v₁ r₁ f,
          run_unfit limit mark table count s w o₂ v₂ r₂ f,
          run_unfit limit mark table count s (v ++ w) o₃ v₃ r₃ f,
        )
        (record { checked = refl; handed_back_lem = refl; kept = refl; verdicts = refl })
