-- What a run leaves in its buffers: all as it was where it is refused, since nothing is laid over them, and else all but the fronts that are
-- laid over them.
use Prim.Native.Nat.{ℕ, ◌≤◌}
use mathlib.Core.Path.{◌≡◌, refl}
use mathlib.Core.Logic.{◌⊎◌, inl}
use mathlib.Core.List.{List}
use native.Mathlib.Omega.{arith}
use lib.ListN.{length, drop, length-append, length-drop}
use lib.Seq.{take-append_seam, drop-append_seam}
use Rattle.reading.specs.File.{accepted, refused}
use Rattle.reading.proofs.Basics.AllLaws.{all-get_or}
use Rattle.synthesis.specs.Monitor.{Answer, kept, verdicts}
use Rattle.synthesis.proofs.Monitors.Runs.{verdicts_length}
use Rattle.synthesis.proofs.Monitors.Verdicts.{verdicts_range}
use Rattle.running.specs.Running.{answer_in, run_by, result_of, overlay}
use Rattle.running.specs.Promises.{RunUnchanged, RefusedUnchanged, OnlyFront, Fronts, OnlyFronts, RestUnchanged}
use Rattle.running.proofs.Counting.{kept_dropped}
use Rattle.running.proofs.WithVerdicts.{kept_with}
use Rattle.running.proofs.RunCases.{run_cases}
use Rattle.running.proofs.Refusals.{has_room-lengths}

-- ---- a refused run

pub refused_unchanged : RefusedUnchanged
refused_unchanged limit mark s c number place =
    run_cases limit mark c.table c.count s c.scans (length c.output) (length c.verdicts)
    (λ o. (result_of s o).checked ≡ refused number place → RunUnchanged s c o)
    (λ r e. record { handed_back_lem = refl; output = refl; verdicts = refl })
    (λ r f e. record { handed_back_lem = refl; output = refl; verdicts = refl })
    (λ r f e. let z : ◌≡◌ {A = ℕ} 0 1 = cc in absurd (omega arith))

-- ---- any other

overlay_front : (front buffer : List ℕ) → length front ≤ length buffer → OnlyFront front buffer (overlay front buffer)
overlay_front front buffer h = record {
  same_length = simp (length-append, length-drop) (omega arith);
  front_is = take-append_seam front (drop (length front) buffer);
  rest = drop-append_seam front (drop (length front) buffer);
}

-- any monitor's run
pub run_fronts : {E : Type 0} (answer : E → ℕ → Answer E) (e : E) (scans output judged : List ℕ) → length scans ≤ length output
    → length scans ≤ length judged → Fronts scans output judged (accepted (run_by answer e scans)) (length (kept answer e scans))
run_fronts answer e scans output judged ro rv =
    let all = kept_dropped answer e scans in
    let each = verdicts_length answer e scans in
    record {
      one_each = each;
      zero_or_one = λ i h. all-get_or (λ x. (x ≡ 0) ⊎ (x ≡ 1)) (verdicts answer e scans) i 0 (verdicts_range answer e scans) (inl refl);
      kept_are = kept_with answer e scans;
      kept_count = refl;
      output = overlay_front _ output (omega arith);
      verdicts = overlay_front _ judged (omega arith);
    }

pub rest_unchanged : RestUnchanged
rest_unchanged limit mark s c =
    run_cases limit mark c.table c.count s c.scans (length c.output) (length c.verdicts)
    (λ o. (result_of s o).checked ≡ accepted tt → OnlyFronts s c o)
    (λ r e. let z : ◌≡◌ {A = ℕ} 0 1 = cc in absurd (omega arith))
    (λ r f e. let z : ◌≡◌ {A = ℕ} 0 1 = cc in absurd (omega arith))
    (λ r f e. let room = has_room-lengths c.scans (length c.output) (length c.verdicts) r in
    run_fronts (answer_in mark c.table) s c.scans c.output c.verdicts room.0 room.1)
