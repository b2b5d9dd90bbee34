-- The three ways of a run on duty, each with its number: the tests hold exactly of what the promise says. The rules that it leaves are fit again,
-- since each stays so.
use Prim.Native.Nat.{ℕ, ◌≤◌, ◌<◌}
use mathlib.Core.Path.{◌≡◌, refl, ◌∙◌, ap}
use mathlib.Core.Logic.{◌⊎◌, ⊎_elim}
use mathlib.Core.List.{List}
use native.Mathlib.Omega.{arith}
use lib.ListN.{length, drop}
use lib.Seq.{get_or-drop}
use Rattle.reading.specs.File.{Outcome, accepted, refused}
use Rattle.synthesis.specs.Monitor.{ended}
use Rattle.synthesis.proofs.Tables.Rows.{row_at}
use Rattle.synthesis.proofs.Tables.WellFormedTables.{well_formed_row}
use Rattle.running.specs.Lists.{all}
use Rattle.running.specs.Running.{RunOver, run_by, checked_of}
use Rattle.running.specs.Duty.{on_duty, duty_of, moved_to, together, fits_at, duty_run_of}
use Rattle.running.specs.DutyPromises.{rule_in, FitRule, FitDuty, RunsOnDuty}
use Rattle.running.specs.declared.OnDuty.{OnDuty}
use Rattle.running.specs.declared.Duty.{Duty}
use Rattle.running.proofs.DutyCases.{duty_run_cases}
use Rattle.running.proofs.Refusals.{has_room-lengths, no_room_short}
use Rattle.running.proofs.SoundStates.{fails, duty_of-rules, duty_of-at, rest_vacant, duty_length, duty_at, listed, sound, unsound, fit_rules}
use Rattle.running.proofs.TogetherRuns.{rules_stay}

-- ---- the three ways

module _ (scans : List ℕ) (output verdicts : ℕ) where
  abbrev pub Short : Type 0
  Short = (output < length scans) ⊎ (verdicts < length scans)

  pub no_short : length scans ≤ output → length scans ≤ verdicts → Short → ⊥
  no_short h k = ⊎_elim (λ short. omega arith) (λ short. omega arith)

module _ (limit mark : ℕ) (tables : List ℕ) (d : Duty) (scans : List ℕ) (output verdicts : ℕ) where
  -- what holds in each way, holds of the outcome
  pub duty_run_ways : (P : Outcome (RunOver (List OnDuty)) → Type 0) → (Short scans output verdicts → P (refused 15 0))
      → (length scans ≤ output → length scans ≤ verdicts → (FitDuty limit mark tables d → ⊥) → P (refused 16 0))
      → (length scans ≤ output → length scans ≤ verdicts → FitDuty limit mark tables d → P (accepted (run_by (together mark tables) (on_duty d) scans)))
      → P (duty_run_of limit mark tables d scans output verdicts)
  duty_run_ways P short unfit fit =
      let room = has_room-lengths scans output verdicts in
      let rules = fit_rules limit mark tables d in
      duty_run_cases limit mark tables d scans output verdicts P (λ r. short (no_room_short scans output verdicts r))
      (λ r s. unfit (room r).0 (room r).1 (λ is. (unsound d).0 s is.sound))
      (λ r s t. unfit (room r).0 (room r).1 (λ is. (fails (all (fits_at limit mark tables) (on_duty d)) rules).0 t is.rules))
      (λ r s t. fit (room r).0 (room r).1 (record { sound = (sound d).0 s; rules = rules.0 t }))

  pub duty_run_fit : length scans ≤ output → length scans ≤ verdicts → FitDuty limit mark tables d
      → duty_run_of limit mark tables d scans output verdicts ≡ accepted (run_by (together mark tables) (on_duty d) scans)
  duty_run_fit h k is =
      duty_run_ways (λ o. o ≡ accepted (run_by (together mark tables) (on_duty d) scans)) (λ short. absurd (no_short scans output verdicts h k short))
      (λ h k n. absurd (n is)) (λ h k is. refl)

  pub duty_run_unfit : length scans ≤ output → length scans ≤ verdicts → (FitDuty limit mark tables d → ⊥)
      → duty_run_of limit mark tables d scans output verdicts ≡ refused 16 0
  duty_run_unfit h k n =
      duty_run_ways (λ o. o ≡ refused 16 0) (λ short. absurd (no_short scans output verdicts h k short)) (λ h k n. refl) (λ h k is. absurd (n is))

  duty_run_short : Short scans output verdicts → duty_run_of limit mark tables d scans output verdicts ≡ refused 15 0
  duty_run_short short =
      duty_run_ways (λ o. o ≡ refused 15 0) (λ short. refl) (λ h k n. absurd (no_short scans output verdicts h k short))
      (λ h k is. absurd (no_short scans output verdicts h k short))

-- ---- the rules that a run leaves

module _ (limit mark : ℕ) (tables : List ℕ) (d : Duty) (scans : List ℕ) where
  abbrev left : List OnDuty
  left = ended (together mark tables) (on_duty d) scans

  left_length : length left ≡ d.count
  left_length = (rules_stay limit mark tables (on_duty d) scans).same_length ∙ duty_length d

  -- each in its place
  left_at : (i : ℕ) → i < d.count
      → (e : ℕ)
      × (rule_in (duty_of left) i ≡ moved_to (rule_in d i) e)
      × (FitRule limit mark tables (rule_in d i) → FitRule limit mark tables (rule_in (duty_of left) i))
  left_at i h = rw (duty_of-at left i, ← duty_at d i h) ((rules_stay limit mark tables (on_duty d) scans).each i ((listed d i).1 h))

  pub fit_after : FitDuty limit mark tables d → FitDuty limit mark tables (duty_of left)
  fit_after is = record {
    sound = record {
      few = omega (arith, is.sound.few, left_length);
      distinct = λ i j h k same.
          let h' : i < d.count = omega (arith, left_length) in
          let k' : j < d.count = omega (arith, left_length) in
          is.sound.distinct i j h' k' (rw ((left_at i h').1, (left_at j k').1) at same);
    };
    rules = λ i h. let h' : i < d.count = omega (arith, left_length) in (left_at i h').2 (is.rules i h');
  }

-- ---- the promise

pub runs : (limit mark : ℕ) (tables : List ℕ) (d : Duty) (scans : List ℕ) (output verdicts : ℕ)
    → RunsOnDuty limit mark tables d scans output verdicts
runs limit mark tables d scans output verdicts = record {
  short = (
    duty_run_ways limit mark tables d scans output verdicts (λ o. checked_of o ≡ refused 15 0 → Short scans output verdicts)
        (λ short e. short) (λ h k n e. let z : ◌≡◌ {A = ℕ} 16 15 = cc in absurd (omega arith))
        (λ h k is e. let z : ◌≡◌ {A = ℕ} 0 1 = cc in absurd (omega arith)),
    λ short. ap checked_of (duty_run_short limit mark tables d scans output verdicts short),
  );
  unfit = (
    duty_run_ways limit mark tables d scans output verdicts
        (λ o. checked_of o ≡ refused 16 0 → (length scans ≤ output) × (length scans ≤ verdicts) × (FitDuty limit mark tables d → ⊥))
        (λ short e. let z : ◌≡◌ {A = ℕ} 15 16 = cc in absurd (omega arith)) (λ h k n e. (h, k, n))
        (λ h k is e. let z : ◌≡◌ {A = ℕ} 0 1 = cc in absurd (omega arith)),
    λ (h, k, n). ap checked_of (duty_run_unfit limit mark tables d scans output verdicts h k n),
  );
  follows = duty_run_fit limit mark tables d scans output verdicts;
  rules = (duty_length d, duty_at d);
  entries = λ x fit c b.
      let table = drop x.base tables in
      rw (row_at table x.equation c mark (well_formed_row fit.table x.equation fit.equation) b, get_or-drop);
  ends = λ h k is. rw (duty_run_fit limit mark tables d scans output verdicts h k is)
      let few = is.sound.few in
      let same = left_length limit mark tables d scans in (
        duty_of-rules (left limit mark tables d scans),
        same,
        rest_vacant (left limit mark tables d scans) (omega arith),
        λ i h. let at = left_at limit mark tables d scans i h in (at.2 (is.rules i h), (at.0, at.1)),
      );
}
