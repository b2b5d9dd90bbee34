-- When a run is refused, and with which number: the test for room and that of the table hold exactly of what the promise says, and each way of a run
-- has its own number.
use Prim.Native.Nat.{ℕ, ◌≤◌, ◌<◌}
use mathlib.Core.Path.{◌≡◌, refl, sym, ◌∙◌, ap}
use mathlib.Core.Logic.{◌⊎◌, inl, inr}
use mathlib.Core.Bool.{Bool, true, false, true≢false, and-eq-true_iff}
use mathlib.Core.List.{List}
use native.Mathlib.Omega.{arith}
use lib.Dec.{leb}
use lib.ListN.{length}
use borrow.Author.Tests.{leb-true, leb-false, le-leb, lt-leb}
use Rattle.reading.specs.File.{refused}
use Rattle.synthesis.specs.Table.{WellFormedTable}
use Rattle.running.specs.Running.{has_room, fits, run_of, checked_of}
use Rattle.running.specs.Promises.{RunsOnTables}
use Rattle.running.proofs.RunCases.{run_short, run_unfit, run_fit, run_cases}
use Rattle.running.proofs.Tables.{fits_well_formed, well_formed_fits, answer_in-is, ends_inside}

-- ---- room for the scans

module _ (scans : List ℕ) (output verdicts : ℕ) where
  pub lengths_has_room : length scans ≤ output → length scans ≤ verdicts → has_room scans output verdicts ≡ true
  lengths_has_room h k = rw (le-leb (length scans) output h, le-leb (length scans) verdicts k)

  pub has_room-lengths : has_room scans output verdicts ≡ true → (length scans ≤ output) × (length scans ≤ verdicts)
  has_room-lengths e =
      let both = (and-eq-true_iff (leb (length scans) output) (leb (length scans) verdicts)).0 e in
      (leb-true (length scans) output both.0, leb-true (length scans) verdicts both.1)

  pub no_room_short : has_room scans output verdicts ≡ false → (output < length scans) ⊎ (verdicts < length scans)
  no_room_short e = on (leb (length scans) output) refl
    where
      on : (b : Bool) → leb (length scans) output ≡ b → (output < length scans) ⊎ (verdicts < length scans)
      on true q = inr (leb-false (length scans) verdicts (rw q at e))
      on false q = inl (leb-false (length scans) output q)

  pub short_no_room : (output < length scans) ⊎ (verdicts < length scans) → has_room scans output verdicts ≡ false
  short_no_room (inl h) = rw (lt-leb (length scans) output h)
  short_no_room (inr h) = on (leb (length scans) output) refl
    where
      on : (b : Bool) → leb (length scans) output ≡ b → has_room scans output verdicts ≡ false
      on true q = rw q (lt-leb (length scans) verdicts h)
      on false q = rw q

-- ---- the promise

pub runs_on_tables : RunsOnTables
runs_on_tables limit mark table count s scans output verdicts = record {
  short = (refused_15_short, λ h. ap checked_of (run_short limit mark table count s scans output verdicts (short_no_room scans output verdicts h)));
  unfit = (refused_16_unfit, λ h. ap checked_of (unfit_refused h.0 h.1 h.2 (fits limit mark table count s) refl));
  follows = λ h k wf i.
      run_fit limit mark table count s scans output verdicts (lengths_has_room scans output verdicts h k) (well_formed_fits limit mark table count s wf i);
  entries = λ wf i c b. answer_in-is limit mark count table wf s c i b;
  ends = λ wf i. ends_inside limit mark count table wf s scans i;
}
  where
    refused_15_short : checked_of (run_of limit mark table count s scans output verdicts) ≡ refused 15 0 → (output < length scans) ⊎ (verdicts < length scans)
    refused_15_short =
        run_cases limit mark table count s scans output verdicts
        (λ o. checked_of o ≡ refused 15 0 → (output < length scans) ⊎ (verdicts < length scans))
        (λ r e. no_room_short scans output verdicts r)
        (λ r f e. let z : ◌≡◌ {A = ℕ} 16 15 = cc in absurd (omega arith))
        (λ r f e. let z : ◌≡◌ {A = ℕ} 0 1 = cc in absurd (omega arith))

    refused_16_unfit : checked_of (run_of limit mark table count s scans output verdicts) ≡ refused 16 0
        → (length scans ≤ output) × (length scans ≤ verdicts) × (WellFormedTable limit mark count table × (s.equation < count) → ⊥)
    refused_16_unfit =
        run_cases limit mark table count s scans output verdicts
        (λ o. checked_of o ≡ refused 16 0
        → (length scans ≤ output) × (length scans ≤ verdicts) × (WellFormedTable limit mark count table × (s.equation < count) → ⊥))
        (λ r e. let z : ◌≡◌ {A = ℕ} 15 16 = cc in absurd (omega arith))
        (λ r f e. let room = has_room-lengths scans output verdicts r in
        (room.0, room.1, λ h. true≢false (sym (well_formed_fits limit mark table count s h.0 h.1) ∙ f)))
        (λ r f e. let z : ◌≡◌ {A = ℕ} 0 1 = cc in absurd (omega arith))

    unfit_refused : length scans ≤ output → length scans ≤ verdicts → (WellFormedTable limit mark count table × (s.equation < count) → ⊥)
        → (b : Bool) → fits limit mark table count s ≡ b → run_of limit mark table count s scans output verdicts ≡ refused 16 0
    unfit_refused h k n true q = absurd (n (fits_well_formed limit mark table count s q))
    unfit_refused h k n false q = run_unfit limit mark table count s scans output verdicts (lengths_has_room scans output verdicts h k) q
