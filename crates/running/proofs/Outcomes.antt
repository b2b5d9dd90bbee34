-- What a run that isn't refused has passed, by its checks one after the other.
use Prim.Native.Nat.{ℕ, ◌≤◌, ◌<◌}
use mathlib.Core.Path.{◌≡◌, refl, sym, ◌∙◌}
use mathlib.Core.Bool.{not}
use mathlib.Core.List.{List}
use native.Mathlib.Omega.{arith}
use borrow.Author.Tests.{not-false}
use lib.ListN.{length}
use Rattle.reading.specs.File.{Outcome, accepted, refused}
use Rattle.reading.proofs.Basics.Outcomes.{refuse_accepted}
use Rattle.running.specs.Running.{fits, has_room, run_from, run_of, checked_of}
use Rattle.running.specs.declared.State.{State}
use Rattle.running.proofs.Tables.{fits_well_formed}
use Rattle.running.proofs.Refusals.{has_room-lengths}

fit_accepted : {A : Type 0} (o : Outcome A) {checked : Outcome Unit} → checked ≡ checked_of o → checked ≡ (accepted tt) → (y : A) × (o ≡ accepted y)
fit_accepted (accepted y) e f = (y, refl)
fit_accepted (refused number place) e f = let z : ◌≡◌ {A = ℕ} 0 1 = cc in absurd (omega arith)

module _ (limit mark : ℕ) (table : List ℕ) (count : ℕ) (s : State) (scans : List ℕ) (output verdicts : ℕ) where
  pub record Passed : Type 0 where
    pub output_room : length scans ≤ output
    pub verdicts_room : length scans ≤ verdicts
    pub below : s.equation < limit
    pub is : run_of limit mark table count s scans output verdicts ≡ accepted (run_from mark table s scans)

  pub passed : {checked : Outcome Unit} → checked ≡ checked_of (run_of limit mark table count s scans output verdicts) → checked ≡ accepted tt → Passed
  unfolding run_of
  passed e f =
      let accepted-so = (fit_accepted (run_of limit mark table count s scans output verdicts) e f).1 in
      let (short, rest) = refuse_accepted (not (has_room scans output verdicts)) 15 0 _ accepted-so in
      let (unfit, same) = refuse_accepted (not (fits limit mark table count s)) 16 0 _ rest in
      let room = has_room-lengths scans output verdicts (not-false _ short) in
      let well = fits_well_formed limit mark table count s (not-false _ unfit) in
      record {
        output_room = room.0;
        verdicts_room = room.1;
        below = omega (arith, well.0.few, well.1);
        is = accepted-so ∙ sym same;
      }
