-- Each rule on duty stands by its spell after events that are orderly or refused: a run over lent rows leaves it so, and who comes on begins so. So no run
-- is unfit, and the scans of a spell don't violate its rule, also when it is over.
use Prim.Native.Nat.{ℕ}
use mathlib.Core.Path.{◌≡◌, refl, sym}
use mathlib.Core.Logic.{inr}
use mathlib.Core.List.{List}
use native.Mathlib.Omega.{arith}
use lib.Dec.{eqb}
use lib.ListN.{length}
use Rattle.reading.specs.Rule.{All, Bytes}
use Rattle.reading.proofs.Basics.AllLaws.{all_append}
use Rattle.synthesis.specs.Violation.{ViolatesRule}
use Rattle.synthesis.specs.Monitor.{ended, lookup}
use Rattle.running.specs.Duty.{on_duty, fits_at, duty_ran_of}
use Rattle.running.specs.Spells.{DutyCall, Event, Spell, Desk, new_desk, after, LendsRows, OrderlyOrRefused}
use Rattle.running.specs.DutyPromises.{FitDuty}
use Rattle.running.specs.SpellPromises.{OrderlyDay, StandsBySpell, DropsBySpells, DutyDropsExactly, OnDutyNeverUnfit, SpellsSafe}
use Rattle.running.proofs.ListTests.{all_passes, filter_keeps}
use Rattle.running.proofs.SoundStates.{fit_rules}
use Rattle.running.proofs.DutyRuns.{duty_run_ways}
use Rattle.running.proofs.Alongside.{Along, along_left, along_right, along_same, along_with}
use Rattle.running.proofs.Standing.{Stands, Lent, stands_first, stands_safe, stands_fit, run_stands}
use Rattle.running.proofs.DutyDrops.{run_drops_by_spells}
use Rattle.running.proofs.Days.{ran_on, Kept, kept_after, fit_not_refused}
use Rattle.running.proofs.DutyDays.{AtDesk, nobody_at, ran_at, came_at, went_at, served}
use Rattle.reading.specs.File.{accepted, refused}

-- the scans kept in a spell don't violate its rule
abbrev pub Safe : Spell → Type 0
Safe s = ViolatesRule s.rule s.kept → ⊥

pub record Standing (limit mark : ℕ) (desk : Desk) : Type 0 where
  pub along : AtDesk (Stands limit mark) desk
  pub over_safe : All Safe desk.over

module _ {limit mark : ℕ} where
  pub standing_safe : {desk : Desk} → Standing limit mark desk → All Safe desk.spells
  standing_safe h = along_right (λ d s r. stands_safe r) h.along

  pub run_standing : (desk : Desk) (call : DutyCall) → Standing limit mark desk → Bytes call.scans → LendsRows desk call
      → Standing limit mark (ran_on mark desk call)
  run_standing desk call h bytes lends = record {
    along = ran_at mark desk call (λ d s r. r.0) (run_stands call.tables (along_with h.along lends) call.scans bytes);
    over_safe = h.over_safe;
  }

  stays_standing : Kept limit mark (OrderlyOrRefused limit mark) (Standing limit mark)
  stays_standing = record {
    by_run = λ desk call h may fit. let (bytes, lends) = fit_not_refused fit may in run_standing desk call h bytes lends;
    by_coming = λ desk x h may fit well. record {
      along = came_at desk x (stands_first limit mark x (fit_not_refused fit may) well) h.along;
      over_safe = h.over_safe;
    };
    by_going = λ desk number h may fit. record {
      along = went_at desk number (λ d s r. r.alike.number) h.along;
      over_safe = all_append Safe desk.over _ h.over_safe (filter_keeps (λ s. eqb s.number number) Safe desk.spells (standing_safe h));
    };
  }

  pub standing_after : (es : List Event) → OrderlyDay limit mark es → Standing limit mark (after limit mark new_desk es)
  standing_after es day = kept_after stays_standing new_desk es (record { along = nobody_at; over_safe = tt }) day

-- ---- the promises

pub stands_by_spell : StandsBySpell
stands_by_spell limit mark es day =
    along_same (λ d. d.equation) (λ s. ended (lookup 256 mark s.table) 0 s.kept) (λ d s r. sym r.ends) (standing_after es day).along

pub spells_safe : (limit mark : ℕ) → SpellsSafe limit mark
spells_safe limit mark es day =
    let desk = after limit mark new_desk es in
    let h = standing_after es day in
    all_append Safe desk.spells desk.over (standing_safe h) h.over_safe

module _ (limit mark : ℕ) (es : List Event) (day : OrderlyDay limit mark es) (call : DutyCall) (lends : LendsRows (after limit mark new_desk es) call) where
  lent : Along (λ d s. Stands limit mark d s × Lent call.tables s) (on_duty (after limit mark new_desk es).duty) (after limit mark new_desk es).spells
  lent = along_with (standing_after es day).along lends

  fit_duty : FitDuty limit mark call.tables (after limit mark new_desk es).duty
  fit_duty =
      let d = (after limit mark new_desk es).duty in
      let fit = along_left (λ d s r. stands_fit r.0 call.tables r.1) lent in
      record {
        sound = (served limit mark es).state.sound;
        rules = (fit_rules limit mark call.tables d).0 ((all_passes (fits_at limit mark call.tables) (on_duty d)).1 fit);
      }

pub duty_drops_exactly : (limit mark : ℕ) → DutyDropsExactly limit mark
duty_drops_exactly limit mark es day call bytes lends =
    let desk = after limit mark new_desk es in
    duty_run_ways limit mark call.tables desk.duty call.scans (length call.output) (length call.verdicts)
    (λ o. (duty_ran_of desk.duty o).checked ≡ accepted tt → DropsBySpells desk call o)
    (λ short e. fit_not_refused e (inr (15, 0, refl)))
    (λ a b n e. absurd (n (fit_duty limit mark es day call lends)))
    (λ a b fit e. run_drops_by_spells desk call bytes (lent limit mark es day call lends))

pub on_duty-never_unfit : (limit mark : ℕ) → OnDutyNeverUnfit limit mark
on_duty-never_unfit limit mark es day call lends =
    let d = (after limit mark new_desk es).duty in
    duty_run_ways limit mark call.tables d call.scans (length call.output) (length call.verdicts)
    (λ o. (duty_ran_of d o).checked ≡ refused 16 0 → ⊥)
    (λ short e. let z : ◌≡◌ {A = ℕ} 15 16 = cc in omega arith)
    (λ a b n e. n (fit_duty limit mark es day call lends))
    (λ a b fit e. let z : ◌≡◌ {A = ℕ} 0 1 = cc in omega arith)
