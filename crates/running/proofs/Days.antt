-- What a desk has after any number of events: induction over them. A refused one changes nothing, and any other is a run of all rules, a coming or a
-- going.
use Prim.Native.Nat.{ℕ}
use mathlib.Core.Path.{◌≡◌, refl, sym, subst}
use mathlib.Core.Logic.{◌⊎◌, inl, inr}
use mathlib.Core.Bool.{true, not}
use mathlib.Core.List.{List, [], ◌∷◌, ◌++◌, append-nil, map}
use native.Mathlib.Omega.{arith}
use lib.Dec.{eqb}
use lib.ListN.{length, drop}
use lib.Seq.{take-append_seam, take_at}
use Rattle.reading.specs.File.{accepted, refused, Outcome}
use Rattle.synthesis.specs.Monitor.{kept, verdicts, ended}
use Rattle.synthesis.proofs.Monitors.Runs.{verdicts_length}
use Rattle.running.specs.Lists.{filter}
use Rattle.running.specs.Running.{run_by}
use Rattle.running.specs.Duty.{on_duty, duty_of, together, fits_at, at_start, without, changed_of, duty_ran_of}
use Rattle.running.specs.Spells.{DutyCall, Coming, Event, runs, comes, goes, Spell, begun, longer, Desk}
use Rattle.running.specs.Spells.{with_duty_run, with_duty, with_coming, with_going, with_event, after, Each, answered, Quiet}
use Rattle.running.specs.SpellPromises.{TellsRuns, MayHappen}
use Rattle.running.proofs.DutyCases.{coming_cases, going_cases, duty_run_cases}

-- ---- one more event

-- the desk after a run of all rules over the call's scans
abbrev pub ran_on : (mark : ℕ) → Desk → DutyCall → Desk
ran_on mark desk call =
    let T = together mark call.tables in
    let ds = on_duty desk.duty in
    let k = kept T ds call.scans in
    record {
      duty = duty_of (ended T ds call.scans);
      spells = map (longer k) desk.spells;
      over = desk.over;
      scans = desk.scans ++ call.scans;
      kept = desk.kept ++ k;
      verdicts = desk.verdicts ++ verdicts T ds call.scans;
    }

-- after a coming, and after a going
abbrev pub came_on : Desk → Coming → Desk
came_on desk x =
    with_duty desk (duty_of (on_duty desk.duty ++ (at_start x.number x.base x.count ∷ []))) (desk.spells ++ (begun x ∷ [])) desk.over

abbrev pub went_off : Desk → (number : ℕ) → Desk
went_off desk number =
    with_duty desk (duty_of (without number (on_duty desk.duty))) (filter (λ s. not (eqb s.number number)) desk.spells)
    (desk.over ++ filter (λ s. eqb s.number number) desk.spells)

longer_by_nothing : (ss : List Spell) → map (longer []) ss ≡ ss
longer_by_nothing [] = refl
longer_by_nothing (s ∷ ss) = rw (append-nil s.kept, longer_by_nothing ss)

run_refused : (desk : Desk) (call : DutyCall) (number place : ℕ) → with_duty_run desk call (refused number place) ≡ desk
run_refused desk call number place =
    rw (longer_by_nothing desk.spells, append-nil desk.scans, append-nil desk.kept, append-nil desk.verdicts)

run_fit : (mark : ℕ) (desk : Desk) (call : DutyCall)
    → with_duty_run desk call (accepted (run_by (together mark call.tables) (on_duty desk.duty) call.scans)) ≡ ran_on mark desk call
run_fit mark desk call =
    let T = together mark call.tables in
    let ds = on_duty desk.duty in
    let k = kept T ds call.scans in
    let v = verdicts T ds call.scans in
    rw (
      take-append_seam k (drop (length k) call.output),
      take_at v (drop (length v) call.verdicts) (length call.scans) (verdicts_length T ds call.scans),
    )

-- a run that isn't refused
pub tells_runs : TellsRuns
tells_runs limit mark desk call =
    duty_run_cases limit mark call.tables desk.duty call.scans (length call.output) (length call.verdicts)
    (λ o. (duty_ran_of desk.duty o).checked ≡ accepted tt → with_duty_run desk call o ≡ ran_on mark desk call)
    (λ r e. let z : ◌≡◌ {A = ℕ} 0 1 = cc in absurd (omega arith)) (λ r s e. let z : ◌≡◌ {A = ℕ} 0 1 = cc in absurd (omega arith))
    (λ r s t e. let z : ◌≡◌ {A = ℕ} 0 1 = cc in absurd (omega arith)) (λ r s t e. run_fit mark desk call)

coming_refused : (desk : Desk) (x : Coming) (number place : ℕ) → with_coming desk x (refused number place) ≡ desk
coming_refused desk x number place = rw (append-nil desk.spells)

going_refused : (desk : Desk) (number n place : ℕ) → with_going desk number (refused n place) ≡ desk
going_refused desk number n place = rw (append-nil desk.over)

-- ---- any number of events

-- A property of desks that is kept by every event that may happen and isn't refused. A rule comes on only with a table that fits.
pub record Kept (limit mark : ℕ) (May : Desk → Event → Type 0) (P : Desk → Type 0) : Type 0 where
  pub by_run : (desk : Desk) (call : DutyCall) → P desk → May desk (runs call) → answered limit mark desk (runs call) ≡ accepted tt → P (ran_on mark desk call)
  pub by_coming : (desk : Desk) (x : Coming) → P desk → May desk (comes x) → answered limit mark desk (comes x) ≡ accepted tt
      → fits_at limit mark x.tables (at_start x.number x.base x.count) ≡ true → P (came_on desk x)
  pub by_going : (desk : Desk) (number : ℕ) → P desk → May desk (goes number) → answered limit mark desk (goes number) ≡ accepted tt → P (went_off desk number)

module _ {limit mark : ℕ} {May : Desk → Event → Type 0} {P : Desk → Type 0} (step : Kept limit mark May P) where
  pub kept_by_event : (desk : Desk) (e : Event) → P desk → May desk e → P (with_event limit mark desk e)
  kept_by_event desk (runs call) p may =
      let same : (n place : ℕ) → P (with_duty_run desk call (refused n place)) = λ n place. subst P (sym (run_refused desk call n place)) p in
      duty_run_cases limit mark call.tables desk.duty call.scans (length call.output) (length call.verdicts)
      (λ o. answered limit mark desk (runs call) ≡ (duty_ran_of desk.duty o).checked → P (with_duty_run desk call o))
      (λ r e. same 15 0) (λ r s e. same 16 0) (λ r s t e. same 16 0)
      (λ r s t e. subst P (sym (run_fit mark desk call)) (step.by_run desk call p may e))
      refl
  kept_by_event desk (comes x) p may =
      let same : (n place : ℕ) → P (with_coming desk x (refused n place)) = λ n place. subst P (sym (coming_refused desk x n place)) p in
      coming_cases limit mark desk.duty x.number x.tables x.base x.count
      (λ o. answered limit mark desk (comes x) ≡ (changed_of desk.duty o).checked → P (with_coming desk x o))
      (λ s e. same 16 0) (λ s f e. same 19 0) (λ s f k e. same 20 0) (λ s f k t e. same 16 0)
      (λ s f k t e. step.by_coming desk x p may e t)
      refl
  kept_by_event desk (goes number) p may =
      let same : (n place : ℕ) → P (with_going desk number (refused n place)) = λ n place. subst P (sym (going_refused desk number n place)) p in
      going_cases desk.duty number
      (λ o. answered limit mark desk (goes number) ≡ (changed_of desk.duty o).checked → P (with_going desk number o))
      (λ s e. same 16 0) (λ s k e. same 21 0) (λ s k e. step.by_going desk number p may e)
      refl

  pub kept_after : (desk : Desk) (es : List Event) → P desk → Each limit mark May desk es → P (after limit mark desk es)
  kept_after desk [] p each = p
  kept_after desk (e ∷ es) p (may, each) = kept_after (with_event limit mark desk e) es (kept_by_event desk e p may) each

-- an event that may be refused, and isn't
pub fit_not_refused : {A : Type 0} {checked : Outcome Unit} → checked ≡ accepted tt → A ⊎ ((number place : ℕ) × (checked ≡ refused number place)) → A
fit_not_refused fit (inl a) = a
fit_not_refused fit (inr (number, place, refusal)) = let z : ◌≡◌ {A = ℕ} 0 1 = cc in absurd (omega arith)

-- ---- what may happen

pub may_happen : (limit mark : ℕ) (desk : Desk) → MayHappen limit mark desk
may_happen limit mark desk = record {
  run = λ call bytes rows. inl (bytes, rows);
  coming = λ x monitors. inl monitors;
  going = λ number. inl tt;
  refused = λ e number place refusal. (inr (number, place, refusal), still e number place refusal);
  quiet = λ call. tt;
}
  where
    still : (e : Event) (number place : ℕ) → answered limit mark desk e ≡ refused number place → Quiet limit mark desk e
    still (runs call) number place refusal = tt
    still (comes x) number place refusal = (number, place, refusal)
    still (goes which) number place refusal = (number, place, refusal)
