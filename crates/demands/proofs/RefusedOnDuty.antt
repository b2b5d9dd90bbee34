-- What coming on, going off and running on duty refuse: a refusal is that of one of the checks, in their order, and each check holds exactly of what
-- its clause says.
use Prim.Native.Nat.{ℕ, ◌≤◌, ◌<◌}
use mathlib.Core.Path.{◌≡◌, refl}
use mathlib.Core.Logic.{inl, inr}
use mathlib.Core.Bool.{true, false}
use mathlib.Core.List.{List}
use native.Mathlib.Omega.{arith}
use borrow.Author.Tests.{leb-true, leb-false}
use lib.ListN.{length, drop}
use Rattle.reading.specs.File.{Outcome, accepted, refused}
use Rattle.reading.proofs.Basics.Outcomes.{never_refused, refused_same}
use Rattle.synthesis.specs.Monitor.{mark, most}
use Rattle.running.specs.Running.{start, moved, has_room, RunOver, checked_of}
use Rattle.running.specs.Duty.{vacant, on_duty, fits_at, at_start, changed_of, duty_ran_of}
use Rattle.running.specs.Spells.{DutyCall, Coming}
use Rattle.running.specs.DutyPromises.{rule_in, Comes, RunsOnDuty}
use Rattle.running.specs.declared.OnDuty.{OnDuty}
use Rattle.running.specs.declared.Duty.{Duty}
use Rattle.running.proofs.Refusals.{has_room-lengths, no_room_short}
use Rattle.running.proofs.ListTests.{all_fails, some_at}
use Rattle.running.proofs.DutyCases.{coming_cases, going_cases, duty_run_cases}
use Rattle.running.proofs.SoundStates.{fails, duty_at, listed, sound, unsound, on_duty_lem, off_duty, fit_rule}
use Rattle.running.proofs.ComingAndGoing.{comes, goes}
use Rattle.running.proofs.DutyRuns.{runs}
use Rattle.demands.specs.Outcomes.{coming_on, going_off, running_on_duty, RefusedIff}
use Rattle.demands.specs.Refusals.{Unfit, ComeRefused, GoRefused, DutyRunRefused}
use Rattle.demands.proofs.UnfitTables.{unfit_not_fit, not_fit_unfit}

-- a clause for a number and a place is one for those that are answered
as_answered : (Clause : ℕ → ℕ → Type 0) {n p : ℕ} → Clause n p → (number place : ℕ)
    → ◌≡◌ {A = Outcome Unit} (refused n p) (refused number place) → Clause number place
as_answered Clause clause number place e = let (number_is, place_is) = refused_same e in rw (← number_is, ← place_is) clause

fit_refuses : {P : Type 0} (number place : ℕ) → ◌≡◌ {A = Outcome Unit} (accepted tt) (refused number place) → P
fit_refuses number place e = absurd (never_refused e)

-- a rule that isn't fit has a table, a count or an equation that is unfit
rule_unfit : (tables : List ℕ) (x : OnDuty) → fits_at most mark tables x ≡ false
    → Unfit (drop x.base tables) x.count (moved start x.equation)
rule_unfit tables x e =
    not_fit_unfit (drop x.base tables) x.count (moved start x.equation)
    (λ (table, under). (fails (fits_at most mark tables x) (fit_rule most mark tables x)).0 e (record { table = table; equation = under }))

-- ---- coming on

module _ (d : Duty) (x : Coming) where
  come_clause : (number place : ℕ) → (changed_of d (coming_on d x)).checked ≡ refused number place → ComeRefused d x number place
  come_clause number place =
      coming_cases most mark d x.number x.tables x.base x.count
      (λ o. (changed_of d o).checked ≡ refused number place → ComeRefused d x number place)
      (λ s. as_answered (ComeRefused d x) (ComeRefused.unsound ((unsound d).0 s)) number place)
      (λ s f. as_answered (ComeRefused d x)
      (ComeRefused.fifth ((sound d).0 s) (omega (arith, ((sound d).0 s).few, leb-true 4 d.count f))) number place)
      (λ s f k. as_answered (ComeRefused d x) (ComeRefused.known ((sound d).0 s) (leb-false 4 d.count f) ((on_duty_lem d x.number).0 k)) number place)
      (λ s f k t. as_answered (ComeRefused d x)
      (ComeRefused.unfit_table ((sound d).0 s) (leb-false 4 d.count f) ((off_duty d x.number).0 k)
      (rule_unfit x.tables (at_start x.number x.base x.count) t)) number place)
      (λ s f k t. fit_refuses number place)

  come_answer : Comes most mark d x.number x.tables x.base x.count (changed_of d (coming_on d x))
  come_answer = comes most mark d x.number x.tables x.base x.count

  clause_come : {number place : ℕ} → ComeRefused d x number place → (changed_of d (coming_on d x)).checked ≡ refused number place
  clause_come (ComeRefused.unsound n) = come_answer.unfit.1 (inl n)
  clause_come (ComeRefused.fifth s four) = come_answer.fifth.1 (s, four)
  clause_come (ComeRefused.known s few on) = come_answer.known.1 (s, few, on)
  clause_come (ComeRefused.unfit_table s few off bad) = come_answer.unfit.1 (inr (s, few, off, λ wf. unfit_not_fit bad (wf, wf.some)))

  pub come_refused : RefusedIff (changed_of d (coming_on d x)).checked refused (ComeRefused d x)
  come_refused number place = (come_clause number place, clause_come)

-- ---- going off

module _ (d : Duty) (which : ℕ) where
  go_clause : (number place : ℕ) → (changed_of d (going_off d which)).checked ≡ refused number place → GoRefused d which number place
  go_clause number place =
      going_cases d which (λ o. (changed_of d o).checked ≡ refused number place → GoRefused d which number place)
      (λ s. as_answered (GoRefused d which) (GoRefused.unsound ((unsound d).0 s)) number place)
      (λ s k. as_answered (GoRefused d which) (GoRefused.absent ((sound d).0 s) ((off_duty d which).0 k)) number place)
      (λ s k. fit_refuses number place)

  clause_go : {number place : ℕ} → GoRefused d which number place → (changed_of d (going_off d which)).checked ≡ refused number place
  clause_go (GoRefused.unsound n) = (goes d which).unfit.1 n
  clause_go (GoRefused.absent s off) = (goes d which).absent.1 (s, off)

  pub go_refused : RefusedIff (changed_of d (going_off d which)).checked refused (GoRefused d which)
  go_refused number place = (go_clause number place, clause_go)

-- ---- running on duty

ran_checked : (d : Duty) (o : Outcome (RunOver (List OnDuty))) → (duty_ran_of d o).checked ≡ checked_of o
ran_checked d (accepted y) = refl
ran_checked d (refused number place) = refl

module _ (d : Duty) (c : DutyCall) where
  duty_clause : (number place : ℕ) → checked_of (running_on_duty d c) ≡ refused number place → DutyRunRefused d c number place
  duty_clause number place =
      duty_run_cases most mark c.tables d c.scans (length c.output) (length c.verdicts)
      (λ o. checked_of o ≡ refused number place → DutyRunRefused d c number place)
      (λ r. as_answered (DutyRunRefused d c) (DutyRunRefused.short_buffer (no_room_short c.scans (length c.output) (length c.verdicts) r)) number place)
      (λ r s. as_answered (DutyRunRefused d c) (DutyRunRefused.unsound (room r).0 (room r).1 ((unsound d).0 s)) number place)
      (λ r s t.
      let (i, h, bad) = (some_at (λ x. fits_at most mark c.tables x ≡ false) vacant (on_duty d)).0 (all_fails (fits_at most mark c.tables) (on_duty d) t) in
      let k : i < d.count = (listed d i).0 h in
      as_answered (DutyRunRefused d c)
      (DutyRunRefused.unfit_rule (room r).0 (room r).1 ((sound d).0 s) i k (rule_unfit c.tables (rule_in d i) (rw (duty_at d i k) at bad))) number place)
      (λ r s t. fit_refuses number place)
    where
      room : has_room c.scans (length c.output) (length c.verdicts) ≡ true
          → (length c.scans ≤ length c.output) × (length c.scans ≤ length c.verdicts)
      room = has_room-lengths c.scans (length c.output) (length c.verdicts)

  duty_answer : RunsOnDuty most mark c.tables d c.scans (length c.output) (length c.verdicts)
  duty_answer = runs most mark c.tables d c.scans (length c.output) (length c.verdicts)

  clause_duty : {number place : ℕ} → DutyRunRefused d c number place → checked_of (running_on_duty d c) ≡ refused number place
  clause_duty (DutyRunRefused.short_buffer short) = duty_answer.short.1 short
  clause_duty (DutyRunRefused.unsound h k n) = duty_answer.unfit.1 (h, k, λ is. n is.sound)
  clause_duty (DutyRunRefused.unfit_rule h k s i b bad) =
      duty_answer.unfit.1 (h, k, λ is. unfit_not_fit bad ((is.rules i b).table, (is.rules i b).equation))

  pub check_refused : RefusedIff (checked_of (running_on_duty d c)) refused (DutyRunRefused d c)
  check_refused number place = (duty_clause number place, clause_duty)

  pub duty_run_refused : RefusedIff (duty_ran_of d (running_on_duty d c)).checked refused (DutyRunRefused d c)
  duty_run_refused = rw (ran_checked d (running_on_duty d c)) check_refused
