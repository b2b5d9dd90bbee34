-- One rule on duty is the run on its table under a new name: its state is the list of that one rule, in the run's equation.
use Prim.Native.Nat.{ℕ, suc, ◌+◌, ◌<◌}
use mathlib.Core.Path.{◌≡◌, refl, ◌∙◌}
use mathlib.Core.Bool.{◌||◌, true, false, cond}
use mathlib.Core.List.{List, [], ◌∷◌}
use native.Mathlib.Omega.{arith}
use lib.ListN.{drop}
use Rattle.reading.specs.Rule.{All}
use Rattle.reading.specs.File.{refused}
use Rattle.reading.proofs.Basics.AllLaws.{all_map}
use Rattle.synthesis.specs.Monitor.{Answer, dropped, next, cases, lookup}
use Rattle.synthesis.proofs.Monitors.Renaming.{Renames, Alike, renamed_runs}
use Rattle.running.specs.Lists.{any}
use Rattle.running.specs.Running.{start, moved, answer_in, run_of}
use Rattle.running.specs.Duty.{in_places, on_duty, moved_to, together, fits_at}
use Rattle.running.specs.DutyPromises.{rule_in, FitRule, FitDuty, AsAlone, OneOnDuty}
use Rattle.running.specs.declared.State.{State}
use Rattle.running.specs.declared.OnDuty.{OnDuty}
use Rattle.running.specs.declared.Duty.{Duty}
use Rattle.running.proofs.RunCases.{run_short, run_unfit, run_fit}
use Rattle.running.proofs.Refusals.{lengths_has_room, short_no_room}
use Rattle.running.proofs.SoundStates.{fails, fit_rule}
use Rattle.running.proofs.DutyRuns.{duty_run_ways}

-- every list of codes has a bound
bounded : (w : List ℕ) → (n : ℕ) × All (λ c. c < n) w
bounded [] = (0, tt)
bounded (c ∷ w) = let (n, below) = bounded w in (suc (c + n), (omega arith, all_map w (λ x h. omega arith) below))

module _ (mark : ℕ) (tables : List ℕ) (x : OnDuty) where
  -- the rule alone, in the equation of a state
  abbrev alone : State → List OnDuty
  alone s = moved_to x s.equation ∷ []

  alone_answers : (s : State) (c : ℕ)
      → together mark tables (alone s) c ≡ cases (answer_in mark (drop x.base tables) s c) dropped (λ s'. next (alone s'))
  unfolding any
  alone_answers s c = on (lookup 256 mark (drop x.base tables) s.equation c)
    where
      on : (a : Answer ℕ) → cond (cases a true (λ e. false) || false) dropped (next (cases a (moved_to x s.equation) (moved_to x) ∷ []))
          ≡ cases (cases a dropped (λ e. next (moved s e))) dropped (λ s'. next (alone s'))
      on dropped = refl
      on (next e) = refl

  renames : (codes : ℕ) → Renames codes (λ s. Unit {0}) (answer_in mark (drop x.base tables)) (together mark tables) alone
  renames codes = record {
    invariant = λ s s' c ok b q. tt;
    drops = λ s c ok b q. alone_answers s c ∙ rw q;
    follows = λ s s' c ok b q. alone_answers s c ∙ rw q;
  }

  alone_runs : (s : State) (w : List ℕ) → let n = (bounded w).0 in
      Alike n (λ s. Unit {0}) (answer_in mark (drop x.base tables)) (together mark tables) alone (renames n) s w
  alone_runs s w =
      let (n, below) = bounded w in
      renamed_runs n (λ s. Unit {0}) (answer_in mark (drop x.base tables)) (together mark tables) alone (renames n) s w tt below

one_rule : (d : Duty) → d.count ≡ 1 → on_duty d ≡ rule_in d 0 ∷ []
unfolding in_places
one_rule d one = rw one

one_fit : (limit mark : ℕ) (tables : List ℕ) (d : Duty) → d.count ≡ 1 → FitRule limit mark tables (rule_in d 0) → FitDuty limit mark tables d
one_fit limit mark tables d one fit = record {
  sound = record { few = omega arith; distinct = λ i j h k same. omega arith };
  rules = λ i h. let first : i ≡ 0 = omega arith in rw first fit;
}

-- both are refused alike
refused_alike : (d : Duty) (x : OnDuty) (number place : ℕ) → AsAlone d x (refused number place) (refused number place)
refused_alike d x number place = record {
  checked = refl;
  kept = refl;
  verdicts = refl;
  handed_back_lem = λ e. let z : ◌≡◌ {A = ℕ} 0 1 = cc in absurd (omega arith);
}

pub one_on_duty : OneOnDuty
one_on_duty limit mark tables d one scans output verdicts =
    let x = rule_in d 0 in
    let table = drop x.base tables in
    let s = moved start x.equation in
    let fit = fit_rule limit mark tables x in
    let room = lengths_has_room scans output verdicts in
    duty_run_ways limit mark tables d scans output verdicts (AsAlone d x (run_of limit mark table x.count s scans output verdicts))
    (λ short. rw (run_short limit mark table x.count s scans output verdicts (short_no_room scans output verdicts short)) (refused_alike d x 15 0))
    (λ h k n. let unfit = (fails (fits_at limit mark tables x) fit).1 (λ is. n (one_fit limit mark tables d one is)) in
    rw (run_unfit limit mark table x.count s scans output verdicts (room h k) unfit) (refused_alike d x 16 0))
    (λ h k is. let alike = alone_runs mark tables x s scans in
    rw (one_rule d one, run_fit limit mark table x.count s scans output verdicts (room h k) (fit.1 (is.rules 0 (omega arith))))
    (record { checked = refl; kept = alike.keeps; verdicts = alike.judges; handed_back_lem = λ e. rw (alike.ends, alike.keeps, alike.judges) }))
