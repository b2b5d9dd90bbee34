-- Rules on duty, up to four of them in order of arrival: who comes on and goes off, and runs under all of them. Their tables are parts of one lent
-- list, each from a place of the desk's choosing on. The limit on equations and the mark for dropped are any; the paper's are `most` and `mark`.
use Rattle.std.specs.Prelude.{ℕ, zero, suc, Bool, true, false, not, cond, ◌&&◌, List, [], ◌∷◌, ◌++◌, map, eqb, leb, length, get_or, drop, Result, Ok, Err}
use Rattle.reading.specs.File.{Outcome, accepted, refused, refuse}
use Rattle.reading.specs.Numbered.{padded}
use Rattle.reading.specs.Refusals.{as_outcome}
use Rattle.reading.specs.declared.refusals.Refusal.{Refusal}
use Rattle.synthesis.specs.Monitor.{Answer, dropped, next, cases, lookup}
use Rattle.running.specs.Lists.{any, all, filter}
use Rattle.running.specs.Running.{start, moved, fits, has_room, RunOver, run_by, checked_of, occurrences, Returned}
use Rattle.running.specs.declared.OnDuty.{OnDuty}
use Rattle.running.specs.declared.Duty.{Duty}
use Rattle.running.specs.declared.Changed.{Changed}
use Rattle.reading.specs.Refusals.{as_outcome}

-- ---- who is on duty

-- what stands in a place that no rule has
abbrev pub vacant : OnDuty
vacant = record { number = 0; base = 0; count = 0; equation = 0 }

-- the rules in the first n places
unfoldable pub in_places : (n : ℕ) → (places : List OnDuty) → List OnDuty
in_places zero places = []
in_places (suc n) places = in_places n places ++ (get_or places n vacant ∷ [])

-- the rules on duty, by arrival
abbrev pub on_duty : Duty → List OnDuty
on_duty d = in_places d.count d.rules

-- the state in which these rules are on duty; no rule has the other places
abbrev pub duty_of : List OnDuty → Duty
duty_of ds = record { rules = padded 4 vacant ds; count = length ds }

abbrev pub nobody : Duty
nobody = duty_of []

-- a rule is on duty under this number
abbrev pub is_on : (number : ℕ) → List OnDuty → Bool
is_on number ds = any (λ d. eqb d.number number) ds

-- no number is on duty twice
unfoldable pub are_distinct : List OnDuty → Bool
are_distinct [] = true
are_distinct (d ∷ ds) = not (is_on d.number ds) && are_distinct ds

-- the test of a state: at most four rules, under different numbers
abbrev pub is_sound : Duty → Bool
is_sound d = leb d.count 4 && are_distinct (on_duty d)

-- ---- one scan

-- What a rule's own table, which begins at its base, answers to a code in the rule's equation.
abbrev pub own_answer : (mark : ℕ) → (tables : List ℕ) → ℕ → OnDuty → Answer ℕ
own_answer mark tables c d = lookup 256 mark (drop d.base tables) d.equation c

abbrev pub would_drop : (mark : ℕ) → (tables : List ℕ) → ℕ → OnDuty → Bool
would_drop mark tables c d = cases (own_answer mark tables c d) true (λ e. false)

abbrev pub some_drops : (mark : ℕ) → (tables : List ℕ) → List OnDuty → ℕ → Bool
some_drops mark tables ds c = any (would_drop mark tables c) ds

-- a rule that goes on with another equation
abbrev pub moved_to : OnDuty → ℕ → OnDuty
moved_to d e = record { number = d.number; base = d.base; count = d.count; equation = e }

abbrev pub moved_by : (mark : ℕ) → (tables : List ℕ) → ℕ → OnDuty → OnDuty
moved_by mark tables c d = cases (own_answer mark tables c d) d (moved_to d)

-- The rules on duty are one monitor: a scan is kept exactly when none of them would drop it, and then it moves all of them.
abbrev pub together : (mark : ℕ) → (tables : List ℕ) → List OnDuty → ℕ → Answer (List OnDuty)
together mark tables ds c = cond (some_drops mark tables ds c) dropped (next (map (moved_by mark tables c) ds))

-- ---- coming on and going off

-- the test of a rule: its table is well formed, and its equation one of the table's
abbrev pub fits_at : (limit mark : ℕ) → (tables : List ℕ) → OnDuty → Bool
fits_at limit mark tables d = fits limit mark (drop d.base tables) d.count (moved start d.equation)

-- a rule as it comes on: in its first equation
abbrev pub at_start : (number base count : ℕ) → OnDuty
at_start number base count = record { number = number; base = base; count = count; equation = 0 }

-- The outcome of a coming: the rules that are then on duty, the new one last.
unfoldable pub coming_of : (limit mark : ℕ) → Duty → (number : ℕ) → (tables : List ℕ) → (base count : ℕ) → Outcome (List OnDuty)
coming_of limit mark d number tables base count =
    refuse (not (is_sound d)) 16 0
    (refuse (leb 4 d.count) 19 0
    (refuse (is_on number (on_duty d)) 20 0
    (refuse (not (fits_at limit mark tables (at_start number base count))) 16 0
    (accepted (on_duty d ++ (at_start number base count ∷ []))))))

-- those that are on duty under another number
abbrev pub without : (number : ℕ) → List OnDuty → List OnDuty
without number ds = filter (λ d. not (eqb d.number number)) ds

-- The outcome of a going: the rules that are still on duty.
unfoldable pub going_of : Duty → (number : ℕ) → Outcome (List OnDuty)
going_of d number =
    refuse (not (is_sound d)) 16 0
    (refuse (not (is_on number (on_duty d))) 21 0
    (accepted (without number (on_duty d))))

-- What a coming or a going hands back: whether it was refused, and the state after it.
pub record ChangeReturned : Type 0 where
  pub checked : Outcome Unit
  pub duty : Duty

-- what is handed back for the state after it, or for its refusal, from the state that it was given
abbrev pub changed_by : Duty → Result Duty Refusal → Changed
changed_by d (Ok d') = record { checked = Ok tt; duty = d' }
changed_by d (Err r) = record { checked = Err r; duty = d }

-- what a result says
abbrev pub change_returned : Changed → ChangeReturned
change_returned r = record { checked = as_outcome r.checked; duty = r.duty }

-- what a coming or a going hands back; a refused one, the state that it was given
abbrev pub changed_of : Duty → Outcome (List OnDuty) → ChangeReturned
changed_of d (accepted ds) = record { checked = checked_of (accepted ds); duty = duty_of ds }
changed_of d (refused number place) = record { checked = checked_of {A = List OnDuty} (refused number place); duty = d }

-- ---- runs

-- The outcome of a run on duty with an output and verdicts of these sizes: 15 where they have no room for the scans, else 16 where the state is
-- unsound, else 16 where a rule is unfit, and else the run of all rules together.
unfoldable pub duty_run_of : (limit mark : ℕ) → (tables : List ℕ) → Duty → (scans : List ℕ) → (output verdicts : ℕ) → Outcome (RunOver (List OnDuty))
duty_run_of limit mark tables d scans output verdicts =
    refuse (not (has_room scans output verdicts)) 15 0
    (refuse (not (is_sound d)) 16 0
    (refuse (not (all (fits_at limit mark tables) (on_duty d))) 16 0
    (accepted (run_by (together mark tables) (on_duty d) scans))))

-- what a run on duty hands back; a refused one, the state that it was given and counts of 0
abbrev pub duty_ran_of : Duty → Outcome (RunOver (List OnDuty)) → Returned Duty
duty_ran_of d (accepted y) = record {
  checked = checked_of (accepted y);
  state = duty_of y.state;
  kept = length y.kept;
  dropped = occurrences 1 y.verdicts;
}
duty_ran_of d (refused number place) = record {
  checked = checked_of {A = RunOver (List OnDuty)} (refused number place);
  state = d;
  kept = 0;
  dropped = 0;
}
