-- A run over scans, on any table: when it is refused, and else what it keeps, judges and leaves. The limit on equations and the mark for
-- dropped are any; the paper's are `most` and `mark`.
use Rattle.std.specs.Prelude.{ℕ, suc, ◌*◌, Bool, not, cond, ◌&&◌, ◌||◌, List, [], ◌∷◌, ◌++◌, eqb, ltb, leb, length, take, drop}
use Rattle.reading.specs.File.{Outcome, accepted, refused, refuse}
use Rattle.reading.specs.Refusals.{as_outcome}
use Rattle.synthesis.specs.Monitor.{Answer, dropped, next, cases, kept, verdicts, ended, lookup}
use Rattle.running.specs.Lists.{all}
use Rattle.running.specs.declared.State.{State}
use Rattle.running.specs.declared.RunResult.{RunResult}
use Rattle.reading.specs.Refusals.{as_outcome}

-- ---- one scan

-- the state in which every run begins
abbrev pub start : State
start = record { equation = 0 }

-- a state that goes on with another equation
abbrev pub moved : State → ℕ → State
moved s e = record { equation = e }

-- What a table answers to a scan in a state, by the entry of the state's equation for its code: dropped, or kept with the state that comes next.
abbrev pub answer_in : (mark : ℕ) → (table : List ℕ) → State → ℕ → Answer State
answer_in mark table s c = cases (lookup 256 mark table s.equation c) dropped (λ e. next (moved s e))

-- ---- refusals

-- an entry is the mark for dropped, or the number of an equation
abbrev pub in_range : (mark count : ℕ) → ℕ → Bool
in_range mark count x = eqb x mark || ltb x count

-- all entries of a list are
abbrev pub entries_in_range : (mark count : ℕ) → List ℕ → Bool
entries_in_range mark count entries = all (in_range mark count) entries

-- The test of a table for a count of equations: there are from 1 to `limit` of them, the table has their rows, and each entry is in range. It
-- holds exactly of well-formed tables.
unfoldable pub is_well_formed : (limit mark : ℕ) → (table : List ℕ) → (count : ℕ) → Bool
is_well_formed limit mark table count =
    leb 1 count && (leb count limit && (leb (256 * count) (length table) && entries_in_range mark count (take (256 * count) table)))

-- the same, and the state's equation is one of them
unfoldable pub fits : (limit mark : ℕ) → (table : List ℕ) → (count : ℕ) → State → Bool
fits limit mark table count s = is_well_formed limit mark table count && ltb s.equation count

-- an output and verdicts of these sizes have room for every scan
abbrev pub has_room : (scans : List ℕ) → (output verdicts : ℕ) → Bool
has_room scans output verdicts = leb (length scans) output && leb (length scans) verdicts

-- ---- the run

-- The state in which a run ends, the scans that it keeps, and its verdict on each scan. The states are those of any monitor.
pub record RunOver (S : Type 0) : Type 0 where
  pub state : S
  pub kept : List ℕ
  pub verdicts : List ℕ

-- the run of a monitor from a state over scans, by what it answers to each
abbrev pub run_by : {S : Type 0} → (answer : S → ℕ → Answer S) → S → (scans : List ℕ) → RunOver S
run_by answer s scans = record {
  state = ended answer s scans;
  kept = kept answer s scans;
  verdicts = verdicts answer s scans;
}

-- a run on a table
abbrev pub Run : Type 0
Run = RunOver State

abbrev pub run_from : (mark : ℕ) → (table : List ℕ) → State → (scans : List ℕ) → Run
run_from mark table s scans = run_by (answer_in mark table) s scans

-- The outcome of a run with an output and verdicts of these sizes: 15 where they have no room for the scans, else 16 where the table, the count or the
-- state is unfit, and else the run.
unfoldable pub run_of : (limit mark : ℕ) → (table : List ℕ) → (count : ℕ) → State → (scans : List ℕ) → (output verdicts : ℕ) → Outcome Run
run_of limit mark table count s scans output verdicts =
    refuse (not (has_room scans output verdicts)) 15 0
    (refuse (not (fits limit mark table count s)) 16 0
    (accepted (run_from mark table s scans)))

-- ---- what is handed back, and what is left in the buffers

-- The answer of each outcome: fit, or the refusal with the paper's number and place.
abbrev pub checked_of : {A : Type 0} → Outcome A → Outcome Unit
checked_of (accepted y) = accepted tt
checked_of (refused number place) = refused number place

-- how often a number stands in a list
unfoldable pub occurrences : ℕ → List ℕ → ℕ
occurrences x [] = 0
occurrences x (y ∷ ys) = cond (eqb y x) (suc (occurrences x ys)) (occurrences x ys)

-- What a run hands back: whether it was refused, the state in which it ended, and how many scans it kept and dropped. The states are those of any monitor.
pub record Returned (S : Type 0) : Type 0 where
  pub checked : Outcome Unit
  pub state : S
  pub kept : ℕ
  pub dropped : ℕ

-- what a result says
abbrev pub returned : {S : Type 0} → RunResult S → Returned S
returned r = record { checked = as_outcome r.checked; state = r.state; kept = r.kept; dropped = r.dropped }

-- what a run from the state s hands back; a refused one, that state and counts of 0
abbrev pub result_of : State → Outcome Run → Returned State
result_of s (accepted y) = record { checked = checked_of (accepted y); state = y.state; kept = length y.kept; dropped = occurrences 1 y.verdicts }
result_of s (refused number place) = record { checked = checked_of {A = Run} (refused number place); state = s; kept = 0; dropped = 0 }

-- the scans that a run keeps and the verdicts that it gives; a refused one, none
abbrev pub kept_of : {S : Type 0} → Outcome (RunOver S) → List ℕ
kept_of (accepted y) = y.kept
kept_of (refused number place) = []

abbrev pub verdicts_of : {S : Type 0} → Outcome (RunOver S) → List ℕ
verdicts_of (accepted y) = y.verdicts
verdicts_of (refused number place) = []

-- a buffer with a list over its front, and all other bytes as they were
abbrev pub overlay : (front buffer : List ℕ) → List ℕ
overlay front buffer = front ++ drop (length front) buffer

abbrev pub output_after : {S : Type 0} → Outcome (RunOver S) → List ℕ → List ℕ
output_after outcome output = overlay (kept_of outcome) output

abbrev pub verdicts_after : {S : Type 0} → Outcome (RunOver S) → List ℕ → List ℕ
verdicts_after outcome verdicts = overlay (verdicts_of outcome) verdicts
