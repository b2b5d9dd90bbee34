-- Calls of a run one after the other, each with the state that the last one handed back, and what their caller then has.
use Rattle.std.specs.Prelude.{ℕ, ◌*◌, ◌≡◌, ◌⊎◌, cond, List, [], ◌∷◌, ◌++◌, eqb, length, take}
use Rattle.reading.specs.Rule.{Bytes}
use Rattle.reading.specs.File.{Outcome, refused, accepted}
use Rattle.running.specs.Running.{start, Run, run_of, result_of, output_after, verdicts_after}
use Rattle.running.specs.declared.State.{State}

-- ---- one call, and what its caller has

-- what a call is handed beside the state; the buffers as they were before it
pub record Call : Type 0 where
  pub table : List ℕ
  pub count : ℕ
  pub scans : List ℕ
  pub output : List ℕ
  pub verdicts : List ℕ

-- what a caller has: the state, the scans of the calls that weren't refused, and the kept scans and the verdicts, read from the buffers
pub record History : Type 0 where
  pub state : State
  pub scans : List ℕ
  pub kept : List ℕ
  pub verdicts : List ℕ

-- before the first call
abbrev pub no_calls : History
no_calls = record { state = start; scans = []; kept = []; verdicts = [] }

-- the scans that a call with this answer has taken
abbrev pub taken : Outcome Unit → (scans : List ℕ) → List ℕ
taken (accepted tt) scans = scans
taken (refused number place) scans = []

-- the outcome of a call with this state
abbrev pub outcome_of : (limit mark : ℕ) → State → Call → Outcome Run
outcome_of limit mark s c = run_of limit mark c.table c.count s c.scans (length c.output) (length c.verdicts)

-- what the caller has after one more call: as many bytes from the front of each buffer as were written to it
abbrev pub with_outcome : History → Call → Outcome Run → History
with_outcome h c outcome =
    let ran = result_of h.state outcome in
    let scans = taken ran.checked c.scans in
    record {
      state = ran.state;
      scans = h.scans ++ scans;
      kept = h.kept ++ take ran.kept (output_after outcome c.output);
      verdicts = h.verdicts ++ take (length scans) (verdicts_after outcome c.verdicts);
    }

abbrev pub with_call : (limit mark : ℕ) → History → Call → History
with_call limit mark h c = with_outcome h c (outcome_of limit mark h.state c)

-- ---- any number of calls

-- What a caller has after any number of calls, each of them one that may be made where the caller stands. Their scans are bytes.
pub data Calls (limit mark : ℕ) (May : History → Call → Type 0) : History → Type 0 where
  none : Calls limit mark May no_calls
  call : (h : History) (c : Call) → Calls limit mark May h → Bytes c.scans → May h c → Calls limit mark May (with_call limit mark h c)

-- calls on the rows of one table, with its count of equations; what stands behind the rows may be anything
pub record OnTable (table : List ℕ) (count : ℕ) (c : Call) : Type 0 where
  pub same_rows : take (256 * count) c.table ≡ take (256 * count) table
  pub same_count : c.count ≡ count

-- the same, and any others that are refused
abbrev pub OnTableOrRefused : (limit mark : ℕ) → (table : List ℕ) → (count : ℕ) → History → Call → Type 0
OnTableOrRefused limit mark table count h c = OnTable table count c ⊎ ((number place : ℕ) × (outcome_of limit mark h.state c ≡ refused number place))

-- ---- verdicts

-- the scans that have this verdict
unfoldable pub with_verdict : (verdict : ℕ) → (verdicts scans : List ℕ) → List ℕ
with_verdict x [] scans = []
with_verdict x (v ∷ vs) [] = []
with_verdict x (v ∷ vs) (c ∷ cs) = cond (eqb v x) (c ∷ with_verdict x vs cs) (with_verdict x vs cs)

-- the scans that were kept of the first i
abbrev pub kept_before : History → (i : ℕ) → List ℕ
kept_before h i = with_verdict 0 (take i h.verdicts) (take i h.scans)
