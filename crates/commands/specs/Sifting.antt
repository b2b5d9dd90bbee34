-- What `sift` hands back: a state in which calls end, one after the other. That it makes these calls, that their scans are those of standard input,
-- and that the kept ones are written, no contract can say.
use Rattle.std.specs.Prelude.{ℕ, ◌≡◌, List}
use Rattle.reading.specs.File.{Outcome, accepted}
use Rattle.reading.specs.Refusals.{as_outcome}
use Rattle.synthesis.specs.Monitor.{mark, most}
use Rattle.synthesis.specs.Building.{Synthesis, synthesis_of, counted_of, table_after}
use Rattle.running.specs.Running.{checked_of}
use Rattle.running.specs.Calls.{Call, History, outcome_of, Calls, OnTable}
use Rattle.running.specs.declared.State.{State}
use Rattle.commands.specs.Printing.{program_limit}
use Rattle.commands.specs.declared.SiftResult.{SiftResult}

-- a state in which some such calls end
abbrev pub EndsCalls : (May : History → Call → Type 0) → State → Type 0
EndsCalls May s = (h : History) × Calls most mark May h × (s ≡ h.state)

-- calls on one table, with its count of equations, that aren't refused
pub record FitOn (table : List ℕ) (count : ℕ) (h : History) (c : Call) : Type 0 where
  pub on : OnTable table count c
  pub fit : checked_of (outcome_of most mark h.state c) ≡ accepted tt

abbrev pub EndsCallsOn : (table : List ℕ) → (count : ℕ) → State → Type 0
EndsCallsOn table count = EndsCalls (FitOn table count)

-- such calls on the table that filling leaves, with the count that it answers; where the rule is refused, there are none
pub record UnderRule (outcome : Outcome Synthesis) (table : List ℕ) (h : History) (c : Call) : Type 0 where
  pub count : ℕ
  pub answered : counted_of outcome ≡ accepted count
  pub fit_on : FitOn (table_after mark outcome table) count h c

-- what `sift` hands back for a rule file, with a table for its rows
pub record Sifts (s table : List ℕ) (r : SiftResult) : Type 0 where
  pub answer : as_outcome r.answer ≡ counted_of (synthesis_of program_limit s)
  pub state : EndsCalls (UnderRule (synthesis_of program_limit s) table) r.state
