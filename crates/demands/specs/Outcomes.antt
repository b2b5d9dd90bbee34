-- The calls of the layers, in the very terms of their contracts: the outcome of each, and what it leaves in a table. The limit on equations is `most`,
-- or what the caller says, on the rule page `preview_limit`, and the mark for dropped is `mark`.
use Rattle.std.specs.Prelude.{ℕ, min, ◌≡◌, ◌↔◌, List, length}
use Rattle.reading.specs.File.{Outcome}
use Rattle.synthesis.specs.Monitor.{mark, most}
use Rattle.synthesis.specs.Building.{Synthesis, synthesis_of, filling_of, table_after, table_left, short_of, short_filling_of, preview_of, preview_filling_of}
use Rattle.synthesis.specs.Reason.{explanation_of}
use Rattle.running.specs.Running.{Run, RunOver}
use Rattle.running.specs.Calls.{Call, outcome_of}
use Rattle.running.specs.Duty.{going_of}
use Rattle.running.specs.Spells.{DutyCall, Coming, run_at, coming_at}
use Rattle.running.specs.declared.State.{State}
use Rattle.running.specs.declared.OnDuty.{OnDuty}
use Rattle.running.specs.declared.Duty.{Duty}
use Rattle.models.specs.Judging.{RuleAndModel, judging_of, table_judged}

-- ---- outcomes

-- counting the equations of a rule file
abbrev pub counting : List ℕ → Outcome Synthesis
counting s = synthesis_of most s

-- explaining a scan after kept ones
abbrev pub explaining : (s kept : List ℕ) → (scan : ℕ) → Outcome ℕ
explaining s kept c = explanation_of most s kept c

-- filling a table
abbrev pub filling : (s table : List ℕ) → Outcome Synthesis
filling s table = filling_of most s (length table)

abbrev pub table_filled : (s table : List ℕ) → List ℕ
table_filled s table = table_left most mark s table

-- counting within a limit, and filling a table; a limit over `most` counts as `most`
abbrev pub counting_within : (limit : ℕ) → List ℕ → Outcome Synthesis
counting_within limit s = synthesis_of (min limit most) s

abbrev pub filling_within : (limit : ℕ) → (s table : List ℕ) → Outcome Synthesis
filling_within limit s table = filling_of (min limit most) s (length table)

abbrev pub table_filled_within : (limit : ℕ) → (s table : List ℕ) → List ℕ
table_filled_within limit s table = table_left (min limit most) mark s table

-- counting on the page, and filling a table there
abbrev pub preview_counting : List ℕ → Outcome Synthesis
preview_counting s = preview_of s

abbrev pub preview_filling : (s table : List ℕ) → Outcome Synthesis
preview_filling s table = preview_filling_of s (length table)

abbrev pub preview_table_filled : (s table : List ℕ) → List ℕ
preview_table_filled s table = table_after mark (preview_filling s table) table

-- counting for the short table, and filling it
abbrev pub short_counting : List ℕ → Outcome Synthesis
short_counting s = short_of most s

abbrev pub short_filling : (s table : List ℕ) → Outcome Synthesis
short_filling s table = short_filling_of most s (length table)

abbrev pub short_table_filled : (s table : List ℕ) → List ℕ
short_table_filled s table = table_after mark (short_filling s table) table

-- a call of a run with this state
abbrev pub running : State → Call → Outcome Run
running s c = outcome_of most mark s c

-- a rule that comes on duty or goes off, and a run on duty, where these rules are on duty
abbrev pub coming_on : Duty → Coming → Outcome (List OnDuty)
coming_on d x = coming_at most mark d x

abbrev pub going_off : Duty → (number : ℕ) → Outcome (List OnDuty)
going_off d number = going_of d number

abbrev pub running_on_duty : Duty → DutyCall → Outcome (RunOver (List OnDuty))
running_on_duty d c = run_at most mark d c

-- judging a model file under a rule file, with a table for the rows
abbrev pub judging : (s table f : List ℕ) → Outcome RuleAndModel
judging s table f = judging_of most s (length table) f

abbrev pub table_after_judging : (s table f : List ℕ) → List ℕ
table_after_judging s table f = table_judged (judging s table f) (table_filled s table) table

-- the same within a limit
abbrev pub judging_within : (limit : ℕ) → (s table f : List ℕ) → Outcome RuleAndModel
judging_within limit s table f = judging_of (min limit most) s (length table) f

abbrev pub table_after_judging_within : (limit : ℕ) → (s table f : List ℕ) → List ℕ
table_after_judging_within limit s table f = table_judged (judging_within limit s table f) (table_filled_within limit s table) table

-- ---- answers

-- An answer refuses with a number at a place exactly where some clause has it so.
abbrev pub RefusedIff {ℓ} : {A : Type 0} → (answer : A) → (Refused : ℕ → ℕ → A) → (Clause : ℕ → ℕ → Type ℓ) → Type ℓ
RefusedIff answer Refused Clause = (number place : ℕ) → (answer ≡ Refused number place) ↔ Clause number place

-- Where an answer refuses, with whatever number and place, this holds.
abbrev pub IfRefused : {A : Type 0} → (answer : A) → (Refused : ℕ → ℕ → A) → Type 0 → Type 0
IfRefused answer Refused Claim = (number place : ℕ) → answer ≡ Refused number place → Claim
