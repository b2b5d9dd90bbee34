-- What this crate promises, as statements over the definitions; proofs/ has a theorem of each of these types. They are about what a C program gets: it
-- tells the answer of the library, whole.
use Rattle.std.specs.Prelude.{ℕ, ◌≤◌, ◌<◌, ◌≡◌, ◌↔◌, true, false, List, Option, Some, None}
use Rattle.reading.specs.Rule.{Bytes}
use Rattle.reading.specs.File.{Outcome, accepted, refused}
use Rattle.synthesis.specs.Monitor.{mark, most}
use Rattle.synthesis.specs.Building.{Synthesis, synthesis_of, filling_of, preview_of, preview_filling_of, short_of, short_filling_of, counted_of}
use Rattle.synthesis.specs.Reason.{explanation_of, reason_of}
use Rattle.running.specs.Running.{run_of, result_of, Returned}
use Rattle.running.specs.declared.State.{State}
use Rattle.models.specs.Judging.{judging_of, JudgedAs}
use Rattle.models.specs.Pairs.{matching_of, MatchedAs, MatchAnswer, said, refused_first, refused_second, refused_pairs}
use Rattle.boundary.specs.Results.{Result, counted_result, reason_result, judged_result, matched_result, state_of, IsRun}
use Rattle.models.specs.declared.Judgment.{Judgment}
use Rattle.models.specs.declared.Judgment.TheVariants.{Meets, Breaks}

-- ---- a number and a value

-- They are got for an answer exactly where it is this one.
abbrev pub Tells : {A : Type 0} → (result : A → Result) → (answer : A) → (number value : ℕ) → (this : A) → Type 0
Tells result answer number value this = (result answer ≡ record { number = number; value = value }) ↔ (answer ≡ this)

-- A number from 1 on, with a place, is got exactly where the library refuses so.
abbrev pub TellsRefusals : {A : Type 0} → (result : A → Result) → (answer : A) → (refusal : (number place : ℕ) → A) → Type 0
TellsRefusals result answer refusal = (number place : ℕ) → 1 ≤ number → Tells result answer number place (refusal number place)

-- ---- counting and filling

-- 1. The number 0 is got exactly where the answer is a count, and the value is then that count.
pub record CountTold (outcome : Outcome Synthesis) : Type 0 where
  pub counted : (n : ℕ) → Tells counted_result (counted_of outcome) 0 n (accepted n)
  pub refused : TellsRefusals counted_result (counted_of outcome) refused

pub record CountsTold (s : List ℕ) (capacity : ℕ) : Type 0 where
  pub counting : CountTold (synthesis_of most s)
  pub filling : CountTold (filling_of most s capacity)
  pub preview_counting_lem : CountTold (preview_of s)
  pub preview_filling_lem : CountTold (preview_filling_of s capacity)
  pub short_counting_lem : CountTold (short_of most s)
  pub short_filling_lem : CountTold (short_filling_of most s capacity)

abbrev pub TellsCounts : Type 0
TellsCounts = (s : List ℕ) (capacity : ℕ) → Bytes s → CountsTold s capacity

-- ---- explaining

-- 2. What is got for a kept scan, 64, is no node's number,
abbrev pub KeptIsNoNode : Type 0
KeptIsNoNode = (s kept : List ℕ) (scan m : ℕ) → Bytes s → reason_of (explanation_of most s kept scan) ≡ accepted (Some m) → m < 64

-- so it is got exactly where the scan is kept, and a lower value exactly where the node of that number is the reason.
pub record ReasonTold (reason : Outcome (Option ℕ)) : Type 0 where
  pub kept : Tells reason_result reason 0 64 (accepted None)
  pub node : (m : ℕ) → m < 64 → Tells reason_result reason 0 m (accepted (Some m))
  pub refused : TellsRefusals reason_result reason refused

abbrev pub TellsReason : Type 0
TellsReason = (s kept : List ℕ) (scan : ℕ) → Bytes s → ReasonTold (reason_of (explanation_of most s kept scan))

-- ---- judging

-- 3. Got are 0 and 1 exactly where the model meets the rule, and 0 and 0 exactly where it breaks it.
pub record JudgmentTold (answer : Outcome Judgment) : Type 0 where
  pub meets : Tells judged_result answer 0 1 (accepted Meets)
  pub breaks : Tells judged_result answer 0 0 (accepted Breaks)
  pub refused : TellsRefusals judged_result answer refused

abbrev pub TellsJudgment : Type 0
TellsJudgment =
    (s f : List ℕ) (capacity : ℕ) (answer : Outcome Judgment) → Bytes s → Bytes f → JudgedAs (judging_of most s capacity f) answer → JudgmentTold answer

-- ---- matching

-- A number, a value and an input are got for an answer exactly where it is this one.
abbrev pub TellsMatched : (answer : MatchAnswer) → (number value input : ℕ) → (this : MatchAnswer) → Type 0
TellsMatched answer number value input this = (matched_result answer ≡ record { number = number; value = value; input = input }) ↔ (answer ≡ this)

-- A number from 1 on, with a place, is got beside this input exactly where the library refuses the input so.
abbrev pub TellsRefusalsOf : (input : ℕ) → (answer : MatchAnswer) → (refusal : (number place : ℕ) → MatchAnswer) → Type 0
TellsRefusalsOf input answer refusal = (number place : ℕ) → 1 ≤ number → TellsMatched answer number place input (refusal number place)

-- 4. Got are 0, 1 and 0 exactly where the list matches the models, and 0, 0 and 0 exactly where it doesn't; a refusal tells which input it is about.
pub record MatchTold (answer : MatchAnswer) : Type 0 where
  pub yes : TellsMatched answer 0 1 0 (said true)
  pub no : TellsMatched answer 0 0 0 (said false)
  pub first_refused : TellsRefusalsOf 1 answer refused_first
  pub second_refused : TellsRefusalsOf 2 answer refused_second
  pub pairs_refused : TellsRefusalsOf 3 answer refused_pairs

abbrev pub TellsMatch : Type 0
TellsMatch = (f g l : List ℕ) (answer : MatchAnswer) → Bytes f → Bytes g → MatchedAs (matching_of f g l) answer → MatchTold answer

-- ---- a run

-- 5. What is got of a run is all of its result: the number is 0 exactly where it is fit, and another exactly where it is refused so, at place 0; and a
-- state is made of nothing but its equation.
pub record RunTold (ran : Returned State) (number equation kept dropped : ℕ) : Type 0 where
  pub fit : (number ≡ 0) ↔ (ran.checked ≡ accepted tt)
  pub refused : (k : ℕ) → 1 ≤ k → (number ≡ k) ↔ (ran.checked ≡ refused k 0)
  pub rest : ran ≡ record { checked = ran.checked; state = state_of equation; kept = kept; dropped = dropped }

abbrev pub TellsRun : Type 0
TellsRun =
    (table : List ℕ) (count first : ℕ) (scans : List ℕ) (output verdicts : ℕ) →
    let outcome = run_of most mark table count (state_of first) scans output verdicts in
    (number equation kept dropped : ℕ) → IsRun (state_of first) outcome number equation kept dropped
    → RunTold (result_of (state_of first) outcome) number equation kept dropped

-- ---- all of these

-- The theorem `promises` has this type, so that each promise has its proof.
pub record Promises : Type 0 where
  pub tells_counts : TellsCounts
  pub kept_is_no_node : KeptIsNoNode
  pub tells_reason : TellsReason
  pub tells_judgment : TellsJudgment
  pub tells_match : TellsMatch
  pub tells_run : TellsRun
