-- What this crate promises, as statements over the definitions; proofs/ has a theorem of each of these types. The limit on equations and
-- the mark for dropped are any; with `most` and `mark` these are the terms of the contracts of `run`, `fill` and
-- `fill_short`.
use Rattle.std.specs.Prelude.{ℕ, ◌+◌, ◌*◌, ◌≤◌, ◌<◌, ◌≡◌, ◌↔◌, ◌⊎◌, true, List, [], ◌∷◌, ◌++◌, length, get_or, take, drop, Option, Some, None}
use Rattle.reading.specs.Rule.{Rule, Bytes}
use Rattle.reading.specs.File.{Outcome, accepted, refused}
use Rattle.synthesis.specs.Violation.{ViolatesRule}
use Rattle.synthesis.specs.Alike.{RulesAlike}
use Rattle.synthesis.specs.Monitor.{dropped, cases, next, ended, Monitors, meaning, lookup}
use Rattle.synthesis.specs.Table.{WellFormedTable}
use Rattle.synthesis.specs.Building.{Fills, FillsShort}
use Rattle.synthesis.specs.Reason.{explanation_of, reason_of}
use Rattle.running.specs.Running.{moved, answer_in, has_room, Run, RunOver, run_from, run_of, checked_of, occurrences, result_of}
use Rattle.running.specs.Running.{kept_of, verdicts_of, output_after, verdicts_after}
use Rattle.running.specs.Calls.{Call, History, taken, outcome_of, Calls, OnTable, OnTableOrRefused, with_verdict, kept_before}
use Rattle.running.specs.declared.State.{State}

-- ---- scans are dropped by the rule

-- 1. Demand 2. After any number of calls on the table that filling leaves, a scan has verdict 1 exactly when the scans kept before it,
-- with it after them, violate the rule. What was kept doesn't.
pub record Sifted (r : Rule) (h : History) : Type 0 where
  pub one_each : length h.verdicts ≡ length h.scans
  pub kept_or_dropped : (i : ℕ) → i < length h.scans → (get_or h.verdicts i 0 ≡ 0) ⊎ (get_or h.verdicts i 0 ≡ 1)
  pub kept : h.kept ≡ with_verdict 0 h.verdicts h.scans
  pub drops : (i : ℕ) → i < length h.scans
      → (get_or h.verdicts i 0 ≡ 1)
      ↔ ViolatesRule r (kept_before h i ++ (get_or h.scans i 0 ∷ []))
  pub safe : ViolatesRule r h.kept → ⊥

abbrev pub SiftsOn : (limit mark : ℕ) → Rule → (n : ℕ) → (table : List ℕ) → Type 0
SiftsOn limit mark r n table = (h : History) → Calls limit mark (OnTableOrRefused limit mark table n) h → Sifted r h

abbrev pub DropsExactly : Type 0
DropsExactly =
    (limit mark : ℕ) (s table : List ℕ) (r : Rule) (n : ℕ) (left : List ℕ) → Fills limit mark s table r n left → SiftsOn limit mark r n left

-- So too on the filled short table, and on any other that is well formed and monitors a rule.
abbrev pub ShortDropsExactly : Type 0
ShortDropsExactly =
    (limit mark : ℕ) (s table : List ℕ) (r : Rule) (n : ℕ) (left : List ℕ) → FillsShort limit mark s table r n left → SiftsOn limit mark r n left

abbrev pub MonitorsSift : Type 0
MonitorsSift =
    (limit mark : ℕ) (r : Rule) (n : ℕ) (table : List ℕ) → WellFormedTable limit mark n table → Monitors r (lookup 256 mark table) 0
    → SiftsOn limit mark r n table

-- ---- runs over some scans and then over others

-- 2. Two calls, the second with the state of the first, do what one call on both lists of scans does.
pub record Together (s : State) (one two both : Outcome Run) : Type 0 where
  pub checked : (result_of (result_of s one).state two).checked ≡ (result_of s one).checked
  pub handed_back_lem : result_of s both ≡ record {
    checked = (result_of s one).checked;
    state = (result_of (result_of s one).state two).state;
    kept = (result_of s one).kept + (result_of (result_of s one).state two).kept;
    dropped = (result_of s one).dropped + (result_of (result_of s one).state two).dropped;
  }
  pub kept : kept_of both ≡ kept_of one ++ kept_of two
  pub verdicts : verdicts_of both ≡ verdicts_of one ++ verdicts_of two

abbrev pub TwoCalls : Type 0
TwoCalls =
    (limit mark : ℕ) (table : List ℕ) (count : ℕ) (s : State) (first second : List ℕ) (o₁ v₁ o₂ v₂ o₃ v₃ : ℕ)
    → has_room first o₁ v₁ ≡ true → has_room second o₂ v₂ ≡ true → has_room (first ++ second) o₃ v₃ ≡ true →
    let one = run_of limit mark table count s first o₁ v₁ in
    let two = run_of limit mark table count (result_of s one).state second o₂ v₂ in
    Together s one two (run_of limit mark table count s (first ++ second) o₃ v₃)

-- ---- no scan is lost

-- 3. Of each code, the scans that a run took are those that it kept and those with verdict 1. The counts that it hands back are as the verdicts say.
pub record Conserved {S : Type 0} (scans : List ℕ) (outcome : Outcome (RunOver S)) (keeps drops : ℕ) : Type 0 where
  pub codes : (c : ℕ)
      → occurrences c (taken (checked_of outcome) scans) ≡ occurrences c (kept_of outcome) + occurrences c (with_verdict 1 (verdicts_of outcome) scans)
  pub one_each : length (verdicts_of outcome) ≡ length (taken (checked_of outcome) scans)
  pub kept : (keeps ≡ length (kept_of outcome)) × (keeps ≡ occurrences 0 (verdicts_of outcome))
  pub dropped : drops ≡ occurrences 1 (verdicts_of outcome)
  pub all : keeps + drops ≡ length (taken (checked_of outcome) scans)

abbrev pub Conserves : Type 0
Conserves =
    (limit mark : ℕ) (table : List ℕ) (count : ℕ) (s : State) (scans : List ℕ) (output verdicts : ℕ) →
    let outcome = run_of limit mark table count s scans output verdicts in
    Conserved scans outcome (result_of s outcome).kept (result_of s outcome).dropped

-- So too after any number of calls, on any tables.
abbrev pub CallsConserve : Type 0
CallsConserve =
    (limit mark : ℕ) (h : History) → Calls limit mark (λ h c. Unit) h → (c : ℕ)
    → occurrences c h.scans ≡ occurrences c h.kept + occurrences c (with_verdict 1 h.verdicts h.scans)

-- ---- refusals

-- 4. 15 is for buffers that are too short, and comes first; 16 for a count, a state or a table that is unfit. Any other run follows the
-- entries, and ends in an equation of the table.
pub record RunsOn (limit mark : ℕ) (table : List ℕ) (count : ℕ) (s : State) (scans : List ℕ) (output verdicts : ℕ) : Type 0 where
  pub short : (checked_of (run_of limit mark table count s scans output verdicts) ≡ refused 15 0)
      ↔ ((output < length scans) ⊎ (verdicts < length scans))
  pub unfit : (checked_of (run_of limit mark table count s scans output verdicts) ≡ refused 16 0)
      ↔ ((length scans ≤ output) × (length scans ≤ verdicts) × (WellFormedTable limit mark count table × (s.equation < count) → ⊥))
  pub follows : length scans ≤ output → length scans ≤ verdicts → WellFormedTable limit mark count table → s.equation < count
      → run_of limit mark table count s scans output verdicts ≡ accepted (run_from mark table s scans)
  pub entries : WellFormedTable limit mark count table → s.equation < count → (c : ℕ) → c < 256
      → answer_in mark table s c
      ≡ cases (meaning mark (get_or table (256 * s.equation + c) 0)) dropped (λ e. next (moved s e))
  pub ends : WellFormedTable limit mark count table → s.equation < count → (run_from mark table s scans).state.equation < count

abbrev pub RunsOnTables : Type 0
RunsOnTables =
    (limit mark : ℕ) (table : List ℕ) (count : ℕ) (s : State) (scans : List ℕ) (output verdicts : ℕ)
    → RunsOn limit mark table count s scans output verdicts

-- No call on a table is refused with 16, after any calls on it as in 1.
abbrev pub NotUnfit : (limit mark n : ℕ) → (table : List ℕ) → Type 0
NotUnfit limit mark n table =
    (h : History) → Calls limit mark (OnTableOrRefused limit mark table n) h → (c : Call) → OnTable table n c
    → checked_of (outcome_of limit mark h.state c) ≡ refused 16 0 → ⊥

-- So it is with the table that filling leaves.
abbrev pub NeverUnfit : Type 0
NeverUnfit =
    (limit mark : ℕ) (s table : List ℕ) (r : Rule) (n : ℕ) (left : List ℕ) → Fills limit mark s table r n left → NotUnfit limit mark n left

-- So too with the filled short table, and with any other well-formed table.
abbrev pub ShortNeverUnfit : Type 0
ShortNeverUnfit =
    (limit mark : ℕ) (s table : List ℕ) (r : Rule) (n : ℕ) (left : List ℕ) → FillsShort limit mark s table r n left → NotUnfit limit mark n left

abbrev pub WellFormedNotUnfit : Type 0
WellFormedNotUnfit = (limit mark n : ℕ) (table : List ℕ) → WellFormedTable limit mark n table → NotUnfit limit mark n table

-- ---- lent buffers

-- 5. The lent buffers, in the terms of the contract of `run`: those of a call, with one field here for each. A refused run hands back the state that
-- it was given and counts of 0, and leaves every byte of every buffer as it was. (Its answer is the refusal that is supposed.)
pub record RunUnchanged (s : State) (c : Call) (outcome : Outcome Run) : Type 0 where
  pub handed_back_lem : result_of s outcome ≡ record { checked = (result_of s outcome).checked; state = s; kept = 0; dropped = 0 }
  pub output : output_after outcome c.output ≡ c.output
  pub verdicts : verdicts_after outcome c.verdicts ≡ c.verdicts

abbrev pub RefusedUnchanged : Type 0
RefusedUnchanged =
    (limit mark : ℕ) (s : State) (c : Call) (number place : ℕ) → (result_of s (outcome_of limit mark s c)).checked ≡ refused number place
    → RunUnchanged s c (outcome_of limit mark s c)

-- This list stands at the front of a buffer, and behind it the buffer is as it was.
pub record OnlyFront (front before after : List ℕ) : Type 0 where
  pub same_length : length after ≡ length before
  pub front_is : take (length front) after ≡ front
  pub rest : drop (length front) after ≡ drop (length front) before

-- Any other run has one verdict a scan, 0 or 1, at the front of the verdicts, and the scans with verdict 0 at the front of the output, as many as it
-- says. Behind these both buffers are as they were.
pub record Fronts {S : Type 0} (scans before-output before-verdicts : List ℕ) (outcome : Outcome (RunOver S)) (keeps : ℕ) : Type 0 where
  pub one_each : length (verdicts_of outcome) ≡ length scans
  pub zero_or_one : (i : ℕ) → i < length scans → (get_or (verdicts_of outcome) i 0 ≡ 0) ⊎ (get_or (verdicts_of outcome) i 0 ≡ 1)
  pub kept_are : kept_of outcome ≡ with_verdict 0 (verdicts_of outcome) scans
  pub kept_count : keeps ≡ length (kept_of outcome)
  pub output : OnlyFront (kept_of outcome) before-output (output_after outcome before-output)
  pub verdicts : OnlyFront (verdicts_of outcome) before-verdicts (verdicts_after outcome before-verdicts)

abbrev pub OnlyFronts : State → Call → Outcome Run → Type 0
OnlyFronts s c outcome = Fronts c.scans c.output c.verdicts outcome (result_of s outcome).kept

abbrev pub RestUnchanged : Type 0
RestUnchanged =
    (limit mark : ℕ) (s : State) (c : Call) → (result_of s (outcome_of limit mark s c)).checked ≡ accepted tt → OnlyFronts s c (outcome_of limit mark s c)

-- ---- why scans are dropped

-- 6. What `explain` says of the scan c after those that were kept of the first i, by the rule file alone.
abbrev pub reason_after : (limit : ℕ) → (s : List ℕ) → History → (i c : ℕ) → Outcome (Option ℕ)
reason_after limit s h i c = reason_of (explanation_of limit s (kept_before h i) c)

-- Of each scan, after those kept before it: a node exactly where it was dropped, and no reason where it was kept. What was kept is never refused,
-- whatever scan is asked for after it.
pub record Reasoned (limit : ℕ) (s : List ℕ) (h : History) : Type 0 where
  pub dropped : (i : ℕ) → i < length h.scans
      → (get_or h.verdicts i 0 ≡ 1) ↔ ((m : ℕ) × (reason_after limit s h i (get_or h.scans i 0) ≡ accepted (Some m)))
  pub kept : (i : ℕ) → i < length h.scans → (get_or h.verdicts i 0 ≡ 0) ↔ (reason_after limit s h i (get_or h.scans i 0) ≡ accepted None)
  pub fit : (i c number place : ℕ) → reason_after limit s h i c ≡ refused number place → ⊥

-- After any calls as in 1 this holds of the rule file from which the table was filled, the long one or the short one.
abbrev pub ReasonsOn : (limit mark : ℕ) → (s : List ℕ) → (n : ℕ) → (table : List ℕ) → Type 0
ReasonsOn limit mark s n table = (h : History) → Calls limit mark (OnTableOrRefused limit mark table n) h → Reasoned limit s h

abbrev pub ReasonsOfRuns : Type 0
ReasonsOfRuns =
    (limit mark : ℕ) (s table : List ℕ) (r : Rule) (n : ℕ) (left : List ℕ) → Fills limit mark s table r n left → ReasonsOn limit mark s n left

abbrev pub ShortReasonsOfRuns : Type 0
ShortReasonsOfRuns =
    (limit mark : ℕ) (s table : List ℕ) (r : Rule) (n : ℕ) (left : List ℕ) → FillsShort limit mark s table r n left → ReasonsOn limit mark s n left

-- Any list that doesn't violate the rule and ends, over the long table, in the equation of the caller's state gives every scan the reason
-- that what was kept gives. Over the short table this fails: merged equations drop alike, but not for the same reasons (`MergedReasons` of `examples`).
abbrev pub ReasonsByState : Type 0
ReasonsByState =
    (limit mark : ℕ) (s table : List ℕ) (r : Rule) (n : ℕ) (left : List ℕ) → Fills limit mark s table r n left
    → (h : History) → Calls limit mark (OnTableOrRefused limit mark left n) h
    → (w : List ℕ) → Bytes w → (ViolatesRule r w → ⊥) → ended (lookup 256 mark left) 0 w ≡ h.state.equation
    → (c : ℕ) → reason_of (explanation_of limit s w c) ≡ reason_of (explanation_of limit s h.kept c)

-- ---- two callers

-- 7. Two callers have the same verdicts and the same kept scans.
pub record SameVerdicts (h h' : History) : Type 0 where
  pub verdicts : h.verdicts ≡ h'.verdicts
  pub kept : h.kept ≡ h'.kept

-- Demand 2 leaves nothing open: callers of whom it holds, with the same scans and with rules that the same lists violate, have the same verdicts.
abbrev pub SiftedAlike : Type 0
SiftedAlike =
    (r r' : Rule) → ((w : List ℕ) → ViolatesRule r w ↔ ViolatesRule r' w) → (h h' : History) → Sifted r h → Sifted r' h' → h.scans ≡ h'.scans
    → SameVerdicts h h'

-- Two accepted rules that differ only in formulas after empty patterns drop the same scans: so it is after any calls as in 1, with the same scans, on the
-- tables that filling leaves of the two, each of them the long one or the short one. (What is filled on the rule page is the long one.)
abbrev pub RulesDropAlike : Type 0
RulesDropAlike =
    (limit mark : ℕ) (s table : List ℕ) (r : Rule) (n : ℕ) (left : List ℕ) → Fills limit mark s table r n left ⊎ FillsShort limit mark s table r n left
    → (limit' mark' : ℕ) (s' table' : List ℕ) (r' : Rule) (n' : ℕ) (left' : List ℕ)
    → Fills limit' mark' s' table' r' n' left' ⊎ FillsShort limit' mark' s' table' r' n' left' → RulesAlike r r'
    → (h : History) → Calls limit mark (OnTableOrRefused limit mark left n) h
    → (h' : History) → Calls limit' mark' (OnTableOrRefused limit' mark' left' n') h' → h.scans ≡ h'.scans → SameVerdicts h h'

-- ---- all of these

-- The theorem `promises` has this type, so that each promise has its proof.
pub record Promises : Type 0 where
  pub drops_exactly : DropsExactly
  pub short_drops_exactly : ShortDropsExactly
  pub monitors_sift : MonitorsSift
  pub two_calls : TwoCalls
  pub conserves : Conserves
  pub calls_conserve : CallsConserve
  pub runs_on_tables : RunsOnTables
  pub never_unfit : NeverUnfit
  pub short_never_unfit : ShortNeverUnfit
  pub well_formed_not_unfit : WellFormedNotUnfit
  pub refused_unchanged : RefusedUnchanged
  pub rest_unchanged : RestUnchanged
  pub reasons_of_runs : ReasonsOfRuns
  pub short_reasons_of_runs : ShortReasonsOfRuns
  pub reasons_by_state : ReasonsByState
  pub sifted_alike : SiftedAlike
  pub rules_drop_alike : RulesDropAlike
