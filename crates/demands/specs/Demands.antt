-- The three demands on the product. Each is a record of claims in the very terms of the contracts in the layers' `src/`: what a function answers, and
-- what it leaves in a buffer that it is lent (`Outcomes`). A rule file that isn't refused is `encode r` of a rule within the limits, and a model file
-- `encode_phone y` of a model within them (`reads_rule`, `reads_model`).
use Rattle.std.specs.Prelude.{ℕ, min, ◌≤◌, ◌≡◌, ◌↔◌, ◌⊎◌, List, length}
use Rattle.reading.specs.Rule.{Rule, RuleWithinLimits, encode, Bytes}
use Rattle.reading.specs.File.{accepted, rule_of, Outcome, refused}
use Rattle.reading.specs.Faults.{Fault as RuleFault}
use Rattle.reading.specs.Numbered.{numbered, reading_of}
use Rattle.reading.specs.declared.NumberedRule.{NumberedRule}
use Rattle.synthesis.specs.Monitor.{mark, most, Monitors, lookup}
use Rattle.synthesis.specs.Table.{WellFormedTable}
use Rattle.synthesis.specs.Building.{equations_of, counted_of, Fills, FillsShort, preview_limit}
use Rattle.synthesis.specs.Reason.{reason_of}
use Rattle.synthesis.specs.ReasonPromises.{Placed, Reasons}
use Rattle.synthesis.specs.Promises.{FillsAsCounted, TableUnchanged, ReachableEquations, SameAfterRows}
use Rattle.synthesis.specs.ShortPromises.{RefusesAlike}
use Rattle.synthesis.specs.PreviewPromises.{SameAtDesk}
use Rattle.running.specs.Running.{checked_of, result_of}
use Rattle.running.specs.Calls.{Call, History, Calls, OnTable, OnTableOrRefused}
use Rattle.running.specs.Duty.{changed_of, duty_ran_of}
use Rattle.running.specs.Spells.{DutyCall, Coming}
use Rattle.running.specs.Promises.{SiftsOn, ReasonsOn, RunUnchanged, Fronts, OnlyFronts}
use Rattle.running.specs.DutyPromises.{DutyUnchanged}
use Rattle.running.specs.SpellPromises.{DutyDropsExactly, OnDutyNeverUnfit, SpellsSafe, JoinsAsOne}
use Rattle.running.specs.declared.State.{State}
use Rattle.running.specs.declared.Duty.{Duty}
use Rattle.enforcement.specs.Model.{Bisimilar, suppressing, monitored}
use Rattle.models.specs.Phone.{Phone, model_of, PhoneWithinLimits, encode_phone, phone_of}
use Rattle.models.specs.Faults.{Fault as ModelFault}
use Rattle.models.specs.Judging.{stored, model_reading_of, JudgedAs}
use Rattle.models.specs.Promises.{EnforcesRule, Acceptable, FillsWithRoom, JudgedExactly}
use Rattle.models.specs.Pairs.{most_pairs, matching_of, MatchedAs, MatchAnswer, refused_first, refused_second, refused_pairs}
use Rattle.models.specs.MatchPromises.{MatchesExactly, AcceptsPairs, RepeatsHarmless, MatchedAlike, ModelsJudgedAlike, SomeListMatches}
use Rattle.demands.specs.Outcomes.{counting, explaining, filling, table_filled, counting_within, filling_within, table_filled_within, preview_counting, preview_filling, preview_table_filled}
use Rattle.demands.specs.Outcomes.{short_counting, short_filling, short_table_filled, running, judging, table_after_judging, judging_within, table_after_judging_within, RefusedIff, IfRefused}
use Rattle.demands.specs.Outcomes.{coming_on, going_off, running_on_duty}
use Rattle.demands.specs.Refusals.{DeskRefused, WithinRefused, PageRefused, ExplainRefused, FillRefused, RunRefused, JudgeRefused}
use Rattle.demands.specs.Refusals.{ComeRefused, GoRefused, DutyRunRefused, SecondRefused, PairsRefused}
use Rattle.models.specs.declared.PhoneModel.{PhoneModel}
use Rattle.models.specs.declared.Judgment.{Judgment}
use Rattle.models.specs.declared.Judgment.TheVariants.{Meets, Breaks}

-- ---- demand 1

-- 1. Every byte string is taken as rule, model or scans, and every call ends: no public function has a `requires`, and each is proved to end. Each
-- refuses unfit input itself, and no other, with the paper's number and place. So exactly one number and place hold of a refused call.
pub record RefusesExactly : Type 1 where
  pub read_rule : (s : List ℕ) → Bytes s → RefusedIff (reading_of (rule_of s)) refused (RuleFault s)
  pub count : (s : List ℕ) → Bytes s → RefusedIff (counted_of (counting s)) refused (DeskRefused s)
  pub explain : (s kept : List ℕ) (scan : ℕ) → Bytes s → RefusedIff (reason_of (explaining s kept scan)) refused (ExplainRefused s kept)
  pub fill : (s table : List ℕ) → Bytes s
      → RefusedIff (counted_of (filling s table)) refused (FillRefused (DeskRefused s) (counted_of (counting s)) (length table))
  pub count_within : (limit : ℕ) (s : List ℕ) → Bytes s → RefusedIff (counted_of (counting_within limit s)) refused (WithinRefused limit s)
  pub fill_within : (limit : ℕ) (s table : List ℕ) → Bytes s
      → RefusedIff (counted_of (filling_within limit s table)) refused
      (FillRefused (WithinRefused limit s) (counted_of (counting_within limit s)) (length table))
  pub count_preview : (s : List ℕ) → Bytes s → RefusedIff (counted_of (preview_counting s)) refused (PageRefused s)
  pub fill_preview : (s table : List ℕ) → Bytes s
      → RefusedIff (counted_of (preview_filling s table)) refused (FillRefused (PageRefused s) (counted_of (preview_counting s)) (length table))
  pub count_short : (s : List ℕ) → Bytes s → RefusedIff (counted_of (short_counting s)) refused (DeskRefused s)
  pub fill_short : (s table : List ℕ) → Bytes s
      → RefusedIff (counted_of (short_filling s table)) refused (FillRefused (DeskRefused s) (counted_of (short_counting s)) (length table))
  pub run : (s : State) (c : Call) → RefusedIff (result_of s (running s c)).checked refused (RunRefused s c)
  pub come_on : (d : Duty) (x : Coming) → RefusedIff (changed_of d (coming_on d x)).checked refused (ComeRefused d x)
  pub go_off : (d : Duty) (number : ℕ) → RefusedIff (changed_of d (going_off d number)).checked refused (GoRefused d number)
  pub check_on_duty : (d : Duty) (c : DutyCall) → RefusedIff (checked_of (running_on_duty d c)) refused (DutyRunRefused d c)
  pub run_on_duty : (d : Duty) (c : DutyCall) → RefusedIff (duty_ran_of d (running_on_duty d c)).checked refused (DutyRunRefused d c)
  pub read_model : (f : List ℕ) → Bytes f → RefusedIff (model_reading_of (phone_of f)) refused (ModelFault f)
  pub judge : (s table f : List ℕ) → Bytes s → Bytes f → (answer : Outcome Judgment) → JudgedAs (judging s table f) answer
      → RefusedIff answer refused (JudgeRefused (DeskRefused s) (counted_of (counting s)) (length table) f)
  pub judge_within : (limit : ℕ) (s table f : List ℕ) → Bytes s → Bytes f → (answer : Outcome Judgment) → JudgedAs (judging_within limit s table f) answer
      → RefusedIff answer refused (JudgeRefused (WithinRefused limit s) (counted_of (counting_within limit s)) (length table) f)
  -- matching says besides which of its three inputs it refuses
  pub match_first : (f g l : List ℕ) → Bytes f → (answer : MatchAnswer) → MatchedAs (matching_of f g l) answer → RefusedIff answer refused_first (ModelFault f)
  pub match_second : (f g l : List ℕ) → Bytes f → Bytes g → (answer : MatchAnswer) → MatchedAs (matching_of f g l) answer
      → RefusedIff answer refused_second (SecondRefused f g)
  pub match_pairs : (f g l : List ℕ) → Bytes f → Bytes g → (answer : MatchAnswer) → MatchedAs (matching_of f g l) answer
      → RefusedIff answer refused_pairs (PairsRefused f g l)

-- A refused call changes no lent buffer, and hands back the state that it was given, a refused run with counts of 0.
pub record LeavesUnchanged : Type 0 where
  pub fill : (s table : List ℕ) → IfRefused (counted_of (filling s table)) refused (TableUnchanged mark table (filling s table))
  pub fill_within : (limit : ℕ) (s table : List ℕ)
      → IfRefused (counted_of (filling_within limit s table)) refused (TableUnchanged mark table (filling_within limit s table))
  pub fill_preview : (s table : List ℕ) → IfRefused (counted_of (preview_filling s table)) refused (TableUnchanged mark table (preview_filling s table))
  pub fill_short : (s table : List ℕ) → IfRefused (counted_of (short_filling s table)) refused (TableUnchanged mark table (short_filling s table))
  pub run : (s : State) (c : Call) → IfRefused (result_of s (running s c)).checked refused (RunUnchanged s c (running s c))
  pub come_on : (d : Duty) (x : Coming) → IfRefused (changed_of d (coming_on d x)).checked refused ((changed_of d (coming_on d x)).duty ≡ d)
  pub go_off : (d : Duty) (number : ℕ) → IfRefused (changed_of d (going_off d number)).checked refused ((changed_of d (going_off d number)).duty ≡ d)
  pub run_on_duty : (d : Duty) (c : DutyCall)
      → IfRefused (duty_ran_of d (running_on_duty d c)).checked refused (DutyUnchanged d c.output c.verdicts (running_on_duty d c))
  pub judge : (s table f : List ℕ) (answer : Outcome Judgment) → JudgedAs (judging s table f) answer
      → IfRefused answer refused (table_after_judging s table f ≡ table)
  pub judge_within : (limit : ℕ) (s table f : List ℕ) (answer : Outcome Judgment) → JudgedAs (judging_within limit s table f) answer
      → IfRefused answer refused (table_after_judging_within limit s table f ≡ table)

-- Any other changes nothing that isn't its own: filling no entry behind the rows, a run no byte behind the kept scans and the verdicts. Judging leaves what
-- filling leaves. Counting is lent nothing.
pub record LeavesTheRest : Type 0 where
  pub fill : (s table : List ℕ) (n : ℕ) → counted_of (filling s table) ≡ accepted n → SameAfterRows n table (table_filled s table)
  pub fill_within : (limit : ℕ) (s table : List ℕ) (n : ℕ) → counted_of (filling_within limit s table) ≡ accepted n
      → SameAfterRows n table (table_filled_within limit s table)
  pub fill_preview : (s table : List ℕ) (n : ℕ) → counted_of (preview_filling s table) ≡ accepted n
      → SameAfterRows n table (preview_table_filled s table)
  pub fill_short : (s table : List ℕ) (n : ℕ) → counted_of (short_filling s table) ≡ accepted n
      → SameAfterRows n table (short_table_filled s table)
  pub run : (s : State) (c : Call) → (result_of s (running s c)).checked ≡ accepted tt → OnlyFronts s c (running s c)
  pub run_on_duty : (d : Duty) (c : DutyCall) → (duty_ran_of d (running_on_duty d c)).checked ≡ accepted tt
      → Fronts c.scans c.output c.verdicts (running_on_duty d c) (duty_ran_of d (running_on_duty d c)).kept
  pub judge : (s table f : List ℕ) (answer : Outcome Judgment) → JudgedAs (judging s table f) answer → (answer ≡ accepted Meets) ⊎ (answer ≡ accepted Breaks)
      → table_after_judging s table f ≡ table_filled s table
  pub judge_within : (limit : ℕ) (s table f : List ℕ) (answer : Outcome Judgment) → JudgedAs (judging_within limit s table f) answer
      → (answer ≡ accepted Meets) ⊎ (answer ≡ accepted Breaks) → table_after_judging_within limit s table f ≡ table_filled_within limit s table

-- The numbers of the library: the most equations that a rule may have, in the library and on the rule page, the entry of a code that is dropped, and the most
-- pairs that a list may have.
pub record LibraryNumbers : Type 0 where
  pub most_equations : most ≡ 1000
  pub most_on_page : preview_limit ≡ 32
  pub dropped_entry : mark ≡ 65535
  pub most_pairs_lem : most_pairs ≡ 4096

pub record DemandOne : Type 1 where
  pub numbers : LibraryNumbers
  pub refuses : RefusesExactly
  pub unchanged : LeavesUnchanged
  pub rest : LeavesTheRest

-- ---- demand 2

-- with room for its scans, a call on the table is taken
abbrev pub Takes : (n : ℕ) → (table : List ℕ) → Type 0
Takes n table =
    (h : History) → Calls most mark (OnTableOrRefused most mark table n) h → (c : Call) → OnTable table n c
    → length c.scans ≤ length c.output → length c.scans ≤ length c.verdicts
    → (result_of h.state (running h.state c)).checked ≡ accepted tt

-- 2. A scan is dropped exactly when the scans kept so far, followed by it, violate the rule; and with room for its scans no call on the filled table is
-- refused. The reason of a dropped scan is the lowest ff node at which they violate it, and a kept scan has none; a list violates a rule at an ff node
-- exactly when it violates the rule that has no other ff. A file is read exactly where it is the encoding of a rule, or of a model, within the limits,
-- and then as that one. Counting accepts exactly the rules of the grammar within the limits, except those that no finite model satisfies, and counts the
-- equations that are reached. Filling answers the same, where the table has 256 entries for each, and accepts no other. A model is said to meet a rule
-- exactly when it satisfies it.
pub record DemandTwo : Type 1 where
  pub drops : (s table : List ℕ) (r : Rule) (n : ℕ) (left : List ℕ) → Fills most mark s table r n left → SiftsOn most mark r n left
  pub takes : (s table : List ℕ) (r : Rule) (n : ℕ) (left : List ℕ) → Fills most mark s table r n left → Takes n left
  pub explains : (s : List ℕ) → Bytes s → (kept : List ℕ) (scan : ℕ) → Reasons most s kept scan
  pub places : (s : List ℕ) → Bytes s → (r : Rule) → rule_of s ≡ accepted r → Placed r
  pub explains_runs : (s table : List ℕ) (r : Rule) (n : ℕ) (left : List ℕ) → Fills most mark s table r n left → ReasonsOn most mark s n left
  pub reads_rule : (s : List ℕ) → Bytes s → (n : NumberedRule) → (reading_of (rule_of s) ≡ accepted n)
      ↔ ((r : Rule) × RuleWithinLimits r × (s ≡ encode r) × (n ≡ numbered r))
  pub reads_model : (f : List ℕ) → Bytes f → (m : PhoneModel) → (model_reading_of (phone_of f) ≡ accepted m)
      ↔ ((y : Phone) × PhoneWithinLimits y × (f ≡ encode_phone y) × (m ≡ stored y))
  pub models : (f : List ℕ) (y : Phone) → (Bytes f × (phone_of f ≡ accepted y)) ↔ (PhoneWithinLimits y × (f ≡ encode_phone y))
  pub fills : (s table : List ℕ) (r : Rule) (n : ℕ) (left : List ℕ) → Fills most mark s table r n left
      ↔ (RuleWithinLimits r × (s ≡ encode r) × (counted_of (filling s table) ≡ accepted n) × (left ≡ table_filled s table))
  pub accepts : (s : List ℕ) → Bytes s → ((n : ℕ) × (counted_of (counting s) ≡ accepted n)) ↔ Acceptable most s
  pub counts : (s : List ℕ) → Bytes s → (r : Rule) (n : ℕ) → rule_of s ≡ accepted r → counted_of (counting s) ≡ accepted n
      → (n ≡ length (equations_of most r)) × ReachableEquations r (equations_of most r)
  pub as_counted : (s table : List ℕ) → FillsAsCounted (counting s) (filling s table) (length table)
  pub with_room : (s table : List ℕ) → Bytes s → FillsWithRoom most s (counting s) (filling s table) (length table)
  pub judges : (s table : List ℕ) (r : Rule) (n : ℕ) (left : List ℕ) → Fills most mark s table r n left
      → (f : List ℕ) (y : Phone) (answer : Outcome Judgment) → phone_of f ≡ accepted y → JudgedAs (judging s table f) answer → JudgedExactly r y answer

-- The same within a limit of the caller's. The rules that are taken are those of the grammar with at most so many equations; they are those that are taken
-- without it and counted up to it, each table that is filled is one that is filled without it, and so all that is said of these holds of them.
pub record DemandTwoWithin : Type 1 where
  pub accepts : (limit : ℕ) (s : List ℕ) → Bytes s
      → ((n : ℕ) × (counted_of (counting_within limit s) ≡ accepted n)) ↔ Acceptable (min limit most) s
  pub counts : (limit : ℕ) (s : List ℕ) (n : ℕ) → (counted_of (counting_within limit s) ≡ accepted n)
      ↔ ((counted_of (counting s) ≡ accepted n) × (n ≤ limit))
  pub as_counted : (limit : ℕ) (s table : List ℕ) → FillsAsCounted (counting_within limit s) (filling_within limit s table) (length table)
  pub with_room : (limit : ℕ) (s table : List ℕ) → Bytes s
      → FillsWithRoom (min limit most) s (counting_within limit s) (filling_within limit s table) (length table)
  pub fills : (limit : ℕ) (s table : List ℕ) (n : ℕ) → Bytes s → counted_of (filling_within limit s table) ≡ accepted n
      → (r : Rule) × Fills most mark s table r n (table_filled_within limit s table)
  pub judges : (limit : ℕ) (s table : List ℕ) (n : ℕ) → Bytes s → counted_of (filling_within limit s table) ≡ accepted n
      → (f : List ℕ) (y : Phone) (answer : Outcome Judgment) → phone_of f ≡ accepted y → JudgedAs (judging_within limit s table f) answer
      → (r : Rule) × (rule_of s ≡ accepted r) × JudgedExactly r y answer

-- The same of the short table, and of the files that it can be filled from. Its count is at least 1 and at most that of the long table, and no table that
-- monitors the rule has fewer rows.
pub record DemandTwoShort : Type 1 where
  pub drops : (s table : List ℕ) (r : Rule) (n : ℕ) (left : List ℕ) → FillsShort most mark s table r n left → SiftsOn most mark r n left
  pub takes : (s table : List ℕ) (r : Rule) (n : ℕ) (left : List ℕ) → FillsShort most mark s table r n left → Takes n left
  pub explains_runs : (s table : List ℕ) (r : Rule) (n : ℕ) (left : List ℕ) → FillsShort most mark s table r n left → ReasonsOn most mark s n left
  pub fills : (s table : List ℕ) (r : Rule) (n : ℕ) (left : List ℕ) → FillsShort most mark s table r n left
      ↔ (RuleWithinLimits r × (s ≡ encode r) × (counted_of (short_filling s table) ≡ accepted n) × (left ≡ short_table_filled s table))
  pub accepts : (s : List ℕ) → Bytes s → ((n : ℕ) × (counted_of (short_counting s) ≡ accepted n)) ↔ Acceptable most s
  pub counts : (s : List ℕ) → RefusesAlike most s
  pub shortest : (s : List ℕ) → Bytes s → (r : Rule) (n : ℕ) → rule_of s ≡ accepted r → counted_of (short_counting s) ≡ accepted n
      → (rows : ℕ) (rival : List ℕ) → WellFormedTable rows mark rows rival → Monitors r (lookup 256 mark rival) 0 → n ≤ rows
  pub as_counted : (s table : List ℕ) → FillsAsCounted (short_counting s) (short_filling s table) (length table)
  pub with_room : (s table : List ℕ) → Bytes s → FillsWithRoom most s (short_counting s) (short_filling s table) (length table)

-- The same of the rule page. It shows exactly the rules that the desk would accept with a limit of 32; they are those that the desk accepts and counts up
-- to 32, its answers and tables are the desk's, and so all that is said of these holds of them.
pub record DemandTwoPreview : Type 1 where
  pub accepts : (s : List ℕ) → Bytes s → ((n : ℕ) × (counted_of (preview_counting s) ≡ accepted n)) ↔ Acceptable preview_limit s
  pub counts : (s : List ℕ) (n : ℕ) → (counted_of (preview_counting s) ≡ accepted n)
      ↔ ((counted_of (counting s) ≡ accepted n) × (n ≤ preview_limit))
  pub agrees : (s : List ℕ) (n : ℕ) → counted_of (preview_counting s) ≡ accepted n → SameAtDesk s n
  pub fills : (s table : List ℕ) (n : ℕ) → Bytes s → counted_of (preview_filling s table) ≡ accepted n
      → (r : Rule) × Fills most mark s table r n (preview_table_filled s table)
  pub as_counted : (s table : List ℕ) → FillsAsCounted (preview_counting s) (preview_filling s table) (length table)
  pub with_room : (s table : List ℕ) → Bytes s → FillsWithRoom preview_limit s (preview_counting s) (preview_filling s table) (length table)

-- The same of rules on duty, after any orderly calls. A scan is dropped exactly when for some of them the scans kept since it came on, followed by it,
-- violate it. No run that lends the rows with which they came on is refused with 16. What is kept in a spell doesn't violate its rule. And rules between
-- whose comings no scan was kept filter as the rule does that joins them, until one comes on or goes off.
pub record DemandTwoDuty : Type 0 where
  pub drops : DutyDropsExactly most mark
  pub never_unfit : OnDutyNeverUnfit most mark
  pub safe : SpellsSafe most mark
  pub joins : JoinsAsOne most mark

-- ---- demand 3

-- 3. For every accepted rule and model: the model behind the monitor satisfies the rule; where the model already does, the two are strongly bisimilar;
-- every walk of the model whose trace doesn't violate the rule is there behind the monitor, with the same trace, to the same phone state. What becomes
-- of walks with dropped scans is said too.
pub record DemandThree : Type 1 where
  pub enforces : (s table : List ℕ) (r : Rule) (n : ℕ) (left : List ℕ) → Fills most mark s table r n left → EnforcesRule mark r left
  pub short_enforces : (s table : List ℕ) (r : Rule) (n : ℕ) (left : List ℕ) → FillsShort most mark s table r n left → EnforcesRule mark r left
  -- and a phone behind the short table is strongly bisimilar to itself behind the long one
  pub short_bisimilar : (s table : List ℕ) (r : Rule) (n : ℕ) (long : List ℕ) → Fills most mark s table r n long
      → (table' : List ℕ) (m : ℕ) (short : List ℕ) → FillsShort most mark s table' r m short → (f : List ℕ) (y : Phone) → Bytes f → phone_of f ≡ accepted y
      → Bisimilar (monitored (suppressing (lookup 256 mark short)) 0 (model_of y)) (monitored (suppressing (lookup 256 mark long)) 0 (model_of y))

-- ---- pairs from the simulator

-- The answer to two models and a list of pairs is yes exactly where the list has the pair 0, 0 and is a strong bisimulation between them; which lists are
-- accepted, and as which pairs; repeats don't count. After a yes the two models are bisimilar and satisfy the same rules, and judging answers the same of both.
-- Where they are bisimilar, some list gets a yes.
pub record DemandMatching : Type 1 where
  pub exactly : MatchesExactly
  pub accepts : AcceptsPairs
  pub repeats : RepeatsHarmless
  pub alike : MatchedAlike
  pub judged_alike : ModelsJudgedAlike
  pub some_list : SomeListMatches
