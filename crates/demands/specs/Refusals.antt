-- When a call is refused, for each function that can refuse: a clause for each way, with the paper's number and place. `RuleFault` and `ModelFault` have
-- those of files. A table has 256 entries for each equation; there are at most `most`, on the rule page at most `preview_limit`, and `mark` stands for dropped.
use Rattle.std.specs.Prelude.{ℕ, min, ◌+◌, ◌*◌, ◌≤◌, ◌<◌, ◌≡◌, ◌⊎◌, List, length, get_or, drop}
use Rattle.reading.specs.Rule.{Rule, RuleWithinLimits, encode}
use Rattle.reading.specs.Faults.{Fault as RuleFault}
use Rattle.synthesis.specs.Monitor.{mark, most}
use Rattle.synthesis.specs.Building.{preview_limit}
use Rattle.synthesis.specs.Reason.{FirstViolated}
use Rattle.synthesis.specs.Promises.{Closed}
use Rattle.running.specs.Running.{start, moved}
use Rattle.running.specs.Calls.{Call}
use Rattle.running.specs.Spells.{DutyCall, Coming}
use Rattle.running.specs.DutyPromises.{rule_in, SoundDuty, OnDutyUnder}
use Rattle.running.specs.declared.State.{State}
use Rattle.running.specs.declared.Duty.{Duty}
use Rattle.enforcement.specs.Model.{Model, Finite, Satisfies}
use Rattle.models.specs.Phone.{Phone, PhoneWithinLimits, encode_phone}
use Rattle.models.specs.Faults.{Fault as ModelFault}
use Rattle.models.specs.PairFaults.{PairFault}
use Rattle.models.specs.Promises.{Acceptable}
use Rattle.reading.specs.File.{Outcome, accepted}

-- counting the equations of a rule file, where a rule with over `limit` of them is refused with the number `beyond`
pub data CountRefused (limit beyond : ℕ) (s : List ℕ) : (number place : ℕ) → Type 1 where
  -- 1 to 7: the file is no rule
  in_file : {number place : ℕ} → RuleFault s number place → CountRefused limit beyond s number place
  -- 8: no finite model satisfies the rule
  no_finite_model : (r : Rule) → RuleWithinLimits r → s ≡ encode r → ((m : Model) → Finite m → Satisfies m r → ⊥) → CountRefused limit beyond s 8 0
  -- 9, or what stands in its place: one does, and over `limit` equations are reached: no list of so few is closed under the codes
  too_many : (r : Rule) → RuleWithinLimits r → s ≡ encode r → (m : Model) → Finite m → Satisfies m r
      → ((es : List ℕ) → length es ≤ limit → Closed r es → ⊥) → CountRefused limit beyond s beyond 0

-- counting at the desk
abbrev pub DeskRefused : (s : List ℕ) → (number place : ℕ) → Type 1
DeskRefused s = CountRefused most 9 s

-- counting within a limit
abbrev pub WithinRefused : (limit : ℕ) → (s : List ℕ) → (number place : ℕ) → Type 1
WithinRefused limit s = CountRefused (min limit most) 9 s

-- counting on the page
abbrev pub PageRefused : (s : List ℕ) → (number place : ℕ) → Type 1
PageRefused s = CountRefused preview_limit 18 s

-- explaining a scan after these, whatever the scan is
pub data ExplainRefused (s kept : List ℕ) : (number place : ℕ) → Type 1 where
  -- 1 to 9: counting is refused
  in_counting : {number place : ℕ} → DeskRefused s number place → ExplainRefused s kept number place
  -- 17: it isn't, and the shortest front of the kept scans that violates the rule ends with the one at this place
  violating_scan : (a : Acceptable most s) (i : ℕ) → FirstViolated a.rule kept i → ExplainRefused s kept 17 i

-- filling a table of so many entries, where counting for it is refused by these clauses, and gives this answer
pub data FillRefused (Counting : (number place : ℕ) → Type 1) (counted : Outcome ℕ) (capacity : ℕ) : (number place : ℕ) → Type 1 where
  -- 1 to 9, or on the page 1 to 8 and 18: counting is refused
  in_rule : {number place : ℕ} → Counting number place → FillRefused Counting counted capacity number place
  -- 10: it isn't, and the table has fewer entries than the rows of all that are counted
  short_table_lem : (n : ℕ) → counted ≡ accepted n → capacity < 256 * n → FillRefused Counting counted capacity 10 0

-- what makes a table, a count and a state unfit for a run: element 256 × k + c is the entry of equation k for the code c
pub data Unfit (table : List ℕ) (count : ℕ) (s : State) : Type 0 where
  no_equations : count ≡ 0 → Unfit table count s
  many_equations : most < count → Unfit table count s
  no_such_equation : count ≤ s.equation → Unfit table count s
  short_rows : length table < 256 * count → Unfit table count s
  bad_entry : (k c : ℕ) → k < count → c < 256 → 256 * count ≤ length table → count ≤ get_or table (256 * k + c) 0
      → (get_or table (256 * k + c) 0 ≡ mark → ⊥) → Unfit table count s

-- running, with this state
pub data RunRefused (s : State) (c : Call) : (number place : ℕ) → Type 0 where
  -- 15: a buffer is shorter than the scans
  short_buffer : (length c.output < length c.scans) ⊎ (length c.verdicts < length c.scans) → RunRefused s c 15 0
  -- 16: the buffers are long enough, and the table, the count or the state is unfit
  unfit : length c.scans ≤ length c.output → length c.scans ≤ length c.verdicts → Unfit c.table c.count s → RunRefused s c 16 0

-- coming on duty, where these rules are on duty
pub data ComeRefused (d : Duty) (x : Coming) : (number place : ℕ) → Type 0 where
  -- 16: over four rules are on duty, or two under one number
  unsound : (SoundDuty d → ⊥) → ComeRefused d x 16 0
  -- 19: four are
  fifth : SoundDuty d → d.count ≡ 4 → ComeRefused d x 19 0
  -- 20: fewer are, and one of them under this number
  known : SoundDuty d → d.count < 4 → OnDutyUnder x.number d → ComeRefused d x 20 0
  -- 16: none of them is, and the table is unfit for its count
  unfit_table : SoundDuty d → d.count < 4 → (OnDutyUnder x.number d → ⊥) → Unfit (drop x.base x.tables) x.count start → ComeRefused d x 16 0

-- going off duty
pub data GoRefused (d : Duty) (which : ℕ) : (number place : ℕ) → Type 0 where
  -- 16: as above
  unsound : (SoundDuty d → ⊥) → GoRefused d which 16 0
  -- 21: no rule is on duty under this number
  absent : SoundDuty d → (OnDutyUnder which d → ⊥) → GoRefused d which 21 0

-- running on duty, and the check of such a run
pub data DutyRunRefused (d : Duty) (c : DutyCall) : (number place : ℕ) → Type 0 where
  -- 15: a buffer is shorter than the scans
  short_buffer : (length c.output < length c.scans) ⊎ (length c.verdicts < length c.scans) → DutyRunRefused d c 15 0
  -- 16: the buffers are long enough, and over four rules are on duty, or two under one number
  unsound : length c.scans ≤ length c.output → length c.scans ≤ length c.verdicts → (SoundDuty d → ⊥) → DutyRunRefused d c 16 0
  -- 16: they aren't, and the table, the count or the equation of one of them is unfit
  unfit_rule : length c.scans ≤ length c.output → length c.scans ≤ length c.verdicts → SoundDuty d → (i : ℕ) → i < d.count
      → Unfit (drop (rule_in d i).base c.tables) (rule_in d i).count (moved start (rule_in d i).equation) → DutyRunRefused d c 16 0

-- judging a model file under a rule file, with a table of so many entries, where counting is refused by these clauses, and gives this answer
pub data JudgeRefused (Counting : (number place : ℕ) → Type 1) (counted : Outcome ℕ) (capacity : ℕ) (f : List ℕ) : (number place : ℕ) → Type 1 where
  -- 1 to 10: filling is refused
  in_filling : {number place : ℕ} → FillRefused Counting counted capacity number place → JudgeRefused Counting counted capacity f number place
  -- 11 to 14: it isn't, and the file is no model
  in_model : {number place : ℕ} (n : ℕ) → counted ≡ accepted n → 256 * n ≤ capacity → ModelFault f number place
      → JudgeRefused Counting counted capacity f number place

-- matching two model files by a list of pairs: the first is refused by `ModelFault`; the second, where the first is a model within the limits
pub data SecondRefused (f g : List ℕ) : (number place : ℕ) → Type 0 where
  -- 11 to 14
  in_second : {number place : ℕ} (a : Phone) → PhoneWithinLimits a → f ≡ encode_phone a → ModelFault g number place → SecondRefused f g number place

-- and the list, where both are
pub data PairsRefused (f g l : List ℕ) : (number place : ℕ) → Type 0 where
  -- 22 to 24
  in_pairs : {number place : ℕ} (a b : Phone) → PhoneWithinLimits a → f ≡ encode_phone a → PhoneWithinLimits b → g ≡ encode_phone b
      → PairFault l a.states b.states number place → PairsRefused f g l number place
