-- What this crate promises, as statements over the definitions; proofs/ has a theorem of each of these types. The limit on equations and
-- the mark for dropped are any; with `most` and `mark` these are the terms of the contracts of counting, of filling and of judging.
use Rattle.std.specs.Prelude.{ℕ, ◌*◌, ◌≤◌, ◌<◌, ◌≡◌, ◌↔◌, ◌⊎◌, List, length, get_or, take}
use Rattle.reading.specs.Rule.{Rule, RuleWithinLimits, encode, Bytes}
use Rattle.reading.specs.File.{Outcome, accepted, refused, rule_of}
use Rattle.reading.specs.Promises.{OneFault}
use Rattle.synthesis.specs.Alike.{RulesAlike}
use Rattle.synthesis.specs.Monitor.{Monitors, lookup}
use Rattle.synthesis.specs.Building.{Synthesis, synthesis_of, filling_of, counted_of, table_left, short_of, short_filling_of, Fills, FillsShort}
use Rattle.synthesis.specs.Building.{preview_limit, preview_of, preview_filling_of}
use Rattle.synthesis.specs.Promises.{Closed}
use Rattle.enforcement.specs.Model.{Model, Finite, ByteCodes, Satisfies, SatisfiesDecided, Bisimilar, suppressing, monitored}
use Rattle.enforcement.specs.Promises.{Enforces, WalksBehind}
use Rattle.models.specs.Phone.{Phone, no_step, model_of, PhoneWithinLimits, encode_phone, phone_of}
use Rattle.models.specs.Faults.{Fault}
use Rattle.models.specs.Judging.{stored, model_reading_of, judging_of, JudgedAs, table_judged}
use Rattle.models.specs.declared.PhoneModel.{PhoneModel}
use Rattle.models.specs.declared.Judgment.{Judgment}
use Rattle.models.specs.declared.Judgment.TheVariants.{Meets, Breaks}

-- ---- enforcing

-- 1. A table enforces a rule: demand 3 holds for it and every model file that isn't refused, with dropped scans in the claim.
abbrev pub EnforcesRule : (mark : ℕ) → Rule → (table : List ℕ) → Type 1
EnforcesRule mark r table =
    (f : List ℕ) (y : Phone) → Bytes f → phone_of f ≡ accepted y
    → Enforces r (suppressing (lookup 256 mark table)) 0 (model_of y) × WalksBehind (lookup 256 mark table) 0 (model_of y)

-- The table that filling leaves does, whatever the table held before.
abbrev pub TablesEnforce : Type 1
TablesEnforce =
    (limit mark : ℕ) (s table : List ℕ) (r : Rule) (n : ℕ) (left : List ℕ) → Fills limit mark s table r n left → EnforcesRule mark r left

-- So does the filled short table, and any other that monitors a rule.
abbrev pub ShortTablesEnforce : Type 1
ShortTablesEnforce =
    (limit mark : ℕ) (s table : List ℕ) (r : Rule) (n : ℕ) (left : List ℕ) → FillsShort limit mark s table r n left → EnforcesRule mark r left

abbrev pub MonitorTablesEnforce : Type 1
MonitorTablesEnforce = (mark : ℕ) (r : Rule) (table : List ℕ) → Monitors r (lookup 256 mark table) 0 → EnforcesRule mark r table

-- Behind the two tables of a rule, every model whose codes are bytes is strongly bisimilar to itself from its start, whatever the tables held before.
abbrev pub ShortBisimilar : Type 1
ShortBisimilar =
    (limit mark : ℕ) (s table : List ℕ) (r : Rule) (n : ℕ) (long : List ℕ) → Fills limit mark s table r n long
    → (table' : List ℕ) (m : ℕ) (short : List ℕ) → FillsShort limit mark s table' r m short → (p : Model) → ByteCodes p
    → Bisimilar (monitored (suppressing (lookup 256 mark short)) 0 p) (monitored (suppressing (lookup 256 mark long)) 0 p)

-- ---- judging

-- 2. Judging. For phone models satisfaction with decided sets is satisfaction,
abbrev pub DecidedSatisfies : Type 1
DecidedSatisfies = (y : Phone) (r : Rule) → SatisfiesDecided (model_of y) r ↔ Satisfies (model_of y) r

-- so the answer to an accepted rule and model is "meets" exactly when the model satisfies the rule, and else "breaks".
pub record JudgedExactly (r : Rule) (y : Phone) (answer : Outcome Judgment) : Type 1 where
  pub meets : (answer ≡ accepted Meets) ↔ Satisfies (model_of y) r
  pub breaks : (answer ≡ accepted Breaks) ↔ (Satisfies (model_of y) r → ⊥)

abbrev pub JudgesExactly : Type 1
JudgesExactly =
    (limit mark : ℕ) (s table : List ℕ) (r : Rule) (n : ℕ) (left : List ℕ) → Fills limit mark s table r n left
    → (f : List ℕ) (y : Phone) (answer : Outcome Judgment) → phone_of f ≡ accepted y → JudgedAs (judging_of limit s (length table) f) answer
    → JudgedExactly r y answer

-- Two rules that differ only in formulas after empty patterns are satisfied by the same models. So judging answers the same of every model file under two
-- files with such rules and in tables of one size: the same refusal, or the same judgment.
abbrev pub MeetAlike : Type 1
MeetAlike = (r r' : Rule) → RulesAlike r r' → (m : Model) → Satisfies m r ↔ Satisfies m r'

abbrev pub JudgedAlike : Type 0
JudgedAlike =
    (limit : ℕ) (s s' : List ℕ) → Bytes s → Bytes s' → (r r' : Rule) → rule_of s ≡ accepted r → rule_of s' ≡ accepted r' → RulesAlike r r'
    → (table table' : List ℕ) → length table ≡ length table' → (f : List ℕ) (answer answer' : Outcome Judgment)
    → JudgedAs (judging_of limit s (length table) f) answer → JudgedAs (judging_of limit s' (length table') f) answer' → answer ≡ answer'

-- What judging leaves in the table, in the terms of its contract: where the answer is a refusal, of the rule or of the model, all entries as they were,
-- and else exactly what filling leaves.
pub record JudgingLeaves (answer : Outcome Judgment) (before left after : List ℕ) : Type 0 where
  pub refused : {number place : ℕ} → answer ≡ refused number place → after ≡ before
  pub judged : (answer ≡ accepted Meets) ⊎ (answer ≡ accepted Breaks) → after ≡ left

abbrev pub RefusedUnchanged : Type 0
RefusedUnchanged =
    (limit mark : ℕ) (s f table : List ℕ) (answer : Outcome Judgment) → JudgedAs (judging_of limit s (length table) f) answer →
    let left = table_left limit mark s table in
    JudgingLeaves answer table left (table_judged (judging_of limit s (length table) f) left table)

-- The order of refusals: that of the rule, if it has one; else 10, if the table has under 256 entries for each equation counted; else that of the model. Where
-- there is none, the model is judged.
pub record InOrder (limit : ℕ) (s : List ℕ) (capacity : ℕ) (f : List ℕ) (answer : Outcome Judgment) : Type 0 where
  pub rule : (number place : ℕ) → counted_of (synthesis_of limit s) ≡ refused number place → answer ≡ refused number place
  pub table : (n : ℕ) → counted_of (synthesis_of limit s) ≡ accepted n → capacity < 256 * n → answer ≡ refused 10 0
  pub model : (n : ℕ) → counted_of (synthesis_of limit s) ≡ accepted n → 256 * n ≤ capacity
      → (number place : ℕ) → model_reading_of (phone_of f) ≡ refused number place → answer ≡ refused number place
  pub judged : (n : ℕ) → counted_of (synthesis_of limit s) ≡ accepted n → 256 * n ≤ capacity → (m : PhoneModel) → model_reading_of (phone_of f) ≡ accepted m
      → (answer ≡ accepted Meets) ⊎ (answer ≡ accepted Breaks)

abbrev pub JudgesInOrder : Type 0
JudgesInOrder =
    (limit : ℕ) (s : List ℕ) (capacity : ℕ) (f : List ℕ) (answer : Outcome Judgment) → JudgedAs (judging_of limit s capacity f) answer
    → InOrder limit s capacity f answer

-- ---- which rules are accepted

-- 3. Demand 2, acceptance. Counting answers a count exactly when the file is the encoding of a well-formed rule within 32 patterns and 64 nodes, of
-- which at most `limit` equations are reached, and which some finite model satisfies. All that are reached stand in a list of at most so many sets
-- that is closed under the codes.
pub record Acceptable (limit : ℕ) (s : List ℕ) : Type 1 where
  pub rule : Rule
  pub within_limits : RuleWithinLimits rule
  pub encoded : s ≡ encode rule
  pub equations : List ℕ
  pub few : length equations ≤ limit
  pub closed : Closed rule equations
  pub model : Model
  pub finite : Finite model
  pub satisfied : Satisfies model rule

abbrev pub AcceptsExactly : Type 1
AcceptsExactly = (limit : ℕ) (s : List ℕ) → Bytes s → ((n : ℕ) × (counted_of (synthesis_of limit s) ≡ accepted n)) ↔ Acceptable limit s

-- So it is with counting for the short table.
abbrev pub ShortAcceptsExactly : Type 1
ShortAcceptsExactly = (limit : ℕ) (s : List ℕ) → Bytes s → ((n : ℕ) × (counted_of (short_of limit s) ≡ accepted n)) ↔ Acceptable limit s

-- Filling isn't refused exactly when besides the table has 256 entries for each equation counted.
abbrev pub FillsWithRoom : (limit : ℕ) → (s : List ℕ) → (counting filling : Outcome Synthesis) → (capacity : ℕ) → Type 1
FillsWithRoom limit s counting filling capacity =
    ((n : ℕ) × (counted_of filling ≡ accepted n)) ↔ (Acceptable limit s × ((n : ℕ) → counted_of counting ≡ accepted n → 256 * n ≤ capacity))

abbrev pub FillsExactly : Type 1
FillsExactly = (limit : ℕ) (s : List ℕ) (capacity : ℕ) → Bytes s → FillsWithRoom limit s (synthesis_of limit s) (filling_of limit s capacity) capacity

abbrev pub ShortFillsExactly : Type 1
ShortFillsExactly = (limit : ℕ) (s : List ℕ) (capacity : ℕ) → Bytes s → FillsWithRoom limit s (short_of limit s) (short_filling_of limit s capacity) capacity

-- So it is with counting and filling on the rule page, under its own limit.
abbrev pub PreviewAcceptsExactly : Type 1
PreviewAcceptsExactly = (s : List ℕ) → Bytes s → ((n : ℕ) × (counted_of (preview_of s) ≡ accepted n)) ↔ Acceptable preview_limit s

abbrev pub PreviewFillsExactly : Type 1
PreviewFillsExactly = (s : List ℕ) (capacity : ℕ) → Bytes s → FillsWithRoom preview_limit s (preview_of s) (preview_filling_of s capacity) capacity

-- A rule that was read is refused with 8 exactly when no model satisfies it, exactly when no finite one does, and exactly when no phone model does.
pub record RefusedAsUnsatisfiable (limit : ℕ) (s : List ℕ) (r : Rule) : Type 1 where
  pub no_model : (counted_of (synthesis_of limit s) ≡ refused 8 0) ↔ ((m : Model) → Satisfies m r → ⊥)
  pub no_finite : (counted_of (synthesis_of limit s) ≡ refused 8 0) ↔ ((m : Model) → Finite m → Satisfies m r → ⊥)
  pub no_phone : (counted_of (synthesis_of limit s) ≡ refused 8 0) ↔ ((y : Phone) → PhoneWithinLimits y → Satisfies (model_of y) r → ⊥)

abbrev pub RefusesUnsatisfiable : Type 1
RefusesUnsatisfiable = (limit : ℕ) (s : List ℕ) (r : Rule) → Bytes s → rule_of s ≡ accepted r → RefusedAsUnsatisfiable limit s r

-- ---- model files

-- 4. A model file is accepted exactly as the encoding of a phone model within the limits, and then as that model.
abbrev pub AcceptsPhones : Type 0
AcceptsPhones = (f : List ℕ) → Bytes f → (y : Phone) → (phone_of f ≡ accepted y) ↔ (PhoneWithinLimits y × (f ≡ encode_phone y))

-- So one file has one model.
abbrev pub OnePhone : Type 0
OnePhone = (y y' : Phone) → PhoneWithinLimits y → PhoneWithinLimits y' → encode_phone y ≡ encode_phone y' → y ≡ y'

-- What is handed up of a model: its states, its steps in their order, and how many there are.
pub record StoresModel (y : Phone) : Type 0 where
  pub states : (stored y).states ≡ y.states
  pub steps : (i : ℕ) → get_or (stored y).steps i no_step ≡ get_or y.steps i no_step
  pub counted : (stored y).nsteps ≡ length y.steps

-- In terms of what `read_model` ensures: it answers "accepted" exactly for such files, and hands up that model.
abbrev pub AnswersAccepted : Type 0
AnswersAccepted =
    (f : List ℕ) → Bytes f → (m : PhoneModel) → (model_reading_of (phone_of f) ≡ accepted m)
    ↔ ((y : Phone) × PhoneWithinLimits y × (f ≡ encode_phone y) × (m ≡ stored y))

-- A file is refused with a number at a place exactly where a clause of `Fault` has it so.
abbrev pub RefusesAtTheFault : Type 0
RefusesAtTheFault =
    (f : List ℕ) → Bytes f → (number place : ℕ) → (model_reading_of (phone_of f) ≡ refused number place) ↔ Fault f number place

-- So no two of its clauses differ in number or place, and none holds exactly where the file is accepted.
abbrev pub HasOneFault : Type 0
HasOneFault = (f : List ℕ) → Bytes f → OneFault (model_reading_of (phone_of f)) (Fault f)

-- What a file says is settled by its first 2,051 bytes, and not by 2,050.
abbrev pub SettledByFirstBytes : Type 0
SettledByFirstBytes = (f : List ℕ) (n : ℕ) → 2051 ≤ n → phone_of (take n f) ≡ phone_of f

abbrev pub NotByFewer : Type 0
NotByFewer =
    (f : List ℕ) × (y : Phone) × Bytes f × (phone_of (take 2050 f) ≡ accepted y) × (phone_of f ≡ refused 14 2050)

-- The codes of a model within the limits are bytes.
abbrev pub PhonesByteCodes : Type 0
PhonesByteCodes = (y : Phone) → PhoneWithinLimits y → ByteCodes (model_of y)

-- The model of a file is finite.
abbrev pub PhonesFinite : Type 0
PhonesFinite = (y : Phone) → Finite (model_of y)

-- ---- all of these

-- The theorem `promises` has this type, so that each promise has its proof.
pub record Promises : Type 1 where
  pub tables_enforce : TablesEnforce
  pub short_tables_enforce : ShortTablesEnforce
  pub monitor_tables_enforce : MonitorTablesEnforce
  pub short_bisimilar : ShortBisimilar
  pub decided_satisfies : DecidedSatisfies
  pub judges_exactly : JudgesExactly
  pub meet_alike : MeetAlike
  pub judged_alike : JudgedAlike
  pub refused_unchanged : RefusedUnchanged
  pub judges_in_order : JudgesInOrder
  pub accepts_exactly : AcceptsExactly
  pub short_accepts_exactly : ShortAcceptsExactly
  pub fills_exactly : FillsExactly
  pub short_fills_exactly : ShortFillsExactly
  pub preview_accepts_exactly : PreviewAcceptsExactly
  pub preview_fills_exactly : PreviewFillsExactly
  pub refuses_unsatisfiable : RefusesUnsatisfiable
  pub accepts_phones : AcceptsPhones
  pub one_phone : OnePhone
  pub stores_model : (y : Phone) → StoresModel y
  pub answers_accepted : AnswersAccepted
  pub refuses_at_the_fault : RefusesAtTheFault
  pub has_one_fault : HasOneFault
  pub settled_by_first_bytes : SettledByFirstBytes
  pub not_by_fewer : NotByFewer
  pub phones_byte_codes : PhonesByteCodes
  pub phones_finite : PhonesFinite
