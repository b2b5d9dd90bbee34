-- What this crate promises, as statements over the definitions; proofs/ has a theorem of each of these types.
use Rattle.std.specs.Prelude.{ℕ, ◌+◌, ◌*◌, ◌≤◌, ◌<◌, ◌≡◌, ◌↔◌, ◌⊎◌, Bool, List, [], ◌∷◌, ◌++◌, length, get_or, drop}
use Rattle.reading.specs.Rule.{Formula, necessity, WellFormed, Rule, Bytes}
use Rattle.reading.specs.File.{Outcome, accepted, rule_of, refused}
use Rattle.reading.specs.Nodes.{EnclosingMax, Node}
use Rattle.synthesis.specs.Violation.{Violates, ViolatesRule}
use Rattle.synthesis.specs.Monitor.{Answer, dropped, next, cases, kept, ended, Monitors, row_of, lookup}
use Rattle.synthesis.specs.NodeSet.{Has, empty_set}
use Rattle.synthesis.specs.Opening.{Opens, OpensToFalsity, Answers, IsFirst, ViolatesEquation}
use Rattle.synthesis.specs.Answering.{opening, opens_around, first_of, answer_of}
use Rattle.synthesis.specs.Table.{WellFormedTable}
use Rattle.synthesis.specs.Building.{equations_of, Synthesis, synthesis_of, filling_of, counted_of, table_after, table_left, Fills}
use Rattle.synthesis.specs.ReasonPromises.{ViolatesSomewhere, ReasonsExactly, ReasonsByEquation}

-- ---- violation

-- 1. A list that violates a formula violates it however it goes on.
abbrev pub ClosedUnderExtension : Type 0
ClosedUnderExtension =
    (covered : ℕ → ℕ → Bool) (bodies : List Formula) (f : Formula) (w v : List ℕ) → Violates covered bodies f w → Violates covered bodies f (w ++ v)

-- ---- well-formed rules, of any number of nodes

abbrev pub WellFormedFormula : Rule → Type 0
WellFormedFormula r = WellFormed (length r.patterns) [] r.formula

-- 2. The set that is computed for a node has the nodes to which it opens.
abbrev pub OpensAsDefined : Type 0
OpensAsDefined =
    (patterns : ℕ) (root : Formula) → WellFormed patterns [] root → (k : ℕ) (ms : List EnclosingMax) (f : Formula) → Node root k ms f
    → (m : ℕ) → Has (opening k (opens_around ms) f) m ↔ Opens root k m

-- So the first equation and every answer are as defined. The empty set drops nothing, and no code leads out of it.
pub record Answered (r : Rule) : Type 0 where
  pub first : IsFirst r (first_of r)
  pub answers : (e c : ℕ) → Answers r e c (answer_of r e c)
  pub empty : (c : ℕ) → answer_of r empty_set c ≡ next empty_set

abbrev pub AnswersAsDefined : Type 0
AnswersAsDefined = (r : Rule) → WellFormedFormula r → Answered r

-- 3. Answers follow violation: what is left of a list after its first code violates the next equation, or the code is dropped, exactly
-- when the list violates the equation. A list violates the rule where node 0 opens to ff, or else by the first equation.
abbrev pub ViolatesNext : Rule → Answer ℕ → List ℕ → Type 0
ViolatesNext r dropped w = Unit
ViolatesNext r (next e) w = ViolatesEquation r e w

pub record Tracks (r : Rule) : Type 0 where
  pub step : (e c : ℕ) (w : List ℕ) → ViolatesEquation r e (c ∷ w) ↔ ViolatesNext r (answer_of r e c) w
  pub end : (e : ℕ) → ViolatesEquation r e [] → ⊥
  pub start : (w : List ℕ) → ViolatesRule r w ↔ (OpensToFalsity r.formula 0 ⊎ ViolatesEquation r (first_of r) w)

abbrev pub TracksViolation : Type 0
TracksViolation = (r : Rule) → WellFormedFormula r → Tracks r

-- ---- what is said of a file

-- An answer with a count is about the file's rule, and the count is that of its equations.
pub record Counts (limit : ℕ) (s : List ℕ) (n : ℕ) : Type 0 where
  pub rule : Rule
  pub is : rule_of s ≡ accepted rule
  pub count : n ≡ length (equations_of limit rule)
  pub some : 0 < n
  pub few : n ≤ limit

abbrev pub AnswersCount : Type 0
AnswersCount = (limit : ℕ) (s : List ℕ) (n : ℕ) → counted_of (synthesis_of limit s) ≡ accepted n → Counts limit s n

-- Filling a table of so many entries goes by counting: it is refused where counting is, with the same number and place, and where counting answers n it
-- answers n, if 256 × n entries are there, and else 10. What it fills in is what was counted. Both tables are filled so.
pub record FillsAsCounted (counting filling : Outcome Synthesis) (capacity : ℕ) : Type 0 where
  pub enough : (n : ℕ) → counted_of counting ≡ accepted n → 256 * n ≤ capacity → counted_of filling ≡ accepted n
  pub too_short : (n : ℕ) → counted_of counting ≡ accepted n → capacity < 256 * n → counted_of filling ≡ refused 10 0
  pub same : (n : ℕ) → counted_of filling ≡ accepted n → filling ≡ counting
  pub refused : (number place : ℕ) → counted_of counting ≡ refused number place → counted_of filling ≡ refused number place

-- A filling that is refused leaves every entry of what it is lent as it was: the table.
pub record TableUnchanged (mark : ℕ) (before : List ℕ) (outcome : Outcome Synthesis) : Type 0 where
  pub table : table_after mark outcome before ≡ before

abbrev pub RefusedUnchanged : Type 0
RefusedUnchanged =
    (limit mark : ℕ) (s table : List ℕ) (number place : ℕ) → counted_of (filling_of limit s (length table)) ≡ refused number place
    → TableUnchanged mark table (filling_of limit s (length table))

-- ---- the table that filling leaves, as a monitor

-- Where filling answers a list of bytes with a count, and the limit is up to the mark, the file fills the table: what is promised of each file that does
-- is promised of each that isn't refused.
abbrev pub FillsAccepted : Type 0
FillsAccepted =
    (limit mark : ℕ) (s table : List ℕ) (n : ℕ) → limit ≤ mark → Bytes s → counted_of (filling_of limit s (length table)) ≡ accepted n
    → (r : Rule) × Fills limit mark s table r n (table_left limit mark s table)

-- 4. The table that filling leaves monitors the rule, whatever it held before. The mark for dropped is any number that no equation
-- has; with `most` and `mark` these are the terms of the contract of `fill`.
abbrev pub TableMonitors : Type 0
TableMonitors =
    (limit mark : ℕ) (s table : List ℕ) (r : Rule) (n : ℕ) (left : List ℕ) → Fills limit mark s table r n left
    → Monitors r (lookup 256 mark left) 0

-- A monitor drops a code exactly where the codes kept until then, with this one after them, violate the rule.
abbrev pub DropsViolations : {E : Type 0} → Rule → (answer : E → ℕ → Answer E) → (first : E) → Type 0
DropsViolations r answer first =
    (w : List ℕ) (c : ℕ) → Bytes w → c < 256
    → (answer (ended answer first w) c ≡ dropped) ↔ ViolatesRule r (kept answer first w ++ (c ∷ []))

abbrev pub MonitorsDrop : Type 1
MonitorsDrop = (E : Type 0) (r : Rule) (answer : E → ℕ → Answer E) (first : E) → Monitors r answer first → DropsViolations r answer first

-- So does the table.
abbrev pub TableDrops : Type 0
TableDrops =
    (limit mark : ℕ) (s table : List ℕ) (r : Rule) (n : ℕ) (left : List ℕ) → Fills limit mark s table r n left
    → DropsViolations r (lookup 256 mark left) 0

-- ---- refusals of rules

-- 5. A rule is refused with 8 exactly when the empty list violates it,
abbrev pub RefusesViolatedByEmpty : Type 0
RefusesViolatedByEmpty =
    (limit : ℕ) (s : List ℕ) → Bytes s → (r : Rule) → rule_of s ≡ accepted r
    → (counted_of (synthesis_of limit s) ≡ refused 8 0) ↔ ViolatesRule r []

-- and one that isn't, with 9 exactly when too many equations are reached: no list of at most `limit` sets has the first equation and,
-- with each of its sets, what the codes make of it.
pub record Closed (r : Rule) (es : List ℕ) : Type 0 where
  pub first : (i : ℕ) × (i < length es) × (get_or es i 0 ≡ first_of r)
  pub follows : (i c e : ℕ) → i < length es → c < 256 → answer_of r (get_or es i 0) c ≡ next e → (j : ℕ) × (j < length es) × (get_or es j 0 ≡ e)

abbrev pub RefusesTooMany : Type 0
RefusesTooMany =
    (limit : ℕ) (s : List ℕ) (r : Rule) → rule_of s ≡ accepted r → (counted_of (synthesis_of limit s) ≡ refused 8 0 → ⊥)
    → (counted_of (synthesis_of limit s) ≡ refused 9 0) ↔ ((es : List ℕ) → length es ≤ limit → Closed r es → ⊥)

-- ---- the equations and their numbers

-- 6. The equations that are counted: they are sets of necessities, no two are the same, kept codes lead from the first to each, and the
-- codes lead to no other.
pub record ReachableEquations (r : Rule) (es : List ℕ) : Type 0 where
  pub members : (i n : ℕ) → i < length es → Has (get_or es i 0) n
      → (p : ℕ) × (ms : List EnclosingMax) × (f : Formula) × Node r.formula n ms (necessity p f)
  pub distinct : (i j : ℕ) → i < length es → j < length es → get_or es i 0 ≡ get_or es j 0 → i ≡ j
  pub reached : (i : ℕ) → i < length es
      → (w : List ℕ) × Bytes w × (kept (answer_of r) (first_of r) w ≡ w) × (ended (answer_of r) (first_of r) w ≡ get_or es i 0)
  pub closed : Closed r es

abbrev pub ReachesEquations : Type 0
ReachesEquations =
    (limit : ℕ) (s : List ℕ) → Bytes s → (r : Rule) (n : ℕ) → rule_of s ≡ accepted r → counted_of (synthesis_of limit s) ≡ accepted n
    → ReachableEquations r (equations_of limit r)

-- Two numbers with the same members are the same number. So equations that differ as numbers differ as sets, and the count is one of sets.
abbrev pub SameMembersSameSet : Type 0
SameMembersSameSet = (a b : ℕ) → ((n : ℕ) → Has a n ↔ Has b n) → a ≡ b

-- Equations have the order in which they are found. The search asks code c of equation j before code c' of equation j':
abbrev pub Before : (j c j' c' : ℕ) → Type 0
Before j c j' c' = (j < j') ⊎ ((j ≡ j') × (c < c'))

-- Equation i is found where a code of an earlier equation leads to it, and all that is asked before leads to equations with smaller numbers.
pub record FoundBy (codes : ℕ) (answer : ℕ → ℕ → Answer ℕ) (es : List ℕ) (i : ℕ) : Type 0 where
  pub equation : ℕ
  pub code : ℕ
  pub earlier : equation < i
  pub is_code : code < codes
  pub leads : answer (get_or es equation 0) code ≡ next (get_or es i 0)
  pub before : (j c e : ℕ) → Before j c equation code → c < codes → answer (get_or es j 0) c ≡ next e → (k : ℕ) × (k < i) × (get_or es k 0 ≡ e)

-- The first equation has number 0, and every other is found so.
pub record AsFound (codes : ℕ) (answer : ℕ → ℕ → Answer ℕ) (first : ℕ) (es : List ℕ) : Type 0 where
  pub some : 0 < length es
  pub starts : get_or es 0 0 ≡ first
  pub found : (i : ℕ) → 0 < i → i < length es → FoundBy codes answer es i

-- This holds of every rule, also of one with too many equations.
abbrev pub NumberedAsFound : Type 0
NumberedAsFound = (limit : ℕ) (r : Rule) → AsFound 256 (answer_of r) (first_of r) (equations_of limit r)

-- A list of equations as in 6 has no other order that is as found.
abbrev pub OneNumbering : Type 0
OneNumbering =
    (r : Rule) (es es' : List ℕ) → ReachableEquations r es → ReachableEquations r es' → AsFound 256 (answer_of r) (first_of r) es
    → AsFound 256 (answer_of r) (first_of r) es' → es ≡ es'

-- ---- the entries of the table

-- The table is well formed for its count: each equation has a whole row, whose entries are the mark or under the count.
abbrev pub BuiltWellFormed : Type 0
BuiltWellFormed =
    (limit mark : ℕ) (s table : List ℕ) (r : Rule) (n : ℕ) (left : List ℕ) → Fills limit mark s table r n left
    → WellFormedTable limit mark n left

-- Row k is that of equation k: each entry, with the equation of its number for the number, is what equation k answers to the code.
pub record EntryAnswers (r : Rule) (es : List ℕ) (k c : ℕ) (a : Answer ℕ) : Type 0 where
  pub answers : Answers r (get_or es k 0) c (cases a dropped (λ j. next (get_or es j 0)))
  pub under : (j : ℕ) → a ≡ next j → j < length es

abbrev pub EntriesAnswer : Type 0
EntriesAnswer =
    (limit mark : ℕ) (s table : List ℕ) (r : Rule) (n : ℕ) (left : List ℕ) → Fills limit mark s table r n left
    → (k c : ℕ) → k < n → c < 256 → EntryAnswers r (equations_of limit r) k c (lookup 256 mark left k c)

-- Behind the last row nothing changes, and the table keeps its length.
pub record SameAfterRows (count : ℕ) (before after : List ℕ) : Type 0 where
  pub long : length after ≡ length before
  pub rest : drop (256 * count) after ≡ drop (256 * count) before

abbrev pub TableRest : Type 0
TableRest =
    (limit mark : ℕ) (s table : List ℕ) (r : Rule) (n : ℕ) (left : List ℕ) → Fills limit mark s table r n left
    → SameAfterRows n table left

-- What `row` hands back, of any table and for any number: the entries of the row, element 256 × k + c for the code c, where it is wholly inside the table,
-- and else an empty part.
pub record RowPart (table : List ℕ) (k : ℕ) : Type 0 where
  pub whole : 256 * k + 256 ≤ length table → length (row_of 256 table k) ≡ 256
  pub entries : 256 * k + 256 ≤ length table → (c : ℕ) → c < 256 → get_or (row_of 256 table k) c 0 ≡ get_or table (256 * k + c) 0
  pub none : length table < 256 * k + 256 → row_of 256 table k ≡ []

abbrev pub HandsBackRows : Type 0
HandsBackRows = (table : List ℕ) (k : ℕ) → RowPart table k

-- ---- all of these

-- The theorem `promises` has this type, so that each promise has its proof.
pub record Promises : Type 1 where
  pub closed_under_extension : ClosedUnderExtension
  pub opens_as_defined : OpensAsDefined
  pub answers_as_defined : AnswersAsDefined
  pub tracks_violation : TracksViolation
  pub answers_count : AnswersCount
  pub fills_as_counted : (limit : ℕ) (s : List ℕ) (capacity : ℕ) → FillsAsCounted (synthesis_of limit s) (filling_of limit s capacity) capacity
  pub refused_unchanged : RefusedUnchanged
  pub fills_accepted : FillsAccepted
  pub table_monitors : TableMonitors
  pub monitors_drop : MonitorsDrop
  pub table_drops : TableDrops
  pub refuses_violated_by_empty : RefusesViolatedByEmpty
  pub refuses_too_many : RefusesTooMany
  pub reaches_equations : ReachesEquations
  pub same_members_same_set : SameMembersSameSet
  pub numbered_as_found : NumberedAsFound
  pub one_numbering : OneNumbering
  pub built_well_formed : BuiltWellFormed
  pub entries_answer : EntriesAnswer
  pub table_rest : TableRest
  pub hands_back_rows : HandsBackRows
  pub violates_somewhere : ViolatesSomewhere
  pub reasons_exactly : ReasonsExactly
  pub reasons_by_equation : ReasonsByEquation
