-- The table that filling leaves: it is the monitor of the rule's equations, each renamed to its row. The limit on equations and the mark for
-- dropped are any, the limit not over the mark.
use Prim.Native.Nat.{ℕ, ◌*◌, ◌≤◌, ◌<◌}
use mathlib.Core.Path.{◌≡◌, refl, sym, ◌∙◌, ap, subst}
use mathlib.Core.Logic.{◌↔◌}
use mathlib.Core.Bool.{false}
use mathlib.Core.List.{List}
use native.Mathlib.Omega.{arith}
use lib.ListN.{length, get_or, replicate, length-replicate}
use Rattle.reading.specs.Rule.{Rule, RuleWithinLimits, encode, Bytes}
use Rattle.reading.specs.File.{Outcome, accepted, rule_of, refused}
use Rattle.reading.proofs.Accepting.Encoding.{encoding_is_bytes}
use Rattle.reading.proofs.Accepting.Accepted.{accepts_encodings}
use Rattle.synthesis.specs.Monitor.{kept, verdicts, ended, Monitors, row_of, lookup}
use Rattle.synthesis.proofs.Monitors.Renaming.{Renames, renamed_runs, renamed_monitors}
use Rattle.synthesis.specs.Opening.{Answers}
use Rattle.synthesis.specs.Answering.{first_of, answer_of, unsatisfiable}
use Rattle.synthesis.specs.Search.{index_of}
use Rattle.synthesis.specs.Table.{entries_of, filled, WellFormedTable}
use Rattle.synthesis.specs.Building.{equations_of, Synthesis, with_equations, synthesis_of, filling_of, counted_of, table_after, table_left}
use Rattle.synthesis.specs.Building.{numbered_answer, FillsBy, Fills}
use Rattle.synthesis.specs.Promises.{FillsAsCounted, TableMonitors, TableDrops, RefusesViolatedByEmpty, TableUnchanged, RefusedUnchanged}
use Rattle.synthesis.specs.Promises.{FillsAccepted, BuiltWellFormed, EntryAnswers, EntriesAnswer, SameAfterRows, TableRest}
use Rattle.synthesis.proofs.Unfolding.AnsweringLaws.{answers_as_defined}
use Rattle.synthesis.proofs.Monitors.RuleMonitor.{rule_monitors, unsatisfiable_iff}
use Rattle.synthesis.proofs.Numberings.Indices.{Member}
use Rattle.synthesis.proofs.Monitors.MonitorLaws.{drops_violations}
use Rattle.synthesis.proofs.Tables.FilledTables.{filled_row}
use Rattle.synthesis.proofs.Tables.TableMonitors.{table_numbered, table_renames, table_answers, filled_well_formed, filled_same_after}
use Rattle.synthesis.proofs.Tables.SynthesisOutcomes.{synthesis_accepts, refused_eight, refuses_eight, filling_by_count, filling_accepts, filling_accepted, fills_as_counted}
use Rattle.synthesis.proofs.Tables.SynthesisOutcomes.{counted_accepts, counted_refuses, accepts_as}
use Rattle.synthesis.proofs.Tables.Equations.{file_well_formed, first_index, first_member, equations_closed}

-- ---- a run over a table that goes as one over the equations

pub record RunsAs (mark : ℕ) (y : Synthesis) (table w : List ℕ) : Type 0 where
  pub keeps : kept (lookup 256 mark table) 0 w ≡ kept (answer_of y.rule) (first_of y.rule) w
  pub judges : verdicts (lookup 256 mark table) 0 w ≡ verdicts (answer_of y.rule) (first_of y.rule) w
  pub ends : ended (lookup 256 mark table) 0 w ≡ index_of (ended (answer_of y.rule) (first_of y.rule) w) y.equations
  pub found : Member (ended (answer_of y.rule) (first_of y.rule) w) y.equations

module _ (limit mark : ℕ) (s table : List ℕ) where
  -- the table of a rule
  abbrev rows_for : Rule → List ℕ
  rows_for r = filled mark (answer_of r) (equations_of limit r) 256 table

  -- no check refuses the file, which is r, and its rows are inside the table
  record Admits (r : Rule) : Type 0 where
    read : rule_of s ≡ accepted r
    satisfiable : unsatisfiable r ≡ false
    few : length (equations_of limit r) ≤ limit
    room : 256 * length (equations_of limit r) ≤ length table

  -- what holds of the table of each rule that is admitted, holds of what filling leaves
  leaves_admitted : (P : Synthesis → List ℕ → Type 0) → ((r : Rule) → Admits r → P (with_equations limit r) (rows_for r)) → (y : Synthesis)
      → filling_of limit s (length table) ≡ accepted y → P y (table_left limit mark s table)
  leaves_admitted P holds y e =
      let (synthesis, room) = filling_accepted (length table) (filling_by_count limit s (length table)) y e in
      rw e
      (synthesis_accepts limit s (λ y. 256 * length y.equations ≤ length table → P y (table_after mark (accepted y) table))
      (λ r read satisfiable few room. holds r (record { read = read; satisfiable = satisfiable; few = few; room = room })) y synthesis room)

  pub accepted_well_formed : (y : Synthesis) → filling_of limit s (length table) ≡ accepted y
      → WellFormedTable limit mark (length y.equations) (table_left limit mark s table)
  accepted_well_formed = leaves_admitted (λ y t. WellFormedTable limit mark (length y.equations) t) λ r admits.
      filled_well_formed limit mark (answer_of r) (equations_of limit r) table admits.room (equations_closed limit r admits.few)
      (omega (arith, first_member limit r)) admits.few

  pub built_rest : (y : Synthesis) → filling_of limit s (length table) ≡ accepted y → SameAfterRows (length y.equations) table (table_left limit mark s table)
  built_rest = leaves_admitted (λ y t. SameAfterRows (length y.equations) table t) λ r admits.
      filled_same_after limit mark (answer_of r) (equations_of limit r) table admits.room

  module _ (below : limit ≤ mark) where
    rows_rename : (r : Rule) → Admits r
        → Renames 256 (λ e. Member e (equations_of limit r)) (answer_of r) (lookup 256 mark (rows_for r)) (λ e. index_of e (equations_of limit r))
    rows_rename r admits =
        table_renames 256 mark (answer_of r) (equations_of limit r) (equations_closed limit r admits.few) table admits.room
        (omega (arith, admits.few))

    pub built_runs : (w : List ℕ) → Bytes w → (y : Synthesis) → filling_of limit s (length table) ≡ accepted y → RunsAs mark y (table_left limit mark s table) w
    built_runs w bytes = leaves_admitted (λ y t. RunsAs mark y t w) λ r admits.
        let l = equations_of limit r in
        let t = lookup 256 mark (rows_for r) in
        let renames = rows_rename r admits in
        let alike = renamed_runs 256 (λ e. Member e l) (answer_of r) t (λ e. index_of e l) renames (first_of r) w (first_member limit r) bytes in
        record {
          keeps = rw (first_index limit r) at alike.keeps;
          judges = rw (first_index limit r) at alike.judges;
          ends = rw (first_index limit r) at alike.ends;
          found = alike.stays;
        }

    -- each entry of the table is what its equation answers, by numbers
    pub built_numbers : (k c : ℕ) → c < 256 → (y : Synthesis) → filling_of limit s (length table) ≡ accepted y → k < length y.equations
        → lookup 256 mark (table_left limit mark s table) k c ≡ numbered_answer y k c
    built_numbers k c b = leaves_admitted (λ y t. k < length y.equations → lookup 256 mark t k c ≡ numbered_answer y k c) λ r admits h.
        table_numbered 256 mark (answer_of r) (equations_of limit r) (equations_closed limit r admits.few) table admits.room
        (omega (arith, admits.few)) k c h b

    module _ (bytes : Bytes s) where
      pub built_monitors : (y : Synthesis) → filling_of limit s (length table) ≡ accepted y
          → Monitors y.rule (lookup 256 mark (table_left limit mark s table)) 0
      built_monitors = leaves_admitted (λ y t. Monitors y.rule (lookup 256 mark t) 0) λ r admits.
          let l = equations_of limit r in
          let t = lookup 256 mark (rows_for r) in
          let renames = rows_rename r admits in
          let monitors = rule_monitors r (file_well_formed s bytes r admits.read) admits.satisfiable in
          subst (Monitors r t) (first_index limit r)
          (renamed_monitors r (λ e. Member e l) (answer_of r) t (λ e. index_of e l) renames (first_of r) (first_member limit r) monitors)

      pub built_answers : (k c : ℕ) → c < 256 → (y : Synthesis) → filling_of limit s (length table) ≡ accepted y → k < length y.equations
          → EntryAnswers y.rule y.equations k c (lookup 256 mark (table_left limit mark s table) k c)
      built_answers k c b =
          leaves_admitted (λ y t. k < length y.equations → EntryAnswers y.rule y.equations k c (lookup 256 mark t k c)) λ r admits h.
          let l = equations_of limit r in
          let few : length l ≤ mark = omega (arith, admits.few) in
          let is = table_answers 256 mark (answer_of r) l (equations_closed limit r admits.few) table admits.room few k c h b in
          let defined = answers_as_defined r (file_well_formed s bytes r admits.read) in
          record { answers = subst (Answers r (get_or l k 0) c) (sym is.0) (defined.answers (get_or l k 0) c); under = is.1 }

-- ---- from the count alone, whatever the mark

module _ (limit mark : ℕ) (s table : List ℕ) (n : ℕ) (e : counted_of (filling_of limit s (length table)) ≡ accepted n) where
  pub counted_well_formed : WellFormedTable limit mark n (table_left limit mark s table)
  counted_well_formed =
      let y = counted_accepts (filling_of limit s (length table)) n e in
      rw y.2 (accepted_well_formed limit mark s table y.0 y.1)

  pub counted_rest : SameAfterRows n table (table_left limit mark s table)
  counted_rest =
      let y = counted_accepts (filling_of limit s (length table)) n e in
      rw y.2 (built_rest limit mark s table y.0 y.1)

-- a row of what was counted, where the table has room, is that of its equation
pub counted_row : (limit mark : ℕ) (s table : List ℕ) (y : Synthesis) → synthesis_of limit s ≡ accepted y → 256 * length y.equations ≤ length table
    → (k : ℕ) → k < length y.equations
    → row_of 256 (table_left limit mark s table) k ≡ entries_of mark y.answer y.equations (get_or y.equations k 0) 256
counted_row limit mark s table y is room k h =
    rw (filling_accepts (length table) (filling_by_count limit s (length table)) is room)
    (filled_row mark y.answer y.equations 256 table room k h)

-- ---- what fills a table

pub fills_accepted : FillsAccepted
fills_accepted limit mark s table n below bytes e =
    let y = counted_accepts (filling_of limit s (length table)) n e in
    let synthesis = (filling_accepted (length table) (filling_by_count limit s (length table)) y.0 y.1).0 in (
      y.0.rule,
      record {
        below = below;
        bytes = bytes;
        read = synthesis_accepts limit s (λ y. rule_of s ≡ accepted y.rule) (λ r read satisfiable few. read) y.0 synthesis;
        counted = e;
        left_is = refl;
      },
    )

-- where counting answers n, a table with the entries of n rows is filled, by either filling
pub fills_when_counted : (outcome_of : (limit : ℕ) → List ℕ → (capacity : ℕ) → Outcome Synthesis) (counting : Outcome Synthesis) (limit mark : ℕ)
    (s table : List ℕ) (r : Rule) (n : ℕ) → limit ≤ mark → Bytes s → rule_of s ≡ accepted r → counted_of counting ≡ accepted n
    → FillsAsCounted counting (outcome_of limit s (length table)) (length table) → 256 * n ≤ length table
    → FillsBy outcome_of limit mark s table r n (table_after mark (outcome_of limit s (length table)) table)
fills_when_counted outcome_of counting limit mark s table r n below bytes read e as_counted room =
    record { below = below; bytes = bytes; read = read; counted = as_counted.enough n e room; left_is = refl }

-- such a table
abbrev pub zero_rows : ℕ → List ℕ
zero_rows n = replicate (256 * n) 0

pub zero_rows_lem : (n : ℕ) → length (zero_rows n) ≡ 256 * n
zero_rows_lem n = length-replicate {A = ℕ} (256 * n) 0

-- A file fills a table as a rule, by either filling, exactly where it is the encoding of that rule, within the limits, and is counted.
pub fills_by_iff : (outcome_of : (limit : ℕ) → List ℕ → (capacity : ℕ) → Outcome Synthesis) (limit mark : ℕ) (s table : List ℕ) (r : Rule) (n : ℕ)
    (after : List ℕ) → limit ≤ mark
    → FillsBy outcome_of limit mark s table r n after
    ↔ (RuleWithinLimits r × (s ≡ encode r) × (counted_of (outcome_of limit s (length table)) ≡ accepted n)
    × (after ≡ table_after mark (outcome_of limit s (length table)) table))
fills_by_iff outcome_of limit mark s table r n after below = (
  λ b. let (within, is) = (accepts_encodings s b.bytes r).0 b.read in (within, is, b.counted, b.left_is),
  λ (within, is, counted, left_is).
      let bytes : Bytes s = rw is (encoding_is_bytes r within) in
      record { below = below; bytes = bytes; read = (accepts_encodings s bytes r).1 (within, is); counted = counted; left_is = left_is },
)

-- the encoding of a rule does so as that rule
pub fills_encoded : (limit mark : ℕ) (r : Rule) (table : List ℕ) (n : ℕ) → limit ≤ mark → RuleWithinLimits r
    → counted_of (filling_of limit (encode r) (length table)) ≡ accepted n → Fills limit mark (encode r) table r n (table_left limit mark (encode r) table)
fills_encoded limit mark r table n below within e =
    (fills_by_iff filling_of limit mark (encode r) table r n (table_left limit mark (encode r) table) below).1 (within, refl, e, refl)

module _ {limit mark : ℕ} {s table : List ℕ} {r : Rule} {n : ℕ} {after : List ℕ} (b : Fills limit mark s table r n after) where
  -- the outcome is that of the rule
  pub fills_outcome : filling_of limit s (length table) ≡ accepted (with_equations limit r)
  fills_outcome =
      let y = counted_accepts (filling_of limit s (length table)) n b.counted in
      y.1 ∙ ap accepted (accepts_as limit s r b.read y.0 (filling_accepted (length table) (filling_by_count limit s (length table)) y.0 y.1).0)

  -- counting answers as filling did
  pub fills_counted : counted_of (synthesis_of limit s) ≡ accepted n
  fills_counted = rw (← (fills_as_counted limit s (length table)).same n b.counted) b.counted

  pub fills_count : n ≡ length (equations_of limit r)
  fills_count =
      let e : accepted (length (equations_of limit r)) ≡ accepted n = sym (ap counted_of fills_outcome) ∙ b.counted in
      cc

-- ---- the promises

pub table_monitors : TableMonitors
table_monitors limit mark s table r n after b =
    rw b.left_is (built_monitors limit mark s table b.below b.bytes (with_equations limit r) (fills_outcome b))

pub table_drops : TableDrops
table_drops limit mark s table r n after b = drops_violations r (lookup 256 mark after) 0 (table_monitors limit mark s table r n after b)

pub table_rest : TableRest
table_rest limit mark s table r n after b = rw b.left_is (counted_rest limit mark s table n b.counted)

pub built_well_formed : BuiltWellFormed
built_well_formed limit mark s table r n after b = rw b.left_is (counted_well_formed limit mark s table n b.counted)

pub entries_answer : EntriesAnswer
entries_answer limit mark s table r n after b k c h code =
    rw b.left_is
    (built_answers limit mark s table b.below b.bytes k c code (with_equations limit r) (fills_outcome b) (omega (arith, fills_count b, h)))

-- a refusal leaves any table as it was, whichever filling is refused
pub outcome_unchanged : (mark : ℕ) (table : List ℕ) (o : Outcome Synthesis) (number place : ℕ) → counted_of o ≡ refused number place
    → TableUnchanged mark table o
outcome_unchanged mark table o number place e = rw (counted_refuses o number place e) (record { table = refl })

pub refused_unchanged : RefusedUnchanged
refused_unchanged limit mark s table = outcome_unchanged mark table (filling_of limit s (length table))

pub refuses_violated_by_empty : RefusesViolatedByEmpty
refuses_violated_by_empty limit s bytes r read =
    let iff = unsatisfiable_iff r (file_well_formed s bytes r read) in
    (λ e. iff.0 (refused_eight limit s r read (counted_refuses (synthesis_of limit s) 8 0 e)), λ h. rw (refuses_eight limit s r read (iff.1 h)))
