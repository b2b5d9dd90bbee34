-- The record that was read settles the way, and the calls before it say what they left of the parts.
use Rattle.std.proofs.Common.{refl, ◌≤◌, arith}
use Rattle.reading.specs.Rule.{truth, falsity, variable}
use Rattle.reading.proofs.Basics.Results.{passed_up}
use Rattle.reading.proofs.Functions.Parts.{record_refused, parts_are, reads_alone, reads_necessity, reads_max, first_refused, first_leaves, reads_both}
use Rattle.reading.proofs.formulas.+read_formula.Goals as goal

pub returns-in_err-record : goal.returns-in_err-record
returns-in_err-record t c = record_refused _ _ _ _ _ c.in_err-record.ensures (passed_up _ _ c.from_residual.ensures.1 refl)

pub returns-in-Necessity : goal.returns-in-Necessity
returns-in-Necessity t c =
    let few : c.args.left ≤ 64 = omega arith in
    reads_necessity _ _ _ _ _ few (rw c.in-Necessity.is at c.in_ok-record.ensures) (rw c.guarded.ensures at c.read_formula.ensures)

pub returns-in-Max : goal.returns-in-Max
returns-in-Max t c =
    let few : c.args.left ≤ 64 = omega arith in
    reads_max _ _ _ _ _ few (rw c.in-Max.is at c.in_ok-record.ensures) (rw c.inside_max.ensures at c.read_formula-in-Max.ensures)

-- ---- a "both"

pub returns-in_err-first-in-Both : goal.returns-in_err-first-in-Both
returns-in_err-first-in-Both t c =
    first_refused _ _ _ _ _ (rw c.in-Both.is at c.in_ok-record.ensures) c.in_err-first-in-Both.ensures
    (passed_up _ _ c.from_residual-in_err-first-in-Both.ensures.1 refl)

pub overflow_sub-nodes : goal.overflow_sub-nodes
overflow_sub-nodes t c = omega (arith, first_leaves _ _ _ _ _ (rw c.in-Both.is at c.in_ok-record.ensures) c.in_ok-first-in-Both.ensures)

pub read_formula-requires-in-Both-2 : goal.read_formula-requires-in-Both-2
read_formula-requires-in-Both-2 t c =
    let less = first_leaves _ _ _ _ _ (rw c.in-Both.is at c.in_ok-record.ensures) c.in_ok-first-in-Both.ensures in
    (omega (arith, less), omega (arith, less))

pub returns-in-Both : goal.returns-in-Both
returns-in-Both t c =
    let few : c.args.left ≤ 64 = omega arith in
    reads_both _ _ _ _ _ (rw c.in-Both.is at c.in_ok-record.ensures) c.in_ok-first-in-Both.ensures few c.read_formula-in-Both-2.ensures

-- ---- what has no parts

pub returns-in-Truth : goal.returns-in-Truth
returns-in-Truth t c = reads_alone truth (parts_are _ _ _ _ _ (rw c.in-Truth.is at c.in_ok-record.ensures)) refl

pub returns-in-Falsity : goal.returns-in-Falsity
returns-in-Falsity t c = reads_alone falsity (parts_are _ _ _ _ _ (rw c.in-Falsity.is at c.in_ok-record.ensures)) refl

pub returns-in-Variable : goal.returns-in-Variable
returns-in-Variable t c =
    reads_alone (variable c.in-Variable.depth) (parts_are _ _ _ _ _ (rw c.in-Variable.is at c.in_ok-record.ensures)) (rw c.max_of.ensures)
