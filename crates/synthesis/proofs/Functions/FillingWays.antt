-- What counting and filling answer and leave: a law for each way out of the code, from the plan of a rule.
use Prim.Native.Nat.{ℕ, ◌*◌, ◌≤◌, ◌<◌}
use mathlib.Core.Path.{◌≡◌, refl, sym, ◌∙◌, ap}
use mathlib.Core.List.{List}
use native.Mathlib.Omega.{arith}
use lib.ListN.{length}
use Rattle.std.specs.Prelude.{Result, IsErrAnd}
use Rattle.reading.specs.File.{Outcome, accepted, refused, and_then}
use Rattle.reading.specs.Refusals.{as_outcome}
use Rattle.reading.specs.declared.refusals.Refusal.{Refusal}
use Rattle.reading.proofs.Basics.Results.{passed_up}
use Rattle.synthesis.specs.Monitor.{mark, Answer}
use Rattle.synthesis.specs.Answering.{answer_of}
use Rattle.synthesis.specs.Table.{filled}
use Rattle.synthesis.specs.Building.{Synthesis, in_table, counted_of, table_after}
use Rattle.synthesis.specs.Arrays.{answer_by, Found}
use Rattle.synthesis.specs.Plans.{IsRefusal, Planned}
use Rattle.synthesis.specs.declared.Plan.{Plan}
use Rattle.synthesis.proofs.Tables.FilledTables.{filled_cong}
use Rattle.synthesis.proofs.Tables.SynthesisOutcomes.{filling_refuses, filling_too_short, filling_accepts}
use Rattle.synthesis.proofs.Functions.GraphLaws.{graph_answers}

-- ---- counting

pub counted_refused : {o : Outcome Synthesis} (result : Result ℕ Refusal) (r : Refusal) → IsErrAnd result (λ r'. r' ≡ r) → IsRefusal o r
    → as_outcome result ≡ counted_of o
counted_refused result r is e = passed_up result r is (rw e)

-- ---- either filling, by counting

-- the answer and the table after a call
pub record FillLeaves (filling : Outcome Synthesis) (table : List ℕ) (answer : Outcome ℕ) (after : List ℕ) : Type 0 where
  pub value : answer ≡ counted_of filling
  pub table_after : after ≡ table_after mark filling table

module _ {counting filling : Outcome Synthesis} (table : List ℕ) (by_count : filling ≡ and_then counting (in_table (length table))) where
  pub refused_leaves : (result : Result ℕ Refusal) (r : Refusal) → IsErrAnd result (λ r'. r' ≡ r) → IsRefusal counting r
      → FillLeaves filling table (as_outcome result) table
  refused_leaves result r is e =
      let refuses = filling_refuses (length table) by_count e in
      record { value = counted_refused result r is refuses; table_after = rw refuses }

  module _ {y : Synthesis} (is : counting ≡ accepted y) {n : ℕ} (n-is : n ≡ length y.equations) where
    pub too_short_leaves : length table < 256 * n → FillLeaves filling table (refused 10 0) table
    too_short_leaves h =
        let refuses = filling_too_short (length table) by_count is (omega (arith, h, n-is)) in
        record { value = rw refuses; table_after = rw refuses }

    pub filled_leaves : 256 * n ≤ length table → (after : List ℕ) → after ≡ filled mark y.answer y.equations 256 table
        → FillLeaves filling table (accepted n) after
    filled_leaves room after left =
        let accepts = filling_accepts (length table) by_count is (omega (arith, room, n-is)) in
        record { value = rw (accepts, n-is); table_after = rw accepts left }

-- ---- the plan

module _ {o : Outcome Synthesis} {found : Found} {p : Plan} (d : Planned o found p) where
  pub counted_plan : accepted p.count ≡ counted_of o
  counted_plan = rw (d.is, d.fills.count_is)

  -- what filling from it needs
  pub plan_fits : (capacity : ℕ) → 256 * p.count ≤ capacity → 256 * length found.equations ≤ capacity
  plan_fits capacity room = omega (arith, room, d.fills.count_is, ap length d.fills.found_is)

  -- and what it gives
  pub plan_filled : (table after : List ℕ) → after ≡ filled mark (answer_by p.graph) found.equations 256 table
      → after ≡ filled mark d.synthesis.answer d.synthesis.equations 256 table
  plan_filled table after e =
      let agree = graph_answers p.graph d.fills.graph_is in
      e ∙ ap (λ (l : List ℕ). filled mark (answer_by p.graph) l 256 table) d.fills.found_is
      ∙ filled_cong mark 256 (answer_by p.graph) (answer_of d.synthesis.rule) d.synthesis.equations (λ i c h. agree _ c) table
      ∙ ap (λ (a : ℕ → ℕ → Answer ℕ). filled mark a d.synthesis.equations 256 table) (sym d.fills.answer_is)
