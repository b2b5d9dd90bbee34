-- Each family by the sets that its equations are. Under another limit a file has the answer that follows from the two limits. Every equation but the first is
-- found from an earlier one, so its number stands in the table: of 256 equations 255 too.
use Prim.Native.Nat.{ℕ, ◌*◌, ◌≤◌, ◌<◌}
use mathlib.Core.Path.{◌≡◌, ◌∙◌, ap}
use mathlib.Core.Bool.{Bool, true, false, cond}
use mathlib.Core.List.{List}
use native.Mathlib.Omega.{arith}
use lib.Dec.{eqb}
use lib.ListN.{length, get_or}
use borrow.Author.Tests.{eq-eqb}
use Rattle.reading.specs.Rule.{Rule}
use Rattle.reading.proofs.Basics.ListLaws.{get_or-inside}
use Rattle.synthesis.specs.Monitor.{mark, most, Answer, dropped, next, cases, row_of, lookup}
use Rattle.synthesis.specs.Search.{index_of}
use Rattle.synthesis.specs.Building.{equations_of, with_equations, table_left, Fills}
use Rattle.synthesis.proofs.Numberings.FindingOrder.{numbered_as_found}
use Rattle.synthesis.proofs.Tables.Equations.{equations_distinct}
use Rattle.synthesis.proofs.Tables.Built.{built_numbers, built_well_formed, fills_outcome, fills_count}
use Rattle.synthesis.proofs.Quotients.TwoLimits.{old_rules_stay}
use Rattle.examples.specs.Examples.{pool_file}
use Rattle.examples.specs.RefusalExamples.{times}
use Rattle.examples.specs.FamilyExamples.{window_file, window_rule, Stands255, FamilyExamples}
use Rattle.examples.proofs.FileAnswers.{reads_fills}
use Rattle.examples.proofs.NumberPool.{number_pool}
use Rattle.examples.proofs.Chains.{chain_reads}
use Rattle.examples.proofs.Windows.{window_7, window_8, window_9, window_10}

-- ---- the numbers of equations in a table

-- an earlier row has an entry that means equation i
record Leads (table : List ℕ) (i : ℕ) : Type 0 where
  equation : ℕ
  code : ℕ
  earlier : equation < i
  is_code : code < 256
  means : lookup 256 mark table equation code ≡ next i

module _ {s table : List ℕ} {r : Rule} {n : ℕ} {left : List ℕ} (b : Fills most mark s table r n left) where
  leads : (i : ℕ) → 0 < i → i < n → Leads left i
  leads i some h =
      let es = equations_of most r in
      let inside : i < length es = omega (arith, h, fills_count b) in
      let f = (numbered_as_found most r).found i some inside in
      let number : index_of (get_or es i 0) es ≡ i = equations_distinct most r i inside in
      let answer = built_numbers most mark s table b.below f.equation f.code f.is_code (with_equations most r) (fills_outcome b)
      (omega (arith, inside, f.earlier)) in
      record {
        equation = f.equation;
        code = f.code;
        earlier = f.earlier;
        is_code = f.is_code;
        means = ap (λ (t : List ℕ). lookup 256 mark t f.equation f.code) b.left_is
            ∙ answer ∙ ap (λ (a : Answer ℕ). cases a dropped (λ e. next (index_of e es))) f.leads ∙ ap next number;
      }

-- what means an equation is its number
entry_of : (x i : ℕ) → cond (eqb x mark) dropped (next x) ≡ next i → x ≡ i
entry_of x i e = on (eqb x mark) e
  where
    on : (b : Bool) → cond b dropped (next x) ≡ next i → x ≡ i
    on true q = let z : ◌≡◌ {A = ℕ} 0 1 = cc in absurd (omega arith)
    on false q = cc

module _ (table : List ℕ) (room : 256 * 256 ≤ length table) where
  window_fills : Fills most mark (window_file 8) table (window_rule 8) 256 (table_left most mark (window_file 8) table)
  unfolding times
  window_fills = reads_fills (window_file 8) (window_rule 8) 256 window_8 (search arith) table room

  stands_255 : Stands255 (table_left most mark (window_file 8) table)
  stands_255 =
      let left = table_left most mark (window_file 8) table in
      let wf = built_well_formed most mark (window_file 8) table (window_rule 8) 256 left window_fills in
      let l = leads window_fills 255 (omega arith) (omega arith) in
      let row = row_of 256 left l.equation in
      let inside : l.code < length row = omega (arith, l.is_code, (wf.row l.equation (omega (arith, l.earlier))).whole) in
      let is : get_or row l.code mark ≡ 255 = entry_of (get_or row l.code mark) 255 l.means in
      let by_old : get_or row l.code 255 ≡ 255 = get_or-inside row l.code 255 mark inside ∙ is in
      record {
        equation = l.equation;
        code = l.code;
        inside = (omega (arith, l.earlier), l.is_code);
        entry = get_or-inside row l.code 0 mark inside ∙ is;
        means = l.means;
        has_row = (wf.row 255 (omega arith)).whole;
        by_old_mark = rw (eq-eqb (get_or row l.code 255) 255 by_old);
      }

pub family_examples : FamilyExamples
family_examples = record {
  chains = chain_reads;
  window_7 = window_7;
  window_7_within = ((old_rules_stay 128 most (window_file 7) (omega arith)).counted 128).1 (window_7.answers.counting, omega arith);
  window_8 = window_8;
  window_8_within = (old_rules_stay 128 most (window_file 8) (omega arith)).over 256 (omega arith) window_8.answers.counting;
  window_8_entry = stands_255;
  window_9 = window_9;
  window_10 = window_10;
  pool_within_0 = (old_rules_stay 0 most pool_file (omega arith)).over 3 (omega arith) number_pool.file.answers.counting;
}
