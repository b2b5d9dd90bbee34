-- The rule whose slots go round: its equations, its lines, the verdicts and the reasons are computed. Which phones meet it follows from what its pattern means.
use Prim.Native.Nat.{ℕ, suc, ◌≤◌, ◌<◌}
use mathlib.Core.Path.{◌≡◌, refl, sym, ap}
use mathlib.Core.Logic.{◌⊎◌, inl, inr}
use mathlib.Core.Bool.{true, false, true≢false}
use mathlib.Core.List.{List, [], ◌∷◌}
use native.Mathlib.Nat.{lt_of_not-le}
use native.Mathlib.Decide.{dec_le}
use native.Mathlib.Omega.{arith}
use lib.ListN.{length}
use borrow.Author.Tests.{le-leb}
use Rattle.reading.specs.Pattern.{slot_of, bit, named, covers, least, count_below}
use Rattle.reading.specs.File.{accepted, records_at, formula_at, formula_of, rule_of}
use Rattle.reading.specs.declared.Pattern.{Pattern}
use Rattle.reading.proofs.Measures.NamedSlots.{named_means}
use Rattle.synthesis.specs.Monitor.{mark, most}
use Rattle.synthesis.specs.Violation.{ViolatesRule, by_falsity, by_code}
use Rattle.synthesis.specs.Answering.{first_of, answer_of, unsatisfiable}
use Rattle.synthesis.specs.Search.{explored, found}
use Rattle.synthesis.specs.Reason.{opened_falsities}
use Rattle.synthesis.specs.Table.{entries_of}
use Rattle.synthesis.specs.Building.{equations_of, table_left, Fills}
use Rattle.running.specs.Running.{start, run_from}
use Rattle.listing.specs.Text.{decimal_in, decimal}
use Rattle.enforcement.specs.Model.{Satisfies}
use Rattle.models.specs.Phone.{model_of, states_of, phone_of}
use Rattle.examples.specs.Examples.{pattern}
use Rattle.examples.specs.NumberingExamples.{Numbers}
use Rattle.examples.specs.RoundExample.{RoundPatterns, round_file, round_rule, round_sets, round_listing, round_scans, round_run}
use Rattle.examples.specs.RoundExample.{repeating_file, RoundExample}
use Rattle.examples.specs.PatternMeaning.{repeating_phone}
use Rattle.examples.proofs.FileAnswers.{row_left, reads_fills}
use Rattle.examples.proofs.Listed.{numbers}
use Rattle.examples.proofs.RunAnswers.{run_left}
use Rattle.examples.proofs.ModelAnswers.{judges_met, judges_broken}
use Rattle.examples.proofs.PatternMeaning.{pattern_meaning}
use Rattle.examples.proofs.ReasonExamples.{by_rule}

-- ---- patterns

-- a slot is over the last, or up to it
all_named : (last slot : ℕ) → named (suc last) last slot ≡ true
all_named last slot = (named_means (suc last) last slot).1 (inr (omega arith, side (dec_le slot last)))
  where
    side : Dec (slot ≤ last) → (suc last ≤ slot) ⊎ (slot ≤ last)
    side (yes h) = inr h
    side (no h) = inl (lt_of_not-le h)

whole_ring : (mask last code : ℕ) → covers (pattern mask (suc last) last) code ≡ covers (pattern mask 0 31) code
unfolding covers
whole_ring mask last c = rw (all_named last (slot_of c), le-leb 0 (slot_of c) (omega arith), le-leb (slot_of c) 31 (omega arith))

round_patterns : RoundPatterns
unfolding bit covers least count_below
round_patterns = record {
  five = refl;
  two_kinds = refl;
  two = refl;
  one = refl;
  whole_ring = whole_ring;
  two_patterns = λ e. omega (arith, ap (λ (p : Pattern). p.first) e);
}

-- ---- the rule

round_read : rule_of round_file ≡ accepted round_rule
unfolding rule_of records_at formula_of formula_at
round_read = refl

round_satisfiable : unsatisfiable round_rule ≡ false
unfolding unsatisfiable first_of
round_satisfiable = refl

round_equations : equations_of most round_rule ≡ round_sets
unfolding equations_of found explored first_of answer_of bit covers
round_equations = refl

round_numbers : Numbers round_file round_rule round_sets round_listing
unfolding entries_of answer_of bit covers least count_below decimal decimal_in
round_numbers = numbers round_file round_rule round_sets round_listing round_read round_satisfiable round_equations (omega arith) refl

round_fills : (table : List ℕ) → 512 ≤ length table → Fills most mark round_file table round_rule 2 (table_left most mark round_file table)
round_fills = reads_fills round_file round_rule 2 round_numbers.file (search arith)

round_run_lem : (table : List ℕ) → 512 ≤ length table → run_from mark (table_left most mark round_file table) start round_scans ≡ round_run
unfolding entries_of answer_of bit covers
round_run_lem table room =
    let row = row_left round_file round_rule round_read round_satisfiable round_sets round_equations (omega arith) table room in
    rw (row 0 (omega arith), row 1 (omega arith))

violating_31 : ViolatesRule round_rule (31 ∷ [])
unfolding bit covers
violating_31 = by_code refl by_falsity

violating_2 : ViolatesRule round_rule (2 ∷ [])
unfolding bit covers
violating_2 = by_code refl by_falsity

not_violating : ViolatesRule round_rule (29 ∷ []) → ⊥
unfolding bit covers
not_violating (by_code q x) = true≢false (sym q)

-- ---- models

-- a phone that scans a code which violates the rule by itself, and one whose code doesn't
unsatisfied : (c : ℕ) → c < 256 → ViolatesRule round_rule (c ∷ []) → Satisfies (model_of (repeating_phone c)) round_rule → ⊥
unsatisfied c byte h sat = let means = pattern_meaning (pattern 1 30 2 ∷ []) 0 in (means.satisfies c byte).0 sat ((means.violates c).0 h)

satisfied : (c : ℕ) → c < 256 → (ViolatesRule round_rule (c ∷ []) → ⊥) → Satisfies (model_of (repeating_phone c)) round_rule
satisfied c byte h = let means = pattern_meaning (pattern 1 30 2 ∷ []) 0 in (means.satisfies c byte).1 (λ k. h ((means.violates c).1 k))

pub round_example : RoundExample
unfolding opened_falsities first_of answer_of bit covers least phone_of states_of records_at
round_example =
    let file = round_numbers.file in
    let at-31 = unsatisfied 31 (omega arith) violating_31 in
    let at-2 = unsatisfied 2 (omega arith) violating_2 in
    let at-29 = satisfied 29 (omega arith) not_violating in
    record {
      patterns = round_patterns;
      numbers = round_numbers;
      violating_31 = violating_31;
      violating_2 = violating_2;
      not_violating = not_violating;
      run = λ table room. run_left (round_fills table room) round_scans round_run (round_run_lem table room);
      dropped_31 = by_rule round_rule file [] 31;
      dropped_2 = by_rule round_rule file [] 2;
      kept_29 = by_rule round_rule file [] 29;
      unsatisfied_31 = at-31;
      unsatisfied_2 = at-2;
      breaks_31 = record { file = refl; judged = judges_broken round_file round_rule 2 file (repeating_file 31) (repeating_phone 31) refl at-31 };
      breaks_2 = record { file = refl; judged = judges_broken round_file round_rule 2 file (repeating_file 2) (repeating_phone 2) refl at-2 };
      satisfied = at-29;
      meets = record { file = refl; judged = judges_met round_file round_rule 2 file (repeating_file 29) (repeating_phone 29) refl at-29 };
    }
