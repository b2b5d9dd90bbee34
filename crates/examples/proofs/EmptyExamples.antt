-- The equations, the lines and the runs are computed. A mask of 0 covers no code, so whatever stands after it is alike.
use Prim.Native.Nat.{ℕ}
use mathlib.Core.Path.{◌≡◌, refl}
use mathlib.Core.Bool.{false}
use mathlib.Core.List.{List, [], ◌∷◌, ◌++◌}
use native.Mathlib.Omega.{arith}
use lib.ListN.{replicate}
use Rattle.reading.specs.Pattern.{bit, covers, least, count_below}
use Rattle.reading.specs.Rule.{truth, falsity, necessity, max, variable, Rule, Bytes}
use Rattle.reading.specs.File.{records_at, formula_at, formula_of, rule_of}
use Rattle.reading.specs.Nodes.{whole, first}
use Rattle.reading.proofs.Measures.Extents.{covers_none, no_extent_lem}
use Rattle.synthesis.specs.Violation.{covered_by, ViolatesRule, by_falsity, by_code}
use Rattle.synthesis.specs.Alike.{CoversNone, DifferAfterEmpty, same_necessity, same_falsity}
use Rattle.synthesis.specs.Monitor.{mark}
use Rattle.synthesis.specs.Answering.{first_of, answer_of, unsatisfiable}
use Rattle.synthesis.specs.Search.{explored, found}
use Rattle.synthesis.specs.Reason.{opened_falsities}
use Rattle.synthesis.specs.Table.{entries_of}
use Rattle.synthesis.specs.Building.{equations_of}
use Rattle.synthesis.proofs.EmptyPatterns.AlikeLaws.{violated_alike}
use Rattle.synthesis.proofs.EmptyPatterns.Differing.{differing_alike}
use Rattle.listing.specs.Text.{decimal_in, decimal}
use Rattle.examples.specs.Examples.{pattern, rule}
use Rattle.examples.specs.ModelExamples.{never_rule}
use Rattle.examples.specs.ShortExamples.{idle_rule}
use Rattle.examples.specs.NumberingExamples.{Numbers}
use Rattle.examples.specs.EmptyExamples.{unused_file, unused_rule, unused_listing, after_none_file, after_none_rule, after_none_listing, EmptyPatterns}
use Rattle.examples.specs.EmptyExamples.{alike_patterns, shorter_file, shorter_rule, longer_file, longer_rule, alike_listing, alike_scans, alike_run}
use Rattle.examples.specs.EmptyExamples.{HasAlikeRun, AlikeRules, AfterSome, EmptyExamples}
use Rattle.examples.proofs.FileAnswers.{reads, row_left, reads_fills}
use Rattle.examples.proofs.Listed.{numbers}
use Rattle.examples.proofs.RunAnswers.{run_left}
use Rattle.examples.proofs.ReasonExamples.{by_rule}
use Rattle.examples.proofs.EmptyCounts.{empty_counts}

-- ---- alone

empty_patterns : EmptyPatterns
unfolding rule_of records_at formula_of formula_at unsatisfiable equations_of found explored entries_of first_of answer_of bit covers least count_below decimal decimal_in
empty_patterns = record {
  measured = λ first last. no_extent_lem (pattern 0 first last) refl;
  slots_kept = reads (1 ∷ 0 ∷ 30 ∷ 2 ∷ 2 ∷ []) (rule (pattern 0 30 2 ∷ []) truth) refl refl (0 ∷ []) refl (omega arith);
  unused = numbers unused_file unused_rule (0 ∷ []) unused_listing refl refl refl (omega arith) refl;
  unused_extents = refl;
  after_none = numbers after_none_file after_none_rule (1 ∷ 0 ∷ []) after_none_listing refl refl refl (omega arith) refl;
  ff_after_none = record {
    k = 0;
    ms = [];
    pattern = 0;
    formula = falsity;
    node = whole;
    empty = covers_none (pattern 0 5 5) refl;
    after = omega arith;
    inside = omega arith;
  };
  guards = reads _ (rule (pattern 0 0 0 ∷ []) (max (necessity 0 (variable 0)))) refl refl (2 ∷ 0 ∷ []) refl (omega arith);
}

-- ---- two rules that differ only after an empty pattern

first_empty : CoversNone (covered_by alike_patterns) 0
first_empty = covers_none (pattern 0 5 5) refl

differ : DifferAfterEmpty shorter_rule longer_rule
differ = record { patterns = refl; formulas = refl }

shorter : Numbers shorter_file shorter_rule (10 ∷ 0 ∷ []) alike_listing
unfolding rule_of records_at formula_of formula_at unsatisfiable equations_of found explored entries_of first_of answer_of bit covers least count_below decimal decimal_in
shorter = numbers shorter_file shorter_rule (10 ∷ 0 ∷ []) alike_listing refl refl refl (omega arith) refl

longer : Numbers longer_file longer_rule (34 ∷ 0 ∷ []) alike_listing
unfolding rule_of records_at formula_of formula_at unsatisfiable equations_of found explored entries_of first_of answer_of bit covers least count_below decimal decimal_in
longer = numbers longer_file longer_rule (34 ∷ 0 ∷ []) alike_listing refl refl refl (omega arith) refl

-- of either rule, by its two rows
runs_alike : (s : List ℕ) (r : Rule) (set : ℕ) → Numbers s r (set ∷ 0 ∷ []) alike_listing → unsatisfiable r ≡ false → Bytes s
    → entries_of mark (answer_of r) (set ∷ 0 ∷ []) set 256 ≡ replicate 5 1 ++ mark ∷ replicate 250 1
    → entries_of mark (answer_of r) (set ∷ 0 ∷ []) 0 256 ≡ replicate 256 1 → HasAlikeRun s
runs_alike s r set known satisfiable bytes first-row ended-row table room =
    let row = row_left s r known.file.reading satisfiable (set ∷ 0 ∷ []) known.equations (omega arith) table room in
    run_left (reads_fills s r 2 known.file bytes table room) alike_scans alike_run
    (rw (row 0 (omega arith), first-row, row 1 (omega arith), ended-row))

alike_rules : AlikeRules
unfolding unsatisfiable first_of answer_of entries_of opened_falsities bit covers least
alike_rules = record {
  differ = differ;
  renumbered = same_necessity {p = 0} {p' = 1} (λ c. refl) same_falsity;
  spread = λ f g. record { patterns = refl; formulas = refl };
  alike = differing_alike shorter_rule longer_rule differ;
  shorter = shorter;
  longer = longer;
  shorter_run = runs_alike shorter_file shorter_rule 10 shorter refl (search arith) refl refl;
  longer_run = runs_alike longer_file longer_rule 34 longer refl (search arith) refl refl;
  shorter_reason = by_rule shorter_rule shorter.file [] 5;
  longer_reason = by_rule longer_rule longer.file [] 5;
  skipped = record {
    k = 1;
    ms = [];
    pattern = 0;
    formula = falsity;
    node = first whole;
    empty = first_empty;
    after = omega arith;
    inside = omega arith;
  };
  deeper = record {
    k = 1;
    ms = [];
    pattern = 0;
    formula = max (necessity 1 (variable 0));
    node = first whole;
    empty = first_empty;
    after = omega arith;
    inside = omega arith;
  };
}

-- ---- two rules that differ after a pattern that covers a code

after_some : AfterSome
unfolding bit covers
after_some = record {
  violated = violated;
  not_violated = safe;
  not_alike = λ a. safe ((violated_alike never_rule idle_rule a (5 ∷ [])).0 violated);
}
  where
    violated : ViolatesRule never_rule (5 ∷ [])
    violated = by_code refl by_falsity

    safe : ViolatesRule idle_rule (5 ∷ []) → ⊥
    safe (by_code q x) = elim x [ ]

pub empty_examples : EmptyExamples
empty_examples = record { patterns = empty_patterns; counts = empty_counts; alike_rules = alike_rules; after_some = after_some }
