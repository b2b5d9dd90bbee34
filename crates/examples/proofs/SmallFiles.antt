-- The small files: what reading says is computed, and with it what is said of the file.
use mathlib.Core.Path.{refl}
use mathlib.Core.List.{[], ◌∷◌}
use native.Mathlib.Omega.{arith}
use Rattle.reading.specs.Pattern.{bit, covers, least, count_below}
use Rattle.reading.specs.Rule.{truth, falsity}
use Rattle.reading.specs.File.{records_at, formula_at, formula_of, rule_of}
use Rattle.synthesis.specs.Answering.{first_of, answer_of, unsatisfiable}
use Rattle.synthesis.specs.Search.{explored, found}
use Rattle.synthesis.specs.Table.{entries_of}
use Rattle.synthesis.specs.Building.{equations_of}
use Rattle.examples.specs.Examples.{pattern, rule, SmallFiles}
use Rattle.examples.proofs.FileAnswers.{refuses, reads_unsatisfiable, reads, row_left}

pub small_files : SmallFiles
unfolding rule_of records_at formula_of formula_at unsatisfiable equations_of found explored entries_of first_of answer_of bit covers least count_below
small_files = record {
  empty = refuses [] 1 0 refl;
  truth_alone = reads (2 ∷ []) (rule [] truth) refl refl (0 ∷ []) refl (omega arith);
  truth_entries = λ table room. row_left (2 ∷ []) (rule [] truth) refl refl (0 ∷ []) refl (omega arith) table room 0 (omega arith);
  falsity_alone = reads_unsatisfiable (3 ∷ []) (rule [] falsity) refl refl;
  byte_after = refuses (2 ∷ 2 ∷ []) 3 1 refl;
  no_kind = refuses (0 ∷ []) 2 0 refl;
  no_max_lem = refuses (7 ∷ 0 ∷ []) 6 0 refl;
  not_guarded = refuses (6 ∷ 7 ∷ 0 ∷ []) 7 1 refl;
  no_pattern_lem = refuses (5 ∷ 0 ∷ 2 ∷ []) 6 0 refl;
  no_formula = refuses (1 ∷ 1 ∷ 5 ∷ 5 ∷ []) 1 4 refl;
  first_over_last = reads (1 ∷ 1 ∷ 6 ∷ 5 ∷ 2 ∷ []) (rule (pattern 1 6 5 ∷ []) truth) refl refl (0 ∷ []) refl (omega arith);
  first_over_last_extent = refl;
  last_slot = reads (1 ∷ 1 ∷ 31 ∷ 31 ∷ 2 ∷ []) (rule (pattern 1 31 31 ∷ []) truth) refl refl (0 ∷ []) refl (omega arith);
  last_slot_lowest = refl;
}
