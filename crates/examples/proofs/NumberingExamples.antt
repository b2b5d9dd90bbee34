-- The equations and the lines of the two rules are computed.
use mathlib.Core.Path.{refl}
use native.Mathlib.Omega.{arith}
use Rattle.reading.specs.Pattern.{bit, covers, least, count_below}
use Rattle.reading.specs.File.{records_at, formula_at, formula_of, rule_of}
use Rattle.synthesis.specs.Answering.{first_of, answer_of, unsatisfiable}
use Rattle.synthesis.specs.Search.{explored, found}
use Rattle.synthesis.specs.Table.{entries_of}
use Rattle.synthesis.specs.Building.{equations_of}
use Rattle.listing.specs.Text.{decimal_in, decimal}
use Rattle.examples.specs.NumberingExamples.{crossed_file, crossed_rule, crossed_sets, crossed_listing}
use Rattle.examples.specs.NumberingExamples.{levels_file, levels_rule, levels_sets, levels_listing, NumberingExamples}
use Rattle.examples.proofs.Listed.{numbers}

pub numbering_examples : NumberingExamples
unfolding rule_of records_at formula_of formula_at unsatisfiable equations_of found explored entries_of first_of answer_of bit covers least count_below decimal decimal_in
numbering_examples = record {
  crossed = numbers crossed_file crossed_rule crossed_sets crossed_listing refl refl refl (omega arith) refl;
  levels = numbers levels_file levels_rule levels_sets levels_listing refl refl refl (omega arith) refl;
}
