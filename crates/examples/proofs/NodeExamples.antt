-- The equations, the rows and the lines of the rules are computed.
use mathlib.Core.Path.{refl}
use native.Mathlib.Omega.{arith}
use Rattle.reading.specs.Pattern.{bit, covers, least, count_below}
use Rattle.reading.specs.File.{records_at, formula_at, formula_of, rule_of}
use Rattle.synthesis.specs.Answering.{first_of, answer_of, unsatisfiable}
use Rattle.synthesis.specs.Search.{explored, found}
use Rattle.synthesis.specs.Table.{entries_of}
use Rattle.synthesis.specs.Building.{equations_of}
use Rattle.listing.specs.Text.{decimal_in, decimal}
use Rattle.examples.specs.Examples.{pool_listing}
use Rattle.examples.specs.NodeExamples.{nested_file, nested_rule, nested_sets}
use Rattle.examples.specs.NodeExamples.{twice_file, twice_rule, twice_sets, twice_listing, NodeExamples}
use Rattle.examples.proofs.FileAnswers.{reads, row_left}
use Rattle.examples.proofs.Listed.{numbers}

pub node_examples : NodeExamples
unfolding rule_of records_at formula_of formula_at unsatisfiable equations_of found explored entries_of first_of answer_of bit covers least count_below decimal decimal_in
node_examples = record {
  outer_max = numbers (nested_file 1) (nested_rule 1) nested_sets pool_listing refl refl refl (omega arith) refl;
  inner_max = reads (nested_file 0) (nested_rule 0) refl refl nested_sets refl (omega arith);
  inner_row = λ table room. row_left (nested_file 0) (nested_rule 0) refl refl nested_sets refl (omega arith) table room 2 (omega arith);
  twice = numbers twice_file twice_rule twice_sets twice_listing refl refl refl (omega arith) refl;
}
