-- What reading says of the refused files is computed, and with it what counting, filling and judging answer.
use Prim.Native.Nat.{ℕ}
use mathlib.Core.Path.{◌≡◌, refl}
use mathlib.Core.List.{List, [], ◌∷◌}
use native.Mathlib.Omega.{arith}
use Rattle.reading.specs.Pattern.{bit, covers}
use Rattle.reading.specs.Rule.{necessity, max, variable, Rule}
use Rattle.reading.specs.File.{refused, records_at, formula_at, formula_of, rule_of, accepted}
use Rattle.synthesis.specs.Monitor.{most}
use Rattle.synthesis.specs.Answering.{first_of, answer_of, unsatisfiable}
use Rattle.synthesis.specs.Search.{explored, found}
use Rattle.synthesis.specs.Building.{equations_of}
use Rattle.models.specs.Phone.{states_of, phone_of}
use Rattle.models.proofs.Judgments.JudgingOrder.{judging_model_refused}
use Rattle.examples.specs.Examples.{pattern, rule, ReadAs, pool_file, pool_rule}
use Rattle.examples.specs.RefusalExamples.{times, RuleRefusals, RefusesModel, ModelRefusals, RefusalExamples}
use Rattle.examples.proofs.FileAnswers.{refuses, reads, reads_filling}
use Rattle.examples.proofs.ModelAnswers.{judges_refused}
use Rattle.examples.proofs.NumberPool.{number_pool}
use Rattle.examples.proofs.FullModel.{step_513, silent_513, kind_19_late}

-- ---- variables that are guarded

below_both : Rule
below_both = rule (pattern 255 0 31 ∷ []) (max (max (necessity 0 (variable 1))))

-- node 2 alone, which every code leads back to
guards_both : ReadAs (1 ∷ 255 ∷ 0 ∷ 31 ∷ 6 ∷ 6 ∷ 5 ∷ 0 ∷ 7 ∷ 1 ∷ []) below_both (accepted 1)
unfolding below_both rule_of records_at formula_of formula_at unsatisfiable equations_of found explored first_of answer_of bit covers
guards_both = reads _ _ refl refl (4 ∷ []) refl (omega arith)

between : Rule
between = rule (pattern 255 0 31 ∷ []) (max (necessity 0 (max (variable 1))))

-- node 1 alone, likewise
guards_outer : ReadAs (1 ∷ 255 ∷ 0 ∷ 31 ∷ 6 ∷ 5 ∷ 0 ∷ 6 ∷ 7 ∷ 1 ∷ []) between (accepted 1)
unfolding between rule_of records_at formula_of formula_at unsatisfiable equations_of found explored first_of answer_of bit covers
guards_outer = reads _ _ refl refl (2 ∷ []) refl (omega arith)

-- ---- rule files

rule_refusals : RuleRefusals
unfolding times rule_of records_at formula_of formula_at below_both between
rule_refusals = record {
  half = refuses _ 1 2 refl;
  no_kind-after = refuses _ 3 1 refl;
  node_after_64 = refuses _ 3 64 refl;
  kind_8 = refuses _ 2 1 refl;
  kind_8_late = refuses _ 2 64 refl;
  late_pattern = refuses _ 3 1 refl;
  late_pattern_cut = refuses _ 3 1 refl;
  late_pattern_65 = refuses _ 3 64 refl;
  late_pattern_33 = refuses _ 3 129 refl;
  pattern_33 = refuses _ 4 128 refl;
  pattern_33_cut = refuses _ 4 128 refl;
  pattern_33_empty = refuses _ 4 128 refl;
  node_65 = refuses _ 4 132 refl;
  node_65_cut = refuses _ 4 64 refl;
  node_65_unbound = refuses _ 4 64 refl;
  node_65_unguarded = refuses _ 4 64 refl;
  pattern_33_bad = refuses _ 4 128 refl;
  pattern_cut = refuses _ 1 3 refl;
  empty_cut = refuses _ 1 3 refl;
  necessity_cut = refuses _ 1 1 refl;
  variable_cut = refuses _ 1 2 refl;
  first_32 = refuses _ 5 0 refl;
  first_32_round = refuses _ 5 0 refl;
  last_32 = refuses _ 5 0 refl;
  second_pattern = refuses _ 5 4 refl;
  empty_first_32 = refuses _ 5 0 refl;
  empty_last_32 = refuses _ 5 0 refl;
  pattern_1 = refuses _ 6 4 refl;
  depth_1 = refuses _ 6 1 refl;
  guard_above = refuses _ 7 7 refl;
  guard_outer = refuses _ 7 8 refl;
  guard_beside = refuses _ 7 10 refl;
  guards_both = guards_both;
  guards_outer = guards_outer;
}

-- ---- model files

refuses_model : (f : List ℕ) (number place : ℕ) → phone_of f ≡ refused number place → RefusesModel f number place
refuses_model f number place read = record {
  reading = read;
  judged = λ capacity room. judges_refused pool_file capacity f number place
      (judging_model_refused most pool_file capacity (reads_filling pool_file pool_rule 3 number_pool.file capacity room) f read);
}

model_refusals : ModelRefusals
unfolding times phone_of states_of records_at
model_refusals = record {
  empty = refuses_model _ 11 0 refl;
  first_kind = refuses_model _ 12 0 refl;
  no_count = refuses_model _ 11 1 refl;
  states_0 = refuses_model _ 12 0 refl;
  states_65 = refuses_model _ 12 0 refl;
  kind_19 = refuses_model _ 12 2 refl;
  kind_16 = refuses_model _ 12 2 refl;
  kind_19_late = λ rest. refuses_model _ 12 2050 (kind_19_late rest);
  step_513 = λ rest. refuses_model _ 14 2050 (step_513 rest);
  silent_513 = λ rest. refuses_model _ 14 2050 (silent_513 rest);
  code_cut = refuses_model _ 11 5 refl;
  silent_cut = refuses_model _ 11 4 refl;
  from_cut = refuses_model _ 11 4 refl;
  code_from = refuses_model _ 13 2 refl;
  code_to = refuses_model _ 13 2 refl;
  silent_from = refuses_model _ 13 2 refl;
  silent_to = refuses_model _ 13 2 refl;
  second_step = refuses_model _ 13 5 refl;
}

pub refusal_examples : RefusalExamples
refusal_examples = record { rules = rule_refusals; models = model_refusals }
