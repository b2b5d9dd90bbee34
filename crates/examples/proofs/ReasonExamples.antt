-- What is said of the scans is computed from the rules; the places are read off the formulas.
use Prim.Native.Nat.{ℕ}
use mathlib.Core.Path.{◌≡◌, refl, ap}
use mathlib.Core.List.{List, [], ◌∷◌}
use native.Mathlib.Omega.{arith}
use Rattle.reading.specs.Pattern.{bit, covers, least}
use Rattle.reading.specs.File.{records_at, formula_at, formula_of, rule_of, accepted}
use Rattle.reading.specs.Nodes.{whole, first, second, after, body}
use Rattle.synthesis.specs.Monitor.{most}
use Rattle.synthesis.specs.Answering.{first_of, answer_of, unsatisfiable}
use Rattle.synthesis.specs.Search.{explored, found}
use Rattle.synthesis.specs.Building.{equations_of, synthesis_of}
use Rattle.synthesis.specs.Reason.{ViolatesAt, at_falsity, in_first, in_second, after_code_lem, in_body, in_variable_lem}
use Rattle.synthesis.specs.Reason.{opened_falsities, opened_after, explanation_of, reason_of}
use Rattle.synthesis.proofs.Reasons.Explained.{counted_explanation}
use Rattle.examples.specs.Examples.{ReadAs, pool_rule}
use Rattle.examples.specs.ReasonExamples.{reason, two_places_file, two_places_rule, either_file, either_rule, ReasonExamples}
use Rattle.examples.proofs.FileAnswers.{reads}
use Rattle.examples.proofs.NumberPool.{number_pool}

two_file : ReadAs two_places_file two_places_rule (accepted 3)
unfolding rule_of records_at formula_of formula_at unsatisfiable equations_of found explored first_of answer_of bit covers
two_file = reads two_places_file two_places_rule refl refl (20 ∷ 0 ∷ 84 ∷ []) refl (omega arith)

either_file_lem : ReadAs either_file either_rule (accepted 2)
unfolding rule_of records_at formula_of formula_at unsatisfiable equations_of found explored first_of answer_of bit covers
either_file_lem = reads either_file either_rule refl refl (10 ∷ 0 ∷ []) refl (omega arith)

-- of a file that is counted, by its rule
pub by_rule : {s : List ℕ} {n : ℕ} (r : _) → ReadAs s r (accepted n) → (w : List ℕ) (c : ℕ) → reason s w c ≡ reason_of (opened_after r w c)
by_rule {s} {n} r file w c = ap reason_of (counted_explanation most s r n file.reading file.answers.counting w c)

met_first : ViolatesAt two_places_rule 0 (37 ∷ 5 ∷ []) 7
unfolding bit covers
met_first =
    let b = second (body whole) in
    in_body whole (in_second (body whole) (after_code_lem b refl (in_first (after b) (after_code_lem (first (after b)) refl (at_falsity (after (first (after b))))))))

by_variable : ViolatesAt two_places_rule 0 (37 ∷ 5 ∷ []) 3
unfolding bit covers
by_variable =
    let again : ViolatesAt two_places_rule 1 (5 ∷ []) 3 =
    in_first (body whole) (after_code_lem (first (body whole)) refl (at_falsity (after (first (body whole))))) in
    let b = second (body whole) in
    in_body whole (in_second (body whole) (after_code_lem b refl (in_second (after b) (in_variable_lem (second (after b)) (omega arith) again))))

pool_place : ViolatesAt pool_rule 0 (37 ∷ 5 ∷ []) 4
unfolding bit covers
pool_place =
    let n = body whole in
    in_body whole (after_code_lem n refl (in_first (after n) (after_code_lem (first (after n)) refl (at_falsity (after (first (after n)))))))

pub reason_examples : ReasonExamples
unfolding explanation_of synthesis_of rule_of records_at formula_of formula_at unsatisfiable opened_falsities first_of answer_of bit covers least
reason_examples = record {
  pool_dropped = by_rule pool_rule number_pool.file (37 ∷ []) 5;
  pool_place = pool_place;
  pool_kept = by_rule pool_rule number_pool.file (37 ∷ 128 ∷ []) 5;
  pool_unfit = λ c. by_rule pool_rule number_pool.file (37 ∷ 5 ∷ []) c;
  pool_longer = λ c. by_rule pool_rule number_pool.file (37 ∷ 5 ∷ 128 ∷ 5 ∷ []) c;
  bad_file = λ w c. refl;
  bad_rule = λ w c. refl;
  two_file = two_file;
  met_first = met_first;
  by_variable = by_variable;
  two_dropped = by_rule two_places_rule two_file (37 ∷ []) 5;
  either_file_lem = either_file_lem;
  either_issue = by_rule either_rule either_file_lem [] 5;
  either_cancel = by_rule either_rule either_file_lem [] 37;
  either_other = by_rule either_rule either_file_lem [] 6;
  either_unfit = λ c. by_rule either_rule either_file_lem (37 ∷ []) c;
  either_only = refl;
}
