-- What each file is counted as is known from the other examples, and filling and judging go by that.
use Prim.Native.Nat.{ℕ, ◌*◌}
use mathlib.Core.Path.{◌≡◌}
use mathlib.Core.List.{List, [], ◌∷◌}
use native.Mathlib.Omega.{arith}
use Rattle.reading.specs.File.{Outcome, accepted, refused}
use Rattle.synthesis.specs.Monitor.{most}
use Rattle.synthesis.specs.Building.{Synthesis, synthesis_of, filling_of, counted_of}
use Rattle.synthesis.specs.Promises.{FillsAsCounted}
use Rattle.synthesis.proofs.Tables.SynthesisOutcomes.{counted_refuses, fills_as_counted, short_fills_as_counted}
use Rattle.synthesis.proofs.Quotients.ShortFillings.{short_refuses_alike}
use Rattle.models.proofs.Judgments.JudgingOrder.{judging_refused}
use Rattle.examples.specs.Examples.{pool_file}
use Rattle.examples.specs.ShortExamples.{branches_file}
use Rattle.examples.specs.ModelExamples.{JudgesIn}
use Rattle.examples.specs.TableExamples.{RefusedBare, Needs, TableExamples}
use Rattle.examples.proofs.SmallFiles.{small_files}
use Rattle.examples.proofs.NumberPool.{number_pool}
use Rattle.examples.proofs.ShortExamples.{short_examples}
use Rattle.examples.proofs.ModelAnswers.{judges_refused}
use Rattle.examples.proofs.RefusalExamples.{refusal_examples}

refused_bare : (s : List ℕ) (number place : ℕ) → counted_of (synthesis_of most s) ≡ refused number place → RefusedBare s number place
refused_bare s number place e = record {
  long = (fills_as_counted most s 0).refused number place e;
  short = (short_fills_as_counted most s 0).refused number place (((short_refuses_alike most s).refused number place).1 e);
}

-- what is counted as n equations needs 256 × n entries
pub needs : {counting : Outcome Synthesis} {filling : ℕ → Outcome Synthesis} → ((capacity : ℕ) → FillsAsCounted counting (filling capacity) capacity)
    → (n : ℕ) → counted_of counting ≡ accepted n → Needs filling (256 * n) n
needs counts n e = record { fits = (counts (256 * n)).enough n e (omega arith); too_short = λ capacity. (counts capacity).too_short n e }

-- where filling is refused, judging is, whatever the model file
judges_unfilled : (s : List ℕ) (capacity number place : ℕ) → counted_of (filling_of most s capacity) ≡ refused number place
    → (f : List ℕ) → JudgesIn s capacity f (refused number place)
judges_unfilled s capacity number place e f =
    judges_refused s capacity f number place
    (judging_refused most s capacity (counted_refuses (filling_of most s capacity) number place e) f)

pub table_examples : TableExamples
table_examples = record {
  empty = refused_bare [] 1 0 small_files.empty.answers.counting;
  not_guarded = refused_bare (6 ∷ 7 ∷ 0 ∷ []) 7 1 small_files.not_guarded.answers.counting;
  falsity_alone = refused_bare (3 ∷ []) 8 0 small_files.falsity_alone.answers.counting;
  truth_alone = needs (fills_as_counted most (2 ∷ [])) 1 small_files.truth_alone.answers.counting;
  pool = pool_needs;
  short_pool = needs (short_fills_as_counted most pool_file) 3 short_examples.pool.counting;
  branches = needs (fills_as_counted most branches_file) 4 short_examples.branches.file.answers.counting;
  short_branches = needs (short_fills_as_counted most branches_file) 3 short_examples.branches.counting;
  any_model = λ f capacity h. judges_unfilled pool_file capacity 10 0 (pool_needs.too_short capacity h) f;
  empty_model = refusal_examples.models.empty.judged 768 (omega arith);
  refused_rule = λ f capacity. judges_unfilled (3 ∷ []) capacity 8 0 (small_files.falsity_alone.answers.filling capacity (omega arith)) f;
}
  where
    pool_needs : Needs (filling_of most pool_file) 768 3
    pool_needs = needs (fills_as_counted most pool_file) 3 number_pool.file.answers.counting
