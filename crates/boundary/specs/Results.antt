-- The answers of the layers as a C program gets them: 0 or the number of a refusal, and beside it one value: what the answer says, or the
-- place of the refusal. Matching says besides which of its inputs it refuses.
use Rattle.std.specs.Prelude.{ℕ, ◌≡◌, true, false, Option, Some, None}
use Rattle.reading.specs.File.{Outcome, accepted, refused}
use Rattle.running.specs.Running.{start, moved, Run, result_of}
use Rattle.running.specs.declared.State.{State}
use Rattle.boundary.specs.declared.MatchResult.{MatchResult}
use Rattle.models.specs.declared.Judgment.{Judgment}
use Rattle.models.specs.declared.Judgment.TheVariants.{Meets, Breaks}
use Rattle.models.specs.Pairs.{MatchAnswer, said, refused_first, refused_second, refused_pairs}

-- a number and a value
pub record Result : Type 0 where
  pub number : ℕ
  pub value : ℕ

-- counting and filling: the count of equations
abbrev pub counted_result : Outcome ℕ → Result
counted_result (accepted n) = record { number = 0; value = n }
counted_result (refused number place) = record { number = number; value = place }

-- what stands in place of a node where a scan is kept: a rule has at most 64 nodes, numbered from 0
abbrev pub kept_value : ℕ
kept_value = 64

-- explaining: the number of the ff node, or that a scan is kept
abbrev pub reason_result : Outcome (Option ℕ) → Result
reason_result (accepted None) = record { number = 0; value = kept_value }
reason_result (accepted (Some m)) = record { number = 0; value = m }
reason_result (refused number place) = record { number = number; value = place }

-- judging: 1 where the model meets the rule, 0 where it breaks it
abbrev pub judged_result : Outcome Judgment → Result
judged_result (accepted Meets) = record { number = 0; value = 1 }
judged_result (accepted Breaks) = record { number = 0; value = 0 }
judged_result (refused number place) = record { number = number; value = place }

-- matching, with an input beside the number and the value: 1 for yes and 0 for no. A refusal is about input 1, 2 or 3: the first model, the second, or
-- the list of pairs.
abbrev pub matched_result : MatchAnswer → MatchResult
matched_result (said true) = record { number = 0; value = 1; input = 0 }
matched_result (said false) = record { number = 0; value = 0; input = 0 }
matched_result (refused_first number place) = record { number = number; value = place; input = 1 }
matched_result (refused_second number place) = record { number = number; value = place; input = 2 }
matched_result (refused_pairs number place) = record { number = number; value = place; input = 3 }

-- a run: 0 where it is fit. Its refusals stand at place 0.
abbrev pub checked_number : Outcome Unit → ℕ
checked_number (accepted tt) = 0
checked_number (refused number place) = number

-- the state of a run, which a C program has as the number of its equation
abbrev pub state_of : (equation : ℕ) → State
state_of equation = moved start equation

-- what a run from the state s hands back, each part by itself
pub record IsRun (s : State) (outcome : Outcome Run) (number equation kept dropped : ℕ) : Type 0 where
  pub number_is : number ≡ checked_number (result_of s outcome).checked
  pub equation_is : equation ≡ (result_of s outcome).state.equation
  pub kept_is : kept ≡ (result_of s outcome).kept
  pub dropped_is : dropped ≡ (result_of s outcome).dropped
