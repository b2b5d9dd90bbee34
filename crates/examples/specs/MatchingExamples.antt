-- Lists of pairs of states for two model files, which the paper doesn't have. A list that matches the models, and lists with a pair less or a pair more that
-- don't; which steps are partners; and the refusals, in their order.
use Rattle.std.specs.Prelude.{ℕ, ◌≡◌, ◌↔◌, true, false, List, [], ◌∷◌}
use Rattle.reading.specs.File.{accepted}
use Rattle.enforcement.specs.Model.{Bisimulation, Bisimilar}
use Rattle.models.specs.Phone.{Phone, model_of, phone_of}
use Rattle.models.specs.Pairs.{Pair, Listed, Matches, matching, matching_of, MatchedAs, MatchAnswer, said, refused_first, refused_second, refused_pairs}
use Rattle.examples.specs.ModelExamples.{step}
use Rattle.examples.specs.PatternMeaning.{repeating_phone}
use Rattle.examples.specs.RoundExample.{repeating_file}
use Rattle.examples.specs.RefusalExamples.{times}

abbrev pub pair : (first second : ℕ) → Pair
pair first second = record { first = first; second = second }

-- This is an answer to two model files and a list of pairs, and it is the only one.
pub record Answers (first second pairs : List ℕ) (answer : MatchAnswer) : Type 0 where
  pub only : (r : MatchAnswer) → MatchedAs (matching_of first second pairs) r ↔ (r ≡ answer)

-- ---- a list that matches

-- A phone that scans code 5 in each of two states, and goes to the other. Its simplified drawing is `repeating_file 5`, 16 1, 17 0 5 0, with one state.
abbrev pub turning_file : List ℕ
turning_file = 16 ∷ 2 ∷ 17 ∷ 0 ∷ 5 ∷ 1 ∷ 17 ∷ 1 ∷ 5 ∷ 0 ∷ []

abbrev pub turning_phone : Phone
turning_phone = record { states = 2; steps = step 0 5 1 ∷ step 1 5 0 ∷ [] }

pub record Simplified : Type 0 where
  pub read : matching_of turning_file (repeating_file 5) (0 ∷ 0 ∷ 1 ∷ 0 ∷ []) ≡ matching turning_phone (repeating_phone 5) (pair 0 0 ∷ pair 1 0 ∷ [])
  pub matches : Matches turning_phone (repeating_phone 5) (pair 0 0 ∷ pair 1 0 ∷ [])
  pub both_pairs : Answers turning_file (repeating_file 5) (0 ∷ 0 ∷ 1 ∷ 0 ∷ []) (said true)
  -- in another order, and one of them twice
  pub repeated : Answers turning_file (repeating_file 5) (1 ∷ 0 ∷ 0 ∷ 0 ∷ 1 ∷ 0 ∷ []) (said true)
  -- the step from 0 leads to 1, and no pair has 1
  pub starts_alone : Answers turning_file (repeating_file 5) (0 ∷ 0 ∷ []) (said false)
  pub no_pairs : Answers turning_file (repeating_file 5) [] (said false)

-- ---- states that the starts don't lead to

-- the simplified drawing, with a second state that no step names
abbrev pub spare_file : List ℕ
spare_file = 16 ∷ 2 ∷ 17 ∷ 0 ∷ 5 ∷ 0 ∷ []

abbrev pub spare_phone : Phone
spare_phone = record { states = 2; steps = step 0 5 0 ∷ [] }

pub record Spare : Type 1 where
  pub file : phone_of spare_file ≡ accepted spare_phone
  pub reached_pairs : Answers turning_file spare_file (0 ∷ 0 ∷ 1 ∷ 0 ∷ []) (said true)
  -- A pair that doesn't match makes it a no, though the starts don't lead to it. So a no doesn't mean that the models aren't bisimilar: these are.
  pub one_more : Answers turning_file spare_file (0 ∷ 0 ∷ 1 ∷ 0 ∷ 0 ∷ 1 ∷ []) (said false)
  pub bisimilar : Bisimilar (model_of turning_phone) (model_of spare_phone)
  -- a bisimulation without the pair of the starts
  pub bisimulation : Bisimulation (model_of spare_phone) (model_of spare_phone) (Listed (pair 1 1 ∷ []))
  pub not_the_starts : Answers spare_file spare_file (1 ∷ 1 ∷ []) (said false)

-- ---- partners of steps

-- phones of one state: one that does nothing, and one whose only step is silent
abbrev pub still_file : List ℕ
still_file = 16 ∷ 1 ∷ []

abbrev pub idle_file : List ℕ
idle_file = 16 ∷ 1 ∷ 18 ∷ 0 ∷ 0 ∷ []

-- two steps from 0 with the same code, one to itself and one to 1
abbrev pub branching_file : List ℕ
branching_file = 16 ∷ 2 ∷ 17 ∷ 0 ∷ 5 ∷ 0 ∷ 17 ∷ 0 ∷ 5 ∷ 1 ∷ []

pub record Partners : Type 0 where
  -- a silent step against a step with a code, either way round, and two codes
  pub silent_first : Answers idle_file (repeating_file 5) (0 ∷ 0 ∷ []) (said false)
  pub silent_second : Answers (repeating_file 5) idle_file (0 ∷ 0 ∷ []) (said false)
  pub two_codes : Answers (repeating_file 5) (repeating_file 6) (0 ∷ 0 ∷ []) (said false)
  -- a step of one model alone; a silent one has to have a partner too
  pub first_alone : Answers (repeating_file 5) still_file (0 ∷ 0 ∷ []) (said false)
  pub second_alone : Answers still_file (repeating_file 5) (0 ∷ 0 ∷ []) (said false)
  pub silent_alone : Answers idle_file still_file (0 ∷ 0 ∷ []) (said false)
  -- two states that no step names, in each model
  pub no_steps : Answers (16 ∷ 2 ∷ []) (16 ∷ 2 ∷ []) (0 ∷ 0 ∷ 1 ∷ 1 ∷ []) (said true)
  -- each step from 0 has two with its label to choose from, of which one leads to a listed pair
  pub two_partners : Answers branching_file branching_file (0 ∷ 0 ∷ 1 ∷ 1 ∷ []) (said true)

-- ---- refusals

pub record MatchingRefusals : Type 0 where
  -- 11: the first file is empty, whatever the others are, and then the second
  pub first_empty : (g l : List ℕ) → Answers [] g l (refused_first 11 0)
  pub second_empty : (l : List ℕ) → Answers (repeating_file 5) [] l (refused_second 11 0)
  -- 22: half a pair, also of a state that isn't there
  pub half : Answers turning_file (repeating_file 5) (0 ∷ []) (refused_pairs 22 1)
  pub half_bad : Answers turning_file (repeating_file 5) (2 ∷ []) (refused_pairs 22 1)
  -- 23: the first model has no state 2, and the second none but 0
  pub first_state : Answers turning_file (repeating_file 5) (2 ∷ 0 ∷ []) (refused_pairs 23 0)
  pub second_state : Answers turning_file (repeating_file 5) (0 ∷ 1 ∷ []) (refused_pairs 23 0)
  -- 23: an earlier pair, before the cut at 5
  pub pair_by_pair : Answers turning_file (repeating_file 5) (0 ∷ 0 ∷ 0 ∷ 1 ∷ 0 ∷ []) (refused_pairs 23 2)
  -- 4,096 pairs are none too many
  pub pairs_4096 : Answers still_file still_file (times 4096 (0 ∷ 0 ∷ []) []) (said true)
  -- a 4,097th: 22 where it is cut, then 23, and else 24, whatever follows
  pub half_4097 : (x : ℕ) → Answers still_file still_file (times 4096 (0 ∷ 0 ∷ []) (x ∷ [])) (refused_pairs 22 8193)
  pub state_4097 : (rest : List ℕ) → Answers still_file still_file (times 4096 (0 ∷ 0 ∷ []) (0 ∷ 1 ∷ rest)) (refused_pairs 23 8192)
  pub pair_4097 : (rest : List ℕ) → Answers still_file still_file (times 4096 (0 ∷ 0 ∷ []) (0 ∷ 0 ∷ rest)) (refused_pairs 24 8192)

pub record MatchingExamples : Type 1 where
  pub simplified : Simplified
  pub spare : Spare
  pub partners : Partners
  pub refusals : MatchingRefusals
