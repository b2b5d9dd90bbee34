-- Where refusal 10 stands: after all that is wrong with a rule and before all that is wrong with a model, and for the long and the short table by
-- the count of each. Shown by files of the paper, and by one whose two tables differ.
use Rattle.std.specs.Prelude.{ℕ, ◌<◌, ◌≡◌, List, [], ◌∷◌}
use Rattle.reading.specs.File.{Outcome, accepted, refused}
use Rattle.synthesis.specs.Monitor.{most}
use Rattle.synthesis.specs.Building.{Synthesis, filling_of, counted_of, short_filling_of}
use Rattle.examples.specs.Examples.{pool_file}
use Rattle.examples.specs.ShortExamples.{branches_file}
use Rattle.examples.specs.ModelExamples.{JudgesIn}

-- Where no entries are lent, filling is refused by the file's own number, for the long table and for the short one.
pub record RefusedBare (s : List ℕ) (number place : ℕ) : Type 0 where
  pub long : counted_of (filling_of most s 0) ≡ refused number place
  pub short : counted_of (short_filling_of most s 0) ≡ refused number place

-- With so many entries filling answers n, and with fewer 10 at 0.
pub record Needs (filling : (capacity : ℕ) → Outcome Synthesis) (room n : ℕ) : Type 0 where
  pub fits : counted_of (filling room) ≡ accepted n
  pub too_short : (capacity : ℕ) → capacity < room → counted_of (filling capacity) ≡ refused 10 0

pub record TableExamples : Type 0 where
  -- the empty file, 6 7 0, and 3: their numbers and places are those of specs/Examples.antt
  pub empty : RefusedBare [] 1 0
  pub not_guarded : RefusedBare (6 ∷ 7 ∷ 0 ∷ []) 7 1
  pub falsity_alone : RefusedBare (3 ∷ []) 8 0
  -- 2 has one equation, and the number-pool rule three in either table
  pub truth_alone : Needs (filling_of most (2 ∷ [])) 256 1
  pub pool : Needs (filling_of most pool_file) 768 3
  pub short_pool : Needs (short_filling_of most pool_file) 768 3
  -- a rule with four equations, of which two drop alike: with 768 entries filling the long table is 10 at 0, and filling the short one answers 3
  pub branches : Needs (filling_of most branches_file) 1024 4
  pub short_branches : Needs (short_filling_of most branches_file) 768 3
  -- judging under the number-pool rule: with fewer entries 10 at 0 for every model file, the paper's and an empty one too; with 768 the latter is 11 at 0
  pub any_model : (f : List ℕ) (capacity : ℕ) → capacity < 768 → JudgesIn pool_file capacity f (refused 10 0)
  pub empty_model : JudgesIn pool_file 768 [] (refused 11 0)
  -- judging under 3: 8 at 0, whatever the table and the model file
  pub refused_rule : (f : List ℕ) (capacity : ℕ) → JudgesIn (3 ∷ []) capacity f (refused 8 0)
