-- Refusals of rule files and of model files, in the order of the paper's table. Only the 65th node is the paper's own; where two refusals
-- apply at a record, the earlier one in the table is due. Those of the paper's small files stand in specs/Examples.antt.
use Rattle.std.specs.Prelude.{ℕ, zero, suc, ◌≡◌, List, [], ◌∷◌, ◌++◌}
use Rattle.reading.specs.Rule.{necessity, max, variable}
use Rattle.reading.specs.File.{refused, accepted}
use Rattle.models.specs.Phone.{phone_of}
use Rattle.examples.specs.Examples.{pattern, rule, Refuses, ReadAs}
use Rattle.examples.specs.ModelExamples.{JudgesPool}

-- n times some bytes, before the rest
unfoldable pub times : (n : ℕ) → (bytes rest : List ℕ) → List ℕ
times zero bytes rest = rest
times (suc n) bytes rest = bytes ++ times n bytes rest

-- ---- rule files

pub record RuleRefusals : Type 0 where
  -- 1: the second part of a "both" isn't there
  pub half : Refuses (4 ∷ 2 ∷ []) 1 2
  -- 3: what follows the whole formula, even if it is no kind or would be a 65th node
  pub no_kind-after : Refuses (2 ∷ 0 ∷ []) 3 1
  pub node_after_64 : Refuses (times 63 (6 ∷ []) (2 ∷ 2 ∷ [])) 3 64
  -- 2: kind 8, also in the place of a 65th node
  pub kind_8 : Refuses (6 ∷ 8 ∷ []) 2 1
  pub kind_8_late : Refuses (times 64 (6 ∷ []) (8 ∷ [])) 2 64
  -- 3: a pattern below a max, whole or cut short, one in the place of a 65th node, and one that would be the 33rd
  pub late_pattern : Refuses (6 ∷ 1 ∷ 1 ∷ 5 ∷ 5 ∷ 2 ∷ []) 3 1
  pub late_pattern_cut : Refuses (6 ∷ 1 ∷ []) 3 1
  pub late_pattern_65 : Refuses (times 64 (6 ∷ []) (1 ∷ [])) 3 64
  pub late_pattern_33 : Refuses (times 32 (1 ∷ 1 ∷ 5 ∷ 5 ∷ []) (6 ∷ 1 ∷ [])) 3 129
  -- 4: a 33rd pattern, whole or cut short, and where all are empty
  pub pattern_33 : Refuses (times 33 (1 ∷ 1 ∷ 5 ∷ 5 ∷ []) (2 ∷ [])) 4 128
  pub pattern_33_cut : Refuses (times 32 (1 ∷ 1 ∷ 5 ∷ 5 ∷ []) (1 ∷ [])) 4 128
  pub pattern_33_empty : Refuses (times 33 (1 ∷ 0 ∷ 5 ∷ 5 ∷ []) (2 ∷ [])) 4 128
  -- 4: a 65th node. The paper: 1 255 0 31, then 64 times 5 0, then 2
  pub node_65 : Refuses (1 ∷ 255 ∷ 0 ∷ 31 ∷ times 64 (5 ∷ 0 ∷ []) (2 ∷ [])) 4 132
  pub node_65_cut : Refuses (times 64 (6 ∷ []) (7 ∷ [])) 4 64
  -- 4: the same with whole bodies that name nothing or aren't guarded, and a 33rd pattern with slot 32
  pub node_65_unbound : Refuses (times 64 (6 ∷ []) (7 ∷ 64 ∷ [])) 4 64
  pub node_65_unguarded : Refuses (times 64 (6 ∷ []) (7 ∷ 0 ∷ [])) 4 64
  pub pattern_33_bad : Refuses (times 32 (1 ∷ 1 ∷ 5 ∷ 5 ∷ []) (1 ∷ 1 ∷ 32 ∷ 5 ∷ 2 ∷ [])) 4 128
  -- 1: a body is cut short, whatever the rest of it says, and also of an empty pattern
  pub pattern_cut : Refuses (1 ∷ 1 ∷ 32 ∷ []) 1 3
  pub empty_cut : Refuses (1 ∷ 0 ∷ 5 ∷ []) 1 3
  pub necessity_cut : Refuses (5 ∷ []) 1 1
  pub variable_cut : Refuses (6 ∷ 7 ∷ []) 1 2
  -- 5: slot 32 as first, also over the last, and as last, and at a second pattern
  pub first_32 : Refuses (1 ∷ 1 ∷ 32 ∷ 32 ∷ 2 ∷ []) 5 0
  pub first_32_round : Refuses (1 ∷ 1 ∷ 32 ∷ 5 ∷ 2 ∷ []) 5 0
  pub last_32 : Refuses (1 ∷ 1 ∷ 5 ∷ 32 ∷ 2 ∷ []) 5 0
  pub second_pattern : Refuses (1 ∷ 1 ∷ 5 ∷ 5 ∷ 1 ∷ 1 ∷ 32 ∷ 5 ∷ 2 ∷ []) 5 4
  -- 5: the same slot where the mask is 0
  pub empty_first_32 : Refuses (1 ∷ 0 ∷ 32 ∷ 5 ∷ 2 ∷ []) 5 0
  pub empty_last_32 : Refuses (1 ∷ 0 ∷ 5 ∷ 32 ∷ 2 ∷ []) 5 0
  -- 6: pattern 1 where there is only pattern 0, and depth 1 below a single max, guarded or not
  pub pattern_1 : Refuses (1 ∷ 1 ∷ 5 ∷ 5 ∷ 5 ∷ 1 ∷ 2 ∷ []) 6 4
  pub depth_1 : Refuses (6 ∷ 7 ∷ 1 ∷ []) 6 1
  -- 7: the necessity stands above the max, above the inner one of two, or in the other part of a "both"
  pub guard_above : Refuses (1 ∷ 1 ∷ 5 ∷ 5 ∷ 5 ∷ 0 ∷ 6 ∷ 7 ∷ 0 ∷ []) 7 7
  pub guard_outer : Refuses (1 ∷ 1 ∷ 5 ∷ 5 ∷ 6 ∷ 5 ∷ 0 ∷ 6 ∷ 7 ∷ 0 ∷ []) 7 8
  pub guard_beside : Refuses (1 ∷ 1 ∷ 5 ∷ 5 ∷ 6 ∷ 4 ∷ 5 ∷ 0 ∷ 7 ∷ 0 ∷ 7 ∷ 0 ∷ []) 7 10
  -- no 7: a necessity below two maxes guards the outer one too, and one between them guards the outer one alone
  pub guards_both : ReadAs (1 ∷ 255 ∷ 0 ∷ 31 ∷ 6 ∷ 6 ∷ 5 ∷ 0 ∷ 7 ∷ 1 ∷ []) (rule (pattern 255 0 31 ∷ []) (max (max (necessity 0 (variable 1))))) (accepted 1)
  pub guards_outer : ReadAs (1 ∷ 255 ∷ 0 ∷ 31 ∷ 6 ∷ 5 ∷ 0 ∷ 6 ∷ 7 ∷ 1 ∷ []) (rule (pattern 255 0 31 ∷ []) (max (necessity 0 (max (variable 1))))) (accepted 1)

-- ---- model files

-- reading refuses the file, and so does judging under the number-pool rule
pub record RefusesModel (f : List ℕ) (number place : ℕ) : Type 0 where
  pub reading : phone_of f ≡ refused number place
  pub judged : JudgesPool f (refused number place)

pub record ModelRefusals : Type 0 where
  -- 11: empty
  pub empty : RefusesModel [] 11 0
  -- 12: the first kind is another, with no count after it
  pub first_kind : RefusesModel (17 ∷ []) 12 0
  -- 11: no count
  pub no_count : RefusesModel (16 ∷ []) 11 1
  -- 12: 0 states, and 65
  pub states_0 : RefusesModel (16 ∷ 0 ∷ []) 12 0
  pub states_65 : RefusesModel (16 ∷ 65 ∷ []) 12 0
  -- 12: a later kind that is no step's, also that of the first record, and in the place of a 513th step
  pub kind_19 : RefusesModel (16 ∷ 1 ∷ 19 ∷ []) 12 2
  pub kind_16 : RefusesModel (16 ∷ 1 ∷ 16 ∷ 1 ∷ []) 12 2
  pub kind_19_late : (rest : List ℕ) → RefusesModel (16 ∷ 1 ∷ times 512 (17 ∷ 0 ∷ 0 ∷ 0 ∷ []) (19 ∷ rest)) 12 2050
  -- 14: a 513th step, with a code or silent, also if it is cut short or from a state that isn't there
  pub step_513 : (rest : List ℕ) → RefusesModel (16 ∷ 1 ∷ times 512 (17 ∷ 0 ∷ 0 ∷ 0 ∷ []) (17 ∷ rest)) 14 2050
  pub silent_513 : (rest : List ℕ) → RefusesModel (16 ∷ 1 ∷ times 512 (17 ∷ 0 ∷ 0 ∷ 0 ∷ []) (18 ∷ rest)) 14 2050
  -- 11: a step is cut short, with a code or silent, and also from a state that isn't there
  pub code_cut : RefusesModel (16 ∷ 1 ∷ 17 ∷ 0 ∷ 0 ∷ []) 11 5
  pub silent_cut : RefusesModel (16 ∷ 1 ∷ 18 ∷ 0 ∷ []) 11 4
  pub from_cut : RefusesModel (16 ∷ 1 ∷ 17 ∷ 1 ∷ []) 11 4
  -- 13: from and to a state that isn't there, with a code and silent, and at a second step
  pub code_from : RefusesModel (16 ∷ 1 ∷ 17 ∷ 1 ∷ 0 ∷ 0 ∷ []) 13 2
  pub code_to : RefusesModel (16 ∷ 1 ∷ 17 ∷ 0 ∷ 0 ∷ 1 ∷ []) 13 2
  pub silent_from : RefusesModel (16 ∷ 1 ∷ 18 ∷ 1 ∷ 0 ∷ []) 13 2
  pub silent_to : RefusesModel (16 ∷ 1 ∷ 18 ∷ 0 ∷ 1 ∷ []) 13 2
  pub second_step : RefusesModel (16 ∷ 64 ∷ 18 ∷ 63 ∷ 0 ∷ 18 ∷ 0 ∷ 64 ∷ []) 13 5

pub record RefusalExamples : Type 0 where
  pub rules : RuleRefusals
  pub models : ModelRefusals
