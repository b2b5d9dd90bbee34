-- What a variable and a member of an equation stand for, by rules that aren't in the paper: the variable of the outer of two maxes, next to that of the
-- inner one; and the same text at two places of a rule, which is two nodes.
use Rattle.std.specs.Prelude.{ℕ, ◌≤◌, ◌≡◌, List, [], ◌∷◌, ◌++◌, length, replicate}
use Rattle.reading.specs.Rule.{truth, falsity, both, necessity, max, variable, Rule}
use Rattle.synthesis.specs.Monitor.{mark, most, row_of}
use Rattle.synthesis.specs.Building.{table_left}
use Rattle.listing.specs.Text.{text}
use Rattle.examples.specs.Examples.{pattern, rule, ReadAs, pool_listing}
use Rattle.examples.specs.NumberingExamples.{Numbers}
use Rattle.reading.specs.File.{accepted}

-- ---- the variable of either max

-- The number-pool rule with a second max below its first necessity: after a sync, depth 1 takes it back to the beginning, and depth 0 to where the
-- issue of slot 5 is dropped.
abbrev pub nested_file : (depth : ℕ) → List ℕ
nested_file d = 1 ∷ 2 ∷ 5 ∷ 5 ∷ 1 ∷ 1 ∷ 5 ∷ 5 ∷ 1 ∷ 16 ∷ 0 ∷ 31 ∷ 6 ∷ 5 ∷ 0 ∷ 6 ∷ 4 ∷ 5 ∷ 1 ∷ 3 ∷ 5 ∷ 2 ∷ 7 ∷ d ∷ []

abbrev pub nested_rule : (depth : ℕ) → Rule
nested_rule d =
    rule (pattern 2 5 5 ∷ pattern 1 5 5 ∷ pattern 16 0 31 ∷ [])
    (max (necessity 0 (max (both (necessity 1 falsity) (necessity 2 (variable d))))))

-- {1}, the empty set, {4, 6}
abbrev pub nested_sets : List ℕ
nested_sets = 2 ∷ 0 ∷ 80 ∷ []

-- ---- the same text at two places

-- both "after 5, after 6, tt" and "after 7, after 6, tt"
abbrev pub twice_file : List ℕ
twice_file = 1 ∷ 1 ∷ 5 ∷ 5 ∷ 1 ∷ 1 ∷ 6 ∷ 6 ∷ 1 ∷ 1 ∷ 7 ∷ 7 ∷ 4 ∷ 5 ∷ 0 ∷ 5 ∷ 1 ∷ 2 ∷ 5 ∷ 2 ∷ 5 ∷ 1 ∷ 2 ∷ []

abbrev pub twice_rule : Rule
twice_rule =
    rule (pattern 1 5 5 ∷ pattern 1 6 6 ∷ pattern 1 7 7 ∷ [])
    (both (necessity 0 (necessity 1 truth)) (necessity 2 (necessity 1 truth)))

-- {1, 4}; the empty set; {2} by code 5, and {5} by code 7
abbrev pub twice_sets : List ℕ
twice_sets = 18 ∷ 0 ∷ 4 ∷ 32 ∷ []

abbrev pub twice_listing : List ℕ
twice_listing =
    text "patterns 3\n"
    ++ text "p 0 5 1\n"
    ++ text "p 1 6 1\n"
    ++ text "p 2 7 1\n"
    ++ text "equations 4\n"
    ++ text "0 0 4 1\n"
    ++ text "0 5 5 2\n"
    ++ text "0 6 6 1\n"
    ++ text "0 7 7 3\n"
    ++ text "0 8 255 1\n"
    ++ text "1 0 255 1\n"
    ++ text "2 0 255 1\n"
    ++ text "3 0 255 1\n"

pub record NodeExamples : Type 0 where
  -- depth 1: what is listed is what the number-pool rule has
  pub outer_max : Numbers (nested_file 1) (nested_rule 1) nested_sets pool_listing
  -- depth 0: in equation 2, a sync leads back to equation 2
  pub inner_max : ReadAs (nested_file 0) (nested_rule 0) (accepted 3)
  pub inner_row : (table : List ℕ) → 768 ≤ length table
      → row_of 256 (table_left most mark (nested_file 0) table) 2 ≡ replicate 5 1 ++ mark ∷ replicate 122 1 ++ replicate 32 2 ++ replicate 96 1
  pub twice : Numbers twice_file twice_rule twice_sets twice_listing
