-- The order in which equations are numbered, by two rules that aren't in the paper: codes ascending, and earlier equations first.
use Rattle.std.specs.Prelude.{ℕ, ◌*◌, ◌≤◌, ◌≡◌, List, [], ◌∷◌, ◌++◌, map, length}
use Rattle.reading.specs.Pattern.{extent_of}
use Rattle.reading.specs.Rule.{truth, both, necessity, Rule}
use Rattle.synthesis.specs.Monitor.{mark, most}
use Rattle.synthesis.specs.Building.{equations_of, table_left}
use Rattle.listing.specs.Text.{text}
use Rattle.listing.specs.Lines.{listing}
use Rattle.examples.specs.Examples.{pattern, rule, ReadAs}
use Rattle.reading.specs.File.{accepted}

-- a file's rule, its equations as sets of nodes in their order, and what is listed of every table that filling leaves
pub record Numbers (s : List ℕ) (r : Rule) (sets lines : List ℕ) : Type 0 where
  pub file : ReadAs s r (accepted (length sets))
  pub equations : equations_of most r ≡ sets
  pub listed : (table : List ℕ) → 256 * length sets ≤ length table
      → listing (map extent_of r.patterns) (length sets) (table_left most mark s table) ≡ lines

-- ---- codes ascending, whatever the order of the nodes

-- both "after 6, after 5, tt" and "after 5, after 6, tt"
abbrev pub crossed_file : List ℕ
crossed_file = 1 ∷ 1 ∷ 5 ∷ 5 ∷ 1 ∷ 1 ∷ 6 ∷ 6 ∷ 4 ∷ 5 ∷ 1 ∷ 5 ∷ 0 ∷ 2 ∷ 5 ∷ 0 ∷ 5 ∷ 1 ∷ 2 ∷ []

abbrev pub crossed_rule : Rule
crossed_rule =
    rule (pattern 1 5 5 ∷ pattern 1 6 6 ∷ [])
    (both (necessity 1 (necessity 0 truth)) (necessity 0 (necessity 1 truth)))

-- {1, 4}; the empty set, by code 0; {5} by code 5, and {2} by code 6
abbrev pub crossed_sets : List ℕ
crossed_sets = 18 ∷ 0 ∷ 32 ∷ 4 ∷ []

abbrev pub crossed_listing : List ℕ
crossed_listing =
    text "patterns 2\n"
    ++ text "p 0 5 1\n"
    ++ text "p 1 6 1\n"
    ++ text "equations 4\n"
    ++ text "0 0 4 1\n"
    ++ text "0 5 5 2\n"
    ++ text "0 6 6 3\n"
    ++ text "0 7 255 1\n"
    ++ text "1 0 255 1\n"
    ++ text "2 0 255 1\n"
    ++ text "3 0 255 1\n"

-- ---- earlier equations first

-- both "after 5, after 7, after 5, tt" and "after 6, after 7, after 6, tt"
abbrev pub levels_file : List ℕ
levels_file =
    1 ∷ 1 ∷ 5 ∷ 5 ∷ 1 ∷ 1 ∷ 6 ∷ 6 ∷ 1 ∷ 1 ∷ 7 ∷ 7 ∷ 4 ∷ 5 ∷ 0 ∷ 5 ∷ 2 ∷ 5 ∷ 0 ∷ 2 ∷ 5 ∷ 1 ∷ 5 ∷ 2 ∷ 5 ∷ 1 ∷ 2 ∷ []

abbrev pub levels_rule : Rule
levels_rule =
    rule (pattern 1 5 5 ∷ pattern 1 6 6 ∷ pattern 1 7 7 ∷ [])
    (both (necessity 0 (necessity 2 (necessity 0 truth))) (necessity 1 (necessity 2 (necessity 1 truth))))

-- {1, 5}; the empty set, {2} and {6}, all by its codes; then {3} by a code of {2}, and {7} by one of {6}
abbrev pub levels_sets : List ℕ
levels_sets = 34 ∷ 0 ∷ 4 ∷ 64 ∷ 8 ∷ 128 ∷ []

abbrev pub levels_listing : List ℕ
levels_listing =
    text "patterns 3\n"
    ++ text "p 0 5 1\n"
    ++ text "p 1 6 1\n"
    ++ text "p 2 7 1\n"
    ++ text "equations 6\n"
    ++ text "0 0 4 1\n"
    ++ text "0 5 5 2\n"
    ++ text "0 6 6 3\n"
    ++ text "0 7 255 1\n"
    ++ text "1 0 255 1\n"
    ++ text "2 0 6 1\n"
    ++ text "2 7 7 4\n"
    ++ text "2 8 255 1\n"
    ++ text "3 0 6 1\n"
    ++ text "3 7 7 5\n"
    ++ text "3 8 255 1\n"
    ++ text "4 0 255 1\n"
    ++ text "5 0 255 1\n"

pub record NumberingExamples : Type 0 where
  pub crossed : Numbers crossed_file crossed_rule crossed_sets crossed_listing
  pub levels : Numbers levels_file levels_rule levels_sets levels_listing
