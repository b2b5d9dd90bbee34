-- The short table, by rules that aren't in the paper and by the number-pool rule, which has no two equations that drop alike.
use Rattle.std.specs.Prelude.{ℕ, ◌*◌, ◌≤◌, ◌≡◌, List, [], ◌∷◌, ◌++◌, map, length, Some}
use Rattle.reading.specs.Pattern.{extent_of}
use Rattle.reading.specs.Rule.{truth, falsity, both, necessity, Rule}
use Rattle.synthesis.specs.Violation.{ViolatesRule}
use Rattle.synthesis.specs.Monitor.{mark, most, ended, lookup}
use Rattle.synthesis.specs.Merging.{DropAlike}
use Rattle.synthesis.specs.Building.{equations_of, with_equations, counted_of, table_after, classes_of, short_of, short_filling_of}
use Rattle.listing.specs.Text.{text}
use Rattle.listing.specs.Lines.{listing}
use Rattle.examples.specs.Examples.{pattern, rule, ReadAs, pool_file, pool_rule, pool_listing}
use Rattle.examples.specs.ReasonExamples.{reason}
use Rattle.reading.specs.File.{accepted}

-- what the filling of the short table leaves
abbrev pub short_table : (s table : List ℕ) → List ℕ
short_table s table = table_after mark (short_filling_of most s (length table)) table

-- a file's rule, its equations as sets of nodes, their classes, and for the short table what counting and filling answer and what is listed of it
pub record Merges (s : List ℕ) (r : Rule) (sets classes : List ℕ) (n : ℕ) (lines : List ℕ) : Type 0 where
  pub file : ReadAs s r (accepted (length sets))
  pub equations : equations_of most r ≡ sets
  pub classes_are : classes_of (with_equations most r) ≡ classes
  pub counting : counted_of (short_of most s) ≡ accepted n
  pub filling : (capacity : ℕ) → 256 * n ≤ capacity → counted_of (short_filling_of most s capacity) ≡ accepted n
  pub listed : (table : List ℕ) → 256 * n ≤ length table → listing (map extent_of r.patterns) n (short_table s table) ≡ lines

-- ---- two branches that drop alike

-- both "after 5, after 6, ff" and "after 7, after 6, ff". Its nodes: 0 both, 1 and 2 necessities, 3 ff, 4 and 5 necessities, 6 ff.
abbrev pub branches_file : List ℕ
branches_file = 1 ∷ 1 ∷ 5 ∷ 5 ∷ 1 ∷ 1 ∷ 6 ∷ 6 ∷ 1 ∷ 1 ∷ 7 ∷ 7 ∷ 4 ∷ 5 ∷ 0 ∷ 5 ∷ 1 ∷ 3 ∷ 5 ∷ 2 ∷ 5 ∷ 1 ∷ 3 ∷ []

abbrev pub branches_rule : Rule
branches_rule =
    rule (pattern 1 5 5 ∷ pattern 1 6 6 ∷ pattern 1 7 7 ∷ [])
    (both (necessity 0 (necessity 1 falsity)) (necessity 2 (necessity 1 falsity)))

-- {1, 4}; the empty set; {2} after 5 and {5} after 7, which both drop 6 and nothing else
abbrev pub branches_sets : List ℕ
branches_sets = 18 ∷ 0 ∷ 4 ∷ 32 ∷ []

abbrev pub branches_listing : List ℕ
branches_listing =
    text "patterns 3\n"
    ++ text "p 0 5 1\n"
    ++ text "p 1 6 1\n"
    ++ text "p 2 7 1\n"
    ++ text "equations 3\n"
    ++ text "0 0 4 1\n"
    ++ text "0 5 5 2\n"
    ++ text "0 6 6 1\n"
    ++ text "0 7 7 2\n"
    ++ text "0 8 255 1\n"
    ++ text "1 0 255 1\n"
    ++ text "2 0 5 1\n"
    ++ text "2 6 6 drop\n"
    ++ text "2 7 255 1\n"

-- Over the short table 5 and 7 lead to one equation, and after both 6 is dropped; but not for one reason. So a reason can't be had from an equation of the
-- short table.
pub record MergedReasons : Type 0 where
  pub one_equation : (table : List ℕ) → 768 ≤ length table
      → ended (lookup 256 mark (short_table branches_file table)) 0 (5 ∷ []) ≡ ended (lookup 256 mark (short_table branches_file table)) 0 (7 ∷ [])
  pub safe_5 : ViolatesRule branches_rule (5 ∷ []) → ⊥
  pub safe_7 : ViolatesRule branches_rule (7 ∷ []) → ⊥
  pub after_5 : reason branches_file (5 ∷ []) 6 ≡ accepted (Some 3)
  pub after_7 : reason branches_file (7 ∷ []) 6 ≡ accepted (Some 6)

-- ---- one class

-- "after an issue of 5, tt": two equations, and neither drops anything
abbrev pub idle_file : List ℕ
idle_file = 1 ∷ 1 ∷ 5 ∷ 5 ∷ 5 ∷ 0 ∷ 2 ∷ []

abbrev pub idle_rule : Rule
idle_rule = rule (pattern 1 5 5 ∷ []) (necessity 0 truth)

abbrev pub idle_listing : List ℕ
idle_listing = text "patterns 1\n" ++ text "p 0 5 1\n" ++ text "equations 1\n" ++ text "0 0 255 0\n"

-- "after any code, ff": the only equation drops everything
abbrev pub closed_file : List ℕ
closed_file = 1 ∷ 255 ∷ 0 ∷ 31 ∷ 5 ∷ 0 ∷ 3 ∷ []

abbrev pub closed_rule : Rule
closed_rule = rule (pattern 255 0 31 ∷ []) (necessity 0 falsity)

abbrev pub closed_listing : List ℕ
closed_listing = text "patterns 1\n" ++ text "p 0 0 256\n" ++ text "equations 1\n" ++ text "0 0 255 drop\n"

pub record ShortExamples : Type 0 where
  pub branches : Merges branches_file branches_rule branches_sets (0 ∷ 1 ∷ 2 ∷ 2 ∷ []) 3 branches_listing
  pub merged_reasons : MergedReasons
  pub pool : Merges pool_file pool_rule (2 ∷ 0 ∷ 40 ∷ []) (0 ∷ 1 ∷ 2 ∷ []) 3 pool_listing
  pub idle : Merges idle_file idle_rule (1 ∷ 0 ∷ []) (0 ∷ 0 ∷ []) 1 idle_listing
  pub closed : Merges closed_file closed_rule (1 ∷ []) (0 ∷ []) 1 closed_listing
  -- A table without rows drops alike, since a code that has no entry is dropped. So a rival must have a row.
  pub needs_a_row : (table : List ℕ) → 256 ≤ length table → DropAlike 256 (lookup 256 mark (short_table closed_file table)) 0 (lookup 256 mark []) 0
