-- The article's example 10, with issue 5 for a request and deliver 5 for its answer: no second request before the answer to the first.
-- It is max X of both "after a request, after an answer, X" and "after a request, after a request, ff". They overlap at the request.
--
-- A monitor that takes one of the two branches keeps a second request: with the first branch the one at place 1 of the scans below, since
-- after a request that branch minds an answer only; with the second the one at place 4, since an answer leaves nothing of that branch.
use Rattle.std.specs.Prelude.{ℕ, ◌≤◌, ◌≡◌, List, [], ◌∷◌, ◌++◌, length}
use Rattle.reading.specs.Rule.{falsity, both, necessity, max, variable, Rule}
use Rattle.reading.specs.File.{accepted}
use Rattle.running.specs.Running.{start, moved, Run, run_of}
use Rattle.listing.specs.Text.{text}
use Rattle.synthesis.specs.Monitor.{mark, most}
use Rattle.synthesis.specs.Building.{table_left}
use Rattle.examples.specs.Examples.{pattern, rule}
use Rattle.examples.specs.NumberingExamples.{Numbers}

abbrev pub overlap_file : List ℕ
overlap_file = 1 ∷ 1 ∷ 5 ∷ 5 ∷ 1 ∷ 8 ∷ 5 ∷ 5 ∷ 6 ∷ 4 ∷ 5 ∷ 0 ∷ 5 ∷ 1 ∷ 7 ∷ 0 ∷ 5 ∷ 0 ∷ 5 ∷ 0 ∷ 3 ∷ []

abbrev pub overlap_rule : Rule
overlap_rule =
    rule (pattern 1 5 5 ∷ pattern 8 5 5 ∷ [])
    (max (both (necessity 0 (necessity 1 (variable 0))) (necessity 0 (necessity 0 falsity))))

-- {2, 5}, both branches; the empty set; {3, 6}, what is left of both after a request
abbrev pub overlap_sets : List ℕ
overlap_sets = 36 ∷ 0 ∷ 72 ∷ []

abbrev pub overlap_listing : List ℕ
overlap_listing =
    text "patterns 2\n"
    ++ text "p 0 5 1\n"
    ++ text "p 1 101 1\n"
    ++ text "equations 3\n"
    ++ text "0 0 4 1\n"
    ++ text "0 5 5 2\n"
    ++ text "0 6 255 1\n"
    ++ text "1 0 255 1\n"
    ++ text "2 0 4 1\n"
    ++ text "2 5 5 drop\n"
    ++ text "2 6 100 1\n"
    ++ text "2 101 101 0\n"
    ++ text "2 102 255 1\n"

-- The second request is dropped, before an answer and again after it. An answer that no request came before ends the rule.
abbrev pub overlap_scans : List ℕ
overlap_scans = 5 ∷ 5 ∷ 101 ∷ 5 ∷ 5 ∷ 101 ∷ 101 ∷ 5 ∷ 5 ∷ []

abbrev pub overlap_run : Run
overlap_run = record {
  state = moved start 1;
  kept = 5 ∷ 101 ∷ 5 ∷ 101 ∷ 101 ∷ 5 ∷ 5 ∷ [];
  verdicts = 0 ∷ 1 ∷ 0 ∷ 0 ∷ 1 ∷ 0 ∷ 0 ∷ 0 ∷ 0 ∷ [];
}

pub record OverlapExample : Type 0 where
  pub numbers : Numbers overlap_file overlap_rule overlap_sets overlap_listing
  pub run : (table : List ℕ) → 768 ≤ length table → (output verdicts : ℕ) → 9 ≤ output → 9 ≤ verdicts
      → run_of most mark (table_left most mark overlap_file table) 3 start overlap_scans output verdicts ≡ accepted overlap_run
  pub ends_in : overlap_run.state.equation ≡ 1
