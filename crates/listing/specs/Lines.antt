-- The lines of a listing, and all of them.
use Rattle.std.specs.Prelude.{ℕ, zero, suc, Bool, true, false, List, [], ◌∷◌, ◌++◌, length, Option, Some, None}
use Rattle.reading.specs.declared.Extent.{Extent}
use Rattle.synthesis.specs.Monitor.{mark, Answer, cases, row_of, meaning}
use Rattle.listing.specs.Text.{text, decimal}
use Rattle.listing.specs.Runs.{CodeRun, runs}
use Rattle.reading.specs.File.{refused}

-- ---- one line

-- fields one space apart
abbrev pub spaced : List (List ℕ) → List ℕ
spaced [] = []
spaced (f ∷ []) = f
spaced (f ∷ (g ∷ fs)) = f ++ (text " " ++ spaced (g ∷ fs))

-- a line of such fields, ended by byte 10
abbrev pub line : List (List ℕ) → List ℕ
line fields = spaced fields ++ text "\n"

abbrev pub refusal_line : (number place : ℕ) → List ℕ
refusal_line number place = line (text "refused" ∷ decimal number ∷ text "at" ∷ decimal place ∷ [])

-- a model meets a rule, or breaks it
abbrev pub judgment_line : (meets : Bool) → List ℕ
judgment_line true = line (text "meets" ∷ [])
judgment_line false = line (text "breaks" ∷ [])

abbrev pub patterns_line : (count : ℕ) → List ℕ
patterns_line count = line (text "patterns" ∷ decimal count ∷ [])

-- a lowest code: "none" where it is absent, and else its number
abbrev pub lowest_text : Option ℕ → List ℕ
lowest_text None = text "none"
lowest_text (Some code) = decimal code

abbrev pub pattern_line : (number : ℕ) → Extent → List ℕ
pattern_line i e = line (text "p" ∷ decimal i ∷ lowest_text e.lowest ∷ decimal e.count ∷ [])

abbrev pub equations_line : (count : ℕ) → List ℕ
equations_line count = line (text "equations" ∷ decimal count ∷ [])

-- an entry: "drop", or the number of the next equation
abbrev pub answer_text : Answer ℕ → List ℕ
answer_text a = cases a (text "drop") decimal

abbrev pub run_line : (equation : ℕ) → CodeRun → List ℕ
run_line k r = line (decimal k ∷ decimal r.first ∷ decimal r.last ∷ answer_text (meaning mark r.entry) ∷ [])

-- ---- the listing

-- the patterns, numbered from i on
abbrev pub pattern_lines : (i : ℕ) → List Extent → List ℕ
pattern_lines i [] = []
pattern_lines i (e ∷ es) = pattern_line i e ++ pattern_lines (suc i) es

-- some runs of equation k
abbrev pub run_lines : (k : ℕ) → List CodeRun → List ℕ
run_lines k [] = []
run_lines k (r ∷ rs) = run_line k r ++ run_lines k rs

-- so many equations, numbered from k on. One whose row isn't wholly inside the table has no entries, and so no lines.
unfoldable pub row_lines : List ℕ → (k many : ℕ) → List ℕ
row_lines table k zero = []
row_lines table k (suc many) = run_lines k (runs (row_of 256 table k)) ++ row_lines table (suc k) many

-- the patterns and the first `count` equations of a table
unfoldable pub listing : List Extent → (count : ℕ) → (table : List ℕ) → List ℕ
listing extents count table =
    patterns_line (length extents) ++ (pattern_lines 0 extents ++ (equations_line count ++ row_lines table 0 count))
