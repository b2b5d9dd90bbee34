-- A listing line by line: which line stands at a position, and the position of the next one. `Line` and `ListingLine` are the structs
-- of src/lib.rt.
use Rattle.std.specs.Prelude.{ℕ, zero, suc, ◌+◌, ◌-◌, ◌*◌, ◌/◌, ◌%◌, min, ◌≤◌, ◌≡◌, cond, List, [], ◌∷◌, ◌++◌, map, eqb, ltb, leb, length, get_or, take, drop}
use Rattle.reading.specs.Numbered.{padded, no_extent}
use Rattle.reading.specs.declared.Extent.{Extent}
use Rattle.reading.specs.declared.Listed.{Listed}
use Rattle.reading.specs.declared.NumberedRule.{NumberedRule}
use Rattle.synthesis.specs.Monitor.{row_of}
use Rattle.listing.specs.Runs.{CodeRun, runs_from}
use Rattle.listing.specs.Lines.{patterns_line, pattern_line, equations_line, run_line}
use Rattle.listing.specs.declared.Line.{Line}
use Rattle.listing.specs.declared.ListingLine.{ListingLine}

-- a text as a line: the bytes after it are 0
abbrev pub line_of : List ℕ → Line
line_of t = record { bytes = padded 64 0 t; len = length t }

abbrev pub text_of : Line → List ℕ
text_of l = take l.len l.bytes

-- The text stands within the bytes. These are the two facts that whoever lends the text as a part of the bytes has to show.
abbrev pub Within : Line → Type 0
Within l = (l.len ≤ length l.bytes) × (l.len ≡ length (text_of l))

-- How many patterns of a rule are listed. No array of 32 has more, whatever number the rule says.
abbrev pub pattern_count : NumberedRule → ℕ
pattern_count rule = min rule.npatterns 32

-- the extents of all, and of these
abbrev pub extent_in : Listed → Extent
extent_in l = l.extent

abbrev pub extents : NumberedRule → List Extent
extents rule = map extent_in rule.patterns

abbrev pub extents_of : NumberedRule → List Extent
extents_of rule = take (pattern_count rule) (extents rule)

-- ---- the line at a position

-- a line with this text, and the position of the next one
abbrev pub line_then : List ℕ → (next : ℕ) → ListingLine
line_then t next = record { line = line_of t; next = next }

-- after the last line: an empty one, and the same position again
abbrev pub no_line : (at : ℕ) → ListingLine
no_line at = line_then [] at

-- the first of some runs of equation k, whose code 0 has the position `start`
abbrev pub run_line_at : (start k at : ℕ) → List CodeRun → ListingLine
run_line_at start k at [] = no_line at
run_line_at start k at (r ∷ rs) = line_then (run_line k r) (start + suc r.last)

-- the run from code c on of equation k, where code 0 of equation 0 has the position `start`
abbrev pub row_line_at : (table : List ℕ) → (count start k c at : ℕ) → ListingLine
row_line_at table count start k c at =
    cond (ltb k count) (run_line_at (start + 256 * k) k at (runs_from c (drop c (row_of 256 table k)))) (no_line at)

-- Where n patterns are listed, position 0 is the "patterns" line, 1 to n are the patterns, n + 1 is the "equations" line, and
-- n + 2 + 256 * k + c is the run from code c on of equation k.
abbrev pub line_at : (n : ℕ) → List Extent → (table : List ℕ) → (count at : ℕ) → ListingLine
line_at n extents table count at =
    let codes = at - (n + 2) in
    cond (eqb at 0) (line_then (patterns_line n) 1)
    (cond (leb at n) (line_then (pattern_line (at - 1) (get_or extents (at - 1) no_extent)) (at + 1))
    (cond (eqb at (n + 1)) (line_then (equations_line count) (at + 1))
    (row_line_at table count (n + 2) (codes / 256) (codes % 256) at)))

unfoldable pub listing_line_at : NumberedRule → (table : List ℕ) → (count at : ℕ) → ListingLine
listing_line_at rule table count at = line_at (pattern_count rule) (extents rule) table count at

-- ---- all lines from a position on

-- the text of the lines from `at` on, one after the other, up to an empty one; at most so many lines
unfoldable pub lines_from : NumberedRule → (table : List ℕ) → (count most at : ℕ) → List ℕ
lines_from rule table count zero at = []
lines_from rule table count (suc most) at =
    let l = listing_line_at rule table count at in
    cond (eqb l.line.len 0) [] (text_of l.line ++ lines_from rule table count most l.next)
