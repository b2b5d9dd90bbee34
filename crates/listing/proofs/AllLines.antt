-- Line by line, the text is the listing. By induction over the lines that may still come: each position gives its line and the position of the next, which is
-- the next run of the row, or the beginning of the next row.
use mathlib.Core.Path.{◌≡◌, refl, sym, ap, ◌∙◌}
use mathlib.Core.Bool.{Bool, true, false}
use mathlib.Core.List.{List, [], ◌∷◌, ◌++◌, map, append_assoc}
use Prim.Native.Nat.{ℕ, zero, suc, ◌+◌, ◌-◌, ◌*◌, ◌/◌, ◌%◌, ◌≤◌, ◌<◌}
use native.Mathlib.Omega.{arith}
use lib.Dec.{ltb}
use lib.ListN.{length, get_or, drop, length-append, length-take, length-map, drop_of_length-le}
use lib.Seq.{take-append_seam, drop-cons, get_or-take, length-take-le, take_at}
use borrow.Author.Tests.{ne_eqb, ltb-true, ltb-false}
use Rattle.reading.specs.Pattern.{extent_of}
use Rattle.reading.specs.Numbered.{numbered, no_extent, listed, none_listed}
use Rattle.reading.specs.declared.Extent.{Extent}
use Rattle.reading.specs.declared.Pattern.{Pattern}
use Rattle.reading.specs.declared.NumberedRule.{NumberedRule}
use Rattle.reading.proofs.Numbering.NumberedLaws.{padded_long}
use Rattle.synthesis.specs.Monitor.{mark, row_of, meaning}
use Rattle.synthesis.proofs.Tables.Rows.{row_none, row_inside, row_short}
use Rattle.listing.specs.Text.{text, decimal}
use Rattle.listing.specs.Runs.{runs_from, RunTo}
use Rattle.listing.specs.Lines.{spaced, line, lowest_text, answer_text, run_lines, row_lines, pattern_line, pattern_lines, listing}
use Rattle.listing.specs.Positions.{extent_in, extents, line_then, no_line, row_line_at, line_at, pattern_count, extents_of, listing_line_at, lines_from}
use Rattle.listing.specs.Promises.{ListsAll, ListsRule}
use Rattle.listing.proofs.RunLaws.{first_run, no_runs, some_run}
use Rattle.listing.proofs.LineLaws.{past_last, past_row, at_run, at_patterns, at_pattern, at_equations, at_row}
use Rattle.std.proofs.lemmas.List.{take-map}

-- after a row that isn't wholly inside the table there is no line
row_lines-none : (table : List ℕ) (k many : ℕ) → length table < 256 * k + 256 → row_lines table k many ≡ []
unfolding row_lines
row_lines-none table k zero h = refl
row_lines-none table k (suc many) h = rw (row_none 256 table k h) (row_lines-none table (suc k) many (omega arith))

-- ---- one line

-- the position of code c of equation k
at_code : (n : ℕ) (extents : List Extent) (table : List ℕ) (count k c : ℕ) → c < 256
    → line_at n extents table count (n + 2 + 256 * k + c) ≡ row_line_at table count (n + 2) k c (n + 2 + 256 * k + c)
at_code n extents table count k c h =
    let at = n + 2 + 256 * k + c in
    let row : (at - (n + 2)) / 256 ≡ k = omega arith in
    let code : (at - (n + 2)) % 256 ≡ c = omega arith in
    at_row n extents table count at (omega arith) ∙ rw (row, code)

module _ (rule : NumberedRule) (table : List ℕ) (count : ℕ) where
  -- the number of patterns, the position of code c of equation k, and a row
  abbrev n : ℕ
  n = pattern_count rule

  abbrev place : (k c : ℕ) → ℕ
  place k c = n + 2 + 256 * k + c

  abbrev row : ℕ → List ℕ
  row k = row_of 256 table k

  -- the text from a position on
  abbrev from : (most at : ℕ) → List ℕ
  from most at = lines_from rule table count most at

  lines_from-line : (most at next : ℕ) (fields : List (List ℕ)) → listing_line_at rule table count at ≡ line_then (line fields) next
      → from (suc most) at ≡ line fields ++ from most next
  unfolding lines_from
  lines_from-line most at next fields e =
      let some : length (line fields) ≡ 0 → ⊥ = λ z. omega (arith, length-append (spaced fields) (text "\n")) in
      rw (e, ne_eqb (length (line fields)) 0 some, take-append_seam (line fields))

  lines_from-end : (most at : ℕ) → listing_line_at rule table count at ≡ no_line at → from most at ≡ []
  unfolding lines_from
  lines_from-end zero at e = refl
  lines_from-end (suc most) at e = rw e

  -- ---- the equations

  -- what is to come from code c of equation k on, with `many` equations after it
  abbrev to_come : (k c many : ℕ) → List ℕ
  to_come k c many = run_lines k (runs_from c (drop c (row k))) ++ row_lines table (suc k) many

  -- it comes in so many lines
  abbrev RunsComplete : (most : ℕ) → Type 0
  RunsComplete most = (k c many : ℕ) → k + suc many ≡ count → c < 256 → 256 * suc many ≤ most + c → from most (place k c) ≡ to_come k c many

  line_at_lem : (k c : ℕ) → c < 256 → listing_line_at rule table count (place k c) ≡ row_line_at table count (n + 2) k c (place k c)
  unfolding listing_line_at
  line_at_lem k c h = at_code n (extents rule) table count k c h

  -- the equations from k on
  rows_complete : (most : ℕ) → RunsComplete most → (k many : ℕ) → k + many ≡ count → 256 * many ≤ most
      → from most (place k 0) ≡ row_lines table k many
  unfolding row_lines
  rows_complete most runs_complete k zero e h =
      lines_from-end most (place k 0) (line_at_lem k 0 (omega arith) ∙ past_last table count (n + 2) k 0 (place k 0) (omega arith))
  rows_complete most runs_complete k (suc many) e h = runs_complete k 0 many e (omega arith) (omega arith)

  -- what follows a run: the next one of the row, or the next row
  rest_complete : (most : ℕ) → RunsComplete most → (k c many last : ℕ) → k + suc many ≡ count → 256 * suc many ≤ suc most + c
      → RunTo (row k) c last → from most (place k (suc last)) ≡ to_come k (suc last) many
  rest_complete most runs_complete k c many last e h r = on (ltb (suc last) 256) refl
    where
      on : (b : Bool) → ltb (suc last) 256 ≡ b → from most (place k (suc last)) ≡ to_come k (suc last) many
      on true f = runs_complete k (suc last) many e (ltb-true (suc last) 256 f) (omega (arith, r.some))
      on false f =
          let whole = (row_inside 256 table k last r.inside).1 in
          let at_end : suc last ≡ 256 = omega (arith, r.inside, whole, ltb-false (suc last) 256 f) in
          let next : place k (suc last) ≡ place (suc k) 0 = omega arith in
          rw (no_runs (row k) (suc last) (omega arith), next)
          (rows_complete most runs_complete (suc k) many (omega arith) (omega (arith, r.some)))

  runs_complete : (most : ℕ) → RunsComplete most
  runs_complete zero k c many e h l = absurd (omega arith)
  runs_complete (suc most) k c many e h l =
      on (ltb c (length (row k))) refl (λ last r. rest_complete most (runs_complete most) k c many last e l r)
    where
      on : (b : Bool) → ltb c (length (row k)) ≡ b
          → ((last : ℕ) → RunTo (row k) c last → from most (place k (suc last)) ≡ to_come k (suc last) many)
          → from (suc most) (place k c) ≡ to_come k c many
      on true f rest =
          let (last, r) = some_run (row k) c (ltb-true c (length (row k)) f) in
          let fields = decimal k ∷ decimal c ∷ decimal last ∷ answer_text (meaning mark (get_or (row k) c 0)) ∷ [] in
          lines_from-line most (place k c) (place k (suc last)) fields
          (line_at_lem k c h ∙ at_run table count (n + 2) k c (place k c) last (omega arith) r)
          ∙ rw (first_run (row k) c last r, rest last r) (sym (append_assoc (line fields) _ _))
      on false f rest =
          let short = ltb-false c (length (row k)) f in
          lines_from-end (suc most) (place k c) (line_at_lem k c h ∙ past_row table count (n + 2) k c (place k c) short (omega arith))
          ∙ rw (no_runs (row k) c short, row_lines-none table (suc k) many (omega (arith, row_short 256 table k (omega arith))))

  -- ---- the patterns

  pattern_line_lem : (i : ℕ) → i < n
      → listing_line_at rule table count (suc i) ≡ line_then (pattern_line i (get_or (extents rule) i no_extent)) (suc (suc i))
  unfolding listing_line_at
  pattern_line_lem i h =
      let this : suc i - 1 ≡ i = omega arith in
      let next : suc i + 1 ≡ suc (suc i) = omega arith in
      at_pattern n (extents rule) table count (suc i) (λ z. omega arith) h ∙ rw (this, next)

  patterns_complete : length (extents rule) ≡ 32 → (more most all i : ℕ) → all ≡ more + most → i + more ≡ n
      → from all (suc i) ≡ pattern_lines i (drop i (extents_of rule)) ++ from most (suc n)
  patterns_complete extents-length zero most all i a e =
      let is : all ≡ most = omega arith in
      let last : i ≡ n = omega arith in
      rw (is, last, drop_of_length-le (extents_of rule) {i = n} (omega (arith, length-take n (extents rule))))
  patterns_complete extents-length (suc more) most all i a e =
      let is : all ≡ suc (more + most) = omega arith in
      let x = get_or (extents rule) i no_extent in
      let fields = text "p" ∷ decimal i ∷ lowest_text x.lowest ∷ decimal x.count ∷ [] in
      let inside : i < length (extents_of rule) = omega (arith, length-take-le n (extents rule) (omega arith)) in
      rw (is, drop-cons (extents_of rule) i no_extent inside, get_or-take n (extents rule) i no_extent (omega arith))
      (lines_from-line (more + most) (suc i) (suc (suc i)) fields (pattern_line_lem i (omega arith))
      ∙ rw (patterns_complete extents-length more most (more + most) (suc i) refl (omega arith)) (sym (append_assoc (line fields) _ _)))

  -- ---- all lines

  lines_complete : length (extents rule) ≡ 32 → (most : ℕ) → 256 * count ≤ most
      → from (suc (n + suc most)) 0 ≡ listing (extents_of rule) count table
  unfolding listing listing_line_at
  lines_complete extents-length most h =
      let many : length (extents_of rule) ≡ n = length-take-le n (extents rule) (omega arith) in
      let next : suc n + 1 ≡ place 0 0 = omega arith in
      let first = lines_from-line (n + suc most) 0 1 (text "patterns" ∷ decimal n ∷ []) (at_patterns n (extents rule) table count 0 refl) in
      let patterns = patterns_complete extents-length n (suc most) (n + suc most) 0 refl (omega arith) in
      let equations = lines_from-line most (suc n) (suc n + 1) (text "equations" ∷ decimal count ∷ [])
      (at_equations n (extents rule) table count (suc n) (omega arith)) in
      let rows = rows_complete most (runs_complete most) 0 count (omega arith) h in
      rw (first, patterns, equations, next, rows, many)

pub lists_all : ListsAll
lists_all rule table count most patterns-length h =
    let m = most - (pattern_count rule + 2) in
    let is : most ≡ suc (pattern_count rule + suc m) = omega arith in
    rw is (lines_complete rule table count (length-map rule.patterns extent_in ∙ patterns-length) m (omega arith))

extents_listed : (ps : List Pattern) → map extent_in (map listed ps) ≡ map extent_of ps
extents_listed [] = refl
extents_listed (p ∷ ps) = ap (λ (l : List Extent). extent_of p ∷ l) (extents_listed ps)

pub lists_rule : ListsRule
lists_rule r table count most w h =
    let ps = r.patterns in
    let ls = map listed ps in
    let same : length ls ≡ length ps = length-map ps listed in
    let long : length (numbered r).patterns ≡ 32 = padded_long none_listed 32 ls (omega (arith, w.few_patterns)) in
    let n : pattern_count (numbered r) ≡ length ps = omega (arith, w.few_patterns) in
    let these : extents_of (numbered r) ≡ map extent_of ps =
    rw (n, take-map extent_in (length ps) (numbered r).patterns, take_at ls _ (length ps) same) (extents_listed ps) in
    lists_all (numbered r) table count most long h ∙ ap (λ (l : List Extent). listing l count table) these
