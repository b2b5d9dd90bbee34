-- Positions rise from line to line, and end: so a loop over the lines does. By the kinds of positions, one after the other.
use mathlib.Core.Path.{◌≡◌, refl, ◌∙◌}
use mathlib.Core.Bool.{Bool, true, false}
use mathlib.Core.List.{List}
use Prim.Native.Nat.{ℕ, ◌+◌, ◌-◌, ◌*◌, ◌/◌, ◌%◌, ◌≤◌, ◌<◌}
use native.Mathlib.Omega.{arith}
use lib.Dec.{eqb, leb, ltb}
use lib.ListN.{length}
use borrow.Author.Tests.{eqb-true, eqb-false, leb-true, leb-false, ltb-true, ltb-false}
use Rattle.reading.specs.declared.Extent.{Extent}
use Rattle.reading.specs.declared.NumberedRule.{NumberedRule}
use Rattle.synthesis.specs.Monitor.{row_of}
use Rattle.listing.specs.Positions.{extents, no_line, line_at, pattern_count, listing_line_at}
use Rattle.listing.specs.declared.ListingLine.{ListingLine}
use Rattle.listing.proofs.RunLaws.{some_run}
use Rattle.synthesis.proofs.Tables.Rows.{row_inside}
use Rattle.listing.proofs.LineLaws.{past_last, past_row, at_run, at_patterns, at_pattern, at_equations, at_row}

-- ---- one position

-- where there is a line, the next one is later, and not after the last position
abbrev Later : (n count at : ℕ) → ListingLine → Type 0
Later n count at l = (l.line.len ≡ 0 → ⊥) → (at < l.next) × (l.next ≤ n + 2 + 256 * count)

module _ (n : ℕ) (extents : List Extent) (table : List ℕ) (count at : ℕ) where
  -- the equation and the code of a position behind the "equations" line, and their row
  abbrev k : ℕ
  k = (at - (n + 2)) / 256

  abbrev c : ℕ
  c = (at - (n + 2)) % 256

  abbrev row : List ℕ
  row = row_of 256 table k

  no_line-later : {l : ListingLine} → l ≡ no_line at → Later n count at l
  no_line-later e some = absurd (some (rw e))

  row_later : n + 1 < at → Later n count at (line_at n extents table count at)
  row_later h = on (ltb k count) refl (ltb c (length row)) refl
    where
      on : (a : Bool) → ltb k count ≡ a → (b : Bool) → ltb c (length row) ≡ b → Later n count at (line_at n extents table count at)
      on true e true f some =
          let (last, r) = some_run row c (ltb-true c (length row) f) in
          let less = ltb-true k count e in
          let whole = (row_inside 256 table k last r.inside).1 in
          rw (at_row n extents table count at h, at_run table count (n + 2) k c at last less r)
          (omega (arith, r.some, r.inside), omega (arith, r.inside))
      on true e false f some =
          no_line-later (at_row n extents table count at h
          ∙ past_row table count (n + 2) k c at (ltb-false c (length row) f) (ltb-true k count e)) some
      on false e b f some =
          no_line-later (at_row n extents table count at h ∙ past_last table count (n + 2) k c at (ltb-false k count e)) some

  line_later : Later n count at (line_at n extents table count at)
  line_later = on (eqb at 0) refl (leb at n) refl (eqb at (n + 1)) refl
    where
      on : (a : Bool) → eqb at 0 ≡ a → (b : Bool) → leb at n ≡ b → (c : Bool) → eqb at (n + 1) ≡ c
          → Later n count at (line_at n extents table count at)
      on true e b f c g some = rw (at_patterns n extents table count at (eqb-true at 0 e)) (omega (arith, eqb-true at 0 e), omega arith)
      on false e true f c g some =
          let small = leb-true at n f in
          rw (at_pattern n extents table count at (eqb-false at 0 e) small) (omega arith, omega arith)
      on false e false f true g some =
          let here = eqb-true at (n + 1) g in
          rw (at_equations n extents table count at here) (omega arith, omega arith)
      on false e false f false g some = row_later (omega (arith, leb-false at n f, eqb-false at (n + 1) g)) some

-- ---- any rule

pub listing_line_later : (rule : NumberedRule) (table : List ℕ) (count at : ℕ) → ((listing_line_at rule table count at).line.len ≡ 0 → ⊥)
    → (at < (listing_line_at rule table count at).next) × ((listing_line_at rule table count at).next ≤ 34 + 256 * count)
unfolding listing_line_at
listing_line_later rule table count at some =
    let (after, inside) = line_later (pattern_count rule) (extents rule) table count at some in
    (after, omega arith)
