-- The line at a position: one law for each kind of position, by the tests of `line_at` in their order, and what the functions give there.
use mathlib.Core.Path.{◌≡◌, sym, ap, ap₂, ◌∙◌}
use mathlib.Core.List.{List}
use Prim.Native.Nat.{ℕ, suc, ◌+◌, ◌-◌, ◌*◌, ◌/◌, ◌%◌, ◌≤◌, ◌<◌}
use native.Mathlib.Omega.{arith}
use lib.ListN.{length, get_or}
use borrow.Author.Tests.{lt-ltb, le-ltb, le-leb, lt-leb, eq-eqb, ne_eqb}
use Rattle.reading.specs.Numbered.{no_extent}
use Rattle.reading.specs.declared.Extent.{Extent}
use Rattle.reading.specs.declared.NumberedRule.{NumberedRule}
use Rattle.synthesis.specs.Monitor.{row_of}
use Rattle.listing.specs.Runs.{code_run, RunTo}
use Rattle.listing.specs.Lines.{patterns_line, pattern_line, equations_line, run_line}
use Rattle.listing.specs.Positions.{extents, Within, line_then, no_line, row_line_at, line_at, pattern_count, listing_line_at}
use Rattle.listing.specs.LineParts.{Prints, Gives}
use Rattle.listing.specs.declared.Line.{Line}
use Rattle.listing.specs.declared.ListingLine.{ListingLine}
use Rattle.listing.proofs.RunLaws.{first_run, no_runs}

-- ---- positions of a row

module _ (table : List ℕ) (count start k c at : ℕ) where
  pub past_last : count ≤ k → row_line_at table count start k c at ≡ no_line at
  past_last h = rw (le-ltb k count h)

  pub past_row : length (row_of 256 table k) ≤ c → k < count → row_line_at table count start k c at ≡ no_line at
  past_row h l = rw (lt-ltb k count l, no_runs (row_of 256 table k) c h)

  pub at_run : (last : ℕ) → k < count → RunTo (row_of 256 table k) c last
      → row_line_at table count start k c at
      ≡ line_then (run_line k (code_run c last (get_or (row_of 256 table k) c 0))) (start + 256 * k + suc last)
  at_run last l r = rw (lt-ltb k count l, first_run (row_of 256 table k) c last r)

-- ---- all positions

module _ (n : ℕ) (extents : List Extent) (table : List ℕ) (count at : ℕ) where
  pub at_patterns : at ≡ 0 → line_at n extents table count at ≡ line_then (patterns_line n) 1
  at_patterns e = rw (eq-eqb at 0 e)

  pub at_pattern : (at ≡ 0 → ⊥) → at ≤ n
      → line_at n extents table count at ≡ line_then (pattern_line (at - 1) (get_or extents (at - 1) no_extent)) (at + 1)
  at_pattern e h = rw (ne_eqb at 0 e, le-leb at n h)

  pub at_equations : at ≡ n + 1 → line_at n extents table count at ≡ line_then (equations_line count) (at + 1)
  at_equations e = rw (ne_eqb at 0 (λ z. omega arith), lt-leb at n (omega arith), eq-eqb at (n + 1) e)

  pub at_row : n + 1 < at
      → line_at n extents table count at ≡ row_line_at table count (n + 2) ((at - (n + 2)) / 256) ((at - (n + 2)) % 256) at
  at_row h = rw (ne_eqb at 0 (λ z. omega arith), lt-leb at n (omega arith), ne_eqb at (n + 1) (λ z. omega arith))

-- ---- what the functions give

pub gives : {a b l : ListingLine} → a ≡ b → Gives b l → Gives a l
gives e g = record { is = g.is ∙ sym e; within = g.within }

pub gives_line : {t : List ℕ} {l : Line} (next next' : ℕ) → next ≡ next' → Prints t l
    → Gives (line_then t next') (record { line = l; next = next })
gives_line next next' e p =
    record { is = ap₂ (λ (l : Line) (n : ℕ). record { line = l; next = n }) p.is e; within = p.within }

pub listed : (rule : NumberedRule) (table : List ℕ) (count at n : ℕ) {l : ListingLine} → n ≡ pattern_count rule
    → Gives (line_at n (extents rule) table count at) l → (l ≡ listing_line_at rule table count at) × Within l.line
unfolding listing_line_at
listed rule table count at n e g = (g.is ∙ ap (λ (m : ℕ). line_at m (extents rule) table count at) e, g.within)
