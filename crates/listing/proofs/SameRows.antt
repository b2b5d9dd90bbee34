-- A line looks at no more of a table than one row that is listed, and at no more of a rule than its patterns. So tables with the same rows have the same
-- lines: what the rule page fills is listed as what the desk fills, and rules that differ only after empty patterns are listed alike.
use Prim.Native.Nat.{ℕ, zero, suc, ◌+◌, ◌*◌, ◌<◌}
use mathlib.Core.Path.{◌≡◌, refl, ◌∙◌}
use mathlib.Core.Bool.{Bool, true, false, cond}
use mathlib.Core.List.{List}
use lib.Dec.{ltb}
use lib.ListN.{drop}
use borrow.Author.Tests.{ltb-true}
use Rattle.reading.specs.Rule.{Rule}
use Rattle.reading.specs.Numbered.{numbered}
use Rattle.reading.specs.declared.NumberedRule.{NumberedRule}
use Rattle.synthesis.specs.Monitor.{row_of}
use Rattle.synthesis.proofs.Tables.Previews.{preview_agrees}
use Rattle.synthesis.proofs.EmptyPatterns.SameTables.{tables_alike}
use Rattle.listing.specs.Runs.{runs_from}
use Rattle.listing.specs.Positions.{no_line, run_line_at, row_line_at, listing_line_at, lines_from}
use Rattle.listing.specs.Promises.{ListsByRows, PreviewListed, ListedAlike}

module _ (table table' : List ℕ) (count : ℕ) (same : (k : ℕ) → k < count → row_of 256 table k ≡ row_of 256 table' k) where
  row_line_same : (start k c at : ℕ) → row_line_at table count start k c at ≡ row_line_at table' count start k c at
  row_line_same start k c at = on (ltb k count) refl
    where
      on : (b : Bool) → ltb k count ≡ b
          → cond b (run_line_at (start + 256 * k) k at (runs_from c (drop c (row_of 256 table k)))) (no_line at)
          ≡ cond b (run_line_at (start + 256 * k) k at (runs_from c (drop c (row_of 256 table' k)))) (no_line at)
      on true t = rw (same k (ltb-true k count t))
      on false f = refl

  line_same : (rule : NumberedRule) (at : ℕ) → listing_line_at rule table count at ≡ listing_line_at rule table' count at
  unfolding listing_line_at
  line_same rule at = rw (row_line_same _ _ _ at)

  -- and so all lines
  pub lines_same : (rule : NumberedRule) (most at : ℕ) → lines_from rule table count most at ≡ lines_from rule table' count most at
  unfolding lines_from
  lines_same rule zero at = refl
  lines_same rule (suc most) at = rw (line_same rule at, lines_same rule most (listing_line_at rule table' count at).next)

pub lists_by_rows : ListsByRows
lists_by_rows rule table table' count same at = line_same table table' count same rule at

pub preview_listed : PreviewListed
preview_listed s n e table table' room room' rule at = line_same _ _ n ((preview_agrees s n e).rows table table' room room') rule at

patterns_listed : (r r' : Rule) → r.patterns ≡ r'.patterns → (table : List ℕ) (count at : ℕ)
    → listing_line_at (numbered r) table count at ≡ listing_line_at (numbered r') table count at
unfolding listing_line_at
patterns_listed r r' patterns table count at = rw patterns

pub listed_alike : ListedAlike
listed_alike limit limit' mark s table r n left b s' table' r' n' left' b' alike patterns at =
    let same = tables_alike limit limit' mark s table r n left b s' table' r' n' left' b' alike in
    rw (← same.count) (line_same left left' n same.rows (numbered r) at ∙ patterns_listed r r' patterns left' n at)
