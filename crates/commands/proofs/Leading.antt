-- Lines that lead from one position to the next: each that isn't empty leads to a later position, and the text of some lines and more after them is
-- that of the lines, then that of the others.
use mathlib.Core.Path.{◌≡◌, refl, sym, ◌∙◌}
use mathlib.Core.List.{List, [], ◌++◌, append_assoc, append-nil}
use Prim.Native.Nat.{ℕ, zero, suc, ◌+◌, ◌*◌, ◌≤◌, ◌<◌}
use native.Mathlib.Omega.{arith}
use native.Mathlib.Numerals.{add-one}
use borrow.Author.Tests.{eq-eqb, ne_eqb}
use Rattle.reading.specs.declared.NumberedRule.{NumberedRule}
use Rattle.listing.specs.Positions.{text_of, listing_line_at, lines_from}
use Rattle.listing.specs.declared.ListingLine.{ListingLine}
use Rattle.listing.proofs.LaterLines.{listing_line_later}
use Rattle.std.proofs.Common.{Some}
use Rattle.listing.specs.declared.Line.{Line}
use Rattle.commands.specs.Printing.{LeadTo, first, next}
use Rattle.commands.specs.LineByLine.{GivesLine}
use Rattle.commands.specs.declared.lines.Lines.{Lines}

-- ---- lines that lead to a position

-- so many lead to it, and it isn't after the last
pub record Leads (rule : NumberedRule) (table : List ℕ) (count lines at : ℕ) : Type 0 where
  pub lead : LeadTo rule table count lines at
  pub fewer : lines ≤ at
  pub inside : at ≤ 34 + 256 * count

-- a line that isn't empty leads on
pub record LeadsOn (rule : NumberedRule) (table : List ℕ) (count lines at at' : ℕ) : Type 0 where
  pub leads : Leads rule table count (lines + 1) at'
  pub on : at < at'

module _ {rule : NumberedRule} {table : List ℕ} {count : ℕ} where
  pub leads_none : Leads rule table count 0 0
  leads_none = record { lead = first; fewer = omega arith; inside = omega arith }

  pub leads_next : {lines at : ℕ} {l : ListingLine} → Leads rule table count lines at → l ≡ listing_line_at rule table count at
      → (l.line.len ≡ 0 → ⊥) → LeadsOn rule table count lines at l.next
  leads_next {lines} {at} w e some =
      let after = listing_line_later rule table count at (rw e at some) in
      rw e
      (record {
        leads = record { lead = rw (add-one lines) (next w.lead (rw e at some)); fewer = omega (arith, w.fewer); inside = after.1 };
        on = after.0;
      })

  -- so all lines that lead to a position do
  pub lead_leads : {lines at : ℕ} → LeadTo rule table count lines at → Leads rule table count lines at
  lead_leads first = leads_none
  lead_leads (next {lines} lead some) = rw (← add-one lines) (leads_next (lead_leads lead) refl some).leads

-- ---- the text of lines from a position on

module _ (rule : NumberedRule) (table : List ℕ) (count : ℕ) where
  abbrev lines_at : (most at : ℕ) → List ℕ
  lines_at most at = lines_from rule table count most at

  -- a line that isn't empty, and those after it
  lines_suc : (most at : ℕ) → ((listing_line_at rule table count at).line.len ≡ 0 → ⊥)
      → lines_at (suc most) at ≡ text_of (listing_line_at rule table count at).line ++ lines_at most (listing_line_at rule table count at).next
  unfolding lines_from
  lines_suc most at some = rw (ne_eqb _ 0 some)

  lines_none : (most at : ℕ) → (listing_line_at rule table count at).line.len ≡ 0 → lines_at most at ≡ []
  unfolding lines_from
  lines_none zero at e = refl
  lines_none (suc most) at e = rw (eq-eqb _ 0 e)

  lines_zero : (at : ℕ) → lines_at 0 at ≡ []
  unfolding lines_from
  lines_zero at = refl

  -- ---- the text of some lines, and of more after them

  -- lines that lead to a position, and so many from there on
  lines_add : {lines at : ℕ} → LeadTo rule table count lines at → (more : ℕ) → lines_at (lines + more) 0 ≡ lines_at lines 0 ++ lines_at more at
  lines_add first more =
      let all : 0 + more ≡ more = omega arith in
      rw (all, lines_zero 0)
  lines_add (next {lines} {at} lead some) more =
      let l = listing_line_at rule table count at in
      let one : suc lines ≡ lines + 1 = sym (add-one lines) in
      let all : suc lines + more ≡ lines + suc more = omega arith in
      rw
      (all, one, lines_add lead 1, lines_add lead (suc more), lines_suc more at some, lines_suc 0 at some, lines_zero l.next, append-nil)
      (sym (append_assoc (lines_at lines 0) (text_of l.line) (lines_at more l.next)))

  -- where no line follows, more iterations don't give more
  pub lines_end : {lines at : ℕ} → LeadTo rule table count lines at → (listing_line_at rule table count at).line.len ≡ 0 → (more : ℕ)
      → lines_at lines 0 ≡ lines_at (lines + more) 0
  lines_end {lines} {at} lead e more = sym (lines_add lead more ∙ rw (lines_none more at e) (append-nil (lines_at lines 0)))

-- ---- the lines as an iterator

-- a line that `next` gives leads on
module _ {s t : Lines} {l : Line} (g : GivesLine s (Some l) t) where
  pub leads_given : {lines : ℕ} → Leads s.rule s.table.now s.count lines s.at → Leads t.rule t.table.now t.count (lines + 1) t.at
  leads_given w = rw (g.rule, g.table, g.count, g.at) (leads_next w refl g.line.0).leads
