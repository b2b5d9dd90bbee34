-- The text of the rule page. The page's filling, the library's and that of the programs accept the same synthesis, so the text that is due is the listing of the same rule and
-- count, and line by line over the two tables it is the same.
use Prim.Native.Nat.{ℕ, ◌+◌, ◌*◌, ◌≤◌, ◌<◌}
use mathlib.Core.Path.{◌≡◌, sym, ◌∙◌, ap, subst}
use mathlib.Core.List.{List, map}
use native.Mathlib.Omega.{arith}
use lib.ListN.{length}
use Rattle.reading.specs.Pattern.{extent_of}
use Rattle.reading.specs.Rule.{Rule, Bytes}
use Rattle.reading.specs.File.{Outcome, accepted, rule_of}
use Rattle.reading.specs.Numbered.{numbered}
use Rattle.reading.proofs.Accepting.Accepted.{accepts_encodings}
use Rattle.synthesis.specs.Monitor.{mark, most, row_of}
use Rattle.synthesis.specs.Building.{Synthesis, synthesis_of, filling_of, counted_of, table_after, preview_limit, preview_of, preview_filling_of}
use Rattle.synthesis.proofs.Tables.SynthesisOutcomes.{synthesis_accepts, counted_accepts, filling_by_count, filling_accepts}
use Rattle.synthesis.proofs.Tables.Limits.{limits_agree}
use Rattle.synthesis.proofs.Tables.Pages.{preview_accepted}
use Rattle.synthesis.proofs.Tables.Previews.{preview_same, preview_agrees}
use Rattle.listing.specs.Lines.{listing}
use Rattle.listing.specs.Positions.{lines_from}
use Rattle.listing.proofs.AllLines.{lists_rule}
use Rattle.listing.proofs.SameRows.{lines_same}
use Rattle.commands.specs.Printing.{program_limit, text_for}
use Rattle.commands.specs.Promises.{TextOfPage, PreviewText}

-- the listing of a rule goes by the rows that it lists
listing_same : (s : List ℕ) (r : Rule) → Bytes s → rule_of s ≡ accepted r → (n : ℕ) (t t' : List ℕ) → ((k : ℕ) → k < n → row_of 256 t k ≡ row_of 256 t' k)
    → (lines : ℕ) → 34 + 256 * n ≤ lines
    → (lines_from (numbered r) t n lines 0 ≡ listing (map extent_of r.patterns) n t')
    × (listing (map extent_of r.patterns) n t ≡ listing (map extent_of r.patterns) n t')
listing_same s r bytes read n t t' same lines enough =
    let within = ((accepts_encodings s bytes r).0 read).0 in
    let here = lists_rule r t n lines within enough in
    let there = lists_rule r t' n lines within enough in
    let alike = lines_same t t' n same (numbered r) lines 0 in
    (alike ∙ there, sym here ∙ alike ∙ there)

module _ (s : List ℕ) (n : ℕ) (bytes : Bytes s) (e : counted_of (preview_of s) ≡ accepted n) (table table' : List ℕ) (room : 256 * n ≤ length table)
    (room' : 256 * n ≤ length table') where
  -- with room for its rows, filling at the desk accepts what was counted
  filled : (y : Synthesis) → synthesis_of most s ≡ accepted y → n ≡ length y.equations → (capacity : ℕ) → 256 * n ≤ capacity
      → filling_of most s capacity ≡ accepted y
  filled y is n-is capacity fits = filling_accepts capacity (filling_by_count most s capacity) is (omega (arith, fits, n-is))

  -- the rows on the page, and in the table of the program
  rows_same : (y : Synthesis) → synthesis_of most s ≡ accepted y → n ≡ length y.equations → (k : ℕ) → k < n
      → row_of 256 (table_after mark (preview_filling_of s (length table)) table) k ≡ row_of 256 (table_after mark (accepted y) table') k
  rows_same y is n-is k h =
      (preview_agrees s n e).rows table table' room room' k h
      ∙ ap (λ (o : Outcome Synthesis). row_of 256 (table_after mark o table') k) (filled y is n-is (length table') room')

  text_of : (y : Synthesis) → synthesis_of most s ≡ accepted y → n ≡ length y.equations → rule_of s ≡ accepted y.rule
      → TextOfPage s table n (text_for (accepted y) (table_after mark (accepted y) table'))
  text_of y is n-is read =
      let t = table_after mark (preview_filling_of s (length table)) table in
      let t' = table_after mark (accepted y) table' in
      let alike = listing_same s y.rule bytes read n t t' (rows_same y is n-is) in
      let text : listing (map extent_of y.rule.patterns) n t' ≡ text_for (accepted y) t' = rw n-is in
      let page : text_for (preview_filling_of s (length table)) t ≡ text_for (accepted y) t =
      ap (λ (o : Outcome Synthesis). text_for o t) (preview_same s n e (length table) ∙ filled y is n-is (length table) room) in
      let listed : text_for (accepted y) t ≡ listing (map extent_of y.rule.patterns) n t = rw n-is in
      record { due = page ∙ listed ∙ (alike (34 + 256 * n) (omega arith)).1 ∙ text; line_by_line = (numbered y.rule, rw read, λ lines enough. (alike lines enough).0 ∙ text) }

pub preview_text : PreviewText
preview_text s n bytes e table table' room room' =
    let (y, shown, n-is) = counted_accepts (preview_of s) n e in
    let (smaller, is) = preview_accepted s y shown in
    let in-program = (limits_agree preview_limit program_limit s (omega arith)).accepts y smaller in
    let read = synthesis_accepts most s (λ y. rule_of s ≡ accepted y.rule) (λ r read satisfiable few. read) y is in
    subst (λ o. TextOfPage s table n (text_for o (table_after mark o table'))) (sym in-program) (text_of s n bytes e table table' room room' y is n-is read)
