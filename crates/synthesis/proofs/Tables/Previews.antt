-- What the rule page shows. It accepts what the smaller limit accepts, and so does the desk, with the same synthesis; so the counts are the same, and a
-- table is filled with the same rows.
use Prim.Native.Nat.{ℕ, ◌<◌}
use mathlib.Core.Path.{◌≡◌, sym, ◌∙◌, ap}
use mathlib.Core.List.{List}
use native.Mathlib.Omega.{arith}
use lib.ListN.{length}
use Rattle.reading.specs.File.{Outcome, and_then, accepted}
use Rattle.synthesis.specs.Monitor.{mark, most, row_of}
use Rattle.synthesis.specs.Building.{Synthesis, synthesis_of, in_table, filling_of, counted_of, table_after}
use Rattle.synthesis.specs.Building.{preview_limit, preview_of, preview_filling_of}
use Rattle.synthesis.specs.PreviewPromises.{PreviewCounts, PreviewFillsAsCounted, PreviewAgrees, PreviewFillsAccepted}
use Rattle.synthesis.proofs.Tables.SynthesisOutcomes.{counted_accepts, filling_by_count, filled_as_counted}
use Rattle.synthesis.proofs.Tables.Built.{counted_row, fills_accepted}
use Rattle.synthesis.proofs.Tables.Pages.{preview_by_count, preview_accepted, preview_within}
use Rattle.synthesis.proofs.Quotients.TwoLimits.{old_rules_stay}

pub preview_counts : PreviewCounts
preview_counts s n =
    let page = preview_within s n in
    let desk = (old_rules_stay preview_limit most s (omega arith)).counted n in
    (λ e. desk.0 (page.0 e), λ shown. page.1 (desk.1 shown))

pub preview_fills_as_counted : PreviewFillsAsCounted
preview_fills_as_counted s capacity = filled_as_counted capacity (preview_by_count s capacity)

-- what the page counts, it fills as the desk does
pub preview_same : (s : List ℕ) (n : ℕ) → counted_of (preview_of s) ≡ accepted n → (capacity : ℕ) → preview_filling_of s capacity ≡ filling_of most s capacity
preview_same s n e capacity =
    let (y, shown, n-is) = counted_accepts (preview_of s) n e in
    rw (preview_by_count s capacity, filling_by_count most s capacity) (ap (λ (o : Outcome Synthesis). and_then o (in_table capacity)) (shown ∙ sym (preview_accepted s y shown).1))

pub preview_agrees : PreviewAgrees
preview_agrees s n e =
    let at_desk_lem = ((preview_counts s n).0 e).0 in
    let same = preview_same s n e in
    let (y, is, n-is) = counted_accepts (synthesis_of most s) n at_desk_lem in
    record {
      count = at_desk_lem;
      answer = λ capacity. ap counted_of (same capacity);
      table = λ before. ap (λ (o : Outcome Synthesis). table_after mark o before) (same (length before));
      rows = λ table table' room room' k h.
          let inside : k < length y.equations = omega (arith, h, n-is) in
          ap (λ (o : Outcome Synthesis). row_of 256 (table_after mark o table) k) (same (length table))
          ∙ counted_row most mark s table y is (omega (arith, room, n-is)) k inside ∙ sym (counted_row most mark s table' y is (omega (arith, room', n-is)) k inside);
    }

pub preview_fills_accepted : PreviewFillsAccepted
preview_fills_accepted s table n bytes e =
    let counted : counted_of (preview_of s) ≡ accepted n = rw (← (preview_fills_as_counted s (length table)).same n e) e in
    let agrees = preview_agrees s n counted in
    let (r, fills) = fills_accepted most mark s table n (omega arith) bytes (sym (agrees.answer (length table)) ∙ e) in
    (r, rw (agrees.table table) fills)
