-- Counting answers the same of files with alike rules. For the long table the equations correspond. The page goes by the same outcome, under its own limit and
-- with its own number. For the short table, what is counted are the rows of one table.
use Prim.Native.Nat.{ℕ}
use mathlib.Core.Path.{◌≡◌, refl, sym, ap, ◌∙◌}
use mathlib.Core.List.{List}
use native.Mathlib.Omega.{arith}
use lib.ListN.{length}
use Rattle.reading.specs.Rule.{Rule, Bytes}
use Rattle.reading.specs.File.{Outcome, accepted, refused, rule_of}
use Rattle.synthesis.specs.Alike.{RulesAlike}
use Rattle.synthesis.specs.Building.{Synthesis, synthesis_of, preview_limit, on_page, preview_of, short_of, short_filling_of, counted_of, FillsShort, table_after}
use Rattle.synthesis.specs.AlikePromises.{CountedAlike}
use Rattle.synthesis.proofs.Tables.SynthesisOutcomes.{short_fills_as_counted}
use Rattle.synthesis.proofs.Tables.Built.{fills_when_counted, zero_rows, zero_rows_lem}
use Rattle.synthesis.proofs.Quotients.ShortFillings.{short_refuses_alike, short_counted_long}
use Rattle.synthesis.proofs.EmptyPatterns.Tables.{short_tables_alike}
use Rattle.synthesis.proofs.EmptyPatterns.SameTables.{long_counted_alike}

-- ---- on the page

on_page-alike : (o o' : Outcome Synthesis) → counted_of o ≡ counted_of o' → counted_of (on_page o) ≡ counted_of (on_page o')
on_page-alike (accepted y) (accepted y') e = e
on_page-alike (accepted y) (refused number place) e = let z : ◌≡◌ {A = ℕ} 0 1 = cc in absurd (omega arith)
on_page-alike (refused number place) (accepted y) e = let z : ◌≡◌ {A = ℕ} 0 1 = cc in absurd (omega arith)
on_page-alike (refused number place) (refused number' place') e =
    let same_number : number ≡ number' = cc in
    let same_place : place ≡ place' = cc in
    rw (same_number, same_place)

-- ---- for the short table

-- a table with the entries of n rows is filled where n are counted
filled_short : (limit : ℕ) (s : List ℕ) → Bytes s → (r : Rule) → rule_of s ≡ accepted r → (n : ℕ) → counted_of (short_of limit s) ≡ accepted n
    → FillsShort limit limit s (zero_rows n) r n (table_after limit (short_filling_of limit s (length (zero_rows n))) (zero_rows n))
filled_short limit s bytes r read n e =
    fills_when_counted short_filling_of (short_of limit s) limit limit s (zero_rows n) r n (omega arith) bytes read e
    (short_fills_as_counted limit s (length (zero_rows n))) (omega (arith, zero_rows_lem n))

-- ---- all three

module _ (limit : ℕ) (s s' : List ℕ) (bytes : Bytes s) (bytes' : Bytes s') (r r' : Rule) (read : rule_of s ≡ accepted r) (read' : rule_of s' ≡ accepted r')
    (alike : RulesAlike r r') where
  long : counted_of (synthesis_of limit s) ≡ counted_of (synthesis_of limit s')
  long = long_counted_alike limit s s' bytes bytes' r r' read read' alike

  page : counted_of (preview_of s) ≡ counted_of (preview_of s')
  unfolding preview_of
  page = on_page-alike (synthesis_of preview_limit s) (synthesis_of preview_limit s') (long_counted_alike preview_limit s s' bytes bytes' r r' read read' alike)

  short : counted_of (short_of limit s) ≡ counted_of (short_of limit s')
  short = on (counted_of (short_of limit s)) refl
    where
      on : (counted : Outcome ℕ) → counted_of (short_of limit s) ≡ counted → counted_of (short_of limit s) ≡ counted_of (short_of limit s')
      on (refused number place) e =
          e ∙ sym (((short_refuses_alike limit s').refused number place).1 (sym long ∙ ((short_refuses_alike limit s).refused number place).0 e))
      on (accepted n) e =
          let (m, counted) = short_counted_long limit s n e in
          let (n', e', some, few) = (short_refuses_alike limit s').counted m (sym long ∙ counted) in
          let rows = short_tables_alike limit limit limit s (zero_rows n) r n _ (filled_short limit s bytes r read n e) s' (zero_rows n') r' n' _
          (filled_short limit s' bytes' r' read' n' e') alike in
          e ∙ ap accepted rows.count ∙ sym e'

pub counted_alike : CountedAlike
counted_alike limit s s' bytes bytes' r r' read read' alike = record {
  long = long limit s s' bytes bytes' r r' read read' alike;
  page = page limit s s' bytes bytes' r r' read read' alike;
  short = short limit s s' bytes bytes' r r' read read' alike;
}
