-- The rows that a program fills in don't hang on how long its table is: on one that is too short they are those of a table that they just fit.
use Prim.Native.Nat.{ℕ, ◌*◌, ◌≤◌}
use mathlib.Core.Path.{◌≡◌, refl, sym, ◌∙◌, ap, subst}
use mathlib.Core.List.{List, [], ◌++◌}
use native.Mathlib.Decide.{dec_le}
use native.Mathlib.Omega.{arith}
use lib.ListN.{length, drop_of_length-le}
use Rattle.reading.specs.Rule.{Rule, Bytes}
use Rattle.reading.specs.File.{Outcome, accepted, rule_of}
use Rattle.synthesis.specs.Monitor.{Answer}
use Rattle.synthesis.specs.Table.{rows, filled}
use Rattle.synthesis.specs.Building.{Synthesis, synthesis_of, filling_of, counted_of, table_after, Fills}
use Rattle.synthesis.proofs.Tables.SynthesisOutcomes.{counted_accepts, fills_as_counted}
use Rattle.synthesis.proofs.Tables.Built.{fills_when_counted, zero_rows, zero_rows_lem}

-- a table that the rows at most fill is left with them alone
filled_alone : (mark : ℕ) (answer : ℕ → ℕ → Answer ℕ) (l table : List ℕ) → length table ≤ 256 * length l
    → filled mark answer l 256 table ≡ rows mark answer l 256 (length l) ++ []
unfolding filled
filled_alone mark answer l table h = ap (λ (rest : List ℕ). rows mark answer l 256 (length l) ++ rest) (drop_of_length-le table h)

-- what is left in any table is what filling leaves in some table
pub any_table : (limit mark : ℕ) (s : List ℕ) (r : Rule) (n : ℕ) → limit ≤ mark → Bytes s → rule_of s ≡ accepted r
    → counted_of (synthesis_of limit s) ≡ accepted n → (table : List ℕ)
    → (table' : List ℕ) × Fills limit mark s table' r n (table_after mark (synthesis_of limit s) table)
any_table limit mark s r n below bytes read counted table = on (dec_le (256 * n) (length table))
  where
    -- a table that has room, in which the same is left
    with_room : (table' : List ℕ) → 256 * n ≤ length table' → table_after mark (synthesis_of limit s) table ≡ table_after mark (synthesis_of limit s) table'
        → Fills limit mark s table' r n (table_after mark (synthesis_of limit s) table)
    with_room table' room same =
        let as_counted = fills_as_counted limit s (length table') in
        let filled = as_counted.same n (as_counted.enough n counted room) in
        subst (Fills limit mark s table' r n) (sym (same ∙ ap (λ (o : Outcome Synthesis). table_after mark o table') (sym filled)))
        (fills_when_counted filling_of (synthesis_of limit s) limit mark s table' r n below bytes read counted as_counted room)

    on : Dec (256 * n ≤ length table) → (table' : List ℕ) × Fills limit mark s table' r n (table_after mark (synthesis_of limit s) table)
    on (yes room) = (table, with_room table room refl)
    on (no short) =
        let (y, is, n-is) = counted_accepts (synthesis_of limit s) n counted in (
          zero_rows n,
          with_room (zero_rows n) (omega (arith, zero_rows_lem n))
              (rw is
              (filled_alone mark y.answer y.equations table (omega (arith, short, n-is))
              ∙ sym (filled_alone mark y.answer y.equations (zero_rows n) (omega (arith, zero_rows_lem n, n-is))))),
        )
