-- A table that is filled in place: what is lent from its base on is what filling leaves, which is well formed, monitors the rule and ends as it did.
use Prim.Native.Nat.{ℕ, ◌*◌, ◌≤◌, ◌<◌}
use mathlib.Core.Path.{◌≡◌, sym, ◌∙◌}
use mathlib.Core.Logic.{inl, inr}
use mathlib.Core.List.{List, ◌++◌}
use lib.ListN.{length, take, drop}
use lib.Seq.{length-take-le, take_at, drop_at, drop-drop}
use Rattle.reading.specs.Rule.{Rule, Bytes}
use Rattle.reading.specs.File.{accepted, rule_of}
use Rattle.reading.proofs.Accepting.Accepted.{accepts_encodings}
use Rattle.synthesis.specs.Monitor.{Monitors, lookup}
use Rattle.synthesis.specs.Table.{WellFormedTable}
use Rattle.synthesis.proofs.Tables.WellFormedTables.{lookup_inside, same_row, same_rows_well_formed}
use Rattle.synthesis.proofs.Monitors.Renaming.{renamed_monitors}
use Rattle.synthesis.proofs.Tables.Built.{table_monitors, built_well_formed, table_rest}
use Rattle.synthesis.proofs.Quotients.ShortFillings.{short_monitors, short_in_range, short_rest}
use Rattle.running.specs.SpellPromises.{FilledInPlace, FillsForDuty}

-- a table with the rows of another
rows_monitor : (limit mark n : ℕ) (r : Rule) (table other : List ℕ) → WellFormedTable limit mark n table → Monitors r (lookup 256 mark table) 0
    → take (256 * n) other ≡ take (256 * n) table → WellFormedTable limit mark n other × Monitors r (lookup 256 mark other) 0
rows_monitor limit mark n r table other wf monitors same = (
  same_rows_well_formed wf other same,
  renamed_monitors r (λ k. k < n) (lookup 256 mark table) (lookup 256 mark other) (λ k. k)
      (record {
        invariant = λ k k' c ok b q. lookup_inside wf k c k' ok q;
        drops = λ k c ok b q. rw (same_row wf other same k ok) q;
        follows = λ k k' c ok b q. rw (same_row wf other same k ok) q;
      }) 0 wf.some monitors,
)

filled_in_place : (limit mark : ℕ) (s tables : List ℕ) (base : ℕ) (r : Rule) (n : ℕ) (left : List ℕ) → base ≤ length tables → Bytes s
    → rule_of s ≡ accepted r → WellFormedTable limit mark n left → Monitors r (lookup 256 mark left) 0
    → drop (256 * n) left ≡ drop (256 * n) (drop base tables) → FilledInPlace limit mark tables base r n (take base tables ++ left)
filled_in_place limit mark s tables base r n left inside bytes read table monitors rest =
    let here = length-take-le base tables inside in
    let from : drop base (take base tables ++ left) ≡ left = drop_at (take base tables) left base here in
    record {
      table = rw from table;
      monitors = rw from monitors;
      rule = ((accepts_encodings s bytes r).0 read).0.well_formed;
      rows = λ base' lent' same. rows_monitor limit mark n r left (drop base' lent') table monitors (rw from at same);
      before = take_at (take base tables) left base here;
      behind = sym (drop-drop (256 * n) base (take base tables ++ left)) ∙ rw from rest ∙ drop-drop (256 * n) base tables;
    }

pub fills_for_duty : FillsForDuty
fills_for_duty limit mark s tables base r n left inside (inl b) =
    filled_in_place limit mark s tables base r n left inside b.bytes b.read (built_well_formed limit mark s (drop base tables) r n left b)
    (table_monitors limit mark s (drop base tables) r n left b) (table_rest limit mark s (drop base tables) r n left b).rest
fills_for_duty limit mark s tables base r n left inside (inr b) =
    filled_in_place limit mark s tables base r n left inside b.bytes b.read (short_in_range limit mark s (drop base tables) r n left b)
    (short_monitors limit mark s (drop base tables) r n left b) (short_rest limit mark s (drop base tables) r n left b).rest
