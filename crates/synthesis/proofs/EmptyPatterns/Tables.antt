-- Reasons, monitors and short tables of two rules that are alike but after empty patterns: what is said here of each goes by violation alone, and the same
-- lists violate both. The short table is the only one of its kind, so the two have one.
use Prim.Native.Nat.{ℕ, ◌≤◌}
use mathlib.Core.Path.{◌≡◌, refl, sym, subst}
use mathlib.Core.List.{List}
use native.Mathlib.Omega.{arith}
use Rattle.synthesis.specs.Monitor.{lookup}
use Rattle.synthesis.specs.Table.{WellFormedTable}
use Rattle.synthesis.specs.Merging.{DropAlike}
use Rattle.synthesis.specs.Building.{synthesis_of, counted_of}
use Rattle.synthesis.specs.Promises.{AsFound}
use Rattle.synthesis.specs.ShortPromises.{numbers_below}
use Rattle.synthesis.specs.AlikePromises.{NoReasonAfterEmpty, MonitorsAlike, ShortTablesAlike}
use Rattle.synthesis.proofs.Monitors.DroppingAlike.{monitors_drop_alike}
use Rattle.synthesis.proofs.Quotients.ShortFillings.{short_monitors, short_in_range}
use Rattle.synthesis.proofs.Quotients.ShortOrder.{short_as_found}
use Rattle.synthesis.proofs.Quotients.Minimal.{short_is_minimal}
use Rattle.synthesis.proofs.Quotients.OnlyTable.{short_is_only}
use Rattle.synthesis.proofs.Reasons.Explained.{reasons_exactly}
use Rattle.synthesis.proofs.EmptyPatterns.AlikeLaws.{violated_alike}
use Rattle.synthesis.proofs.EmptyPatterns.Places.{no_place_after_empty}
use Rattle.reading.specs.File.{Outcome, accepted, refused}

-- ---- reasons

pub no_reason_after_empty : NoReasonAfterEmpty
no_reason_after_empty limit s bytes r read w c m e after = on (counted_of (synthesis_of limit s)) refl
  where
    on : (counted : Outcome ℕ) → counted_of (synthesis_of limit s) ≡ counted → ⊥
    on (accepted n) q = no_place_after_empty r _ m ((((reasons_exactly limit s bytes w c).explained r n read q).node m).0 e).1.holds after
    on (refused number place) q =
        let refused = (reasons_exactly limit s bytes w c).refused number place q in
        let z : ◌≡◌ {A = ℕ} 0 1 = cc in
        omega arith

-- ---- monitors

pub monitors_alike : MonitorsAlike
monitors_alike r r' a E F answer first answer' first' one other =
    monitors_drop_alike r answer first answer' first' one (λ w bytes.
    let same = violated_alike r r' a w in
    let monitors = other w bytes in
    (λ v. monitors.0 (same.0 v), λ l. same.1 (monitors.1 l)))

-- a table is well formed for its own count
own_count : {limit mark n : ℕ} {table : List ℕ} → WellFormedTable limit mark n table → WellFormedTable n mark n table
own_count wf = record { some = wf.some; few = omega arith; row = wf.row }

pub short_tables_alike : ShortTablesAlike
short_tables_alike limit limit' mark s table r n left b s' table' r' n' left' b' a =
    let one = lookup 256 mark left in
    let other = lookup 256 mark left' in
    let alike : DropAlike 256 one 0 other 0 =
    monitors_alike r r' a ℕ ℕ one 0 other 0 (short_monitors limit mark s table r n left b) (short_monitors limit' mark s' table' r' n' left' b') in
    let fit = own_count (short_in_range limit mark s table r n left b) in
    let fit' = own_count (short_in_range limit' mark s' table' r' n' left' b') in
    let few : n ≤ n' = short_is_minimal limit mark s table r n left b n' left' fit' alike in
    let many : n' ≤ n = short_is_minimal limit' mark s' table' r' n' left' b' n left fit (λ w bytes. sym (alike w bytes)) in
    let same : n' ≡ n = omega arith in
    let found = short_as_found limit' mark s' table' r' n' left' b' in
    record {
      count = sym same;
      rows = λ k h.
          sym (short_is_only limit mark s table r n left b left' (subst (λ (i : ℕ). WellFormedTable i mark i left') same fit') alike
          (subst (λ (i : ℕ). AsFound 256 other 0 (numbers_below i)) same found) k h);
    }
