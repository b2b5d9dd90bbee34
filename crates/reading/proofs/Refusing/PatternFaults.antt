-- Refusal 5 in words. The clause of `Fault` for 5 says that no rule begins with the record, and a rule begins with it exactly where it is well formed.
use mathlib.Core.Path.{◌≡◌, refl}
use mathlib.Core.Logic.{◌↔◌, ◌⊎◌, inl, inr}
use mathlib.Core.List.{List}
use Prim.Native.Nat.{ℕ, ◌+◌, ◌≤◌, ◌<◌}
use native.Mathlib.Nat.{lt_of_not-le}
use native.Mathlib.Decide.{dec_le}
use native.Mathlib.Omega.{arith}
use lib.ListN.{length, get_or, take}
use Rattle.reading.specs.Pattern.{WellFormedPattern}
use Rattle.reading.specs.File.{refused, rule_of}
use Rattle.reading.specs.Faults.{pattern, BeginsRule, Unfinished, KindAt, IsPattern, Fault, file_ended, pattern_cut, node_cut, no_kind, after_rule}
use Rattle.reading.specs.Faults.{late_pattern, pattern_33, node_65, bad_pattern, names_nothing, unguarded}
use Rattle.reading.specs.Numbered.{reading_of}
use Rattle.reading.specs.Promises.{RefusesPattern}
use Rattle.reading.proofs.Basics.ByteLaws.{byte_at}
use Rattle.reading.proofs.Accepting.Checks.{pattern_of_bytes}
use Rattle.reading.proofs.Refusing.ReadTo.{Stands, read_front, next_pattern, pattern_well_formed}
use Rattle.reading.proofs.Refusing.StandingRecords.{pattern_of_bytes_stands}
use Rattle.reading.proofs.Refusing.ReachedPlaces.{read_to_unfinished}
use Rattle.reading.proofs.Refusing.FaultsRefused.{refuses_at_the_fault}

-- the only clause for 5
five_begins_no_rule : {s : List ℕ} {number place : ℕ} → Fault s number place → number ≡ 5 → BeginsRule (take (place + 4) s) → ⊥
five_begins_no_rule (bad_pattern u kind few whole none) e = none
five_begins_no_rule (file_ended u) e = absurd (omega arith)
five_begins_no_rule (pattern_cut u kind few cut) e = absurd (omega arith)
five_begins_no_rule (node_cut u kind few cut) e = absurd (omega arith)
five_begins_no_rule (no_kind u kind) e = absurd (omega arith)
five_begins_no_rule (after_rule front whole inside) e = absurd (omega arith)
five_begins_no_rule (late_pattern u kind begun) e = absurd (omega arith)
five_begins_no_rule (pattern_33 u kind) e = absurd (omega arith)
five_begins_no_rule (node_65 u kind) e = absurd (omega arith)
five_begins_no_rule (names_nothing u kind few whole none) e = absurd (omega arith)
five_begins_no_rule (unguarded u kind few whole none begins) e = absurd (omega arith)

-- a slot that isn't one
abbrev Unfit : (first last : ℕ) → Type 0
Unfit first last = (31 < first) ⊎ (31 < last)

abbrev UnfitAt : List ℕ → (at : ℕ) → Type 0
UnfitAt s at = Unfit (get_or s (at + 2) 0) (get_or s (at + 3) 0)

unfit_or_formed : (mask first last : ℕ) → mask < 256 → Unfit first last ⊎ WellFormedPattern (record { mask = mask; first = first; last = last })
unfit_or_formed mask first last byte = on (dec_le first 31) (dec_le last 31)
  where
    on : Dec (first ≤ 31) → Dec (last ≤ 31) → Unfit first last ⊎ WellFormedPattern (record { mask = mask; first = first; last = last })
    on (no f) l = inl (inl (lt_of_not-le f))
    on (yes f) (no l) = inl (inr (lt_of_not-le l))
    on (yes f) (yes l) = inr (record { byte = omega arith; first_slot = f; last_slot = l })

unfit_not_formed : (mask first last : ℕ) → Unfit first last → WellFormedPattern (record { mask = mask; first = first; last = last }) → ⊥
unfit_not_formed mask first last (inl f) w = omega (arith, w.first_slot)
unfit_not_formed mask first last (inr l) w = omega (arith, w.last_slot)

-- ---- at a place where a pattern may come next

module _ (s : List ℕ) {at n : ℕ} (u : Unfinished s at n 0) (kind : KindAt s at IsPattern) (few : n < 32) (whole : at + 4 ≤ length s) where
  stands : Stands s at (at + 4) (pattern (pattern_of_bytes s at))
  stands = pattern_of_bytes_stands s at (record { inside = kind.0; is = kind.1 }) (omega arith)

  formed_begins : WellFormedPattern (pattern_of_bytes s at) → BeginsRule (take (at + 4) s)
  formed_begins w = let (g, due, h) = read_to_unfinished u in (read_front (next_pattern h few stands w)).begins

  begins_formed : BeginsRule (take (at + 4) s) → WellFormedPattern (pattern_of_bytes s at)
  begins_formed begins = let (g, due, h) = read_to_unfinished u in pattern_well_formed h stands begins

pub refuses_pattern : RefusesPattern
refuses_pattern s bytes at n u kind few whole = (
  λ e. forth (five_begins_no_rule (faults.0 e) refl) (unfit_or_formed _ _ _ (byte_at s bytes (at + 1))),
  λ unfit. faults.1 (bad_pattern u kind few whole (λ begins. unfit_not_formed _ _ _ unfit (begins_formed s u kind few whole begins))),
)
  where
    faults : (reading_of (rule_of s) ≡ refused 5 at) ↔ Fault s 5 at
    faults = refuses_at_the_fault s bytes 5 at

    forth : (BeginsRule (take (at + 4) s) → ⊥) → UnfitAt s at ⊎ WellFormedPattern (pattern_of_bytes s at) → UnfitAt s at
    forth none (inl unfit) = unfit
    forth none (inr w) = absurd (none (formed_begins s u kind few whole w))
