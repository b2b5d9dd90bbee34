-- The slots of a pattern counted up from first, in a ring: fewer than 32 steps lead to a slot as they are, or less 32.
use mathlib.Core.Path.{◌≡◌}
use mathlib.Core.Logic.{◌↔◌, ◌⊎◌, inl, inr}
use mathlib.Core.Bool.{true}
use Prim.Native.Nat.{ℕ, ◌+◌, ◌-◌, ◌%◌, ◌≤◌, ◌<◌}
use native.Mathlib.Nat.{lt_of_not-le}
use native.Mathlib.Decide.{dec_le}
use native.Mathlib.Omega.{arith}
use borrow.Author.Tests.{le-leb, lt-leb}
use Rattle.reading.specs.Pattern.{code_of, bit, covers, slot_width}
use Rattle.reading.specs.Promises.{Names, GoesRound}
use Rattle.reading.specs.declared.Pattern.{Pattern}
use Rattle.reading.proofs.Measures.Codes.{kind_of-code, slot_of-code}
use Rattle.reading.proofs.Measures.Extents.{covers_means}

-- ---- the slots that are named

module _ (first last : ℕ) (first_slot : first ≤ 31) (last_slot : last ≤ 31) where
  abbrev Counted : (width : ℕ) → Type 0
  Counted width = (slot : ℕ) → slot ≤ 31 → Names first last slot ↔ ((k : ℕ) × (k < width) × ((first + k) % 32 ≡ slot))

  counted_in_order : first ≤ last → Counted (last - first + 1)
  counted_in_order o slot s = (forth, λ (k, few, is). inl (o, omega arith, omega arith))
    where
      forth : Names first last slot → (k : ℕ) × (k < last - first + 1) × ((first + k) % 32 ≡ slot)
      forth (inl (p, above, below)) = (slot - first, omega arith, omega arith)
      forth (inr (p, x)) = absurd (omega arith)

  counted_round : last < first → Counted (32 - first + last + 1)
  counted_round o slot s = (forth, λ (k, few, is). inr (o, side k few is (dec_le first slot)))
    where
      forth : Names first last slot → (k : ℕ) × (k < 32 - first + last + 1) × ((first + k) % 32 ≡ slot)
      forth (inl (p, x, y)) = absurd (omega arith)
      forth (inr (p, inl above)) = (slot - first, omega arith, omega arith)
      forth (inr (p, inr below)) = (32 - first + slot, omega arith, omega arith)

      side : (k : ℕ) → k < 32 - first + last + 1 → (first + k) % 32 ≡ slot → Dec (first ≤ slot) → (first ≤ slot) ⊎ (slot ≤ last)
      side k few is (yes f) = inl f
      side k few is (no f) = inr (omega (arith, lt_of_not-le f))

-- ---- the codes that are covered

module _ (p : Pattern) (first_slot : p.first ≤ 31) (last_slot : p.last ≤ 31) where
  abbrev width : ℕ
  width = slot_width p.first p.last

  -- a kind of the mask, and a slot that is named
  with_kind : Counted p.first p.last first_slot last_slot width → (kind slot : ℕ) → slot ≤ 31 → (covers p (code_of kind slot) ≡ true)
      ↔ ((bit kind p.mask ≡ 1) × (k : ℕ) × (k < width) × ((p.first + k) % 32 ≡ slot))
  with_kind counted kind slot s =
      let means = rw (kind_of-code kind slot (omega arith), slot_of-code kind slot (omega arith)) at (covers_means p (code_of kind slot)) in (
        λ e. let (set, n) = means.0 e in let (k, few, is) = (counted slot s).0 n in (set, k, few, is),
        λ (set, k, few, is). means.1 (set, (counted slot s).1 (k, few, is)),
      )

  pub goes_round : GoesRound p
  goes_round = by (dec_le p.first p.last)
    where
      by : Dec (p.first ≤ p.last) → GoesRound p
      by (yes o) =
          let e : width ≡ p.last - p.first + 1 = rw (le-leb p.first p.last o) in
          let counted = counted_in_order p.first p.last first_slot last_slot o in
          record { counted = with_kind (rw e counted); to_last = omega arith; once = (omega arith, omega arith) }
      by (no n) =
          let o = lt_of_not-le n in
          let e : width ≡ 32 - p.first + p.last + 1 = rw (lt-leb p.first p.last o) in
          let counted = counted_round p.first p.last first_slot last_slot o in
          record { counted = with_kind (rw e counted); to_last = omega arith; once = (omega arith, omega arith) }
