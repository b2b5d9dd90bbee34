-- A test of the kind and a test of the slot, together a test of the code: the least code, and how many codes. All codes of a kind come before those of
-- the next, so the least code has the least kind and the least slot; and each kind that passes adds the same count of slots.
use mathlib.Core.Path.{◌≡◌, sym, ◌∙◌}
use mathlib.Core.Bool.{Bool, false, cond, ◌&&◌, and-false}
use Prim.Native.Nat.{ℕ, zero, suc, ◌+◌, ◌*◌, ◌≤◌, ◌<◌}
use native.Mathlib.Nat.{add-mul, lt_of_not-le}
use native.Mathlib.Decide.{dec_le}
use native.Mathlib.Omega.{arith}
use Rattle.reading.specs.Pattern.{code_of, kind_of, slot_of, least, count_below}
use Rattle.reading.proofs.Measures.Codes.{kind_of-code, slot_of-code}
use Rattle.reading.proofs.Measures.Counting.{least_is, least_holds, least_below, count_below-zero, count_below-last, count_below-split, count_below-same}
use Rattle.reading.proofs.Measures.Counting.{count_below-and}

abbrev pub of_both : (ℕ → Bool) → (ℕ → Bool) → ℕ → Bool
of_both kinds slots code = kinds (kind_of code) && slots (slot_of code)

module _ (kinds slots : ℕ → Bool) where
  at_code : (kind slot : ℕ) → slot < 32 → of_both kinds slots (code_of kind slot) ≡ (kinds kind && slots slot)
  at_code kind slot h = simp (kind_of-code kind slot h, slot_of-code kind slot h)

  -- the least kind with the least slot
  pub least_of_both :
      (n : ℕ) → least n kinds < n → least 32 slots < 32
      → least (32 * n) (of_both kinds slots) ≡ code_of (least n kinds) (least 32 slots)
  least_of_both n k s =
      least_is (32 * n) (code_of (least n kinds) (least 32 slots)) (of_both kinds slots) (omega arith)
      (at_code (least n kinds) (least 32 slots) s ∙ rw (least_holds n kinds k, least_holds 32 slots s))
      (λ i l. below i l (dec_le (least n kinds) (kind_of i)))
    where
      below :
          (i : ℕ) → i < code_of (least n kinds) (least 32 slots) → Dec (least n kinds ≤ kind_of i)
          → of_both kinds slots i ≡ false
      below i l (yes y) = rw (least_below 32 slots (slot_of i) (omega arith)) (and-false (kinds (kind_of i)))
      below i l (no m) = rw (least_below n kinds (kind_of i) (lt_of_not-le m))

  of_kind_lem : (kind : ℕ) → count_below 32 (λ i. of_both kinds slots (code_of kind i)) ≡ cond (kinds kind) 1 0 * count_below 32 slots
  of_kind_lem kind = count_below-same 32 _ (λ i. kinds kind && slots i) (at_code kind) ∙ count_below-and 32 (kinds kind) slots

  -- as many slots for each kind
  pub count_below-of_both : (n : ℕ) → count_below (32 * n) (of_both kinds slots) ≡ count_below n kinds * count_below 32 slots
  count_below-of_both zero = simp count_below-zero (omega arith)
  count_below-of_both (suc n) =
      let more : 32 * suc n ≡ 32 * n + 32 = omega arith in
      rw (more, count_below-split, count_below-of_both n, of_kind_lem n, count_below-last n kinds)
      (sym (add-mul (count_below n kinds) (cond (kinds n) 1 0) (count_below 32 slots)))
