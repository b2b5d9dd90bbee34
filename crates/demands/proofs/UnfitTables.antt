-- A table, a count and a state are unfit exactly where the table isn't well formed for the count or the state isn't under it: where all else is in
-- order, some element of the rows isn't in range, and its place says which entry it is.
use Prim.Native.Nat.{ℕ, ◌+◌, ◌*◌, ◌/◌, ◌%◌, ◌≤◌, ◌<◌}
use mathlib.Core.Path.{◌≡◌, refl}
use mathlib.Core.Logic.{inl, inr}
use mathlib.Core.Bool.{Bool, true, false}
use mathlib.Core.List.{List}
use native.Mathlib.Decide.{dec_lt, dec_le}
use native.Mathlib.Nat.{div-add-mod, mod-lt}
use native.Mathlib.Omega.{arith}
use lib.Dec.{eqb, ltb}
use lib.ListN.{length, get_or}
use borrow.Author.Tests.{eqb-false, ltb-false}
use Rattle.reading.proofs.Basics.Outcomes.{or_eq_false}
use Rattle.reading.specs.Pattern.{every}
use Rattle.reading.proofs.Measures.BoundedTests.{every_fails, every_is}
use Rattle.synthesis.specs.Monitor.{mark, most}
use Rattle.synthesis.specs.Table.{InRange, WellFormedTable}
use Rattle.synthesis.proofs.Tables.WellFormedTables.{well_formed_room, well_formed_entry, well_formed_by_elements}
use Rattle.running.specs.Running.{in_range}
use Rattle.running.specs.declared.State.{State}
use Rattle.running.proofs.Tables.{in_range_lem}
use Rattle.demands.specs.Refusals.{Unfit, no_equations, many_equations, no_such_equation, short_rows, bad_entry}

-- ---- what is unfit isn't fit

-- the table is well formed for the count, and the state is under it
abbrev Fits : (table : List ℕ) → (count : ℕ) → State → Type 0
Fits table count s = WellFormedTable most mark count table × (s.equation < count)

module _ {table : List ℕ} {count : ℕ} {s : State} where
  pub unfit_not_fit : Unfit table count s → Fits table count s → ⊥
  unfit_not_fit (no_equations none) (wf, under) = omega arith
  unfit_not_fit (many_equations many) (wf, under) = omega (arith, wf.few)
  unfit_not_fit (no_such_equation over) (wf, under) = omega arith
  unfit_not_fit (short_rows short) (wf, under) = omega (arith, well_formed_room wf)
  unfit_not_fit (bad_entry k c h b room over other) (wf, under) = on (well_formed_entry wf k c h b)
    where
      on : InRange mark count (get_or table (256 * k + c) 0) → ⊥
      on (inl e) = other e
      on (inr less) = omega arith

-- ---- what isn't fit is unfit

module _ (table : List ℕ) (count : ℕ) (s : State) (bad : Fits table count s → ⊥) where
  abbrev entry_test : ℕ → Bool
  entry_test i = in_range mark count (get_or table i 0)

  entry_unfit : 256 * count ≤ length table → (i : ℕ) → i < 256 * count → entry_test i ≡ false → Unfit table count s
  entry_unfit room i h e =
      let (other, over) = or_eq_false (eqb (get_or table i 0) mark) (ltb (get_or table i 0) count) e in
      let is : 256 * (i / 256) + i % 256 ≡ i = div-add-mod i 256 in
      let code : i % 256 < 256 = mod-lt i (omega arith) in
      bad_entry (i / 256) (i % 256) (omega arith) code room (rw is (ltb-false _ _ over)) (rw is (eqb-false _ _ other))

  rows_unfit : 1 ≤ count → count ≤ most → s.equation < count → 256 * count ≤ length table
      → (b : Bool) → every (256 * count) entry_test ≡ b → Unfit table count s
  rows_unfit some few under room false q = let (i, h, e) = every_fails (256 * count) entry_test q in entry_unfit room i h e
  rows_unfit some few under room true q =
      absurd (bad (
        well_formed_by_elements most mark count table some few room
            (λ i h. (in_range_lem mark count (get_or table i 0)).0 ((every_is (256 * count) entry_test).0 q i h)),
        under,
      ))

  pub not_fit_unfit : Unfit table count s
  not_fit_unfit = on (dec_le 1 count) (dec_le count most) (dec_lt s.equation count) (dec_le (256 * count) (length table))
    where
      on : Dec (1 ≤ count) → Dec (count ≤ most) → Dec (s.equation < count) → Dec (256 * count ≤ length table) → Unfit table count s
      on (no none) few under room = no_equations (omega arith)
      on (yes some) (no many) under room = many_equations (omega arith)
      on (yes some) (yes few) (no over) room = no_such_equation (omega arith)
      on (yes some) (yes few) (yes under) (no short) = short_rows (omega arith)
      on (yes some) (yes few) (yes under) (yes room) = rows_unfit some few under room (every (256 * count) entry_test) refl
