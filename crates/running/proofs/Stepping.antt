-- The loop over the scans on one table: it goes by where a row begins, and that is the row of the equation in which the run stands.
use Prim.Native.Nat.{ℕ, ◌+◌, ◌*◌, ◌/◌, ◌≤◌, ◌<◌}
use mathlib.Core.Path.{◌≡◌}
use mathlib.Core.Bool.{Bool, true, false, not, cond}
use mathlib.Core.List.{List}
use native.Mathlib.Omega.{arith}
use native.Mathlib.Nat.{mul-div_right}
use lib.Dec.{eqb}
use lib.ListN.{length, get_or, set}
use Rattle.std.specs.Int.{from_bool}
use Rattle.synthesis.specs.Monitor.{Answer, dropped, next, row_of}
use Rattle.running.specs.Running.{moved, answer_in}
use Rattle.running.specs.declared.State.{State}
use Rattle.running.proofs.Entries.{by_entry}
use Rattle.running.proofs.Buffers.{stands_at, stands_next, Filled, filled_next}

module _ (mark : ℕ) (table : List ℕ) (s : State) (output₀ buffer₀ scans : List ℕ) where
  -- what holds after i of the scans, with the bound that the code needs
  pub record After (output buffer : List ℕ) (from keeps i : ℕ) : Type 0 where
    pub small : from < 16777216
    pub from_is : from ≡ 256 * (stands_at (answer_in mark table) s scans i).equation
    pub filled : Filled (answer_in mark table) s output₀ buffer₀ scans output buffer keeps i

  -- what the iteration writes and goes on with is told by equations, as its calls tell it
  pub after_next : (output buffer : List ℕ) (from keeps i : ℕ) → After output buffer from keeps i → i < length scans
      → length scans ≤ length output₀ → length scans ≤ length buffer₀ → (entry : ℕ) → entry < 65536
      → entry ≡ get_or (row_of 256 table (from / 256)) (get_or scans i 0) mark
      → {x v from' k : ℕ} → x ≡ cond (eqb entry mark) (get_or output keeps 0) (get_or scans i 0) → v ≡ from_bool (eqb entry mark)
      → from' ≡ cond (eqb entry mark) from (256 * entry) → k ≡ from_bool (not (eqb entry mark))
      → After (set output keeps x) (set buffer i v) from' (keeps + k) (i + 1)
  after_next output buffer from keeps i h more ro rb entry below is ex ev ef ek =
      let row : from / 256 ≡ at.equation = rw h.from_is (mul-div_right at.equation (omega arith)) in
      let d : F at (get_or scans i 0) ≡ cond (eqb entry mark) dropped (next (moved at entry)) =
      by_entry mark table at.equation (get_or scans i 0) (rw row at is) dropped (λ e. next (moved at e))
      in
      record {
        small = rw ef (from_bound (eqb entry mark));
        from_is = rw (ef, stands_next F s scans i more (eqb entry mark) (moved at entry) d) (from_next (eqb entry mark));
        filled = filled_next F s output₀ buffer₀ scans output buffer keeps i h.filled more ro rb (eqb entry mark) (moved at entry) d ex ev ek;
      }
    where
      F : State → ℕ → Answer State
      F = answer_in mark table

      at : State
      at = stands_at F s scans i

      from_bound : (b : Bool) → cond b from (256 * entry) < 16777216
      from_bound true = omega arith
      from_bound false = omega arith

      from_next : (b : Bool) → cond b from (256 * entry) ≡ 256 * (cond b at (moved at entry)).equation
      from_next true = h.from_is
      from_next false = omega arith
