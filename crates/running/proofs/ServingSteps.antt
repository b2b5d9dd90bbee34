-- The loop over the scans under several rules: it goes by their equations, and in these the rules are where the run of all of them stands.
use Prim.Native.Nat.{ℕ, ◌+◌, ◌≤◌, ◌<◌}
use mathlib.Core.Path.{◌≡◌}
use mathlib.Core.Bool.{Bool, not, cond}
use mathlib.Core.List.{List, map}
use lib.ListN.{length, get_or, set}
use Rattle.std.specs.Int.{from_bool}
use Rattle.synthesis.specs.Monitor.{Answer, dropped, next}
use Rattle.running.specs.Duty.{in_places, some_drops, moved_by, together}
use Rattle.running.specs.Places.{standing}
use Rattle.running.specs.declared.OnDuty.{OnDuty}
use Rattle.running.proofs.Buffers.{stands_at, stands_next, Filled, filled_next}

module _ (mark : ℕ) (tables : List ℕ) (n : ℕ) (rules : List OnDuty) (output₀ buffer₀ scans : List ℕ) where
  -- what holds after i of the scans
  pub record After (output buffer equations : List ℕ) (keeps i : ℕ) : Type 0 where
    pub stand : standing n rules equations ≡ stands_at (together mark tables) (in_places n rules) scans i
    pub filled : Filled (together mark tables) (in_places n rules) output₀ buffer₀ scans output buffer keeps i

  -- what the iteration writes and goes on with is told by equations, as its calls tell it
  pub after_next : (output buffer equations : List ℕ) (keeps i : ℕ) → After output buffer equations keeps i → i < length scans
      → length scans ≤ length output₀ → length scans ≤ length buffer₀
      → (drops : Bool) {equations' : List ℕ} → drops ≡ some_drops mark tables (standing n rules equations) (get_or scans i 0)
      → standing n rules equations'
      ≡ cond drops (standing n rules equations) (map (moved_by mark tables (get_or scans i 0)) (standing n rules equations))
      → {x v k : ℕ} → x ≡ cond drops (get_or output keeps 0) (get_or scans i 0) → v ≡ from_bool drops → k ≡ from_bool (not drops)
      → After (set output keeps x) (set buffer i v) equations' (keeps + k) (i + 1)
  after_next output buffer equations keeps i h more ro rb drops ed em ex ev ek =
      let d : F at (get_or scans i 0) ≡ cond drops dropped (next onward) = rw (ed, h.stand) in
      record {
        stand = rw (stands_next F (in_places n rules) scans i more drops onward d) (rw h.stand at em);
        filled = filled_next F (in_places n rules) output₀ buffer₀ scans output buffer keeps i h.filled more ro rb drops onward d ex ev ek;
      }
    where
      F : List OnDuty → ℕ → Answer (List OnDuty)
      F = together mark tables

      at : List OnDuty
      at = stands_at F (in_places n rules) scans i

      -- where all rules go if none of them drops the scan
      onward : List OnDuty
      onward = map (moved_by mark tables (get_or scans i 0)) at
