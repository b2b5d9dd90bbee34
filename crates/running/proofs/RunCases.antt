-- The three ways of a run, by its two tests: refused with 15, refused with 16, or over its scans.
use Prim.Native.Nat.{ℕ}
use mathlib.Core.Path.{◌≡◌, refl}
use mathlib.Core.Bool.{Bool, true, false, not}
use mathlib.Core.List.{List}
use Rattle.reading.specs.File.{Outcome, accepted, refused, refuse}
use Rattle.running.specs.Running.{fits, has_room, Run, run_from, run_of}
use Rattle.running.specs.declared.State.{State}

module _ (limit mark : ℕ) (table : List ℕ) (count : ℕ) (s : State) (scans : List ℕ) (output verdicts : ℕ) where
  pub run_short : has_room scans output verdicts ≡ false → run_of limit mark table count s scans output verdicts ≡ refused 15 0
  unfolding run_of
  run_short e = rw e

  pub run_unfit : has_room scans output verdicts ≡ true → fits limit mark table count s ≡ false
      → run_of limit mark table count s scans output verdicts ≡ refused 16 0
  unfolding run_of
  run_unfit e f = rw (e, f)

  pub run_fit : has_room scans output verdicts ≡ true → fits limit mark table count s ≡ true
      → run_of limit mark table count s scans output verdicts ≡ accepted (run_from mark table s scans)
  unfolding run_of
  run_fit e f = rw (e, f)

  -- what holds in each way, holds of the run
  pub run_cases : (P : Outcome Run → Type 0) → (has_room scans output verdicts ≡ false → P (refused 15 0))
      → (has_room scans output verdicts ≡ true → fits limit mark table count s ≡ false → P (refused 16 0))
      → (has_room scans output verdicts ≡ true → fits limit mark table count s ≡ true → P (accepted (run_from mark table s scans)))
      → P (run_of limit mark table count s scans output verdicts)
  unfolding run_of
  run_cases P short unfit fit = on (has_room scans output verdicts) (fits limit mark table count s) refl refl
    where
      on : (b b' : Bool) → has_room scans output verdicts ≡ b → fits limit mark table count s ≡ b'
          → P (refuse (not b) 15 0 (refuse (not b') 16 0 (accepted (run_from mark table s scans))))
      on true true e f = fit e f
      on true false e f = unfit e f
      on false b' e f = short e
