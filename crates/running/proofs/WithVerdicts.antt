-- The scans that have a verdict, and how often a number stands in a list: laws by induction on the lists, among them that the kept scans are those
-- with verdict 0.
use Prim.Native.Nat.{ℕ, suc, ◌+◌}
use mathlib.Core.Path.{◌≡◌, refl, ap}
use mathlib.Core.Bool.{Bool, true, false, cond}
use mathlib.Core.List.{List, [], ◌∷◌, ◌++◌}
use native.Mathlib.Omega.{arith}
use lib.Dec.{eqb}
use lib.ListN.{length}
use Rattle.synthesis.specs.Monitor.{Answer, kept, verdicts}
use Rattle.synthesis.proofs.Monitors.Runs.{run_induction}
use Rattle.running.specs.Running.{occurrences}
use Rattle.running.specs.Calls.{with_verdict}

-- ---- one list and then another

pub occurrences_append : (x : ℕ) (v w : List ℕ) → occurrences x (v ++ w) ≡ occurrences x v + occurrences x w
unfolding occurrences
occurrences_append x [] w = omega arith
occurrences_append x (y ∷ v) w = on (eqb y x) (occurrences_append x v w)
  where
    on : (b : Bool) → occurrences x (v ++ w) ≡ occurrences x v + occurrences x w
        → cond b (suc (occurrences x (v ++ w))) (occurrences x (v ++ w)) ≡ cond b (suc (occurrences x v)) (occurrences x v) + occurrences x w
    on true h = omega arith
    on false h = h

pub with_append : (x : ℕ) (vs w vs' w' : List ℕ) → length vs ≡ length w
    → with_verdict x (vs ++ vs') (w ++ w') ≡ with_verdict x vs w ++ with_verdict x vs' w'
unfolding with_verdict
with_append x [] [] vs' w' e = refl
with_append x [] (c ∷ w) vs' w' e = absurd (omega arith)
with_append x (v ∷ vs) [] vs' w' e = absurd (omega arith)
with_append x (v ∷ vs) (c ∷ w) vs' w' e = on (eqb v x) (with_append x vs w vs' w' (omega arith))
  where
    on : (b : Bool) → with_verdict x (vs ++ vs') (w ++ w') ≡ with_verdict x vs w ++ with_verdict x vs' w'
        → cond b (c ∷ with_verdict x (vs ++ vs') (w ++ w')) (with_verdict x (vs ++ vs') (w ++ w'))
        ≡ cond b (c ∷ with_verdict x vs w) (with_verdict x vs w) ++ with_verdict x vs' w'
    on true h = ap (λ (l : List ℕ). c ∷ l) h
    on false h = h

-- ---- the scans that a monitor keeps are those with verdict 0

pub kept_with : {E : Type 0} (answer : E → ℕ → Answer E) (e : E) (w : List ℕ) → kept answer e w ≡ with_verdict 0 (verdicts answer e w) w
unfolding with_verdict
kept_with answer =
    run_induction answer (λ e w. kept answer e w ≡ with_verdict 0 (verdicts answer e w) w) (λ e. refl)
    (λ e c w q h. rw q h) (λ e e' c w q h. rw q (ap (λ (l : List ℕ). c ∷ l) h))
