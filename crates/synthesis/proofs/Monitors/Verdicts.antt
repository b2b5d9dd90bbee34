-- The verdicts of a monitor: each is 0 or 1, by induction on the run; and the verdict on a scan is the first one of the run over the scans from it
-- on.
use Prim.Native.Nat.{ℕ, suc, ◌≤◌, ◌<◌}
use mathlib.Core.Path.{◌≡◌, refl, sym, ◌∙◌, ap}
use mathlib.Core.Logic.{◌↔◌, ◌⊎◌, inl, inr}
use mathlib.Core.List.{List, ◌∷◌, ◌++◌}
use native.Mathlib.Omega.{arith}
use lib.ListN.{length, get_or, take, drop, take-append-drop}
use lib.Seq.{length-take-le, take_at, get_or_at, split_at}
use Rattle.reading.specs.Rule.{All}
use Rattle.synthesis.specs.Monitor.{Answer, dropped, next, verdicts, ended}
use Rattle.synthesis.proofs.Monitors.Runs.{run_induction, verdicts_append, verdicts_length}

module _ {E : Type 0} (answer : E → ℕ → Answer E) where
  pub verdicts_range : (e : E) (w : List ℕ) → All (λ v. (v ≡ 0) ⊎ (v ≡ 1)) (verdicts answer e w)
  verdicts_range =
      run_induction answer (λ e w. All (λ v. (v ≡ 0) ⊎ (v ≡ 1)) (verdicts answer e w)) (λ e. tt)
      (λ e c w q h. rw q (inr refl, h)) (λ e e' c w q h. rw q (inl refl, h))

  -- how the first scans are judged doesn't hang on those after them
  pub verdicts_take : (e : E) (w : List ℕ) (i : ℕ) → i ≤ length w → take i (verdicts answer e w) ≡ verdicts answer e (take i w)
  verdicts_take e w i h =
      let front = verdicts answer e (take i w) in
      ap (λ (l : List ℕ). take i (verdicts answer e l)) (sym (take-append-drop i w))
      ∙ rw (verdicts_append answer e (take i w) (drop i w))
      (take_at front (verdicts answer (ended answer e (take i w)) (drop i w)) i
      (verdicts_length answer e (take i w) ∙ length-take-le i w h))

  -- a scan has verdict 1 where it is dropped after the scans before it
  pub dropped_at : (e : E) (w : List ℕ) (i : ℕ) → i < length w
      → (get_or (verdicts answer e w) i 0 ≡ 1) ↔ (answer (ended answer e (take i w)) (get_or w i 0) ≡ dropped)
  dropped_at e w i h = on (answer (ended answer e (take i w)) (get_or w i 0)) refl
    where
      front : List ℕ
      front = verdicts answer e (take i w)

      -- the verdict is the first after those of the scans before it
      verdict_is : (v : ℕ) (rest : List ℕ) → verdicts answer (ended answer e (take i w)) (get_or w i 0 ∷ drop (suc i) w) ≡ v ∷ rest
          → get_or (verdicts answer e w) i 0 ≡ v
      verdict_is v rest q =
          ap (λ (l : List ℕ). get_or (verdicts answer e l) i 0) (split_at w i 0 h)
          ∙ (ap (λ (l : List ℕ). get_or l i 0) (verdicts_append answer e (take i w) (get_or w i 0 ∷ drop (suc i) w) ∙ ap (λ (l : List ℕ). front ++ l) q)
          ∙ get_or_at front v rest 0 i (verdicts_length answer e (take i w) ∙ length-take-le i w (omega arith)))

      on : (a : Answer E) → answer (ended answer e (take i w)) (get_or w i 0) ≡ a
          → (get_or (verdicts answer e w) i 0 ≡ 1) ↔ (answer (ended answer e (take i w)) (get_or w i 0) ≡ dropped)
      on dropped q = (λ v. q, λ d. verdict_is 1 (verdicts answer (ended answer e (take i w)) (drop (suc i) w)) (rw q))
      on (next e') q = (
        λ v. absurd (omega (arith, verdict_is 0 (verdicts answer e' (drop (suc i) w)) (rw q))),
        λ d. absurd (let z : ◌≡◌ {A = ℕ} 0 1 = cc in omega arith),
      )
