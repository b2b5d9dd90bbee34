-- What a monitor suppresses, and what follows for any monitor of a rule: the run over what was kept, and one code more, suppresses something exactly
-- where the code is dropped. So it drops exactly what would violate the rule, and keeps no violation.
use Prim.Native.Nat.{ℕ, ◌<◌}
use mathlib.Core.Path.{◌≡◌, refl, ap}
use mathlib.Core.Logic.{◌↔◌}
use mathlib.Core.List.{List, [], ◌∷◌, ◌++◌}
use native.Mathlib.Omega.{arith}
use Rattle.reading.specs.Rule.{Rule, Bytes}
use Rattle.reading.proofs.Basics.ByteLaws.{bytes_append}
use Rattle.synthesis.specs.Violation.{ViolatesRule}
use Rattle.synthesis.specs.Monitor.{Answer, dropped, next, kept, ended, Suppresses, now, later, Monitors}
use Rattle.synthesis.specs.Promises.{DropsViolations, MonitorsDrop}
use Rattle.synthesis.proofs.Monitors.Runs.{run_induction, kept_all}

-- ---- any monitor

module _ {E : Type 0} (answer : E → ℕ → Answer E) where
  pub suppresses_nothing : {e : E} → Suppresses answer e [] → ⊥
  suppresses_nothing l = elim l [ ]

  pub suppresses_rest : {e e' : E} {c : ℕ} {w : List ℕ} → answer e c ≡ next e' → Suppresses answer e (c ∷ w) → Suppresses answer e' w
  suppresses_rest p (now q) = absurd (let z : ◌≡◌ {A = ℕ} 0 1 = cc in omega arith)
  suppresses_rest {e' = e'} p (later {e' = x} q l) = let z : e' ≡ x = cc in rw z l

  -- the run over what was kept suppresses nothing
  pub kept_unsuppressed : (e : E) (w : List ℕ) → Suppresses answer e (kept answer e w) → ⊥
  kept_unsuppressed =
      run_induction answer (λ e w. Suppresses answer e (kept answer e w) → ⊥) (λ e. suppresses_nothing)
      (λ e c w q h. rw q h) (λ e e' c w q h. rw q (λ l. h (suppresses_rest q l)))

  -- a list of which nothing is suppressed is kept whole
  pub kept_whole : (e : E) (w : List ℕ) → (Suppresses answer e w → ⊥) → kept answer e w ≡ w
  kept_whole =
      run_induction answer (λ e w. (Suppresses answer e w → ⊥) → kept answer e w ≡ w) (λ e none. refl)
      (λ e c w q h none. absurd (none (now q)))
      (λ e e' c w q h none. rw q (ap (λ (l : List ℕ). c ∷ l) (h (λ l. none (later q l)))))

  -- a code after what was kept is lost exactly when it is dropped where the run ended
  pub suppresses_last : (e : E) (w : List ℕ) (c : ℕ) → (answer (ended answer e w) c ≡ dropped) ↔ Suppresses answer e (kept answer e w ++ (c ∷ []))
  suppresses_last e w c =
      run_induction answer (λ e w. (answer (ended answer e w) c ≡ dropped) ↔ Suppresses answer e (kept answer e w ++ (c ∷ [])))
      (λ e. (λ q. now q, single_dropped))
      (λ e d w q h. rw q h)
      (λ e e' d w q h. rw q (λ z. later q (h.0 z), λ l. h.1 (suppresses_rest q l))) e w
    where
      single_dropped : {e : E} → Suppresses answer e (c ∷ []) → answer e c ≡ dropped
      single_dropped (now q) = q
      single_dropped (later q l) = absurd (suppresses_nothing l)

-- ---- any monitor of a rule

pub drops_violations : {E : Type 0} (r : Rule) (answer : E → ℕ → Answer E) (first : E) → Monitors r answer first
    → DropsViolations r answer first
drops_violations r answer first monitors w c bytes code =
    let v = kept answer first w in
    let step = suppresses_last answer first w c in
    let rule = monitors (v ++ (c ∷ [])) (bytes_append v (c ∷ []) (kept_all answer (λ b. b < 256) first w bytes) (code, tt)) in
    (λ q. rule.1 (step.0 q), λ h. step.1 (rule.0 h))

pub kept_safe : {E : Type 0} (r : Rule) (answer : E → ℕ → Answer E) (first : E) → Monitors r answer first → (w : List ℕ) → Bytes w
    → ViolatesRule r (kept answer first w) → ⊥
kept_safe r answer first monitors w bytes h =
    kept_unsuppressed answer first w ((monitors (kept answer first w) (kept_all answer (λ b. b < 256) first w bytes)).0 h)

-- lists that don't violate the rule pass whole
pub safe_kept : {E : Type 0} (r : Rule) (answer : E → ℕ → Answer E) (first : E) → Monitors r answer first → (w : List ℕ) → Bytes w
    → (ViolatesRule r w → ⊥) → kept answer first w ≡ w
safe_kept r answer first monitors w bytes safe = kept_whole answer first w (λ l. safe ((monitors w bytes).1 l))

pub monitors_drop : MonitorsDrop
monitors_drop E r answer first monitors = drops_violations r answer first monitors
