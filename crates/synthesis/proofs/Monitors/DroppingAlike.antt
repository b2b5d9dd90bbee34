-- Equations that drop alike: each code is dropped by both or by neither, and after the same codes they drop alike again, since the verdicts on what
-- follows are the rest of all verdicts. Under a new name an
-- equation drops alike, and so do the first equations of any two monitors of a rule.
use Prim.Native.Nat.{ℕ, ◌<◌}
use mathlib.Core.Path.{◌≡◌, refl, sym, ◌∙◌, ap}
use mathlib.Core.Logic.{◌↔◌}
use mathlib.Core.List.{List, [], ◌∷◌, ◌++◌, append_cancel_left}
use native.Mathlib.Omega.{arith}
use Rattle.reading.specs.Rule.{Rule, All}
use Rattle.reading.proofs.Basics.AllLaws.{all_append}
use Rattle.synthesis.specs.Monitor.{Answer, dropped, next, verdicts, ended, Suppresses, now, later, Monitors}
use Rattle.synthesis.specs.Merging.{DropAlike}
use Rattle.synthesis.proofs.Monitors.Runs.{verdicts_append}
use Rattle.synthesis.proofs.Monitors.MonitorLaws.{suppresses_nothing, suppresses_rest}
use Rattle.synthesis.proofs.Monitors.Renaming.{Renames, renamed_runs}

module _ {E F : Type 0} (codes : ℕ) (answer : E → ℕ → Answer E) (answer' : F → ℕ → Answer F) where
  -- ---- one code

  -- both drop it, or both keep it and go on alike
  pub data StepAlike : Answer E → Answer F → Type 0 where
    both_dropped : StepAlike dropped dropped
    both_next : {e : E} {f : F} → DropAlike codes answer e answer' f → StepAlike (next e) (next f)

  pub alike_step : (e : E) (f : F) → DropAlike codes answer e answer' f → (c : ℕ) → c < codes → StepAlike (answer e c) (answer' f c)
  alike_step e f alike c b = on (answer e c) refl (answer' f c) refl
    where
      on : (a : Answer E) → answer e c ≡ a → (a' : Answer F) → answer' f c ≡ a' → StepAlike a a'
      on dropped q dropped q' = both_dropped
      on dropped q (next f') q' = let z : ◌≡◌ {A = ℕ} 0 1 = cc (rw (q, q') at (alike (c ∷ []) (b, tt))) in absurd (omega arith)
      on (next e') q dropped q' = let z : ◌≡◌ {A = ℕ} 0 1 = cc (rw (q, q') at (alike (c ∷ []) (b, tt))) in absurd (omega arith)
      on (next e') q (next f') q' = both_next {e = e'} {f = f'} (λ w all. cc (rw (q, q') at (alike (c ∷ w) (b, all))))

  -- ---- after the same codes

  pub alike_after : (e : E) (f : F) → DropAlike codes answer e answer' f → (w : List ℕ) → All (λ c. c < codes) w
      → DropAlike codes answer (ended answer e w) answer' (ended answer' f w)
  alike_after e f alike w all v all' =
      append_cancel_left (verdicts answer e w) (verdicts answer (ended answer e w) v) (verdicts answer' (ended answer' f w) v)
      (sym (verdicts_append answer e w v) ∙ alike (w ++ v) (all_append (λ c. c < codes) w v all all') ∙ verdicts_append answer' f w v
      ∙ ap (λ (l : List ℕ). l ++ verdicts answer' (ended answer' f w) v) (sym (alike w all)))

  -- ---- under a new name

  pub renamed_alike : (Ok : E → Type 0) (name : E → F) → Renames codes Ok answer answer' name → (e : E) → Ok e
      → DropAlike codes answer e answer' (name e)
  renamed_alike Ok name renames e ok w all = sym (renamed_runs codes Ok answer answer' name renames e w ok all).judges

  -- ---- two that suppress alike

  -- something of the same lists of codes
  abbrev SuppressAlike : E → F → Type 0
  SuppressAlike e f = (w : List ℕ) → All (λ c. c < codes) w → Suppresses answer e w ↔ Suppresses answer' f w

  suppress_next : {e e' : E} {f f' : F} {c : ℕ} → c < codes → answer e c ≡ next e' → answer' f c ≡ next f' → SuppressAlike e f → SuppressAlike e' f'
  suppress_next {c = c} b q q' alike w all =
      let both = alike (c ∷ w) (b, all) in
      (λ l. suppresses_rest answer' q' (both.0 (later q l)), λ l. suppresses_rest answer q (both.1 (later q' l)))

  pub suppress_drop_alike : (e : E) (f : F) → SuppressAlike e f → DropAlike codes answer e answer' f
  suppress_drop_alike e f alike [] all = refl
  suppress_drop_alike e f alike (c ∷ w) all =
      on (answer e c) refl (answer' f c) refl (suppress_drop_alike e f alike w all.1) (λ e' f' a. suppress_drop_alike e' f' a w all.1)
    where
      on : (a : Answer E) → answer e c ≡ a → (b : Answer F) → answer' f c ≡ b → verdicts answer e w ≡ verdicts answer' f w
          → ((e' : E) (f' : F) → SuppressAlike e' f' → verdicts answer e' w ≡ verdicts answer' f' w)
          → verdicts answer e (c ∷ w) ≡ verdicts answer' f (c ∷ w)
      on dropped q dropped q' same rest = rw (q, q') (ap (λ (l : List ℕ). 1 ∷ l) same)
      on dropped q (next f') q' same rest =
          absurd (suppresses_nothing answer' (suppresses_rest answer' q' ((alike (c ∷ []) (all.0, tt)).0 (now q))))
      on (next e') q dropped q' same rest =
          absurd (suppresses_nothing answer (suppresses_rest answer q ((alike (c ∷ []) (all.0, tt)).1 (now q'))))
      on (next e') q (next f') q' same rest = rw (q, q') (ap (λ (l : List ℕ). 0 ∷ l) (rest e' f' (suppress_next all.0 q q' alike)))

-- two monitors of one rule
pub monitors_drop_alike : {E F : Type 0} (r : Rule) (answer : E → ℕ → Answer E) (first : E) (answer' : F → ℕ → Answer F) (first' : F)
    → Monitors r answer first → Monitors r answer' first' → DropAlike 256 answer first answer' first'
monitors_drop_alike r answer first answer' first' one other =
    suppress_drop_alike 256 answer answer' first first'
    (λ w bytes. (λ l. (other w bytes).0 ((one w bytes).1 l), λ l. (one w bytes).0 ((other w bytes).1 l)))
