-- States from which every walk passes a monitor whole. For a monitor of a rule, that is so from the start of a model exactly when no trace of
-- the model violates the rule.
use Prim.Native.Nat.{ℕ}
use mathlib.Core.Path.{◌≡◌}
use mathlib.Core.Logic.{◌↔◌}
use mathlib.Core.List.{List, [], ◌∷◌}
use Rattle.reading.specs.Rule.{Rule}
use Rattle.synthesis.specs.Monitor.{Answer, dropped, next, Suppresses, now, later, Monitors}
use Rattle.enforcement.specs.Model.{silent, code, Model, Walk, stay, silent_first, code_first, ByteCodes}
use Rattle.enforcement.specs.Promises.{Safe}
use Rattle.enforcement.proofs.Walks.{walk_bytes}

module _ {E : Type 0} (answer : E → ℕ → Answer E) (m : Model) where
  -- the monitor, in the equation e, drops nothing of any walk from s
  abbrev pub Passes : E → m.State → Type 0
  Passes e s = (w : List ℕ) (t : m.State) → Walk m s w t → Suppresses answer e w → ⊥

  pub passes_silent : {s t : m.State} {e : E} → m.Step s silent t → Passes e s → Passes e t
  passes_silent h passes w u k = passes w u (silent_first h k)

  pub passes_code : {s t : m.State} {e e' : E} {c : ℕ} → m.Step s (code c) t → answer e c ≡ next e' → Passes e s → Passes e' t
  passes_code {c = c} h q passes w u k l = passes (c ∷ w) u (code_first h k) (later q l)

  pub passes_drop : {s t : m.State} {e : E} {c : ℕ} → m.Step s (code c) t → answer e c ≡ dropped → Passes e s → ⊥
  passes_drop {t = t} {c = c} h q passes = passes (c ∷ []) t (code_first h stay) (now q)

  pub safe_passes : (r : Rule) (first : E) → Monitors r answer first → ByteCodes m → Safe m r ↔ Passes first m.start
  safe_passes r first monitors codes = (
    λ safe w t k l. safe w t k ((monitors w (walk_bytes m codes k)).1 l),
    λ passes w t k v. passes w t k ((monitors w (walk_bytes m codes k)).0 v),
  )
