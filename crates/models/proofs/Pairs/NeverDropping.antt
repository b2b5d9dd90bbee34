-- A model never reaches what a monitor of a rule drops, exactly when no trace of the model violates the rule: both say that every walk from
-- the start passes the monitor whole.
use Prim.Native.Nat.{ℕ}
use mathlib.Core.Logic.{◌↔◌}
use mathlib.Core.List.{List}
use Rattle.reading.specs.Rule.{Rule}
use Rattle.synthesis.specs.Monitor.{Answer, Suppresses, now, later, Monitors}
use Rattle.synthesis.proofs.Monitors.MonitorLaws.{suppresses_nothing}
use Rattle.enforcement.specs.Model.{Model, Walk, stay, silent_first, code_first, ByteCodes}
use Rattle.models.specs.Exploring.{ReachablePair, begin, silently, keeping, NeverDrops}
use Rattle.enforcement.specs.Promises.{Safe}
use Rattle.enforcement.proofs.Passing.{Passes, passes_silent, passes_code, passes_drop, safe_passes}

module _ {E : Type 0} (answer : E → ℕ → Answer E) (first : E) (m : Model) where
  reachable_passes : {s : m.State} {e : E} → Passes answer m first m.start → ReachablePair answer first m s e → Passes answer m e s
  reachable_passes passes begin = passes
  reachable_passes passes (silently x h) = passes_silent answer m h (reachable_passes passes x)
  reachable_passes passes (keeping x h q) = passes_code answer m h q (reachable_passes passes x)

  never_suppresses : {s t : m.State} {e : E} {w : List ℕ} → NeverDrops answer first m → ReachablePair answer first m s e → Walk m s w t
      → Suppresses answer e w → ⊥
  never_suppresses never x stay l = suppresses_nothing answer l
  never_suppresses never x (silent_first h k) l = never_suppresses never (silently x h) k l
  never_suppresses never x (code_first h k) (now q) = never _ _ _ _ x h q
  never_suppresses never x (code_first h k) (later q l) = never_suppresses never (keeping x h q) k l

pub never_drops_safe : (E : Type 0) (r : Rule) (answer : E → ℕ → Answer E) (first : E) → Monitors r answer first
    → (m : Model) → ByteCodes m → NeverDrops answer first m ↔ Safe m r
never_drops_safe E r answer first monitors m codes =
    let iff = safe_passes answer m r first monitors codes in (
      λ never. iff.1 (λ w t k. never_suppresses answer first m never begin k),
      λ safe s t e c x h q. passes_drop answer m h q (reachable_passes answer first m (iff.0 safe) x),
    )
