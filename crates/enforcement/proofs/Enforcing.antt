-- Any monitor of a rule enforces it on any model whose codes are bytes, by any response that passes exactly what the monitor keeps. Behind the
-- monitor no trace violates the rule, for nothing of it is dropped; and where every walk passes whole, a state is bisimilar to itself beside
-- any equation from which they do.
use Prim.Native.Nat.{ℕ}
use mathlib.Core.Path.{◌≡◌, refl}
use mathlib.Core.List.{List, ◌∷◌}
use Rattle.synthesis.specs.Monitor.{Answer, dropped, next, Suppresses, now, later}
use Rattle.synthesis.proofs.Monitors.MonitorLaws.{kept_unsuppressed}
use Rattle.enforcement.specs.Model.{Label, silent, code, Model, Walk, stay, silent_first, code_first, ByteCodes, Bisimulation}
use Rattle.enforcement.specs.Model.{Response, PassesKept, silent_step, passed_step, suppressed_step, monitored}
use Rattle.enforcement.specs.Promises.{MonitorsEnforce, SoundSatisfies}
use Rattle.enforcement.proofs.Walks.{walk_bytes}
use Rattle.enforcement.proofs.SatisfactionLaws.{satisfies_safe}
use Rattle.enforcement.proofs.Responses.{suppressed_dropped}
use Rattle.enforcement.proofs.Suppressing.{walk_came_from}
use Rattle.enforcement.proofs.Passing.{Passes, passes_silent, passes_code, passes_drop, safe_passes}

module _ {E : Type 0} (answer : E → ℕ → Answer E) (respond : E → ℕ → Response E) (same : PassesKept respond answer) where
  module _ (m : Model) (first : E) where
    abbrev behind : Model
    behind = monitored respond first m

    -- ---- behind the monitor nothing is dropped

    behind_suppresses : {x y : behind.State} {w : List ℕ} → Walk behind x w y → Suppresses answer x.1 w → ⊥
    behind_suppresses {x} k l = let o = walk_came_from answer respond same first m k in kept_unsuppressed answer x.1 o.trace (rw (← o.kept_is) at l)

    behind_codes : ByteCodes m → ByteCodes behind
    behind_codes codes x y c (passed_step {s} {t} h q) = codes s t c h

    -- ---- a walk of which nothing is dropped is there behind the monitor

    keeps_walk : {s t : m.State} {e : E} {w : List ℕ} → Walk m s w t → (Suppresses answer e w → ⊥) → (e' : E) × Walk behind (s, e) w (t, e')
    keeps_walk {e = e} stay none = (e, stay)
    keeps_walk (silent_first h k) none = let (e', j) = keeps_walk k none in (e', silent_first (silent_step h) j)
    keeps_walk {e = e} (code_first {s} {t} {u} {c} {w} h k) none = on (answer e c) refl (λ e'. keeps_walk {e = e'} k)
      where
        on : (a : Answer E) → answer e c ≡ a → ((e' : E) → (Suppresses answer e' w → ⊥) → (e'' : E) × Walk behind (t, e') w (u, e''))
            → (e'' : E) × Walk behind (s, e) (c ∷ w) (u, e'')
        on dropped q rest = absurd (none (now q))
        on (next e') q rest = let (e'', j) = rest e' (λ l. none (later q l)) in (e'', code_first (passed_step h ((same e e' c).1 q)) j)

    -- ---- where every walk passes whole, the two are bisimilar

    -- a state beside an equation, from which every walk passes whole
    data Beside : m.State → behind.State → Type 0 where
      beside : {s : m.State} {e : E} → Passes answer m e s → Beside s (s, e)

    beside_step_forth : (s s' : m.State) (x : behind.State) (a : Label) → Beside s x → m.Step s a s'
        → (x' : behind.State) × behind.Step x a x' × Beside s' x'
    beside_step_forth s s' x silent (beside {e = e} passes) h = ((s', e), silent_step h, beside (passes_silent answer m h passes))
    beside_step_forth s s' x (code c) (beside {e = e} passes) h = on (answer e c) refl
      where
        on : (a : Answer E) → answer e c ≡ a → (x' : behind.State) × behind.Step (s, e) (code c) x' × Beside s' x'
        on dropped q = absurd (passes_drop answer m h q passes)
        on (next e') q = ((s', e'), passed_step h ((same e e' c).1 q), beside (passes_code answer m h q passes))

    beside_step_back : (s : m.State) (x x' : behind.State) (a : Label) → Beside s x → behind.Step x a x'
        → (s' : m.State) × m.Step s a s' × Beside s' x'
    beside_step_back s x x' a (beside passes) (silent_step {t = t} h) = (t, h, beside (passes_silent answer m h passes))
    beside_step_back s x x' a (beside passes) (passed_step {t = t} {c} {e} {e'} h q) =
        (t, h, beside (passes_code answer m h ((same e e' c).0 q) passes))
    beside_step_back s x x' a (beside passes) (suppressed_step {c = c} {e} h q) =
        absurd (passes_drop answer m h (suppressed_dropped respond answer same e c q) passes)

    beside_bisimulation : Bisimulation m behind Beside
    beside_bisimulation = record { forth = beside_step_forth; back = beside_step_back }

-- ---- the promises

pub sound_satisfies : SoundSatisfies
sound_satisfies E r answer first sound respond same m codes =
    let y = behind answer respond same m first in
    (satisfies_safe y r).1 (λ w x k v.
    behind_suppresses answer respond same m first k (sound w (walk_bytes y (behind_codes answer respond same m first codes) k) v))

pub monitors_enforce : MonitorsEnforce
monitors_enforce E r answer first monitors respond same m codes = record {
  satisfies = sound_satisfies E r answer first (λ w bytes. (monitors w bytes).0) respond same m codes;
  bisimilar = λ sat. (
    Beside answer respond same m first,
    beside_bisimulation answer respond same m first,
    beside ((safe_passes answer m r first monitors codes).0 ((satisfies_safe m r).0 sat)),
  );
  keeps = λ w t k fine. keeps_walk answer respond same m first k (λ l. fine ((monitors w (walk_bytes m codes k)).1 l));
}
