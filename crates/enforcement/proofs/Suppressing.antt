-- The walks behind a monitor: those of the model, with what a run keeps of their traces. Step by step, each way.
use Prim.Native.Nat.{ℕ}
use mathlib.Core.Path.{◌≡◌, refl}
use mathlib.Core.List.{List, ◌∷◌}
use Rattle.synthesis.specs.Monitor.{Answer, dropped, next, cases, kept, ended}
use Rattle.enforcement.specs.Model.{Model, Walk, stay, silent_first, code_first}
use Rattle.enforcement.specs.Model.{Response, suppressing, PassesKept, silent_step, passed_step, suppressed_step, monitored}
use Rattle.enforcement.specs.Promises.{CameFrom, RunsBehind}
use Rattle.enforcement.proofs.Responses.{suppressed_dropped, dropped_suppressed, suppressing_passes}

-- ---- every walk behind a monitor comes from the model

module _ {E : Type 0} (answer : E → ℕ → Answer E) (respond : E → ℕ → Response E) (same : PassesKept respond answer) (first : E) (m : Model) where
  pub walk_came_from : {x y : m.State × E} {v : List ℕ} → Walk (monitored respond first m) x v y → CameFrom answer m x v y
  walk_came_from (stay {s = x}) = record { trace = _; walk = stay; kept_is = refl; ended_is = refl }
  walk_came_from (silent_first (silent_step h) k) =
      let o = walk_came_from k in
      record { trace = o.trace; walk = silent_first h o.walk; kept_is = o.kept_is; ended_is = o.ended_is }
  walk_came_from (silent_first (suppressed_step {c = c} {e} h q) k) =
      let o = walk_came_from k in
      let d = suppressed_dropped respond answer same e c q in
      record { trace = c ∷ o.trace; walk = code_first h o.walk; kept_is = rw d o.kept_is; ended_is = rw d o.ended_is }
  walk_came_from (code_first (passed_step {c = c} {e} {e'} h q) k) =
      let o = walk_came_from k in
      let n = (same e e' c).0 q in
      record { trace = c ∷ o.trace; walk = code_first h o.walk; kept_is = rw (n, o.kept_is); ended_is = rw n o.ended_is }

-- ---- every walk of the model is there behind one that suppresses

module _ {E : Type 0} (answer : E → ℕ → Answer E) (first : E) (m : Model) where
  abbrev behind : Model
  behind = monitored (suppressing answer) first m

  walk_behind : {s t : m.State} {w : List ℕ} (e : E) → Walk m s w t → Walk behind (s, e) (kept answer e w) (t, ended answer e w)
  walk_behind e stay = stay
  walk_behind e (silent_first h k) = silent_first (silent_step h) (walk_behind e k)
  walk_behind e (code_first {s} {t} {u} {c} {w} h k) = on (answer e c) refl (walk_behind e k) (λ e'. walk_behind e' k)
    where
      on : (a : Answer E) → answer e c ≡ a → Walk behind (t, e) (kept answer e w) (u, ended answer e w)
          → ((e' : E) → Walk behind (t, e') (kept answer e' w) (u, ended answer e' w))
          → Walk behind (s, e) (cases a (kept answer e w) (λ e'. c ∷ kept answer e' w)) (u, cases a (ended answer e w) (λ e'. ended answer e' w))
      on dropped q stays further = silent_first (suppressed_step h (dropped_suppressed answer e c q)) stays
      on (next e') q stays further = code_first (passed_step h ((suppressing_passes answer e e' c).1 q)) (further e')

pub runs_behind : RunsBehind
runs_behind E answer first m = record {
  forth = λ s t w e. walk_behind answer first m e;
  back = λ x y v. walk_came_from answer (suppressing answer) (suppressing_passes answer) first m;
}
