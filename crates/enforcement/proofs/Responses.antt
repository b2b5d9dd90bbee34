-- What responses say of the answers of a monitor, and that suppression passes exactly what the monitor keeps, by the two cases of an answer.
use Prim.Native.Nat.{ℕ}
use mathlib.Core.Path.{◌≡◌, refl}
use native.Mathlib.Omega.{arith}
use Rattle.synthesis.specs.Monitor.{Answer, dropped, next, cases}
use Rattle.enforcement.specs.Model.{Response, passed, suppressed, suppressing, PassesKept}

-- what is suppressed is dropped
pub suppressed_dropped : {E : Type 0} (respond : E → ℕ → Response E) (answer : E → ℕ → Answer E) → PassesKept respond answer
    → (e : E) (c : ℕ) → respond e c ≡ suppressed → answer e c ≡ dropped
suppressed_dropped {E} respond answer same e c q = on (answer e c) refl
  where
    on : (a : Answer E) → answer e c ≡ a → answer e c ≡ dropped
    on dropped h = h
    on (next x) h = let p = (same e x c).1 h in absurd (let z : ◌≡◌ {A = ℕ} 0 1 = cc in omega arith)

-- what is dropped is suppressed by suppression
pub dropped_suppressed : {E : Type 0} (answer : E → ℕ → Answer E) (e : E) (c : ℕ) → answer e c ≡ dropped → suppressing answer e c ≡ suppressed
dropped_suppressed answer e c q = rw q

pub suppressing_passes : {E : Type 0} (answer : E → ℕ → Answer E) → PassesKept (suppressing answer) answer
suppressing_passes {E} answer e e' c = (on (answer e c), λ q. rw q)
  where
    on : (a : Answer E) → cases a suppressed passed ≡ passed e' → a ≡ next e'
    on dropped q = absurd (let z : ◌≡◌ {A = ℕ} 0 1 = cc in omega arith)
    on (next x) q = cc
