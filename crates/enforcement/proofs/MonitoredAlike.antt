-- Behind two monitors that drop alike a model is bisimilar to itself: a state beside one equation goes with the same state beside another that drops
-- alike, since each code is dropped by both or by neither, and they go on alike.
use Prim.Native.Nat.{ℕ}
use mathlib.Core.Path.{◌≡◌, refl, sym}
use Rattle.synthesis.specs.Monitor.{Answer, dropped, next}
use Rattle.synthesis.specs.Merging.{DropAlike}
use Rattle.synthesis.proofs.Monitors.DroppingAlike.{StepAlike, both_dropped, both_next, alike_step}
use Rattle.enforcement.specs.Model.{Label, Model, ByteCodes, suppressing}
use Rattle.enforcement.specs.Model.{Behind, silent_step, passed_step, suppressed_step}
use Rattle.enforcement.specs.Promises.{AlikeBisimilar}
use Rattle.enforcement.proofs.Responses.{suppressed_dropped, dropped_suppressed, suppressing_passes}

module _ {E F : Type 0} (answer : E → ℕ → Answer E) (answer' : F → ℕ → Answer F) where
  -- what the one drops, the other drops
  alike_drops : {e : E} {f : F} {c : ℕ} → StepAlike 256 answer answer' (answer e c) (answer' f c) → answer e c ≡ dropped → answer' f c ≡ dropped
  alike_drops {e} {f} {c} step q = on (answer' f c) refl (rw q at step)
    where
      on : (a : Answer F) → answer' f c ≡ a → StepAlike 256 answer answer' dropped a → answer' f c ≡ dropped
      on (next _) p x3 = elim x3 [ ]
      on dropped p both_dropped = p

  -- what the one keeps, the other keeps, and they go on alike
  alike_keeps : {e e' : E} {f : F} {c : ℕ} → StepAlike 256 answer answer' (answer e c) (answer' f c) → answer e c ≡ next e'
      → (f' : F) × (answer' f c ≡ next f') × DropAlike 256 answer e' answer' f'
  alike_keeps {e} {e'} {f} {c} step q = on (answer' f c) refl (rw q at step)
    where
      on : (a : Answer F) → answer' f c ≡ a → StepAlike 256 answer answer' (next e') a
          → (f' : F) × (answer' f c ≡ next f') × DropAlike 256 answer e' answer' f'
      on dropped p x'' = elim x'' [ ]
      on (next f') p (both_next alike) = (f', p, alike)

module _ {E F : Type 0} (answer : E → ℕ → Answer E) (answer' : F → ℕ → Answer F) (m : Model) (bytes : ByteCodes m) where
  data Beside : m.State × E → m.State × F → Type 0 where
    beside : {s : m.State} {e : E} {f : F} → DropAlike 256 answer e answer' f → Beside (s, e) (s, f)

  -- each step behind the one has a partner behind the other
  partner : (x x' : m.State × E) (y : m.State × F) (a : Label) → Beside x y → Behind (suppressing answer) m x a x'
      → (y' : m.State × F) × Behind (suppressing answer') m y a y' × Beside x' y'
  partner x x' y a (beside {f = f} alike) (silent_step {t = t} h) = ((t, f), silent_step h, beside alike)
  partner x x' y a (beside {s} {e} {f} alike) (passed_step {t = t} {c = c} {e' = e'} h q) =
      let step = alike_step 256 answer answer' e f alike c (bytes s t c h) in
      let (f', p, on) = alike_keeps answer answer' step ((suppressing_passes answer e e' c).0 q) in
      ((t, f'), passed_step h ((suppressing_passes answer' f f' c).1 p), beside on)
  partner x x' y a (beside {s} {e} {f} alike) (suppressed_step {t = t} {c = c} h q) =
      let step = alike_step 256 answer answer' e f alike c (bytes s t c h) in
      let p = alike_drops answer answer' step (suppressed_dropped (suppressing answer) answer (suppressing_passes answer) e c q) in
      ((t, f), suppressed_step h (dropped_suppressed answer' f c p), beside alike)

-- the same the other way round
turned : {E F : Type 0} (answer : E → ℕ → Answer E) (answer' : F → ℕ → Answer F) (m : Model) (bytes : ByteCodes m) {x : m.State × E} {y : m.State × F}
    → Beside answer answer' m bytes x y → Beside answer' answer m bytes y x
turned answer answer' m bytes (beside alike) = beside (λ w all. sym (alike w all))

pub alike_bisimilar : AlikeBisimilar
alike_bisimilar E F answer first answer' first' alike m bytes = (
  Beside answer answer' m bytes,
  record {
    forth = λ x x' y a. partner answer answer' m bytes x x' y a;
    back = λ x y y' a p h.
        let (x', k, q) = partner answer' answer m bytes y y' x a (turned answer answer' m bytes p) h in
        (x', k, turned answer' answer m bytes q);
  },
  beside alike,
)
