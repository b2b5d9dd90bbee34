-- The steps of a well-formed phone model go among 64 states, and their codes are bytes: a label is at most 256, and 256 is silent.
use Prim.Native.Nat.{ℕ}
use mathlib.Core.Path.{◌≡◌, refl}
use mathlib.Core.Bool.{Bool, true, false}
use native.Mathlib.Omega.{arith}
use lib.Dec.{eqb}
use lib.ListN.{get_or}
use borrow.Author.Tests.{eqb-true, eqb-false}
use Rattle.reading.proofs.Basics.AllLaws.{all-get_or}
use Rattle.enforcement.specs.Model.{silent, code, ByteCodes}
use Rattle.models.specs.Phone.{Phone, label_of, no_step, model_of, WellFormedStep, WellFormedPhone, PhoneWithinLimits}
use Rattle.models.specs.Exploring.{StepsWithinLimits}

pub label_silent : (x : ℕ) → label_of x ≡ silent → x ≡ 256
label_silent x h = on (eqb x 256) refl
  where
    on : (b : Bool) → eqb x 256 ≡ b → x ≡ 256
    on true q = eqb-true x 256 q
    on false q = let e : code x ≡ silent = rw q at h in absurd (let z : ◌≡◌ {A = ℕ} 0 1 = cc in omega arith)

pub label_code : (x c : ℕ) → label_of x ≡ code c → (x ≡ c) × (x ≡ 256 → ⊥)
label_code x c h = on (eqb x 256) refl
  where
    on : (b : Bool) → eqb x 256 ≡ b → (x ≡ c) × (x ≡ 256 → ⊥)
    on true q = let e : silent ≡ code c = rw q at h in absurd (let z : ◌≡◌ {A = ℕ} 0 1 = cc in omega arith)
    on false q = let e : code x ≡ code c = rw q at h in (cc, eqb-false x 256 q)

-- each record goes among 64 states
pub step_among : (y : Phone) → WellFormedPhone y → (i : ℕ) → WellFormedStep 64 (get_or y.steps i no_step)
step_among y w i =
    let none : WellFormedStep y.states no_step = record { from = w.some_states; label = omega arith; to = w.some_states } in
    let step = all-get_or (WellFormedStep y.states) y.steps i no_step w.steps none in
    record { from = omega (arith, step.from, w.few_states); label = step.label; to = omega (arith, step.to, w.few_states) }

pub phone_codes : (y : Phone) → WellFormedPhone y → ByteCodes (model_of y)
phone_codes y w s t c h =
    let (same, other) = label_code (get_or y.steps h.index no_step).label c h.label_is in
    omega (arith, (step_among y w h.index).label, same, other)

-- what is known of the steps of a phone model
pub phone_steps : {y : Phone} → PhoneWithinLimits y → StepsWithinLimits y.steps
phone_steps {y} w = record { few = w.few_steps; among = step_among y w.well_formed }
