-- Laws of the definition of a step: its kinds as they are tested, what one among the states is, and how long its record is.
use mathlib.Core.Path.{◌≡◌, refl}
use mathlib.Core.Logic.{inl, inr}
use mathlib.Core.Bool.{Bool, true, false, cond, ◌||◌}
use Prim.Native.Nat.{ℕ, ◌≤◌, ◌<◌}
use native.Mathlib.Omega.{arith}
use lib.Dec.{eqb, leb}
use borrow.Author.Tests.{leb-false, eqb-true, eqb-false}
use Rattle.reading.specs.File.{accepted}
use Rattle.reading.proofs.Basics.Outcomes.{accepted_is, refuse_accepted, or_eq_false}
use Rattle.models.specs.Phone.{code_step_kind, silent_step_kind, is_step, among, record_length}
use Rattle.models.specs.Faults.{IsStep, NotStep}
use Rattle.models.specs.declared.Step.{Step}

-- the kinds of steps, as they are tested
pub tested_step : (k : ℕ) → is_step k ≡ true → IsStep k
tested_step k = on (eqb k code_step_kind) refl
  where
    on : (b : Bool) → eqb k code_step_kind ≡ b → (b || eqb k silent_step_kind) ≡ true → IsStep k
    on true is e = inl (eqb-true k code_step_kind is)
    on false is e = inr (eqb-true k silent_step_kind e)

pub tested_no_step : (k : ℕ) → is_step k ≡ false → NotStep k
tested_no_step k e (inl code) = eqb-false k code_step_kind (or_eq_false (eqb k code_step_kind) (eqb k silent_step_kind) e).0 code
tested_no_step k e (inr silent) = eqb-false k silent_step_kind (or_eq_false (eqb k code_step_kind) (eqb k silent_step_kind) e).1 silent

pub step_tested : (k : ℕ) → IsStep k → is_step k ≡ true
step_tested k (inl code) = rw code
step_tested k (inr silent) = rw silent

pub among_accepted : (states at : ℕ) (x y : Step) → among states at x ≡ accepted y → (x.from < states) × (x.to < states) × (x ≡ y)
among_accepted states at x y e =
    let from = refuse_accepted (leb states x.from) 13 at _ e in
    let to = refuse_accepted (leb states x.to) 13 at _ from.1 in
    (leb-false _ _ from.0, leb-false _ _ to.0, accepted_is to.1)

pub record_bounds : (x : Step) → (3 ≤ record_length x) × (record_length x ≤ 4)
record_bounds x = on (eqb x.label 256)
  where
    on : (b : Bool) → (3 ≤ cond b 3 4) × (cond b 3 4 ≤ 4)
    on true = (omega arith, omega arith)
    on false = (omega arith, omega arith)
