-- The paper's model behind the monitor of the number-pool rule is strongly bisimilar to the phone that is drawn of it: each pair of a state and an
-- equation has the drawn state that stands for it, and their steps match, case by case.
use Prim.Native.Nat.{ℕ, ◌<◌}
use mathlib.Core.Path.{◌≡◌, sym, subst}
use mathlib.Core.List.{List}
use native.Mathlib.Omega.{arith}
use Rattle.synthesis.specs.Monitor.{mark, lookup}
use Rattle.enforcement.specs.Model.{Label, silent, code, Model, Bisimilar}
use Rattle.enforcement.specs.Model.{Response, passed, suppressed, suppressing, Behind, silent_step, passed_step, suppressed_step, monitored}
use Rattle.models.specs.Phone.{StepIn, model_of}
use Rattle.examples.specs.Examples.{PoolRows}
use Rattle.examples.specs.ModelExamples.{breaking_phone, drawn_phone}
use Rattle.examples.proofs.PhoneSteps.{StepAt, step_at_lem, every_step}

-- ---- the steps of the two phones

data BreakingStep : ℕ → Label → ℕ → Type 0 where
  cancels : BreakingStep 0 (code 37) 1
  waits : BreakingStep 1 silent 2
  issues : BreakingStep 2 (code 5) 0

breaking_step : {s t : ℕ} {a : Label} → StepIn breaking_phone.steps s a t → BreakingStep s a t
breaking_step = every_step BreakingStep breaking_phone.steps (cancels, (waits, (issues, tt)))

data DrawnStep : ℕ → Label → ℕ → Type 0 where
  from_0 : DrawnStep 0 (code 37) 1
  from_1 : DrawnStep 1 silent 2
  from_2 : DrawnStep 2 silent 3
  from_3 : DrawnStep 3 (code 37) 4
  from_4 : DrawnStep 4 silent 5
  from_5 : DrawnStep 5 (code 5) 6
  from_6 : DrawnStep 6 (code 37) 4

drawn_step : {s t : ℕ} {a : Label} → StepIn drawn_phone.steps s a t → DrawnStep s a t
drawn_step = every_step DrawnStep drawn_phone.steps (from_0, (from_1, (from_2, (from_3, (from_4, (from_5, (from_6, tt)))))))

-- the steps by their places
breaking_at : (i : ℕ) → i < 3 → StepAt breaking_phone.steps i
breaking_at = step_at_lem breaking_phone.steps

drawn_at : (i : ℕ) → i < 7 → StepAt drawn_phone.steps i
drawn_at = step_at_lem drawn_phone.steps

-- ---- the bisimulation

-- a state of the breaking phone and an equation, and the drawn state that stands for them
data Drawn : ℕ × ℕ → ℕ → Type 0 where
  is_0 : Drawn (0, 0) 0
  is_1 : Drawn (1, 2) 1
  is_2 : Drawn (2, 2) 2
  is_3 : Drawn (0, 2) 3
  is_4 : Drawn (1, 1) 4
  is_5 : Drawn (2, 1) 5
  is_6 : Drawn (0, 1) 6

module _ (table : List ℕ) (rows : PoolRows table) where
  abbrev respond : ℕ → ℕ → Response ℕ
  respond = suppressing (lookup 256 mark table)

  abbrev behind : Model
  behind = monitored respond 0 (model_of breaking_phone)

  -- ---- what the monitor does with each code

  first_cancel : respond 0 37 ≡ passed 2
  first_cancel = rw rows.row_0

  second_cancel : respond 2 37 ≡ passed 1
  second_cancel = rw rows.row_2

  later_cancel : respond 1 37 ≡ passed 1
  later_cancel = rw rows.row_1

  first_issue : respond 2 5 ≡ suppressed
  first_issue = rw rows.row_2

  later_issue : respond 1 5 ≡ passed 1
  later_issue = rw rows.row_1

  -- ---- a step behind the monitor is drawn

  abbrev DrawnTo : ℕ → Label → ℕ × ℕ → Type 0
  DrawnTo d a x = (d' : ℕ) × StepIn drawn_phone.steps d a d' × Drawn x d'

  -- with the code c to the state t, by what becomes of the code in the equation e
  abbrev CodeDrawn : (d e c t : ℕ) → Response ℕ → Type 0
  CodeDrawn d e c t (passed e') = DrawnTo d (code c) (t, e')
  CodeDrawn d e c t suppressed = DrawnTo d silent (t, e)

  code_drawn : {s c t e d : ℕ} → BreakingStep s (code c) t → Drawn (s, e) d → CodeDrawn d e c t (respond e c)
  code_drawn cancels is_0 = subst (CodeDrawn 0 0 37 1) (sym first_cancel) (1, drawn_at 0 (omega arith), is_1)
  code_drawn cancels is_3 = subst (CodeDrawn 3 2 37 1) (sym second_cancel) (4, drawn_at 3 (omega arith), is_4)
  code_drawn cancels is_6 = subst (CodeDrawn 6 1 37 1) (sym later_cancel) (4, drawn_at 6 (omega arith), is_4)
  code_drawn issues is_2 = subst (CodeDrawn 2 2 5 0) (sym first_issue) (3, drawn_at 2 (omega arith), is_3)
  code_drawn issues is_5 = subst (CodeDrawn 5 1 5 0) (sym later_issue) (6, drawn_at 5 (omega arith), is_6)

  silent_drawn : {s t e d : ℕ} → BreakingStep s silent t → Drawn (s, e) d → DrawnTo d silent (t, e)
  silent_drawn waits is_1 = (2, drawn_at 1 (omega arith), is_2)
  silent_drawn waits is_4 = (5, drawn_at 4 (omega arith), is_5)

  forth : (x x' : ℕ × ℕ) (d : ℕ) (a : Label) → Drawn x d → Behind respond (model_of breaking_phone) x a x' → DrawnTo d a x'
  forth x x' d a r (silent_step h) = silent_drawn (breaking_step h) r
  forth x x' d a r (passed_step {t = t} {c} {e} h q) = subst (CodeDrawn d e c t) q (code_drawn (breaking_step h) r)
  forth x x' d a r (suppressed_step {t = t} {c} {e} h q) = subst (CodeDrawn d e c t) q (code_drawn (breaking_step h) r)

  -- ---- a drawn step is there behind the monitor

  back : {x : ℕ × ℕ} {d d' : ℕ} {a : Label} → Drawn x d → DrawnStep d a d' → (x' : ℕ × ℕ) × behind.Step x a x' × Drawn x' d'
  back is_0 from_0 = ((1, 2), passed_step (breaking_at 0 (omega arith)) first_cancel, is_1)
  back is_1 from_1 = ((2, 2), silent_step (breaking_at 1 (omega arith)), is_2)
  back is_2 from_2 = ((0, 2), suppressed_step (breaking_at 2 (omega arith)) first_issue, is_3)
  back is_3 from_3 = ((1, 1), passed_step (breaking_at 0 (omega arith)) second_cancel, is_4)
  back is_4 from_4 = ((2, 1), silent_step (breaking_at 1 (omega arith)), is_5)
  back is_5 from_5 = ((0, 1), passed_step (breaking_at 2 (omega arith)) later_issue, is_6)
  back is_6 from_6 = ((1, 1), passed_step (breaking_at 0 (omega arith)) later_cancel, is_4)

  pub drawn_bisimilar : Bisimilar behind (model_of drawn_phone)
  drawn_bisimilar = (Drawn, record { forth = forth; back = λ x d d' a r h. back r (drawn_step h) }, is_0)
