-- Whether every step of a phone model from a state, with a label that passes a test, leads into a decided set: each record is asked.
use Prim.Native.Nat.{ℕ, ◌<◌}
use mathlib.Core.Path.{◌≡◌, refl, ◌∙◌, ap, subst}
use mathlib.Core.Logic.{◌↔◌}
use mathlib.Core.Bool.{Bool, true, false, cond, ◌&&◌, false≢true}
use mathlib.Core.List.{List}
use lib.Dec.{eqb}
use lib.ListN.{length, get_or}
use borrow.Author.Tests.{eq-eqb, eqb-true}
use Rattle.reading.specs.Pattern.{every}
use Rattle.reading.proofs.Measures.BoundedTests.{every_is}
use Rattle.enforcement.specs.Model.{Label}
use Rattle.models.specs.Phone.{StepIn, label_of, no_step}
use Rattle.models.specs.declared.Step.{Step}

cond_and_true : (a b c : Bool) → (cond (a && b) c true ≡ true) ↔ (a ≡ true → b ≡ true → c ≡ true)
cond_and_true true true c = (λ h p q. h, λ h. h refl refl)
cond_and_true true false c = (λ h p q. absurd (false≢true q), λ h. refl)
cond_and_true false b c = (λ h p q. absurd (false≢true p), λ h. refl)

module _ (steps : List Step) (labels : Label → Bool) (X : ℕ → Bool) (s : ℕ) where
  abbrev leads_at : Step → Bool
  leads_at x = cond (eqb x.from s && labels (label_of x.label)) (X x.to) true

  leads_at_lem : (x : Step) → (leads_at x ≡ true) ↔ (eqb x.from s ≡ true → labels (label_of x.label) ≡ true → X x.to ≡ true)
  leads_at_lem x = cond_and_true (eqb x.from s) (labels (label_of x.label)) (X x.to)

  abbrev pub leads : Bool
  leads = every (length steps) (λ i. leads_at (get_or steps i no_step))

  leads_by_index : (leads ≡ true) ↔ ((i : ℕ) → i < length steps → leads_at (get_or steps i no_step) ≡ true)
  leads_by_index = every_is (length steps) (λ i. leads_at (get_or steps i no_step))

  pub leads_is : (leads ≡ true) ↔ ((a : Label) (t : ℕ) → labels a ≡ true → StepIn steps s a t → X t ≡ true)
  leads_is = (
    λ e a t h x. subst (λ (u : ℕ). X u ≡ true) x.to_is
        ((leads_at_lem (get_or steps x.index no_step)).0 (leads_by_index.0 e x.index x.inside) (eq-eqb _ _ x.from_is) (ap labels x.label_is ∙ h)),
    λ all. leads_by_index.1 (λ i h. (leads_at_lem (get_or steps i no_step)).1
        (λ from label. all _ _ label (record { index = i; inside = h; from_is = eqb-true _ _ from; label_is = refl; to_is = refl }))),
  )
