-- Whether each step from one state has a partner from another into a decided relation: every pair of records is asked.
use Prim.Native.Nat.{ℕ, ◌<◌}
use mathlib.Core.Path.{◌≡◌, refl, subst}
use mathlib.Core.Logic.{◌↔◌}
use mathlib.Core.Bool.{Bool, true, false, cond, not, ◌&&◌, and-eq-true_iff}
use mathlib.Core.List.{List}
use lib.Dec.{eqb}
use lib.ListN.{length, get_or}
use borrow.Author.Tests.{eqb-true, eq-eqb, not-true, not-false}
use Rattle.reading.specs.Pattern.{every}
use Rattle.reading.proofs.Measures.BoundedTests.{every_is, every_fails, every_not}
use Rattle.enforcement.specs.Model.{Label}
use Rattle.models.specs.Phone.{label_of, no_step, StepIn}
use Rattle.models.specs.declared.Step.{Step}
use Rattle.models.proofs.Matchings.Bisimulations.{label_same}

module _ (steps others : List Step) (X : (s t : ℕ) → Bool) (s t : ℕ) where
  -- the step y is a partner of x, from t
  abbrev is_partner : (x y : Step) → Bool
  is_partner x y = eqb y.from t && (eqb y.label x.label && X x.to y.to)

  abbrev no_partner_at : Step → ℕ → Bool
  no_partner_at x j = not (is_partner x (get_or others j no_step))

  abbrev has_partner : Step → Bool
  has_partner x = not (every (length others) (no_partner_at x))

  -- each step from s has a partner from t
  abbrev answered_at : ℕ → Bool
  answered_at i = cond (eqb (get_or steps i no_step).from s) (has_partner (get_or steps i no_step)) true

  abbrev pub answered : Bool
  answered = every (length steps) answered_at

  abbrev pub Answered : Type 0
  Answered = (s' : ℕ) (l : Label) → StepIn steps s l s' → (t' : ℕ) × StepIn others t l t' × (X s' t' ≡ true)

  partner_found : (x : Step) → has_partner x ≡ true → (t' : ℕ) × StepIn others t (label_of x.label) t' × (X x.to t' ≡ true)
  partner_found x e =
      let (j, inside, fails) = every_fails (length others) (no_partner_at x) (not-true (every (length others) (no_partner_at x)) e) in
      let y = get_or others j no_step in
      let (from, rest) = (and-eq-true_iff (eqb y.from t) (eqb y.label x.label && X x.to y.to)).0 (not-false (is_partner x y) fails) in
      let (label, leads) = (and-eq-true_iff (eqb y.label x.label) (X x.to y.to)).0 rest in
      let same : y.label ≡ x.label = eqb-true y.label x.label label in (
        y.to,
        record { index = j; inside = inside; from_is = eqb-true y.from t from; label_is = rw same; to_is = refl },
        leads,
      )

  found_partner : (x : Step) (t' : ℕ) → StepIn others t (label_of x.label) t' → X x.to t' ≡ true → has_partner x ≡ true
  found_partner x t' h leads =
      let y = get_or others h.index no_step in
      let label : eqb y.label x.label ≡ true = eq-eqb y.label x.label (label_same y.label x.label h.label_is) in
      let partner : is_partner x y ≡ true = rw (eq-eqb y.from t h.from_is, label, h.to_is) leads in
      let one : no_partner_at x h.index ≡ false = rw partner in
      rw (every_not (length others) (no_partner_at x) h.index h.inside one)

  pub answered_is : (answered ≡ true) ↔ Answered
  answered_is = (asks, λ all. (every_is (length steps) answered_at).1 (λ i inside. on all i inside (eqb (get_or steps i no_step).from s) refl))
    where
      asks : answered ≡ true → Answered
      asks e s' l h =
          let x = get_or steps h.index no_step in
          let here : has_partner x ≡ true = rw (eq-eqb x.from s h.from_is) at ((every_is (length steps) answered_at).0 e h.index h.inside) in
          let (t', step, leads) = partner_found x here in
          (t', subst (λ (a : Label). StepIn others t a t') h.label_is step, subst (λ (u : ℕ). X u t' ≡ true) h.to_is leads)

      on : Answered → (i : ℕ) → i < length steps → (c : Bool) → eqb (get_or steps i no_step).from s ≡ c → cond c (has_partner (get_or steps i no_step)) true ≡ true
      on all i inside true e =
          let x = get_or steps i no_step in
          let (t', step, leads) = all x.to (label_of x.label) (record { index = i; inside = inside; from_is = eqb-true x.from s e; label_is = refl; to_is = refl }) in
          found_partner x t' step leads
      on all i inside false e = refl
