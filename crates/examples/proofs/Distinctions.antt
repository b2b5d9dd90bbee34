-- A model that isn't finite, and two that satisfy the same rules and aren't strongly bisimilar: counting goes past every list of states, and of models
-- without codes only the empty list tells whether they satisfy a rule.
use Prim.Native.Nat.{ℕ, zero, suc, ◌+◌, ◌≤◌}
use mathlib.Core.Path.{refl}
use mathlib.Core.Logic.{◌↔◌}
use mathlib.Core.List.{List, [], ◌∷◌}
use native.Mathlib.Omega.{arith}
use lib.ListN.{get_or}
use Rattle.reading.specs.Rule.{Rule}
use Rattle.synthesis.specs.Violation.{ViolatesRule, by_body}
use Rattle.enforcement.specs.Model.{silent, Walk, stay, code_first, Finite, Satisfies, Bisimilar}
use Rattle.models.specs.Phone.{model_of}
use Rattle.enforcement.proofs.Walks.{walk_append}
use Rattle.models.proofs.Phones.PhoneStates.{phones_finite}
use Rattle.enforcement.proofs.QuietModels.{Quiet, quiet_satisfies}
use Rattle.examples.specs.Examples.{pool_rule}
use Rattle.examples.specs.ModelExamples.{counting_model, still_phone, idle_phone, Distinctions}
use Rattle.examples.proofs.PhoneSteps.{step_at_lem, every_step}

-- ---- counting leads past the total of every list

abbrev total : List ℕ → ℕ
total [] = 0
total (x ∷ l) = x + total l

at_most_total : (l : List ℕ) (i : ℕ) → get_or l i 0 ≤ total l
at_most_total [] i = omega arith
at_most_total (x ∷ l) zero = let h : x ≤ x + total l = omega arith in h
at_most_total (x ∷ l) (suc i) = let h = at_most_total l i in let k : get_or l i 0 ≤ x + total l = omega (arith, h) in k

counting_walk : (n : ℕ) → (w : List ℕ) × Walk counting_model 0 w n
counting_walk zero = ([], stay)
counting_walk (suc n) = let (w, k) = counting_walk n in (_, walk_append counting_model k (code_first (refl, refl) stay))

endless : Finite counting_model → ⊥
endless finite =
    let past = suc (total finite.states) in
    let (w, k) = counting_walk past in
    let (i, h, e) = finite.listed w past k in
    let small = at_most_total finite.states i in
    omega (arith, e, small)

-- ---- models whose steps are all silent satisfy the same rules

still_satisfies : (r : Rule) → Satisfies (model_of still_phone) r ↔ (ViolatesRule r [] → ⊥)
still_satisfies = quiet_satisfies (model_of still_phone) (λ s t a. every_step (λ s a t. Quiet a) still_phone.steps tt)

idle_satisfies : (r : Rule) → Satisfies (model_of idle_phone) r ↔ (ViolatesRule r [] → ⊥)
idle_satisfies = quiet_satisfies (model_of idle_phone) (λ s t a. every_step (λ s a t. Quiet a) idle_phone.steps (tt, tt))

-- the number-pool rule begins with a necessity, so a list without codes doesn't violate it
pool_rule-not_violated : ViolatesRule pool_rule [] → ⊥
pool_rule-not_violated (by_body x) = elim x [ ]

-- ---- the still phone has no silent step

not_bisimilar : Bisimilar (model_of still_phone) (model_of idle_phone) → ⊥
not_bisimilar (R, b, x) =
    let (s, h, y) = b.back 0 0 0 silent x (step_at_lem idle_phone.steps 0 (omega arith)) in
    every_step (λ s a t. ⊥) still_phone.steps tt h

pub distinctions : Distinctions
distinctions = record {
  endless = endless;
  idle_finite = phones_finite idle_phone;
  same_rules = λ r. (λ sat. (idle_satisfies r).1 ((still_satisfies r).0 sat), λ sat. (still_satisfies r).1 ((idle_satisfies r).0 sat));
  idle_satisfies = (idle_satisfies pool_rule).1 pool_rule-not_violated;
  not_bisimilar = not_bisimilar;
}
