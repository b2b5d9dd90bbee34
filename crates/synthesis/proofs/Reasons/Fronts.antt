-- The shortest front of a list that violates a rule: since violation is closed under extension, each longer front violates the rule too, so there is only
-- one that is the first to.
use Prim.Native.Nat.{ℕ, suc, ◌+◌, ◌-◌, ◌≤◌}
use mathlib.Core.Path.{◌≡◌, sym, ◌∙◌, ap, subst}
use mathlib.Core.List.{List, [], ◌++◌}
use native.Mathlib.Decide.{dec_le}
use native.Mathlib.Omega.{arith}
use lib.ListN.{take, drop, take-append-drop}
use lib.Seq.{take-add}
use Rattle.reading.specs.Rule.{Rule}
use Rattle.synthesis.specs.Violation.{covered_by, ViolatesRule}
use Rattle.synthesis.specs.Reason.{FirstViolated}
use Rattle.synthesis.proofs.Unfolding.Extension.{closed_under_extension}

pub extended : (r : Rule) (v u : List ℕ) → ViolatesRule r v → ViolatesRule r (v ++ u)
extended r v u = closed_under_extension (covered_by r.patterns) [] r.formula v u

module _ (r : Rule) (w : List ℕ) where
  -- a list with a front that violates the rule violates it, and so does a longer front
  pub front_violates : (j : ℕ) → ViolatesRule r (take j w) → ViolatesRule r w
  front_violates j v = subst (ViolatesRule r) (take-append-drop j w) (extended r (take j w) (drop j w) v)

  longer_front : (j k : ℕ) → j ≤ k → ViolatesRule r (take j w) → ViolatesRule r (take k w)
  longer_front j k h v =
      let e : j + (k - j) ≡ k = omega arith in
      subst (ViolatesRule r) (sym (take-add j (k - j) w) ∙ ap (λ (n : ℕ). take n w) e) (extended r (take j w) (take (k - j) (drop j w)) v)

  pub first_violated_unique : (i j : ℕ) → FirstViolated r w i → FirstViolated r w j → i ≡ j
  first_violated_unique i j a b = on (dec_le (suc i) j) (dec_le (suc j) i)
    where
      on : Dec (suc i ≤ j) → Dec (suc j ≤ i) → i ≡ j
      on (yes less) k = absurd (b.before (longer_front (suc i) j less a.violated))
      on (no k) (yes less) = absurd (a.before (longer_front (suc j) i less b.violated))
      on (no k) (no l) = omega arith

  -- a list with such a front violates the rule
  pub first_violates : (i : ℕ) → FirstViolated r w i → ViolatesRule r w
  first_violates i a = front_violates (suc i) a.violated
