-- Members of unions and intersections, and of sets that are there by a condition, by cases.
use Prim.Native.Nat.{ℕ}
use mathlib.Core.Path.{◌≡◌, refl}
use mathlib.Core.Logic.{◌↔◌, ◌⊎◌, inl, inr, ⊎_elim}
use mathlib.Core.Bool.{Bool, true, false, cond}
use native.Mathlib.Omega.{arith}
use lib.Dec.{eqb}
use borrow.Author.Tests.{eqb-true, eqb-false}
use Rattle.synthesis.specs.NodeSet.{Has, empty_set, singleton, union, intersection}
use Rattle.synthesis.proofs.Unfolding.NodeSetLaws.{has_none, has_union, has_common, has_singleton, singleton_has, nonempty_member}

pub has_singleton_iff : (k n : ℕ) → Has (singleton k) n ↔ (k ≡ n)
has_singleton_iff k n = (singleton_has k n, λ e. rw (← e) (has_singleton k))

-- a set that is there by a condition
pub cond_has : (b : Bool) (a n : ℕ) → Has (cond b a empty_set) n → (b ≡ true) × Has a n
cond_has true a n h = (refl, h)
cond_has false a n h = absurd (has_none n h)

module _ (a b n : ℕ) where
  pub has_union_first : Has a n → Has (union a b) n
  has_union_first h = (has_union a b n).1 (inl h)

  pub has_union_second : Has b n → Has (union a b) n
  has_union_second h = (has_union a b n).1 (inr h)

  pub union_cases : {A : Type 0} → (Has a n → A) → (Has b n → A) → Has (union a b) n → A
  union_cases p q h = ⊎_elim p q ((has_union a b n).0 h)

  pub union_iff : {A B : Type 0} → Has a n ↔ A → Has b n ↔ B → Has (union a b) n ↔ (A ⊎ B)
  union_iff p q =
      (union_cases (λ x. inl (p.0 x)) (λ x. inr (q.0 x)), ⊎_elim (λ x. has_union_first (p.1 x)) (λ x. has_union_second (q.1 x)))

-- two sets with nothing in common, and two others
pub no_common_member : (a b : ℕ) → eqb (intersection a b) empty_set ≡ true → (n : ℕ) → Has a n → Has b n → ⊥
no_common_member a b h n p q = has_none n (rw (eqb-true (intersection a b) empty_set h) at ((has_common a b n).1 (p, q)))

pub common_member : (a b : ℕ) → eqb (intersection a b) empty_set ≡ false → (n : ℕ) × Has a n × Has b n
common_member a b h =
    let s = nonempty_member (intersection a b) (omega (arith, eqb-false (intersection a b) empty_set h)) in
    let t = (has_common a b s.0).0 s.1 in
    (s.0, t.0, t.1)
