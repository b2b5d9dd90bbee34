-- Laws of outcomes: each is accepted or refused, and where it is known which, that tells what happened at a check, at two steps, and of what the enum
-- that stands for it was made.
use mathlib.Core.Path.{◌≡◌, refl, sym}
use mathlib.Core.Bool.{Bool, true, false, ◌||◌}
use Prim.Native.Nat.{ℕ}
use native.Mathlib.Omega.{arith}
use Rattle.reading.specs.File.{Outcome, accepted, refused, refuse, and_then, by_case}

-- ---- the two cases

module _ {A : Type 0} where
  pub accepted_is : {a b : A} → accepted a ≡ accepted b → a ≡ b
  accepted_is e = cc

  pub never_accepted : {number place : ℕ} {a : A} → refused number place ≡ accepted a → ⊥
  never_accepted e = let z : ◌≡◌ {A = ℕ} 0 1 = cc in omega arith

  pub never_refused : {number place : ℕ} {a : A} → accepted a ≡ refused number place → ⊥
  never_refused e = let z : ◌≡◌ {A = ℕ} 0 1 = cc in omega arith

  pub refused_same : {number place number' place' : ℕ} → ◌≡◌ {A = Outcome A} (refused number place) (refused number' place') → (number ≡ number') × (place ≡ place')
  refused_same e = (cc, cc)

-- ---- a check

-- what is accepted was refused by no check
pub refuse_accepted : {A : Type 0} (b : Bool) (number place : ℕ) (o : Outcome A) {a : A} → refuse b number place o ≡ accepted a
    → (b ≡ false) × (o ≡ accepted a)
refuse_accepted true number place o e = absurd (never_accepted e)
refuse_accepted false number place o e = (refl, e)

-- what is refused was refused by this check or by a later one
pub refuse_refused {ℓ} : {A : Type 0} (P : (number place : ℕ) → Type ℓ) (b : Bool) (k q : ℕ) (o : Outcome A) {number place : ℕ}
    → refuse b k q o ≡ refused number place → (b ≡ true → P k q) → (b ≡ false → o ≡ refused number place → P number place) → P number place
refuse_refused P true k q o {number} {place} e here later =
    let same : k ≡ number = cc in
    let same' : q ≡ place = cc in
    rw (← same, ← same') (here refl)
refuse_refused P false k q o e here later = later refl e

pub or_eq_false : (a b : Bool) → (a || b) ≡ false → (a ≡ false) × (b ≡ false)
or_eq_false true b e = let z : ◌≡◌ {A = ℕ} 0 1 = cc in absurd (omega arith)
or_eq_false false b e = (refl, e)

-- ---- two steps

module _ {A B : Type 0} where
  -- what two steps refuse, the first or the second refuses
  pub and_then-refused {ℓ} : {P : Type ℓ} (o : Outcome A) (f : A → Outcome B) {number place : ℕ} → and_then o f ≡ refused number place
      → (o ≡ refused number place → P) → ((a : A) → o ≡ accepted a → f a ≡ refused number place → P) → P
  and_then-refused (accepted a) f e first second = second a refl e
  and_then-refused (refused m at) f e first second = first cc

  -- a value that two steps accept is the second's of one that the first accepts
  pub and_then-accepted : (o : Outcome A) (f : A → Outcome B) {b : B} → and_then o f ≡ accepted b → (a : A) × (o ≡ accepted a) × (f a ≡ accepted b)
  and_then-accepted (accepted a) f e = (a, refl, e)
  and_then-accepted (refused number place) f e = absurd (never_accepted e)

  -- the other way round
  pub and_then-accepts : {o : Outcome A} (f : A → Outcome B) {a : A} {b : B} → o ≡ accepted a → f a ≡ accepted b → and_then o f ≡ accepted b
  and_then-accepts f e e' = rw (e, e')

  -- second steps that agree on what the first accepts
  pub and_then-agree : (o : Outcome A) (f g : A → Outcome B) → ((a : A) → o ≡ accepted a → f a ≡ g a) → and_then o f ≡ and_then o g
  and_then-agree (accepted a) f g e = e a refl
  and_then-agree (refused number place) f g e = refl

  -- first steps that agree, and then second ones
  pub and_then-agree_both : (o o' : Outcome A) (f g : A → Outcome B) → o ≡ o' → ((a : A) → o ≡ accepted a → f a ≡ g a) → and_then o f ≡ and_then o' g
  and_then-agree_both o o' f g e h = rw (← e) (and_then-agree o f g h)

-- ---- what stands for an outcome

-- Values for what is accepted and for refusals, each of which tells what it is the value of.
pub record Distinct {B R : Type 0} (value : B → R) (refusal : (number place : ℕ) → R) : Type 0 where
  pub value_same : (b b' : B) → value b ≡ value b' → b ≡ b'
  pub refusal_same : (number place number' place' : ℕ) → refusal number place ≡ refusal number' place' → (number ≡ number') × (place ≡ place')
  pub disjoint : (b : B) (number place : ℕ) → value b ≡ refusal number place → ⊥

module _ {B R : Type 0} {value : B → R} {refusal : (number place : ℕ) → R} (d : Distinct value refusal) where
  -- The value is a refusal's only where the outcome is that refusal, and another only where it is accepted so. `of` is what counts of what is accepted.
  module _ {A : Type 0} (of : A → B) where
    pub by_case-refused : (o : Outcome A) (number place : ℕ) → refusal number place ≡ by_case (λ a. value (of a)) refusal o → o ≡ refused number place
    by_case-refused (accepted a) number place e = absurd (d.disjoint (of a) number place (sym e))
    by_case-refused (refused m at) number place e = let (is, there) = d.refusal_same number place m at e in rw (is, there)

  -- where the value has all of what is accepted
  pub by_case-value : (o : Outcome B) (b : B) → value b ≡ by_case value refusal o → o ≡ accepted b
  by_case-value (accepted a) b e = rw (d.value_same b a e)
  by_case-value (refused number place) b e = absurd (d.disjoint b number place e)
