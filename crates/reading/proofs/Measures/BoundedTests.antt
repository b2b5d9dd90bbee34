-- A test of every number below n: the least one that fails is looked for.
use Prim.Native.Nat.{ℕ, ◌<◌}
use mathlib.Core.Path.{◌≡◌, refl, sym, ◌∙◌}
use mathlib.Core.Logic.{◌↔◌}
use mathlib.Core.Bool.{Bool, true, false, not, true≢false}
use native.Mathlib.Omega.{arith}
use borrow.Author.Tests.{leb-true, leb-false, not-true, not-false}
use Rattle.reading.specs.Pattern.{least, every}
use Rattle.reading.proofs.Measures.Counting.{least_holds, least_below}

abbrev first_failure : ℕ → (ℕ → Bool) → ℕ
first_failure n test = least n (λ i. not (test i))

module _ (n : ℕ) (test : ℕ → Bool) where
  pub every_fails : every n test ≡ false → (i : ℕ) × (i < n) × (test i ≡ false)
  every_fails e =
      let h : first_failure n test < n = leb-false n (first_failure n test) e in
      (first_failure n test, h, not-true _ (least_holds n (λ i. not (test i)) h))

  pub every_is : (every n test ≡ true) ↔ ((i : ℕ) → i < n → test i ≡ true)
  every_is = (
    λ e i h. not-false (test i) (least_below n (λ i. not (test i)) i (omega (arith, leb-true n (first_failure n test) e))),
    λ all. on all (every n test) refl,
  )
    where
      on : ((i : ℕ) → i < n → test i ≡ true) → (b : Bool) → every n test ≡ b → b ≡ true
      on all true e = refl
      on all false e = let f = every_fails e in absurd (true≢false (sym (all f.0 f.1) ∙ f.2))

  pub every_not : (i : ℕ) → i < n → test i ≡ false → every n test ≡ false
  every_not i h f = on (every n test) refl
    where
      on : (b : Bool) → every n test ≡ b → b ≡ false
      on true e = absurd (true≢false (sym (every_is.0 e i h) ∙ f))
      on false e = refl
