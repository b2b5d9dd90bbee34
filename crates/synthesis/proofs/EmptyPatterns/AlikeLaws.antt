-- Formulas that are alike but after empty patterns are violated by the same lists: by induction on the violation, with the bodies of the maxes alike one
-- by one. No step goes past an empty pattern, since it would need a code that the pattern covers.
use Prim.Native.Nat.{ℕ, zero, suc}
use mathlib.Core.Path.{◌≡◌, refl, sym, ◌∙◌}
use mathlib.Core.Logic.{◌↔◌}
use mathlib.Core.Bool.{Bool, true≢false}
use mathlib.Core.List.{List, [], ◌∷◌}
use native.Mathlib.Omega.{arith}
use lib.ListN.{drop}
use Rattle.reading.specs.Rule.{Formula, truth, falsity, both, necessity, max, variable}
use Rattle.synthesis.specs.Violation.{Violates, by_falsity, by_first, by_second, by_code, by_body, by_variable}
use Rattle.synthesis.specs.Alike.{AlikeButAfterEmpty, same_truth, same_falsity, same_both, same_necessity, same_max, same_variable, after_empty}
use Rattle.synthesis.specs.AlikePromises.{ViolatedAlike}

-- ---- the relation

-- each formula is alike to itself
pub alike_same : (covered : (pattern code : ℕ) → Bool) (f : Formula) → AlikeButAfterEmpty covered covered f f
alike_same covered truth = same_truth
alike_same covered falsity = same_falsity
alike_same covered (both f g) = same_both (alike_same covered f) (alike_same covered g)
alike_same covered (necessity p f) = same_necessity (λ c. refl) (alike_same covered f)
alike_same covered (max f) = same_max (alike_same covered f)
alike_same covered (variable d) = same_variable

pub alike_back : {covered covered' : (pattern code : ℕ) → Bool} {f f' : Formula}
    → AlikeButAfterEmpty covered covered' f f' → AlikeButAfterEmpty covered' covered f' f
alike_back same_truth = same_truth
alike_back same_falsity = same_falsity
alike_back (same_both a b) = same_both (alike_back a) (alike_back b)
alike_back (same_necessity same a) = same_necessity (λ c. sym (same c)) (alike_back a)
alike_back (same_max a) = same_max (alike_back a)
alike_back same_variable = same_variable
alike_back (after_empty none none') = after_empty none' none

-- ---- violation

module _ (covered covered' : (pattern code : ℕ) → Bool) where
  -- bodies that are alike, one by one
  pub data BodiesAlike : List Formula → List Formula → Type 0 where
    outermost : BodiesAlike [] []
    inside : {f f' : Formula} {fs fs' : List Formula} → AlikeButAfterEmpty covered covered' f f' → BodiesAlike fs fs'
        → BodiesAlike (f ∷ fs) (f' ∷ fs')

  -- the body to which a variable leads
  record BodyAt (d : ℕ) (bodies' : List Formula) (f : Formula) (outer : List Formula) : Type 0 where
    f' : Formula
    outer' : List Formula
    is : drop d bodies' ≡ f' ∷ outer'
    alike : AlikeButAfterEmpty covered covered' f f'
    around : BodiesAlike outer outer'

  body_at : (d : ℕ) {bodies bodies' outer : List Formula} {f : Formula} → BodiesAlike bodies bodies' → drop d bodies ≡ f ∷ outer
      → BodyAt d bodies' f outer
  body_at zero outermost e = let z : ◌≡◌ {A = ℕ} 0 1 = cc in absurd (omega arith)
  body_at (suc d) outermost e = let z : ◌≡◌ {A = ℕ} 0 1 = cc in absurd (omega arith)
  body_at zero {outer = outer} {f} (inside {f = g} {f' = g'} {fs = gs} {fs' = gs'} a around) e =
      let same : g ≡ f = cc in
      let same-outer : gs ≡ outer = cc in
      record { f' = g'; outer' = gs'; is = refl; alike = rw (← same) a; around = rw (← same-outer) around }
  body_at (suc d) (inside a around) e =
      let b = body_at d around e in
      record { f' = b.f'; outer' = b.outer'; is = b.is; alike = b.alike; around = b.around }

  pub alike_violates : {bodies bodies' : List Formula} {f f' : Formula} {w : List ℕ} → Violates covered bodies f w
      → AlikeButAfterEmpty covered covered' f f' → BodiesAlike bodies bodies' → Violates covered' bodies' f' w
  alike_violates by_falsity same_falsity around = by_falsity
  alike_violates (by_first v) (same_both a b) around = by_first (alike_violates v a around)
  alike_violates (by_second v) (same_both a b) around = by_second (alike_violates v b around)
  alike_violates (by_code {c = c} h v) (same_necessity same a) around = by_code (sym (same c) ∙ h) (alike_violates v a around)
  alike_violates (by_code {c = c} h v) (after_empty none none') around = absurd (true≢false (sym h ∙ none c))
  alike_violates (by_body v) (same_max a) around = by_body (alike_violates v a (inside a around))
  alike_violates (by_variable {d = d} q v) same_variable around =
      let b = body_at d around q in
      by_variable b.is (alike_violates v b.alike (inside b.alike b.around))

pub formulas_violated_alike : {covered covered' : (pattern code : ℕ) → Bool} {f f' : Formula} → AlikeButAfterEmpty covered covered' f f'
    → (w : List ℕ) → Violates covered [] f w ↔ Violates covered' [] f' w
formulas_violated_alike a w = (λ v. alike_violates _ _ v a outermost, λ v. alike_violates _ _ v (alike_back a) outermost)

pub violated_alike : ViolatedAlike
violated_alike r r' a w = formulas_violated_alike a w
