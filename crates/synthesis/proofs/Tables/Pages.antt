-- Outcomes on the rule page. Each is that of the smaller limit, but that 9 is 18 there; and two limits agree (`limits_agree`). So an outcome of the page
-- tells that of the smaller limit, and this one tells the desk's.
use Prim.Native.Nat.{ℕ, ◌*◌}
use mathlib.Core.Path.{◌≡◌, refl, sym, ◌∙◌, ap}
use mathlib.Core.Logic.{◌↔◌}
use mathlib.Core.Bool.{Bool, true, false}
use mathlib.Core.List.{List}
use native.Mathlib.Omega.{arith}
use lib.Dec.{eqb, ltb}
use lib.ListN.{length}
use borrow.Author.Tests.{eqb-true, eqb-false, ne_eqb}
use Rattle.reading.specs.File.{Outcome, accepted, refused, refuse, and_then}
use Rattle.reading.proofs.Basics.Outcomes.{never_accepted, never_refused}
use Rattle.synthesis.specs.Monitor.{most}
use Rattle.synthesis.specs.Building.{Synthesis, synthesis_of, in_table, filling_of, counted_of, preview_limit, on_page, preview_of, preview_filling_of}
use Rattle.synthesis.specs.LimitPromises.{AgreeOn}
use Rattle.synthesis.proofs.Tables.SynthesisOutcomes.{counted_accepts, filling_by_count}
use Rattle.synthesis.proofs.Tables.Limits.{limits_agree}

-- ---- renumbered outcomes

pub page_accepted : (o : Outcome Synthesis) (y : Synthesis) → on_page o ≡ accepted y → o ≡ accepted y
page_accepted (accepted z) y e = e
page_accepted (refused number place) y e = absurd (never_accepted e)

-- a refusal is 18 for 9, or is the same
pub page_refused {ℓ} : {P : Type ℓ} (o : Outcome Synthesis) (number place : ℕ) → on_page o ≡ refused number place
    → (o ≡ refused 9 place → number ≡ 18 → P) → ((number ≡ 9 → ⊥) → o ≡ refused number place → P) → P
page_refused (accepted y) number place e nine other = absurd (never_refused e)
page_refused {P} (refused k q) number place e nine other = on (eqb k 9) refl
  where
    on : (b : Bool) → eqb k 9 ≡ b → P
    on true t =
        let same : ◌≡◌ {A = Outcome Synthesis} (refused 18 q) (refused number place) = rw t at e in
        let z : 18 ≡ number = cc in
        let w : q ≡ place = cc in
        nine (rw (eqb-true k 9 t, w)) (sym z)
    on false f =
        let same : ◌≡◌ {A = Outcome Synthesis} (refused k q) (refused number place) = rw f at e in
        let z : k ≡ number = cc in
        other (λ is. eqb-false k 9 f (z ∙ is)) same

pub page_other : (o : Outcome Synthesis) (number place : ℕ) → (number ≡ 9 → ⊥) → o ≡ refused number place → on_page o ≡ refused number place
page_other o number place other e = rw (e, ne_eqb number 9 other)

-- a table too short is no matter of the page
page_fits : (capacity : ℕ) (o : Outcome Synthesis) → on_page (and_then o (in_table capacity)) ≡ and_then (on_page o) (in_table capacity)
page_fits capacity (accepted y) = on (ltb capacity (256 * length y.equations))
  where
    on : (b : Bool) → on_page (refuse b 10 0 (accepted y)) ≡ refuse b 10 0 (accepted y)
    on true = refl
    on false = refl
page_fits capacity (refused number place) = refl

-- ---- the page and the limits

pub page_agrees : (s : List ℕ) → AgreeOn preview_limit most s
page_agrees s = limits_agree preview_limit most s (omega arith)

pub preview_is : (s : List ℕ) → preview_of s ≡ on_page (synthesis_of preview_limit s)
unfolding preview_of
preview_is s = refl

pub preview_filling-is : (s : List ℕ) (capacity : ℕ) → preview_filling_of s capacity ≡ on_page (filling_of preview_limit s capacity)
unfolding preview_filling_of
preview_filling-is s capacity = refl

pub preview_by_count : (s : List ℕ) (capacity : ℕ) → preview_filling_of s capacity ≡ and_then (preview_of s) (in_table capacity)
preview_by_count s capacity =
    preview_filling-is s capacity ∙ ap on_page (filling_by_count preview_limit s capacity) ∙ page_fits capacity (synthesis_of preview_limit s)
    ∙ ap (λ (o : Outcome Synthesis). and_then o (in_table capacity)) (sym (preview_is s))

-- what the page accepts, the desk accepts
pub preview_accepted : (s : List ℕ) (y : Synthesis) → preview_of s ≡ accepted y → (synthesis_of preview_limit s ≡ accepted y) × (synthesis_of most s ≡ accepted y)
preview_accepted s y e =
    let smaller = page_accepted (synthesis_of preview_limit s) y (sym (preview_is s) ∙ e) in
    (smaller, (page_agrees s).accepts y smaller)

-- the page counts what the smaller limit counts
pub preview_within : (s : List ℕ) (n : ℕ) → (counted_of (preview_of s) ≡ accepted n) ↔ (counted_of (synthesis_of preview_limit s) ≡ accepted n)
preview_within s n = (
  λ e. let (y, is, n-is) = counted_accepts (preview_of s) n e in ap counted_of (preview_accepted s y is).0 ∙ ap accepted (sym n-is),
  λ e. let (y, is, n-is) = counted_accepts (synthesis_of preview_limit s) n e in ap counted_of (preview_is s ∙ ap on_page is) ∙ ap accepted (sym n-is),
)
