-- Rules that are the same once each formula after a pattern of no kind is tt are alike: each is alike to what is left of it, since such a pattern covers no
-- code; and alikeness goes back, and on from one formula to the next.
use Prim.Native.Nat.{ℕ}
use mathlib.Core.Path.{◌≡◌, refl, sym, subst, ◌∙◌}
use mathlib.Core.Bool.{Bool, true, false, cond}
use mathlib.Core.List.{List}
use lib.Dec.{eqb}
use lib.ListN.{get_or}
use borrow.Author.Tests.{eqb-true}
use Rattle.reading.specs.Rule.{Formula, truth, falsity, both, necessity, max, variable}
use Rattle.reading.specs.Numbered.{no_pattern}
use Rattle.reading.specs.declared.Pattern.{Pattern}
use Rattle.reading.proofs.Measures.Extents.{covers_none}
use Rattle.synthesis.specs.Violation.{covered_by}
use Rattle.synthesis.specs.Alike.{AlikeButAfterEmpty, same_truth, same_falsity, same_both, same_necessity, same_max, same_variable, after_empty}
use Rattle.synthesis.specs.Alike.{trimmed}
use Rattle.synthesis.specs.AlikePromises.{DifferingAlike}
use Rattle.synthesis.proofs.EmptyPatterns.AlikeLaws.{alike_back}

-- what is left of a formula, under one list of patterns
abbrev AlikeIn : List Pattern → Formula → Formula → Type 0
AlikeIn ps = AlikeButAfterEmpty (covered_by ps) (covered_by ps)

trimmed_alike : (ps : List Pattern) (f : Formula) → AlikeIn ps f (trimmed ps f)
trimmed_alike ps truth = same_truth
trimmed_alike ps falsity = same_falsity
trimmed_alike ps (both f g) = same_both (trimmed_alike ps f) (trimmed_alike ps g)
trimmed_alike ps (necessity p f) = on (eqb (get_or ps p no_pattern).mask 0) refl (trimmed_alike ps f)
  where
    on : (b : Bool) → eqb (get_or ps p no_pattern).mask 0 ≡ b → AlikeIn ps f (trimmed ps f)
        → AlikeIn ps (necessity p f) (necessity p (cond b truth (trimmed ps f)))
    on true e below = let none = covers_none (get_or ps p no_pattern) (eqb-true _ 0 e) in after_empty {p = p} {p' = p} none none
    on false e below = same_necessity {p = p} {p' = p} (λ c. refl) below
trimmed_alike ps (max f) = same_max (trimmed_alike ps f)
trimmed_alike ps (variable d) = same_variable

alike_on : {one two three : (pattern code : ℕ) → Bool} {f g h : Formula} → AlikeButAfterEmpty one two f g → AlikeButAfterEmpty two three g h
    → AlikeButAfterEmpty one three f h
alike_on same_truth same_truth = same_truth
alike_on same_falsity same_falsity = same_falsity
alike_on (same_both a b) (same_both c d) = same_both (alike_on a c) (alike_on b d)
alike_on (same_necessity same a) (same_necessity same' b) = same_necessity (λ c. same c ∙ same' c) (alike_on a b)
alike_on (same_necessity same a) (after_empty none none') = after_empty (λ c. same c ∙ none c) none'
alike_on (same_max a) (same_max b) = same_max (alike_on a b)
alike_on same_variable same_variable = same_variable
alike_on (after_empty none none') (same_necessity same b) = after_empty none (λ c. sym (same c) ∙ none' c)
alike_on (after_empty none none') (after_empty more more') = after_empty none more'

pub differing_alike : DifferingAlike
differing_alike r r' differ =
    let one = trimmed_alike r.patterns r.formula in
    let other = alike_back (trimmed_alike r'.patterns r'.formula) in
    let across : AlikeButAfterEmpty (covered_by r.patterns) (covered_by r'.patterns) r.formula (trimmed r'.patterns r'.formula) =
    subst (λ (ps : List Pattern). AlikeButAfterEmpty (covered_by r.patterns) (covered_by ps) r.formula (trimmed r'.patterns r'.formula))
    differ.patterns (subst (AlikeIn r.patterns r.formula) differ.formulas one) in
    alike_on across other
