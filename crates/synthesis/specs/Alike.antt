-- Rules that differ only in formulas after empty patterns. Patterns are compared by what they cover, so the numbers and the lists of patterns may differ.
use Rattle.std.specs.Prelude.{ℕ, suc, ◌+◌, ◌<◌, ◌≡◌, Bool, false, cond, List, eqb, get_or}
use Rattle.reading.specs.Rule.{Formula, truth, falsity, both, necessity, max, variable, size, Rule}
use Rattle.reading.specs.Numbered.{no_pattern}
use Rattle.reading.specs.Nodes.{EnclosingMax, Node}
use Rattle.reading.specs.declared.Pattern.{Pattern}
use Rattle.synthesis.specs.Violation.{covered_by}

-- a pattern is empty: it covers no code
abbrev pub CoversNone : (covered : (pattern code : ℕ) → Bool) → (pattern : ℕ) → Type 0
CoversNone covered p = (c : ℕ) → covered p c ≡ false

-- Two formulas, each with what its patterns cover, have the same shape, and at each necessity the two patterns cover the same codes; but after two empty
-- patterns anything may stand.
pub data AlikeButAfterEmpty (covered covered' : (pattern code : ℕ) → Bool) : Formula → Formula → Type 0 where
  same_truth : AlikeButAfterEmpty covered covered' truth truth
  same_falsity : AlikeButAfterEmpty covered covered' falsity falsity
  same_both : {f g f' g' : Formula} → AlikeButAfterEmpty covered covered' f f' → AlikeButAfterEmpty covered covered' g g'
      → AlikeButAfterEmpty covered covered' (both f g) (both f' g')
  same_necessity : {p p' : ℕ} {f f' : Formula} → ((c : ℕ) → covered p c ≡ covered' p' c) → AlikeButAfterEmpty covered covered' f f'
      → AlikeButAfterEmpty covered covered' (necessity p f) (necessity p' f')
  same_max : {f f' : Formula} → AlikeButAfterEmpty covered covered' f f' → AlikeButAfterEmpty covered covered' (max f) (max f')
  same_variable : {d : ℕ} → AlikeButAfterEmpty covered covered' (variable d) (variable d)
  after_empty : {p p' : ℕ} {f f' : Formula} → CoversNone covered p → CoversNone covered' p'
      → AlikeButAfterEmpty covered covered' (necessity p f) (necessity p' f')

-- two rules are alike but after empty patterns
abbrev pub RulesAlike : Rule → Rule → Type 0
RulesAlike r r' = AlikeButAfterEmpty (covered_by r.patterns) (covered_by r'.patterns) r.formula r'.formula

-- a formula with tt in the place of each formula after a pattern of no kind
abbrev pub trimmed : List Pattern → Formula → Formula
trimmed ps truth = truth
trimmed ps falsity = falsity
trimmed ps (both f g) = both (trimmed ps f) (trimmed ps g)
trimmed ps (necessity p f) = necessity p (cond (eqb (get_or ps p no_pattern).mask 0) truth (trimmed ps f))
trimmed ps (max f) = max (trimmed ps f)
trimmed ps (variable d) = variable d

-- The rules that the request names: they have the same patterns, and are the same once those formulas are gone. Such rules are alike, which is proved; more
-- are, since alike rules may have other patterns that cover the same codes.
pub record DifferAfterEmpty (r r' : Rule) : Type 0 where
  pub patterns : r.patterns ≡ r'.patterns
  pub formulas : trimmed r.patterns r.formula ≡ trimmed r'.patterns r'.formula

-- Node m of a rule stands after an empty pattern: in the formula after a necessity whose pattern is empty.
pub record AfterEmpty (r : Rule) (m : ℕ) : Type 0 where
  pub k : ℕ
  pub ms : List EnclosingMax
  pub pattern : ℕ
  pub formula : Formula
  pub node : Node r.formula k ms (necessity pattern formula)
  pub empty : CoversNone (covered_by r.patterns) pattern
  pub after : k < m
  pub inside : m < k + suc (size formula)
