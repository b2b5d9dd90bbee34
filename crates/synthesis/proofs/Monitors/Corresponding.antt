-- Two monitors whose equations correspond one to one: a relation that has their first equations, goes from each pair to the pairs of what both answer, and
-- pairs no equation with two.
use Prim.Native.Nat.{ℕ, ◌<◌}
use mathlib.Core.Path.{◌≡◌, refl, sym, ◌∙◌}
use Rattle.synthesis.specs.Monitor.{Answer, dropped, next}

module _ (codes : ℕ) (answer answer' : ℕ → ℕ → Answer ℕ) (R : ℕ → ℕ → Type 0) where
  -- what two equations of a pair answer to a code
  pub data BothAnswer : Answer ℕ → Answer ℕ → Type 0 where
    both_dropped : BothAnswer dropped dropped
    both_next : {e e' : ℕ} → R e e' → BothAnswer (next e) (next e')

  pub record Corresponds (first first' : ℕ) : Type 0 where
    pub starts : R first first'
    pub steps : (e e' c : ℕ) → R e e' → c < codes → BothAnswer (answer e c) (answer' e' c)
    pub one_other : (e e' e'' : ℕ) → R e e' → R e e'' → e' ≡ e''
    pub other_one : (e d e' : ℕ) → R e e' → R d e' → e ≡ d

-- ---- the other way round, and where both lead

module _ {codes : ℕ} {answer answer' : ℕ → ℕ → Answer ℕ} {R : ℕ → ℕ → Type 0} where
  both_answer_back : {a a' : Answer ℕ} → BothAnswer codes answer answer' R a a' → BothAnswer codes answer' answer (λ e' e. R e e') a' a
  both_answer_back both_dropped = both_dropped
  both_answer_back (both_next pair) = both_next pair

  -- what the one leads to is paired with what the other leads to
  pub both_lead : {e e' : ℕ} → BothAnswer codes answer answer' R (next e) (next e') → R e e'
  both_lead (both_next pair) = pair

  -- where the one leads on, the other does
  other_leads : {e : ℕ} {a' : Answer ℕ} → BothAnswer codes answer answer' R (next e) a' → (e' : ℕ) × (a' ≡ next e') × R e e'
  other_leads (both_next {e' = e'} pair) = (e', refl, pair)

  module _ {first first' : ℕ} (both : Corresponds codes answer answer' R first first') where
    pub corresponds_back : Corresponds codes answer' answer (λ e' e. R e e') first' first
    corresponds_back = record {
      starts = both.starts;
      steps = λ e' e c pair b. both_answer_back (both.steps e e' c pair b);
      one_other = λ e' e d pair pair'. both.other_one e d e' pair pair';
      other_one = λ e' d' e pair pair'. both.one_other e e' d' pair pair';
    }

    pub leads_on : {e e' c d : ℕ} → R e e' → c < codes → answer e c ≡ next d → (d' : ℕ) × (answer' e' c ≡ next d') × R d d'
    leads_on {e} {e'} {c} pair b q = other_leads (rw q at (both.steps e e' c pair b))

-- each monitor corresponds to itself, each equation to itself
pub corresponds_same : (codes : ℕ) (answer : ℕ → ℕ → Answer ℕ) (first : ℕ) → Corresponds codes answer answer (λ e d. e ≡ d) first first
corresponds_same codes answer first = record {
  starts = refl;
  steps = λ e d c same b. rw same (both_same (answer d c));
  one_other = λ e d d' same same'. sym same ∙ same';
  other_one = λ e d e' same same'. same ∙ sym same';
}
  where
    both_same : (a : Answer ℕ) → BothAnswer codes answer answer (λ e d. e ≡ d) a a
    both_same dropped = both_dropped
    both_same (next e) = both_next refl
