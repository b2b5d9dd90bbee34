-- After a yes the list relates the starts by a strong bisimulation, so the two models are bisimilar, and bisimilar models satisfy the same rules. Judging says exactly
-- whether a model satisfies the rule of a file, and what it refuses before it reads the model doesn't hang on the model.
use mathlib.Core.Path.{◌≡◌, refl, sym, ◌∙◌, ap}
use mathlib.Core.Logic.{inl, inr}
use mathlib.Core.Bool.{true}
use mathlib.Core.List.{List}
use Prim.Native.Nat.{ℕ}
use native.Mathlib.Omega.{arith}
use Rattle.reading.specs.File.{Outcome, accepted, refused, rule_of}
use Rattle.reading.proofs.Basics.Outcomes.{accepted_is}
use Rattle.synthesis.specs.Building.{Synthesis, filling_of}
use Rattle.synthesis.proofs.Tables.SynthesisOutcomes.{synthesis_accepts, filling_by_count, filling_accepted}
use Rattle.enforcement.specs.Model.{Bisimilar}
use Rattle.enforcement.proofs.BisimulationLaws.{bisimilar_alike}
use Rattle.models.specs.Phone.{model_of, phone_of}
use Rattle.models.specs.Judging.{judging_of, JudgedAs}
use Rattle.models.specs.Pairs.{pairs_of, Listed, said}
use Rattle.models.specs.MatchPromises.{ModelsAlike, MatchedAlike, IsJudgment, ModelsJudgedAlike}
use Rattle.models.specs.declared.PhoneModel.{PhoneModel}
use Rattle.models.proofs.Files.Encoding.{phone_accepted}
use Rattle.models.proofs.Judgments.JudgingOrder.{judging_refused, judging_accepts}
use Rattle.models.proofs.Judgments.JudgingLaws.{judged_same}
use Rattle.models.proofs.Matchings.PairLists.{accepts_pairs}
use Rattle.models.proofs.Matchings.OneAnswer.{matches_exactly}
use Rattle.models.proofs.Matchings.RefusalOrder.{refuses_pairs}
use Rattle.models.specs.declared.Judgment.{Judgment}

pub matched_alike : MatchedAlike
matched_alike f g l told =
    let (m, m', first, second, (ps, encoded)) = (refuses_pairs f g l (said true) told).none.0 (inl refl) in
    let (a, one, stored) = phone_accepted (phone_of f) first in
    let (b, other, stored') = phone_accepted (phone_of g) second in
    let read : pairs_of l a.states b.states ≡ accepted ps =
    rw (ap (λ (m : PhoneModel). m.states) stored, ap (λ (m : PhoneModel). m.states) stored') at ((accepts_pairs l _ _ ps).1 encoded) in
    let (starts, bisimulation) = (matches_exactly f g l a b ps one other read (said true) told).yes.0 refl in
    let bisimilar : Bisimilar (model_of a) (model_of b) = (Listed ps, bisimulation, starts) in
    record {
      one = a;
      other = b;
      one_is = one;
      other_is = other;
      bisimilar = bisimilar;
      same_rules = bisimilar_alike (model_of a) (model_of b) bisimilar;
    }

-- ---- judging the two

-- the rule of what is filled is the file's
filled_rule : (limit : ℕ) (s : List ℕ) (capacity : ℕ) (y : Synthesis) → filling_of limit s capacity ≡ accepted y → rule_of s ≡ accepted y.rule
filled_rule limit s capacity y e =
    synthesis_accepts limit s (λ y. rule_of s ≡ accepted y.rule) (λ r read satisfiable few. read) y
    (filling_accepted capacity (filling_by_count limit s capacity) y e).0

-- a refusal is no judgment
refused_no_judgment : {A : Type 0} {answer : Outcome Judgment} {number place : ℕ} → answer ≡ refused number place → IsJudgment answer → A
refused_no_judgment e (inl meets) = absurd (let z : ◌≡◌ {A = ℕ} 0 1 = cc in omega arith)
refused_no_judgment e (inr breaks) = absurd (let z : ◌≡◌ {A = ℕ} 0 1 = cc in omega arith)

module _ (f g : List ℕ) (alike : ModelsAlike f g) (limit : ℕ) (s : List ℕ) (capacity : ℕ) (one other : Outcome Judgment) (first : JudgedAs (judging_of limit s capacity f) one) where
  answers_same : JudgedAs (judging_of limit s capacity g) other → one ≡ other
  answers_same second = on (filling_of limit s capacity) refl
    where
      on : (o : Outcome Synthesis) → filling_of limit s capacity ≡ o → one ≡ other
      on (accepted y) e =
          judged_same y.rule y.rule alike.one alike.other (alike.same_rules y.rule) one other
          (rw (judging_accepts limit s capacity e f alike.one_is) at first) (rw (judging_accepts limit s capacity e g alike.other_is) at second)
      on (refused number place) e = rw (judging_refused limit s capacity e f) at first ∙ sym (rw (judging_refused limit s capacity e g) at second)

  judgments_same : (limit' capacity' : ℕ) → JudgedAs (judging_of limit' s capacity' g) other → IsJudgment one → IsJudgment other → one ≡ other
  judgments_same limit' capacity' second is is' = on (filling_of limit s capacity) (filling_of limit' s capacity') refl refl
    where
      on : (o o' : Outcome Synthesis) → filling_of limit s capacity ≡ o → filling_of limit' s capacity' ≡ o' → one ≡ other
      on (accepted y) (accepted y') e e' =
          let same : y'.rule ≡ y.rule = accepted_is (sym (filled_rule limit' s capacity' y' e') ∙ filled_rule limit s capacity y e) in
          judged_same y.rule y'.rule alike.one alike.other (rw same (alike.same_rules y.rule)) one other
          (rw (judging_accepts limit s capacity e f alike.one_is) at first) (rw (judging_accepts limit' s capacity' e' g alike.other_is) at second)
      on (refused number place) o' e e' = refused_no_judgment (rw (judging_refused limit s capacity e f) at first) is
      on (accepted y) (refused number place) e e' = refused_no_judgment (rw (judging_refused limit' s capacity' e' g) at second) is'

pub models_judged_alike : ModelsJudgedAlike
models_judged_alike f g l told =
    let alike = matched_alike f g l told in
    record {
      judgments = λ limit limit' s capacity capacity' one other first second is is'.
          judgments_same f g alike limit s capacity one other first limit' capacity' second is is';
      answers = λ limit s capacity one other first second. answers_same f g alike limit s capacity one other first second;
    }
