-- What this crate promises of matching, as statements over the definitions; proofs/ has a theorem of each of these types. They speak of every answer that is as
-- `MatchedAs` says of what `matching_of` makes of three inputs, and so of what `match_models` answers.
use Rattle.std.specs.Prelude.{ℕ, ◌≤◌, ◌≡◌, ◌↔◌, ◌⊎◌, true, false, List, length, take}
use Rattle.reading.specs.Rule.{Rule, All, Bytes}
use Rattle.reading.specs.File.{accepted, refused, and_then, Outcome}
use Rattle.enforcement.specs.Model.{Satisfies, Bisimulation, Bisimilar}
use Rattle.models.specs.Phone.{Phone, model_of, phone_of}
use Rattle.models.specs.Judging.{model_reading_of, judging_of, JudgedAs}
use Rattle.models.specs.Pairs.{Pair, WellFormedPair, encode_pairs, most_pairs, pairs_of, Listed, matching_of, MatchedAs, paper_answer, MatchAnswer, said, refused_first, refused_second, refused_pairs}
use Rattle.models.specs.PairFaults.{PairFault}
use Rattle.models.specs.declared.PhoneModel.{PhoneModel}
use Rattle.models.specs.declared.Judgment.{Judgment}
use Rattle.models.specs.declared.Judgment.TheVariants.{Meets, Breaks}

-- ---- yes and no

-- 1. For models and a list that are accepted the answer is yes exactly where the list has the pair 0, 0 and is a strong bisimulation between the two models, and
-- else no.
pub record MatchedExactly (a b : Phone) (ps : List Pair) (answer : MatchAnswer) : Type 0 where
  pub yes : (answer ≡ said true) ↔ (Listed ps 0 0 × Bisimulation (model_of a) (model_of b) (Listed ps))
  pub no : (answer ≡ said false) ↔ ((Listed ps 0 0 × Bisimulation (model_of a) (model_of b) (Listed ps)) → ⊥)

abbrev pub MatchesExactly : Type 0
MatchesExactly =
    (f g l : List ℕ) (a b : Phone) (ps : List Pair) → phone_of f ≡ accepted a → phone_of g ≡ accepted b → pairs_of l a.states b.states ≡ accepted ps
    → (answer : MatchAnswer) → MatchedAs (matching_of f g l) answer → MatchedExactly a b ps answer

-- Three inputs have one answer.
abbrev pub AnswersOnce : Type 0
AnswersOnce = (f g l : List ℕ) (one other : MatchAnswer) → MatchedAs (matching_of f g l) one → MatchedAs (matching_of f g l) other → one ≡ other

-- 2. Repeats are harmless, and the order of the pairs is, too: two accepted lists with the same pairs have the same answer.
abbrev pub RepeatsHarmless : Type 0
RepeatsHarmless =
    (f g l l' : List ℕ) (a b : Phone) (ps ps' : List Pair) → phone_of f ≡ accepted a → phone_of g ≡ accepted b
    → pairs_of l a.states b.states ≡ accepted ps → pairs_of l' a.states b.states ≡ accepted ps'
    → ((x y : ℕ) → Listed ps x y ↔ Listed ps' x y)
    → (one other : MatchAnswer) → MatchedAs (matching_of f g l) one → MatchedAs (matching_of f g l') other → one ≡ other

-- ---- after a yes

-- 3. After a yes both files are models, which are strongly bisimilar from their starts and satisfy the same rules.
pub record ModelsAlike (f g : List ℕ) : Type 1 where
  pub one : Phone
  pub other : Phone
  pub one_is : phone_of f ≡ accepted one
  pub other_is : phone_of g ≡ accepted other
  pub bisimilar : Bisimilar (model_of one) (model_of other)
  pub same_rules : (r : Rule) → Satisfies (model_of one) r ↔ Satisfies (model_of other) r

abbrev pub MatchedAlike : Type 1
MatchedAlike = (f g l : List ℕ) → MatchedAs (matching_of f g l) (said true) → ModelsAlike f g

-- 4. In terms of judging: where neither judgment is a refusal, the two models get the same one, under any two limits and in any two tables. With one limit and
-- tables of one size the answers are the same in any case, refusals too.
abbrev pub IsJudgment : Outcome Judgment → Type 0
IsJudgment answer = (answer ≡ accepted Meets) ⊎ (answer ≡ accepted Breaks)

pub record JudgedTheSame (f g : List ℕ) : Type 0 where
  pub judgments : (limit limit' : ℕ) (s : List ℕ) (capacity capacity' : ℕ) (one other : Outcome Judgment)
      → JudgedAs (judging_of limit s capacity f) one → JudgedAs (judging_of limit' s capacity' g) other → IsJudgment one → IsJudgment other → one ≡ other
  pub answers : (limit : ℕ) (s : List ℕ) (capacity : ℕ) (one other : Outcome Judgment)
      → JudgedAs (judging_of limit s capacity f) one → JudgedAs (judging_of limit s capacity g) other → one ≡ other

abbrev pub ModelsJudgedAlike : Type 0
ModelsJudgedAlike = (f g l : List ℕ) → MatchedAs (matching_of f g l) (said true) → JudgedTheSame f g

-- 5. A no is about the list, and 4,096 pairs are enough: two models are strongly bisimilar from their starts exactly where some list gets a yes.
abbrev pub SomeListMatches : Type 1
SomeListMatches =
    (f g : List ℕ) (a b : Phone) → Bytes f → Bytes g → phone_of f ≡ accepted a → phone_of g ≡ accepted b
    → Bisimilar (model_of a) (model_of b) ↔ ((l : List ℕ) × Bytes l × MatchedAs (matching_of f g l) (said true))

-- ---- refusals

-- 6. A list is accepted exactly as the bytes of at most 4,096 pairs of states that the models have, and then as those pairs.
pub record PairsEncoded (l : List ℕ) (n n' : ℕ) (ps : List Pair) : Type 0 where
  pub well_formed : All (WellFormedPair n n') ps
  pub few : length ps ≤ most_pairs
  pub bytes_are : l ≡ encode_pairs ps

abbrev pub AcceptsPairs : Type 0
AcceptsPairs = (l : List ℕ) (n n' : ℕ) (ps : List Pair) → (pairs_of l n n' ≡ accepted ps) ↔ PairsEncoded l n n' ps

-- It is refused with a number at a place exactly where a clause of `PairFault` has it so.
abbrev pub RefusesAtThePair : Type 0
RefusesAtThePair = (l : List ℕ) (n n' number place : ℕ) → (pairs_of l n n' ≡ refused number place) ↔ PairFault l n n' number place

-- Which input is refused, with which number and where, by what `read_model` hands up of the two files: the first model exactly where that is refused so; the
-- second where the first is accepted and the second refused so; the list where both are accepted and a clause of `PairFault` has it so. The answer is yes or no
-- exactly where none of them is refused.
pub record RefusedInOrder (one other : Outcome PhoneModel) (l : List ℕ) (answer : MatchAnswer) : Type 0 where
  pub first : (number place : ℕ) → (answer ≡ refused_first number place) ↔ (one ≡ refused number place)
  pub second : (number place : ℕ) → (answer ≡ refused_second number place) ↔ ((a : PhoneModel) × (one ≡ accepted a) × (other ≡ refused number place))
  pub pairs : (number place : ℕ) → (answer ≡ refused_pairs number place)
      ↔ ((a : PhoneModel) × (b : PhoneModel) × (one ≡ accepted a) × (other ≡ accepted b) × PairFault l a.states b.states number place)
  pub none : ((answer ≡ said true) ⊎ (answer ≡ said false))
      ↔ ((a : PhoneModel) × (b : PhoneModel) × (one ≡ accepted a) × (other ≡ accepted b) × ((ps : List Pair) × PairsEncoded l a.states b.states ps))

abbrev pub RefusesPairs : Type 0
RefusesPairs =
    (f g l : List ℕ) (answer : MatchAnswer) → MatchedAs (matching_of f g l) answer
    → RefusedInOrder (model_reading_of (phone_of f)) (model_reading_of (phone_of g)) l answer

-- In the request's terms, which name no input: the number and place are those of the first model, then of the second, then of the list.
abbrev pub RefusesByNumber : Type 0
RefusesByNumber =
    (f g l : List ℕ) (answer : MatchAnswer) → MatchedAs (matching_of f g l) answer → (number place : ℕ) → (paper_answer answer ≡ refused number place)
    ↔ (and_then (phone_of f) (λ a. and_then (phone_of g) (λ b. pairs_of l a.states b.states)) ≡ refused number place)

-- 7. What a list says is settled by its first 8,194 bytes, and not by 8,193.
abbrev pub PairsSettled : Type 0
PairsSettled = (l : List ℕ) (n n' k : ℕ) → 8194 ≤ k → pairs_of (take k l) n n' ≡ pairs_of l n n'

abbrev pub PairsNotByFewer : Type 0
PairsNotByFewer = (l : List ℕ) × (pairs_of (take 8193 l) 1 1 ≡ refused 22 8193) × (pairs_of l 1 1 ≡ refused 24 8192)

-- ---- all of these

-- The theorem `match_promises` has this type, so that each promise has its proof.
pub record MatchPromises : Type 1 where
  pub matches_exactly : MatchesExactly
  pub answers_once : AnswersOnce
  pub repeats_harmless : RepeatsHarmless
  pub matched_alike : MatchedAlike
  pub models_judged_alike : ModelsJudgedAlike
  pub some_list_matches : SomeListMatches
  pub accepts_pairs : AcceptsPairs
  pub refuses_at_the_pair : RefusesAtThePair
  pub refuses_pairs : RefusesPairs
  pub refuses_by_number : RefusesByNumber
  pub pairs_settled : PairsSettled
  pub pairs_not_by_fewer : PairsNotByFewer
