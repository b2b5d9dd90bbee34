-- What is answered to two model files and a list of pairs, from what they say: a list has one answer, by whether it matches, and so has a refusal. And what
-- holds of every listed pair.
use Prim.Native.Nat.{ℕ}
use mathlib.Core.Path.{◌≡◌}
use mathlib.Core.Logic.{◌↔◌, inl, inr}
use mathlib.Core.Bool.{true, false}
use mathlib.Core.List.{List, [], ◌∷◌}
use Rattle.reading.specs.Rule.{All}
use Rattle.reading.specs.File.{Outcome, accepted, by_case}
use Rattle.models.specs.Phone.{Phone, phone_of}
use Rattle.models.specs.Pairs.{Pair, pairs_of, Listed, Matches, Matching, matching, first_refused, second_refused, pairs_refused, matching_of, MatchedAs}
use Rattle.models.specs.Pairs.{MatchAnswer, said, refused_first, refused_second, refused_pairs}
use Rattle.examples.specs.MatchingExamples.{Answers}

-- what holds of every pair of a list
pub every_pair : (P : ℕ → ℕ → Type 0) (ps : List Pair) → All (λ p. P p.first p.second) ps → {x y : ℕ} → Listed ps x y → P x y
every_pair P [] all h = absurd h
every_pair P (p ∷ ps) all (inl h) = rw (← h.0, ← h.1) all.0
every_pair P (p ∷ ps) all (inr h) = every_pair P ps all.1 h

module _ (f g l : List ℕ) where
  -- what the three inputs say decides which answers there are
  only_answer : {m : Matching} {answer : MatchAnswer} → matching_of f g l ≡ m → ((r : MatchAnswer) → MatchedAs m r ↔ (r ≡ answer)) → Answers f g l answer
  only_answer read only = record { only = λ r. rw read (only r) }

  -- ---- accepted

  module _ {a b : Phone} {ps : List Pair} (read : matching_of f g l ≡ matching a b ps) where
    pub answers_yes : Matches a b ps → Answers f g l (said true)
    answers_yes m = only_answer read (λ r. (on r, λ e. inl (e, m)))
      where
        on : (r : MatchAnswer) → MatchedAs (matching a b ps) r → r ≡ said true
        on r (inl x) = x.0
        on r (inr x) = absurd (x.1 m)

    pub answers_no : (Matches a b ps → ⊥) → Answers f g l (said false)
    answers_no none = only_answer read (λ r. (on r, λ e. inr (e, none)))
      where
        on : (r : MatchAnswer) → MatchedAs (matching a b ps) r → r ≡ said false
        on r (inl x) = absurd (none x.1)
        on r (inr x) = x.0

  -- by the list, where the files are accepted
  pub matching_by_pairs : {a b : Phone} {o : Outcome (List Pair)} → phone_of f ≡ accepted a → phone_of g ≡ accepted b
      → pairs_of l a.states b.states ≡ o → matching_of f g l ≡ by_case (matching a b) pairs_refused o
  unfolding matching_of
  matching_by_pairs first second pairs = rw (first, second, pairs)

  -- ---- refused

  module _ (number place : ℕ) where
    pub answers_first : matching_of f g l ≡ first_refused number place → Answers f g l (refused_first number place)
    answers_first read = only_answer read (λ r. (λ e. e, λ e. e))

    pub answers_second : matching_of f g l ≡ second_refused number place → Answers f g l (refused_second number place)
    answers_second read = only_answer read (λ r. (λ e. e, λ e. e))

    pub answers_pairs : matching_of f g l ≡ pairs_refused number place → Answers f g l (refused_pairs number place)
    answers_pairs read = only_answer read (λ r. (λ e. e, λ e. e))
