-- The order of refusals in matching: the first model, the second, and then the list. The answer goes by the three outcomes, case by case, and so tells them.
use mathlib.Core.Path.{◌≡◌, refl, sym, ◌∙◌}
use mathlib.Core.Logic.{◌↔◌, ◌⊎◌, inl, inr}
use mathlib.Core.Bool.{true, false}
use mathlib.Core.List.{List}
use Prim.Native.Nat.{ℕ}
use native.Mathlib.Omega.{arith}
use Rattle.reading.specs.File.{Outcome, accepted, refused, and_then, by_case}
use Rattle.reading.proofs.Basics.Outcomes.{accepted_is, never_accepted, never_refused}
use Rattle.models.specs.Phone.{Phone, phone_of}
use Rattle.models.specs.Judging.{stored, model_reading_of}
use Rattle.models.specs.Pairs.{Pair, pairs_of, Matching, matching, first_refused, second_refused, pairs_refused, matching_of, MatchedAs, paper_answer}
use Rattle.models.specs.MatchPromises.{RefusedInOrder, RefusesPairs, RefusesByNumber}
use Rattle.models.proofs.Matchings.PairLists.{accepts_pairs, refuses_at_the_pair}
use Rattle.models.specs.Pairs.{MatchAnswer, said}

-- two cases that are apart
apart : {A : Type 0} → ◌≡◌ {A = ℕ} 0 1 → A
apart z = absurd (omega arith)

-- an answer that is yes or no, and no other than these
not_judged : {A : Type 0} (answer x : MatchAnswer) → ((said true) ≡ x → ◌≡◌ {A = ℕ} 0 1) → ((said false) ≡ x → ◌≡◌ {A = ℕ} 0 1) → answer ≡ x → (answer ≡ said true) ⊎ (answer ≡ said false) → A
not_judged answer x not_yes not-no e (inl is) = apart (not_yes (sym is ∙ e))
not_judged answer x not_yes not-no e (inr is) = apart (not-no (sym is ∙ e))

judged : (a b : Phone) (ps : List Pair) (answer : MatchAnswer) → MatchedAs (matching a b ps) answer → (answer ≡ said true) ⊎ (answer ≡ said false)
judged a b ps answer (inl (is, h)) = inl is
judged a b ps answer (inr (is, none)) = inr is

-- ---- by the outcome of the list

module _ (a b : Phone) (l : List ℕ) (answer : MatchAnswer) where
  pairs_in_order : (o : Outcome (List Pair)) → pairs_of l a.states b.states ≡ o → MatchedAs (by_case (matching a b) pairs_refused o) answer
      → RefusedInOrder (model_reading_of (accepted a)) (model_reading_of (accepted b)) l answer
  pairs_in_order (accepted ps) read matched =
      let is = judged a b ps answer matched in
      record {
        first = λ number place. (λ e. not_judged answer _ (λ q. cc) (λ q. cc) e is, λ e. absurd (never_refused e));
        second = λ number place. (λ e. not_judged answer _ (λ q. cc) (λ q. cc) e is, λ (m, one, other). absurd (never_refused other));
        pairs = λ number place. (
          λ e. not_judged answer _ (λ q. cc) (λ q. cc) e is,
          λ (m, m', one, other, fault).
              absurd (never_accepted (sym ((refuses_at_the_pair l _ _ number place).1 (rw (← accepted_is one, ← accepted_is other) at fault)) ∙ read)),
        );
        none = (λ e. (stored a, stored b, refl, refl, (ps, (accepts_pairs l _ _ ps).0 read)), λ e. is);
      }
  pairs_in_order (refused number place) read is = record {
    first = λ number' place'. (λ e. apart (cc), λ e. absurd (never_refused e));
    second = λ number' place'. (λ e. apart (cc), λ (m, one, other). absurd (never_refused other));
    pairs = λ number' place'. (
      λ e.
          let same : number ≡ number' = cc in
          let same' : place ≡ place' = cc in
          (stored a, stored b, refl, refl, (refuses_at_the_pair l _ _ number' place').0 (read ∙ rw (same, same'))),
      λ (m, m', one, other, fault).
          let told = sym ((refuses_at_the_pair l _ _ number' place').1 (rw (← accepted_is one, ← accepted_is other) at fault)) ∙ read in is ∙ cc,
    );
    none = (
      not_judged answer _ (λ q. cc) (λ q. cc) is,
      λ (m, m', one, other, (ps, encoded)).
          absurd (never_accepted (sym read ∙ (accepts_pairs l _ _ ps).1 (rw (← accepted_is one, ← accepted_is other) at encoded))),
    );
  }

-- ---- by those of the models

module _ (l : List ℕ) (answer : MatchAnswer) where
  -- what is matched of three outcomes
  abbrev matched_by : (one other : Outcome Phone) → Matching
  matched_by one other = by_case (λ a. by_case (λ b. by_case (matching a b) pairs_refused (pairs_of l a.states b.states)) second_refused other) first_refused one

  in_order : (one other : Outcome Phone) → MatchedAs (matched_by one other) answer → RefusedInOrder (model_reading_of one) (model_reading_of other) l answer
  in_order (refused number place) other is = record {
    first = λ number' place'. (λ e. cc, λ e. is ∙ cc);
    second = λ number' place'. (λ e. apart (cc), λ (m, one, other). absurd (never_accepted one));
    pairs = λ number' place'. (λ e. apart (cc), λ (m, m', one, other, rest). absurd (never_accepted one));
    none = (not_judged answer _ (λ q. cc) (λ q. cc) is, λ (m, m', one, other, rest). absurd (never_accepted one));
  }
  in_order (accepted a) (refused number place) is = record {
    first = λ number' place'. (λ e. apart (cc), λ e. absurd (never_refused e));
    second = λ number' place'. (λ e. (stored a, refl, cc), λ (m, one, other). is ∙ cc);
    pairs = λ number' place'. (λ e. apart (cc), λ (m, m', one, other, rest). absurd (never_accepted other));
    none = (not_judged answer _ (λ q. cc) (λ q. cc) is, λ (m, m', one, other, rest). absurd (never_accepted other));
  }
  in_order (accepted a) (accepted b) matched = pairs_in_order a b l answer (pairs_of l a.states b.states) refl matched

pub refuses_pairs : RefusesPairs
unfolding matching_of
refuses_pairs f g l answer matched = in_order l answer (phone_of f) (phone_of g) matched

-- ---- by the numbers alone

module _ (answer : MatchAnswer) where
  pairs_by_number : (a b : Phone) (o : Outcome (List Pair)) → MatchedAs (by_case (matching a b) pairs_refused o) answer
      → (number place : ℕ) → (paper_answer answer ≡ refused number place) ↔ (o ≡ refused number place)
  pairs_by_number a b (accepted ps) (inl (is, h)) number place = rw is (λ e. absurd (never_refused e), λ e. absurd (never_refused e))
  pairs_by_number a b (accepted ps) (inr (is, none)) number place = rw is (λ e. absurd (never_refused e), λ e. absurd (never_refused e))
  pairs_by_number a b (refused m at) is number place = rw is (λ e. cc, λ e. cc)

  by_number : (l : List ℕ) (one other : Outcome Phone) → MatchedAs (matched_by l answer one other) answer → (number place : ℕ)
      → (paper_answer answer ≡ refused number place) ↔ (and_then one (λ a. and_then other (λ b. pairs_of l a.states b.states)) ≡ refused number place)
  by_number l (refused m at) other is number place = rw is (λ e. cc, λ e. cc)
  by_number l (accepted a) (refused m at) is number place = rw is (λ e. cc, λ e. cc)
  by_number l (accepted a) (accepted b) matched number place = pairs_by_number a b (pairs_of l a.states b.states) matched number place

pub refuses_by_number : RefusesByNumber
unfolding matching_of
refuses_by_number f g l answer matched = by_number answer l (phone_of f) (phone_of g) matched
