-- Pairs of states of two models: what the bytes of a list of pairs say, when such a list matches the two models, and what `match_models` answers to two
-- model files and a list. The checks of a pair stand in the request's order, a line each. l is the list's bytes, `at` the place of a pair, n and n' are the
-- counts of states of the first and of the second model.
use Rattle.std.specs.Prelude.{ℕ, zero, suc, ◌+◌, ◌<◌, ◌≡◌, ◌⊎◌, Bool, true, false, cond, List, [], ◌∷◌, eqb, ltb, leb, length, get_or, Result, Ok, Err}
use Rattle.reading.specs.Rule.{encode_each}
use Rattle.reading.specs.File.{Outcome, accepted, refused, refuse, and_then, by_case}
use Rattle.synthesis.specs.Joined.{Some}
use Rattle.enforcement.specs.Model.{Bisimulation}
use Rattle.models.specs.Phone.{Phone, model_of, phone_of}
use Rattle.reading.specs.Refusals.{number}
use Rattle.models.specs.declared.MatchError.{MatchError}
use Rattle.models.specs.declared.MatchError.TheVariants.{First, Second, Pairs}

-- ---- pairs and their bytes

-- a state of the first model, and one of the second
pub record Pair : Type 0 where
  pub first : ℕ
  pub second : ℕ

-- The two models have the states.
pub record WellFormedPair (n n' : ℕ) (p : Pair) : Type 0 where
  pub first : p.first < n
  pub second : p.second < n'

-- two bytes, first model then second
abbrev pub pair_bytes : Pair → List ℕ
pair_bytes p = p.first ∷ p.second ∷ []

abbrev pub encode_pairs : List Pair → List ℕ
encode_pairs = encode_each pair_bytes

-- how many pairs a list may have
abbrev pub most_pairs : ℕ
most_pairs = 4096

-- ---- what a list of pairs says

-- The pair at `at`, with `left` of them left.
abbrev pub pair_at : List ℕ → (n n' at left : ℕ) → Outcome Pair
pair_at l n n' at left =
    let x = get_or l at 0 in
    let y = get_or l (at + 1) 0 in
    refuse (leb (length l) (at + 1)) 22 (length l)
    (refuse (leb n x) 23 at
    (refuse (leb n' y) 23 at
    (refuse (eqb left 0) 24 at
    (accepted (record { first = x; second = y })))))

-- The pairs from `at` to the end. Where none is left no pair is accepted, so what is said of one there never counts.
unfoldable pub pairs_at : (left : ℕ) → List ℕ → (n n' at : ℕ) → Outcome (List Pair)
pairs_at zero l n n' at =
    cond (ltb at (length l))
    (and_then (pair_at l n n' at zero) (λ p. accepted (p ∷ [])))
    (accepted [])
pairs_at (suc left) l n n' at =
    cond (ltb at (length l))
    (and_then (pair_at l n n' at (suc left)) (λ p. and_then (pairs_at left l n n' (at + 2)) (λ ps. accepted (p ∷ ps))))
    (accepted [])

-- the whole list
abbrev pub pairs_of : List ℕ → (n n' : ℕ) → Outcome (List Pair)
pairs_of l n n' = pairs_at most_pairs l n n' 0

-- ---- when it matches two models

-- The list has the pair of x and y.
abbrev pub Listed : List Pair → (x y : ℕ) → Type 0
Listed ps x y = Some (λ p. (p.first ≡ x) × (p.second ≡ y)) ps

-- It has the pair of the starts, and is a strong bisimulation between the two models. Every listed pair counts, whether or not the starts lead to it.
pub record Matches (a b : Phone) (ps : List Pair) : Type 0 where
  pub starts : Listed ps 0 0
  pub bisimulation : Bisimulation (model_of a) (model_of b) (Listed ps)

-- ---- what is answered

-- Two models and a list of pairs that were accepted, or which of the three was refused, with the paper's number and place.
pub data Matching : Type 0 where
  matching : (first second : Phone) → (pairs : List Pair) → Matching
  first_refused : (number place : ℕ) → Matching
  second_refused : (number place : ℕ) → Matching
  pairs_refused : (number place : ℕ) → Matching

-- 11 to 14 of the first file come first, then 11 to 14 of the second, and then 22 to 24 of the list.
unfoldable pub matching_of : (first second pairs : List ℕ) → Matching
matching_of f g l =
    by_case (λ a.
    by_case (λ b.
    by_case (matching a b) pairs_refused (pairs_of l a.states b.states))
    second_refused (phone_of g))
    first_refused (phone_of f)

-- What is said: yes or no, or which of the three was refused, with the paper's number and place.
pub data MatchAnswer : Type 0 where
  said : Bool → MatchAnswer
  refused_first : (number place : ℕ) → MatchAnswer
  refused_second : (number place : ℕ) → MatchAnswer
  refused_pairs : (number place : ℕ) → MatchAnswer

abbrev pub error_answer : MatchError → MatchAnswer
error_answer (First r) = refused_first (number r.fault) r.place
error_answer (Second r) = refused_second (number r.fault) r.place
error_answer (Pairs r) = refused_pairs (number r.fault) r.place

-- what a result says
abbrev pub match_answer : Result Bool MatchError → MatchAnswer
match_answer (Ok matched) = said matched
match_answer (Err e) = error_answer e

-- The answer to each: yes where the list matches the models, no where it doesn't, or the refusal.
abbrev pub MatchedAs : Matching → MatchAnswer → Type 0
MatchedAs (matching a b ps) answer =
    ((answer ≡ said true) × Matches a b ps)
    ⊎ ((answer ≡ said false) × (Matches a b ps → ⊥))
MatchedAs (first_refused number place) answer = answer ≡ refused_first number place
MatchedAs (second_refused number place) answer = answer ≡ refused_second number place
MatchedAs (pairs_refused number place) answer = answer ≡ refused_pairs number place

-- The answer in the request's terms: yes or no, or the number and place of a refusal, whichever input it is about.
abbrev pub paper_answer : MatchAnswer → Outcome Bool
paper_answer (said true) = accepted true
paper_answer (said false) = accepted false
paper_answer (refused_first number place) = refused number place
paper_answer (refused_second number place) = refused number place
paper_answer (refused_pairs number place) = refused number place
