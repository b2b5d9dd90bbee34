-- What is matched settles the answer, and the answer tells what was refused, or that nothing was: the cases of both go by the same three outcomes.
use mathlib.Core.Path.{◌≡◌, sym, ◌∙◌}
use mathlib.Core.Logic.{◌↔◌, inl, inr}
use mathlib.Core.List.{List}
use Prim.Native.Nat.{ℕ}
use native.Mathlib.Omega.{arith}
use Rattle.models.specs.Phone.{Phone}
use Rattle.models.specs.Pairs.{Pair, Listed, Matches, Matching, matching, first_refused, second_refused, pairs_refused, matching_of, MatchedAs}
use Rattle.models.specs.MatchPromises.{MatchedExactly, MatchesExactly, AnswersOnce, RepeatsHarmless}
use Rattle.models.proofs.Matchings.AnswerLaws.{matching_accepts}
use Rattle.models.specs.Pairs.{MatchAnswer}

-- ---- one answer

one_answer : (o : Matching) (one other : MatchAnswer) → MatchedAs o one → MatchedAs o other → one ≡ other
one_answer (matching a b ps) one other (inl (is, h)) (inl (is', h')) = is ∙ sym is'
one_answer (matching a b ps) one other (inl (is, h)) (inr (is', none')) = absurd (none' h)
one_answer (matching a b ps) one other (inr (is, none)) (inl (is', h')) = absurd (none h')
one_answer (matching a b ps) one other (inr (is, none)) (inr (is', none')) = is ∙ sym is'
one_answer (first_refused number place) one other is is' = is ∙ sym is'
one_answer (second_refused number place) one other is is' = is ∙ sym is'
one_answer (pairs_refused number place) one other is is' = is ∙ sym is'

pub answers_once : AnswersOnce
answers_once f g l = one_answer (matching_of f g l)

-- ---- yes and no

matched_case : (a b : Phone) (ps : List Pair) (answer : MatchAnswer) → MatchedAs (matching a b ps) answer → MatchedExactly a b ps answer
matched_case a b ps answer (inl (is, h)) = record {
  yes = (λ e. (h.starts, h.bisimulation), λ _. is);
  no = (λ e. absurd (let z : ◌≡◌ {A = ℕ} 0 1 = cc in omega arith), λ differs. absurd (differs (h.starts, h.bisimulation)));
}
matched_case a b ps answer (inr (is, none)) = record {
  yes = (λ e. absurd (let z : ◌≡◌ {A = ℕ} 0 1 = cc in omega arith), λ (starts, bisimulation). absurd (none (record { starts = starts; bisimulation = bisimulation })));
  no = (λ e (starts, bisimulation). none (record { starts = starts; bisimulation = bisimulation }), λ _. is);
}

pub matches_exactly : MatchesExactly
matches_exactly f g l a b ps one other pairs answer matched = matched_case a b ps answer (rw (matching_accepts f g l one other pairs) at matched)

-- the list counts by the pairs that it has
matches_same : (a b : Phone) (ps qs : List Pair) → ((x y : ℕ) → Listed ps x y ↔ Listed qs x y) → Matches a b ps → Matches a b qs
matches_same a b ps qs same h = record {
  starts = (same 0 0).0 h.starts;
  bisimulation = record {
    forth = λ s s' t l r step. let (t', step', r') = h.bisimulation.forth s s' t l ((same s t).1 r) step in (t', step', (same s' t').0 r');
    back = λ s t t' l r step. let (s', step', r') = h.bisimulation.back s t t' l ((same s t).1 r) step in (s', step', (same s' t').0 r');
  };
}

pub repeats_harmless : RepeatsHarmless
repeats_harmless f g l l' a b ps ps' one other pairs pairs' same answer answer' matched matched' =
    one_answer (matching a b ps') answer answer' (on (rw (matching_accepts f g l one other pairs) at matched)) (rw (matching_accepts f g l' one other pairs') at matched')
  where
    on : MatchedAs (matching a b ps) answer → MatchedAs (matching a b ps') answer
    on (inl (is, h)) = inl (is, matches_same a b ps ps' same h)
    on (inr (is, none)) = inr (is, λ h. none (matches_same a b ps' ps (λ x y. ((same x y).1, (same x y).0)) h))
