-- What the files and the lists say is computed. A list that matches is a bisimulation by cases over its pairs and the steps of the two phones; one that
-- doesn't match lacks the pair of the starts, or has a pair with a step without a partner.
use Prim.Native.Nat.{ℕ, zero, suc, ◌<◌}
use mathlib.Core.Path.{◌≡◌, refl, sym, subst}
use mathlib.Core.Logic.{inl, inr}
use mathlib.Core.Bool.{true}
use mathlib.Core.List.{List, [], ◌∷◌}
use native.Mathlib.Omega.{arith}
use lib.ListN.{replicate}
use Rattle.reading.specs.Rule.{All}
use Rattle.reading.specs.File.{accepted, refused, records_at}
use Rattle.enforcement.specs.Model.{Label, silent, code, Bisimulation}
use Rattle.models.specs.Phone.{Phone, label_of, StepIn, model_of, states_of, phone_of}
use Rattle.models.specs.Pairs.{Pair, pairs_at, pairs_of, Listed, Matches, matching_of, said, refused_pairs}
use Rattle.models.specs.declared.Step.{Step}
use Rattle.examples.specs.ModelExamples.{step, still_phone}
use Rattle.examples.specs.PatternMeaning.{repeating_phone}
use Rattle.examples.specs.RefusalExamples.{times}
use Rattle.examples.specs.MatchingExamples.{pair, Answers, turning_phone, Simplified, spare_phone, Spare, still_file, Partners, MatchingRefusals, MatchingExamples}
use Rattle.examples.proofs.PhoneSteps.{step_at_lem, every_step}
use Rattle.examples.proofs.MatchingAnswers.{every_pair, answers_yes, answers_no, answers_first, answers_second, answers_pairs, matching_by_pairs}
use Rattle.examples.proofs.FullPairs.{pairs_4096, half_4097, state_4097, pair_4097}

-- ---- the steps of the phones

data Turning : ℕ → Label → ℕ → Type 0 where
  goes : Turning 0 (code 5) 1
  returns : Turning 1 (code 5) 0

turning_step : {s t : ℕ} {a : Label} → StepIn turning_phone.steps s a t → Turning s a t
turning_step = every_step Turning turning_phone.steps (goes, (returns, tt))

-- the only step of a phone that repeats a label
data Repeating (label : ℕ) : ℕ → Label → ℕ → Type 0 where
  repeats : Repeating label 0 (label_of label) 0

repeating_step : (label : ℕ) {s t : ℕ} {a : Label} → StepIn (repeating_phone label).steps s a t → Repeating label s a t
repeating_step label = every_step (Repeating label) (repeating_phone label).steps (repeats, tt)

repeating_from : (label : ℕ) {s t : ℕ} {a : Label} → StepIn (repeating_phone label).steps s a t → s ≡ 0
repeating_from label = every_step (λ s a t. s ≡ 0) (repeating_phone label).steps (refl, tt)

repeated_step : (label : ℕ) → StepIn (repeating_phone label).steps 0 (label_of label) 0
repeated_step label = step_at_lem (repeating_phone label).steps 0 (omega arith)

-- ---- two states that turn match one

data Folded : ℕ → ℕ → Type 0 where
  at_0 : Folded 0 0
  at_1 : Folded 1 0

module _ (ps : List Pair) (has-0 : Listed ps 0 0) (has_1 : Listed ps 1 0) (only : All (λ p. Folded p.first p.second) ps) where
  forth : {s s' t : ℕ} {a : Label} → Folded s t → Turning s a s' → (t' : ℕ) × StepIn (repeating_phone 5).steps t a t' × Listed ps s' t'
  forth at_0 goes = (0, repeated_step 5, has_1)
  forth at_1 returns = (0, repeated_step 5, has-0)

  back : {s t t' : ℕ} {a : Label} → Folded s t → Repeating 5 t a t' → (s' : ℕ) × StepIn turning_phone.steps s a s' × Listed ps s' t'
  back at_0 repeats = (1, step_at_lem turning_phone.steps 0 (omega arith), has_1)
  back at_1 repeats = (0, step_at_lem turning_phone.steps 1 (omega arith), has-0)

  -- also with states that no step names
  matches_folded : (n : ℕ) → Matches turning_phone (record { states = n; steps = (repeating_phone 5).steps }) ps
  matches_folded n = record {
    starts = has-0;
    bisimulation = record {
      forth = λ s s' t a x h. forth (every_pair Folded ps only x) (turning_step h);
      back = λ s t t' a x h. back (every_pair Folded ps only x) (repeating_step 5 h);
    };
  }

both_pairs : (n : ℕ) → Matches turning_phone (record { states = n; steps = (repeating_phone 5).steps }) (pair 0 0 ∷ pair 1 0 ∷ [])
both_pairs = matches_folded (pair 0 0 ∷ pair 1 0 ∷ []) (inl (refl, refl)) (inr (inl (refl, refl))) (at_0, (at_1, tt))

repeated : Matches turning_phone (repeating_phone 5) (pair 1 0 ∷ pair 0 0 ∷ pair 1 0 ∷ [])
repeated = matches_folded (pair 1 0 ∷ pair 0 0 ∷ pair 1 0 ∷ []) (inr (inl (refl, refl))) (inl (refl, refl)) (at_1, (at_0, (at_1, tt))) 1

-- the step from 0 leads to 1, which is in no pair
starts_alone : Matches turning_phone (repeating_phone 5) (pair 0 0 ∷ []) → ⊥
starts_alone m =
    let (t, h, x) = m.bisimulation.forth 0 1 0 (code 5) m.starts (step_at_lem turning_phone.steps 0 (omega arith)) in
    omega (arith, every_pair (λ x y. x ≡ 0) (pair 0 0 ∷ []) (refl, tt) x)

simplified : Simplified
unfolding matching_of phone_of states_of records_at pairs_at
simplified = record {
  read = refl;
  matches = both_pairs 1;
  both_pairs = answers_yes _ _ _ refl (both_pairs 1);
  repeated = answers_yes _ _ _ refl repeated;
  starts_alone = answers_no _ _ _ refl starts_alone;
  no_pairs = answers_no _ _ _ refl (λ m. m.starts);
}

-- ---- a state that no step names

one_more : Matches turning_phone spare_phone (pair 0 0 ∷ pair 1 0 ∷ pair 0 1 ∷ []) → ⊥
one_more m =
    let (t, h, _) = m.bisimulation.forth 0 1 1 (code 5) (inr (inr (inl (refl, refl)))) (step_at_lem turning_phone.steps 0 (omega arith)) in
    omega (arith, repeating_from 5 h)

-- the steps of the spare phone are from 0, and its pair is of 1
spare_pair : {s t : ℕ} → Listed (pair 1 1 ∷ []) s t → (s ≡ 1) × (t ≡ 1)
spare_pair = every_pair (λ s t. (s ≡ 1) × (t ≡ 1)) (pair 1 1 ∷ []) ((refl, refl), tt)

spare_bisimulation : Bisimulation (model_of spare_phone) (model_of spare_phone) (Listed (pair 1 1 ∷ []))
spare_bisimulation = record {
  forth = λ s s' t a x h. absurd (omega (arith, spare_pair x, repeating_from 5 h));
  back = λ s t t' a x h. absurd (omega (arith, spare_pair x, repeating_from 5 h));
}

spare : Spare
unfolding matching_of phone_of states_of records_at pairs_at
spare = record {
  file = refl;
  reached_pairs = answers_yes _ _ _ refl (both_pairs 2);
  one_more = answers_no _ _ _ refl one_more;
  bisimilar = (Listed (pair 0 0 ∷ pair 1 0 ∷ []), (both_pairs 2).bisimulation, (both_pairs 2).starts);
  bisimulation = spare_bisimulation;
  not_the_starts = answers_no _ _ _ refl (λ m. omega (arith, spare_pair m.starts));
}

-- ---- partners of steps

-- Two phones that each repeat a label repeat the same one where their starts match.
labels_agree : (x y : ℕ) → Matches (repeating_phone x) (repeating_phone y) (pair 0 0 ∷ []) → label_of x ≡ label_of y
labels_agree x y m =
    let (t, h, _) = m.bisimulation.forth 0 0 0 (label_of x) m.starts (repeated_step x) in
    every_step (λ s a t. a ≡ label_of y) (repeating_phone y).steps (refl, tt) h

no_step : {s t : ℕ} {a : Label} → StepIn [] s a t → ⊥
no_step = every_step (λ s a t. ⊥) [] tt

first_alone : (label : ℕ) → Matches (repeating_phone label) still_phone (pair 0 0 ∷ []) → ⊥
first_alone label m = let (t, h, _) = m.bisimulation.forth 0 0 0 (label_of label) m.starts (repeated_step label) in no_step h

second_alone : (label : ℕ) → Matches still_phone (repeating_phone label) (pair 0 0 ∷ []) → ⊥
second_alone label m = let (s, h, _) = m.bisimulation.back 0 0 0 (label_of label) m.starts (repeated_step label) in no_step h

-- A phone matches itself by pairs of a state with itself, where the end of every step is listed.
matches_itself : (y : Phone) (ps : List Pair) → Listed ps 0 0 → All (λ p. p.first ≡ p.second) ps → All (λ x. Listed ps x.to x.to) y.steps
    → Matches y y ps
matches_itself y ps starts only ends = record {
  starts = starts;
  bisimulation = record {
    forth = λ s s' t a x h. (s', subst (λ s. StepIn y.steps s a s') (same x) h, end h);
    back = λ s t t' a x h. (t', subst (λ t. StepIn y.steps t a t') (sym (same x)) h, end h);
  };
}
  where
    same : {s t : ℕ} → Listed ps s t → s ≡ t
    same = every_pair (λ s t. s ≡ t) ps only

    end : {s t : ℕ} {a : Label} → StepIn y.steps s a t → Listed ps t t
    end = every_step (λ s a t. Listed ps t t) y.steps ends

both_states : (steps : List Step) → All (λ x. Listed (pair 0 0 ∷ pair 1 1 ∷ []) x.to x.to) steps
    → Matches (record { states = 2; steps = steps }) (record { states = 2; steps = steps }) (pair 0 0 ∷ pair 1 1 ∷ [])
both_states steps = matches_itself (record { states = 2; steps = steps }) (pair 0 0 ∷ pair 1 1 ∷ []) (inl (refl, refl)) (refl, (refl, tt))

partners : Partners
unfolding matching_of phone_of states_of records_at pairs_at
partners = record {
  silent_first = answers_no _ _ _ refl (λ m. silent_code (labels_agree 256 5 m));
  silent_second = answers_no _ _ _ refl (λ m. silent_code (sym (labels_agree 5 256 m)));
  two_codes = answers_no _ _ _ refl (λ m. codes_apart (labels_agree 5 6 m));
  first_alone = answers_no _ _ _ refl (first_alone 5);
  second_alone = answers_no _ _ _ refl (second_alone 5);
  silent_alone = answers_no _ _ _ refl (first_alone 256);
  no_steps = answers_yes _ _ _ refl (both_states [] tt);
  two_partners = answers_yes _ _ _ refl (both_states (step 0 5 0 ∷ step 0 5 1 ∷ []) (inl (refl, refl), (inr (inl (refl, refl)), tt)));
}
  where
    silent_code : silent ≡ code 5 → ⊥
    silent_code e = let z : ◌≡◌ {A = ℕ} 0 1 = cc in omega arith

    codes_apart : code 5 ≡ code 6 → ⊥
    codes_apart e = let z : ◌≡◌ {A = ℕ} 5 6 = cc in omega arith

-- ---- refusals

still : phone_of still_file ≡ accepted still_phone
unfolding phone_of states_of records_at
still = refl

-- The number is a variable, so that no list of so many pairs is written out.
full : (m : ℕ) → m ≡ 4096 → Answers still_file still_file (times m (0 ∷ 0 ∷ []) []) (said true)
full m e = answers_yes _ _ _ (matching_by_pairs _ _ _ still still (pairs_4096 m e)) (matches_itself still_phone _ (has m (omega arith)) (only m) tt)
  where
    has : (m : ℕ) → 0 < m → Listed (replicate m (pair 0 0)) 0 0
    has zero h = absurd (omega (arith, h))
    has (suc m) h = inl (refl, refl)

    only : (m : ℕ) → All (λ p. p.first ≡ p.second) (replicate m (pair 0 0))
    only zero = tt
    only (suc m) = (refl, only m)

-- A refusal of the list is the answer, since the files are accepted.
over : (l : List ℕ) (number place : ℕ) → pairs_of l 1 1 ≡ refused number place → Answers still_file still_file l (refused_pairs number place)
over l number place e = answers_pairs still_file still_file l number place (matching_by_pairs still_file still_file l still still e)

refusals : MatchingRefusals
unfolding matching_of phone_of states_of records_at pairs_at
refusals = record {
  first_empty = λ g l. answers_first [] g l 11 0 refl;
  second_empty = λ l. answers_second _ _ l 11 0 refl;
  half = answers_pairs _ _ _ 22 1 refl;
  half_bad = answers_pairs _ _ _ 22 1 refl;
  first_state = answers_pairs _ _ _ 23 0 refl;
  second_state = answers_pairs _ _ _ 23 0 refl;
  pair_by_pair = answers_pairs _ _ _ 23 2 refl;
  pairs_4096 = full 4096 refl;
  half_4097 = λ x. over _ 22 8193 (half_4097 4096 refl x);
  state_4097 = λ rest. over _ 23 8192 (state_4097 4096 refl rest);
  pair_4097 = λ rest. over _ 24 8192 (pair_4097 4096 refl rest);
}

pub matching_examples : MatchingExamples
matching_examples = record { simplified = simplified; spare = spare; partners = partners; refusals = refusals }
