-- Where two models are bisimilar some list matches them: the greatest bisimulation among the pairs of their states. Pairs are numbered, 64 × the first state and
-- the second added; one with a step that has no partner is taken away, as long as there is one. No bisimulation has more pairs.
use Prim.Native.Nat.{ℕ, zero, suc, ◌+◌, ◌*◌, ◌-◌, ◌/◌, ◌%◌, ◌≤◌, ◌<◌}
use mathlib.Core.Path.{◌≡◌, refl, sym, ◌∙◌, ap}
use mathlib.Core.Logic.{◌↔◌, inl, inr}
use mathlib.Core.Bool.{Bool, true, false, cond, ◌&&◌, and-eq-true_iff, true≢false}
use mathlib.Core.List.{List, [], ◌∷◌}
use native.Mathlib.Omega.{arith}
use lib.Dec.{eqb, ltb}
use lib.ListN.{length, get_or}
use borrow.Author.Tests.{eqb-true, eqb-false, ltb-true, lt-ltb}
use Rattle.reading.specs.Rule.{All, Bytes}
use Rattle.reading.proofs.Basics.EncodeLaws.{encode_each-bytes}
use Rattle.reading.proofs.Basics.Outcomes.{accepted_is}
use Rattle.reading.proofs.Basics.AllLaws.{all_at}
use Rattle.synthesis.proofs.Numberings.Indices.{member_at}
use Rattle.enforcement.specs.Model.{Label, Bisimulation}
use Rattle.models.specs.Phone.{Phone, no_step, StepIn, model_of, WellFormedStep, PhoneWithinLimits}
use Rattle.models.specs.Pairs.{Pair, WellFormedPair, pair_bytes, encode_pairs, most_pairs, Listed, Matches}
use Rattle.models.specs.MatchPromises.{PairsEncoded, SomeListMatches}
use Rattle.models.proofs.Phones.GreatestSets.{listed, Within, Greatest, greatest}
use Rattle.models.proofs.Files.Encoding.{phone_within_limits}
use Rattle.models.proofs.Matchings.AnswerLaws.{matching_accepts}
use Rattle.models.proofs.Matchings.PairLists.{accepts_pairs}
use Rattle.models.proofs.Matchings.AfterYes.{matched_alike}
use Rattle.models.proofs.Matchings.AnsweredSteps.{answered, Answered, answered_is}

-- ---- the greatest bisimulation among numbered pairs

abbrev pair_number : (x y : ℕ) → ℕ
pair_number x y = 64 * x + y

-- the numbers below m
abbrev numbers : (m : ℕ) → List ℕ
numbers zero = []
numbers (suc m) = m ∷ numbers m

numbers_long : (m : ℕ) → length (numbers m) ≡ m
numbers_long zero = refl
numbers_long (suc m) = omega (arith, numbers_long m)

number_at : (m i : ℕ) → i < m → get_or (numbers m) i 0 ≡ m - 1 - i
number_at zero i h = absurd (omega arith)
number_at (suc m) zero h = omega arith
number_at (suc m) (suc i) h = omega (arith, number_at m i (omega arith))

number_listed : (m v : ℕ) → v < m → listed (numbers m) v ≡ true
number_listed m v h =
    lt-ltb _ _ (member_at v (numbers m) (m - 1 - v) (omega (arith, numbers_long m)) (omega (arith, number_at m (m - 1 - v) (omega arith))))

module _ (a b : Phone) (w : PhoneWithinLimits a) (w' : PhoneWithinLimits b) where
  -- a set of numbers as a relation
  abbrev related : (ℕ → Bool) → (s t : ℕ) → Bool
  related X s t = X (pair_number s t)

  abbrev back : (ℕ → Bool) → (t s : ℕ) → Bool
  back X t s = X (pair_number s t)

  -- the pair is one of states, and each step of either has a partner
  abbrev fits : (ℕ → Bool) → ℕ → Bool
  fits X v =
      (ltb (v / 64) a.states && ltb (v % 64) b.states)
      && (answered a.steps b.steps (related X) (v / 64) (v % 64) && answered b.steps a.steps (back X) (v % 64) (v / 64))

  record Fits (X : ℕ → Bool) (v : ℕ) : Type 0 where
    first : v / 64 < a.states
    second : v % 64 < b.states
    forth : Answered a.steps b.steps (related X) (v / 64) (v % 64)
    back_again : Answered b.steps a.steps (back X) (v % 64) (v / 64)

  fits_is : (X : ℕ → Bool) (v : ℕ) → (fits X v ≡ true) ↔ Fits X v
  fits_is X v = (there, here)
    where
      there : fits X v ≡ true → Fits X v
      there e =
          let (range, steps) = (and-eq-true_iff _ _).0 e in
          let (first, second) = (and-eq-true_iff (ltb (v / 64) a.states) (ltb (v % 64) b.states)).0 range in
          let (forth, again) = (and-eq-true_iff (answered a.steps b.steps (related X) (v / 64) (v % 64)) _).0 steps in
          record {
            first = ltb-true _ _ first;
            second = ltb-true _ _ second;
            forth = (answered_is a.steps b.steps (related X) (v / 64) (v % 64)).0 forth;
            back_again = (answered_is b.steps a.steps (back X) (v % 64) (v / 64)).0 again;
          }

      here : Fits X v → fits X v ≡ true
      here h =
          rw (lt-ltb _ _ h.first, lt-ltb _ _ h.second, (answered_is a.steps b.steps (related X) (v / 64) (v % 64)).1 h.forth)
          ((answered_is b.steps a.steps (back X) (v % 64) (v / 64)).1 h.back_again)

  -- the greatest set of numbers that fit it
  abbrev largest : Greatest fits (numbers most_pairs)
  largest = greatest fits (numbers most_pairs)

  -- a step ends in a state of its model
  ends_in : (y : Phone) → PhoneWithinLimits y → {s t : ℕ} {l : Label} → StepIn y.steps s l t → t < y.states
  ends_in y within x =
      omega (arith, (all_at (WellFormedStep y.states) y.steps x.index no_step within.well_formed.steps x.inside).to, x.to_is)

  -- ---- every bisimulation is in it

  module _ (R : (s t : ℕ) → Type 0) (r : Bisimulation (model_of a) (model_of b) R) where
    -- the number of a related pair of states
    record Numbers (v : ℕ) : Type 0 where
      first : v / 64 < a.states
      second : v % 64 < b.states
      relates : R (v / 64) (v % 64)

    pair_numbered : (s t : ℕ) → s < a.states → t < b.states → R s t → Numbers (pair_number s t)
    pair_numbered s t h h' x =
        let few : b.states ≤ 64 = w'.well_formed.few_states in
        let first : pair_number s t / 64 ≡ s = omega arith in
        let second : pair_number s t % 64 ≡ t = omega arith in
        record { first = omega arith; second = omega arith; relates = rw (first, second) x }

    numbers_fit : (X : ℕ → Bool) → Within Numbers X → Within Numbers (fits X)
    numbers_fit X within v h = (fits_is X v).1 (record {
      first = h.first;
      second = h.second;
      forth = λ s' l x.
          let (t', y, again) = r.forth (v / 64) s' (v % 64) l h.relates x in
          (t', y, within (pair_number s' t') (pair_numbered s' t' (ends_in a w x) (ends_in b w' y) again));
      back_again = λ t' l y.
          let (s', x, again) = r.back (v / 64) (v % 64) t' l h.relates y in
          (s', x, within (pair_number s' t') (pair_numbered s' t' (ends_in a w x) (ends_in b w' y) again));
    })

    related_in : (s t : ℕ) → s < a.states → t < b.states → R s t → largest.set (pair_number s t) ≡ true
    related_in s t h h' x =
        largest.contains Numbers numbers_fit
        (λ v p. number_listed most_pairs v (omega (arith, p.first, w.well_formed.few_states)))
        (pair_number s t) (pair_numbered s t h h' x)

  -- ---- its pairs as a list

  -- those among the first m numbers
  abbrev pairs_below : (m : ℕ) → List Pair
  pairs_below zero = []
  pairs_below (suc m) = cond (largest.set m) (record { first = m / 64; second = m % 64 } ∷ pairs_below m) (pairs_below m)

  below_long : (m : ℕ) → length (pairs_below m) ≤ m
  below_long zero = omega arith
  below_long (suc m) = on (largest.set m) (below_long m)
    where
      on : (c : Bool) → length (pairs_below m) ≤ m → length (cond c (record { first = m / 64; second = m % 64 } ∷ pairs_below m) (pairs_below m)) ≤ suc m
      on true h = omega arith
      on false h = omega arith

  below_well_formed : (m : ℕ) → All (WellFormedPair a.states b.states) (pairs_below m)
  below_well_formed zero = tt
  below_well_formed (suc m) = on (largest.set m) refl (below_well_formed m)
    where
      on : (c : Bool) → largest.set m ≡ c → All (WellFormedPair a.states b.states) (pairs_below m)
          → All (WellFormedPair a.states b.states) (cond c (record { first = m / 64; second = m % 64 } ∷ pairs_below m) (pairs_below m))
      on true is all = let f = (fits_is largest.set m).0 (largest.passes m is) in (record { first = f.first; second = f.second }, all)
      on false is all = all

  -- the list has the pairs whose numbers are in the set
  listed_below : (m : ℕ) {x y : ℕ} → Listed (pairs_below m) x y → (v : ℕ) × (largest.set v ≡ true) × (v / 64 ≡ x) × (v % 64 ≡ y)
  listed_below zero h = absurd h
  listed_below (suc m) {x} {y} h = on (largest.set m) refl h (listed_below m)
    where
      on : (c : Bool) → largest.set m ≡ c → Listed (cond c (record { first = m / 64; second = m % 64 } ∷ pairs_below m) (pairs_below m)) x y
          → (Listed (pairs_below m) x y → (v : ℕ) × (largest.set v ≡ true) × (v / 64 ≡ x) × (v % 64 ≡ y))
          → (v : ℕ) × (largest.set v ≡ true) × (v / 64 ≡ x) × (v % 64 ≡ y)
      on true is (inl (first, second)) before = (m, is, first, second)
      on true is (inr h) before = before h
      on false is h before = before h

  below_listed : (m v : ℕ) → v < m → largest.set v ≡ true → Listed (pairs_below m) (v / 64) (v % 64)
  below_listed zero v h e = absurd (omega arith)
  below_listed (suc m) v h e = on (largest.set m) refl (eqb v m) refl (below_listed m v)
    where
      on : (c : Bool) → largest.set m ≡ c → (last : Bool) → eqb v m ≡ last → (v < m → largest.set v ≡ true → Listed (pairs_below m) (v / 64) (v % 64))
          → Listed (cond c (record { first = m / 64; second = m % 64 } ∷ pairs_below m) (pairs_below m)) (v / 64) (v % 64)
      on true is true same before = let q : v ≡ m = eqb-true v m same in inl (rw q (refl, refl))
      on true is false other before = inr (before (omega (arith, eqb-false v m other)) e)
      on false is true same before = let q : v ≡ m = eqb-true v m same in absurd (true≢false (sym e ∙ (ap largest.set q ∙ is)))
      on false is false other before = before (omega (arith, eqb-false v m other)) e

  -- ---- it matches

  abbrev pub all_pairs : List Pair
  all_pairs = pairs_below most_pairs

  -- states whose number is in the set are paired
  paired : (s t : ℕ) → t < b.states → largest.set (pair_number s t) ≡ true → Listed all_pairs s t
  paired s t h e =
      let few : b.states ≤ 64 = w'.well_formed.few_states in
      let first : pair_number s t / 64 ≡ s = omega arith in
      let second : pair_number s t % 64 ≡ t = omega arith in
      let inside : s < a.states = rw first at ((fits_is largest.set (pair_number s t)).0 (largest.passes (pair_number s t) e)).first in
      rw (first, second) at (below_listed most_pairs (pair_number s t) (omega (arith, w.well_formed.few_states)) e)

  all_bisimulation : Bisimulation (model_of a) (model_of b) (Listed all_pairs)
  all_bisimulation = record {
    forth = λ s s' t l h x.
        let (v, e, first, second) = listed_below most_pairs h in
        let f = rw (first, second) at ((fits_is largest.set v).0 (largest.passes v e)).forth in
        let (t', y, again) = f s' l x in
        (t', y, paired s' t' (ends_in b w' y) again);
    back = λ s t t' l h y.
        let (v, e, first, second) = listed_below most_pairs h in
        let f = rw (first, second) at ((fits_is largest.set v).0 (largest.passes v e)).back_again in
        let (s', x, again) = f t' l y in
        (s', x, paired s' t' (ends_in b w' y) again);
  }

  pub all_pairs_match : (R : (s t : ℕ) → Type 0) → Bisimulation (model_of a) (model_of b) R → R 0 0 → Matches a b all_pairs
  all_pairs_match R r starts = record {
    starts = paired 0 0 w'.well_formed.some_states (related_in R r 0 0 w.well_formed.some_states w'.well_formed.some_states starts);
    bisimulation = all_bisimulation;
  }

  pub all_pairs_encoded : PairsEncoded (encode_pairs all_pairs) a.states b.states all_pairs
  all_pairs_encoded = record { well_formed = below_well_formed most_pairs; few = below_long most_pairs; bytes_are = refl }

-- ---- the promise

-- the bytes of pairs of states are bytes
pairs_are_bytes : (n n' : ℕ) → n ≤ 64 → n' ≤ 64 → (ps : List Pair) → All (WellFormedPair n n') ps → Bytes (encode_pairs ps)
pairs_are_bytes n n' few few' =
    encode_each-bytes pair_bytes (WellFormedPair n n') (λ p h. (omega (arith, h.first), (omega (arith, h.second), tt)))

pub some_list_matches : SomeListMatches
some_list_matches f g a b bytes bytes' one other =
    let w = phone_within_limits f a bytes one in
    let w' = phone_within_limits g b bytes' other in
    let ps = all_pairs a b w w' in
    let encoded = all_pairs_encoded a b w w' in (
      λ (R, r, starts). (
        encode_pairs ps,
        pairs_are_bytes _ _ w.well_formed.few_states w'.well_formed.few_states ps encoded.well_formed,
        rw (matching_accepts f g (encode_pairs ps) one other ((accepts_pairs _ _ _ ps).1 encoded)) (inl (refl, all_pairs_match a b w w' R r starts)),
      ),
      λ (l, _, told).
          let alike = matched_alike f g l told in
          let same : alike.one ≡ a = accepted_is (sym alike.one_is ∙ one) in
          let same' : alike.other ≡ b = accepted_is (sym alike.other_is ∙ other) in
          rw (same, same') at alike.bisimilar,
    )
