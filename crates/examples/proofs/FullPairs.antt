-- A list of 4,096 pairs of the starts of two models with one state each, and what comes after them. That the pairs are fine goes by induction; what is read then
-- follows from the laws of lists of pairs.
use Prim.Native.Nat.{ℕ, zero, suc, ◌+◌, ◌*◌, ◌<◌}
use mathlib.Core.Path.{◌≡◌, refl, ap, ◌∙◌}
use mathlib.Core.List.{List, [], ◌∷◌}
use native.Mathlib.Omega.{arith}
use lib.ListN.{length, get_or, replicate, length-replicate}
use Rattle.reading.specs.Rule.{All}
use Rattle.reading.specs.File.{accepted, refused}
use Rattle.models.specs.Pairs.{WellFormedPair, encode_pairs, most_pairs, pairs_of}
use Rattle.models.specs.PairFaults.{NamesStates, FinePairs, PairFault, pair_cut, no_such_state, one_too_many}
use Rattle.models.proofs.Matchings.ReachedPairs.{fine_more}
use Rattle.models.proofs.Matchings.PairLists.{accepts_pairs, refuses_at_the_pair}
use Rattle.examples.specs.RefusalExamples.{times}
use Rattle.examples.specs.MatchingExamples.{pair}

-- ---- so many pairs, and the rest

abbrev starts : (m : ℕ) → (rest : List ℕ) → List ℕ
starts m rest = times m (0 ∷ 0 ∷ []) rest

module _ (rest : List ℕ) where
  starts_long : (m : ℕ) → length (starts m rest) ≡ 2 * m + length rest
  unfolding times
  starts_long zero = omega arith
  starts_long (suc m) = omega (arith, starts_long m)

  -- a byte of the rest
  after_starts : (m i : ℕ) → get_or (starts m rest) (2 * m + i) 0 ≡ get_or rest i 0
  unfolding times
  after_starts zero i = let same : 2 * 0 + i ≡ i = omega arith in rw same
  after_starts (suc m) i = let same : 2 * suc m + i ≡ suc (suc (2 * m + i)) = omega arith in rw same (after_starts m i)

  named : (m i : ℕ) → i < m → NamesStates (starts m rest) 1 1 i
  unfolding times
  named zero i h = absurd (omega arith)
  named (suc m) zero h = (omega arith, omega arith)
  named (suc m) (suc i) h =
      let even : 2 * suc i ≡ suc (suc (2 * i)) = omega arith in
      let odd : 2 * suc i + 1 ≡ suc (suc (2 * i + 1)) = omega arith in
      rw (odd, even) (named m i (omega arith))

  fine : (m : ℕ) → FinePairs (starts m rest) 1 1 m
  fine m = record { whole = omega (arith, starts_long m); name_states = named m }

-- ---- what is read

starts_well_formed : (m : ℕ) → All (WellFormedPair 1 1) (replicate m (pair 0 0))
starts_well_formed zero = tt
starts_well_formed (suc m) = (record { first = omega arith; second = omega arith }, starts_well_formed m)

starts_encoded : (m : ℕ) → starts m [] ≡ encode_pairs (replicate m (pair 0 0))
unfolding times
starts_encoded zero = refl
starts_encoded (suc m) = ap (λ (l : List ℕ). 0 ∷ 0 ∷ l) (starts_encoded m)

-- The number is a variable, so that no list of so many pairs is written out.
module _ (m : ℕ) (full : m ≡ most_pairs) where
  pub pairs_4096 : pairs_of (starts m []) 1 1 ≡ accepted (replicate m (pair 0 0))
  pairs_4096 = (accepts_pairs _ 1 1 _).1 (record {
    well_formed = starts_well_formed m;
    few = omega (arith, length-replicate m (pair 0 0));
    bytes_are = starts_encoded m;
  })

  refused_full : (rest : List ℕ) {number place place' : ℕ} → place ≡ place' → PairFault (starts m rest) 1 1 number place
      → pairs_of (starts m rest) 1 1 ≡ refused number place'
  refused_full rest {number} e fault = (refuses_at_the_pair _ 1 1 number _).1 (rw e at fault)

  pub half_4097 : (x : ℕ) → pairs_of (starts m (x ∷ [])) 1 1 ≡ refused 22 8193
  half_4097 x =
      let long = starts_long (x ∷ []) m in
      refused_full (x ∷ []) (omega arith) (pair_cut (fine (x ∷ []) m) (omega arith) (omega arith))

  pub state_4097 : (rest : List ℕ) → pairs_of (starts m (0 ∷ 1 ∷ rest)) 1 1 ≡ refused 23 8192
  state_4097 rest =
      let long = starts_long (0 ∷ 1 ∷ rest) m in
      refused_full (0 ∷ 1 ∷ rest) (omega arith) (no_such_state (fine (0 ∷ 1 ∷ rest) m) (omega arith) (omega arith)
      (λ names. omega (arith, names.1, after_starts (0 ∷ 1 ∷ rest) m 1)))

  pub pair_4097 : (rest : List ℕ) → pairs_of (starts m (0 ∷ 0 ∷ rest)) 1 1 ≡ refused 24 8192
  pair_4097 rest =
      let long = starts_long (0 ∷ 0 ∷ rest) m in
      let first : get_or (starts m (0 ∷ 0 ∷ rest)) (2 * m) 0 ≡ 0 =
      ap (λ (i : ℕ). get_or (starts m (0 ∷ 0 ∷ rest)) i 0) (omega arith) ∙ after_starts (0 ∷ 0 ∷ rest) m 0 in
      let names : NamesStates (starts m (0 ∷ 0 ∷ rest)) 1 1 m = (omega arith, omega (arith, after_starts (0 ∷ 0 ∷ rest) m 1)) in
      let one_more : suc m ≡ most_pairs + 1 = omega arith in
      refused_full (0 ∷ 0 ∷ rest) refl (one_too_many (rw one_more at (fine_more _ 1 1 (fine (0 ∷ 0 ∷ rest) m) (omega arith) names)))
