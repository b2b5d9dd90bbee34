-- Which lists of pairs are accepted and which refused: reading ends in one of the four ways, so each answer tells its way. The bytes of a list that is accepted are
-- those of its pairs. What is refused is refused within the first 8,194 bytes.
use mathlib.Core.Path.{◌≡◌, refl, sym, ap, ◌∙◌, subst}
use mathlib.Core.Logic.{◌⊎◌, inl, inr}
use mathlib.Core.List.{List, [], ◌∷◌, ◌++◌}
use Prim.Native.Nat.{ℕ, zero, suc, ◌+◌, ◌*◌, ◌≤◌, ◌<◌}
use native.Mathlib.Omega.{arith}
use lib.ListN.{length, get_or, take, drop, replicate, length-append, length-replicate}
use lib.Seq.{take-add, take-length, length-take-le, get_or-take}
use Rattle.reading.specs.Rule.{All}
use Rattle.reading.specs.File.{accepted, refused}
use Rattle.reading.proofs.Basics.AllLaws.{all_append}
use Rattle.reading.proofs.Basics.EncodeLaws.{encode_each-append, encode_each-same}
use Rattle.reading.proofs.Basics.Outcomes.{accepted_is, never_accepted, never_refused}
use Rattle.reading.proofs.Basics.Places.{from_place}
use Rattle.reading.proofs.Numbering.NumberedLaws.{repeated_at}
use Rattle.reading.proofs.Settling.Agreement.{Agree, settled}
use Rattle.models.specs.Pairs.{Pair, WellFormedPair, pair_bytes, encode_pairs, most_pairs, pairs_of}
use Rattle.models.specs.PairFaults.{NamesStates, FinePairs, PairFault, pair_cut, no_such_state, one_too_many}
use Rattle.models.specs.MatchPromises.{PairsEncoded, AcceptsPairs, RefusesAtThePair, PairsSettled, PairsNotByFewer}
use Rattle.models.proofs.Matchings.PairChecks.{pair_same}
use Rattle.models.proofs.Matchings.ReachedPairs.{pair_of, first_pairs, fine_less, fine_accepted, fault_refused, Ends, Faulty, ways}

-- ---- the bytes of pairs

pairs_long : (ps : List Pair) → length (encode_pairs ps) ≡ 2 * length ps
pairs_long [] = refl
pairs_long (p ∷ ps) = omega (arith, pairs_long ps)

-- the bytes of a pair tell it
encode_same : (ps qs : List Pair) → encode_pairs ps ≡ encode_pairs qs → ps ≡ qs
encode_same = encode_each-same pair_bytes (λ p. omega arith) (λ p q a b e. (pair_same p q (cc) (cc), cc))

module _ (l : List ℕ) where
  first_long : (k : ℕ) → length (first_pairs l k) ≡ k
  unfolding first_pairs
  first_long zero = refl
  first_long (suc k) = length-append (first_pairs l k) (pair_of l k ∷ []) ∙ omega (arith, first_long k)

  -- the first pairs are the first bytes
  first_bytes : (k : ℕ) → 2 * k ≤ length l → encode_pairs (first_pairs l k) ≡ take (2 * k) l
  unfolding first_pairs
  first_bytes zero whole = refl
  first_bytes (suc k) whole =
      let two : 2 * suc k ≡ 2 * k + 2 = omega arith in
      let here : drop (2 * k) l ≡ pair_bytes (pair_of l k) ++ drop (2 * k + 2) l =
      from_place l (2 * k) (2 * k + 1) (omega arith) refl ∙ rw (from_place l (2 * k + 1) (2 * k + 2) (omega arith) (omega arith)) in
      encode_each-append pair_bytes (first_pairs l k) (pair_of l k ∷ [])
      ∙ (ap (λ (x : List ℕ). x ++ pair_bytes (pair_of l k)) (first_bytes k (omega arith)) ∙ rw (two, take-add (2 * k) 2 l, here))

module _ (l : List ℕ) (n n' : ℕ) where
  first_well_formed : (k : ℕ) → FinePairs l n n' k → All (WellFormedPair n n') (first_pairs l k)
  unfolding first_pairs
  first_well_formed zero fine = tt
  first_well_formed (suc k) fine =
      let names = fine.name_states k (omega arith) in
      all_append _ (first_pairs l k) (pair_of l k ∷ []) (first_well_formed k (fine_less l n n' fine)) (record { first = names.0; second = names.1 }, tt)

-- pairs of states as a list has them
fine_encoded : (n n' : ℕ) (ps : List Pair) → All (WellFormedPair n n') ps → FinePairs (encode_pairs ps) n n' (length ps)
fine_encoded n n' ps all = record { whole = omega (arith, pairs_long ps); name_states = named ps all }
  where
    named : (ps : List Pair) → All (WellFormedPair n n') ps → (i : ℕ) → i < length ps → NamesStates (encode_pairs ps) n n' i
    named [] all i h = absurd (omega arith)
    named (p ∷ ps) all zero h = (all.0.first, all.0.second)
    named (p ∷ ps) all (suc i) h =
        let even : 2 * suc i ≡ suc (suc (2 * i)) = omega arith in
        let odd : 2 * suc i + 1 ≡ suc (suc (2 * i + 1)) = omega arith in
        rw (odd, even) (named ps all.1 i (omega arith))

-- ---- accepted and refused

pub accepts_pairs : AcceptsPairs
accepts_pairs l n n' ps = (λ e. on e (ways l n n'), reads)
  where
    on : pairs_of l n n' ≡ accepted ps → ((k : ℕ) × Ends l n n' k) ⊎ Faulty l n n' → PairsEncoded l n n' ps
    on e (inl (k, end)) =
        let are : first_pairs l k ≡ ps = accepted_is (sym (fine_accepted l n n' end.fine end.few end.ends) ∙ e) in
        let bytes : l ≡ encode_pairs (first_pairs l k) =
        sym (first_bytes l k end.fine.whole ∙ (rw (← end.ends) (take-length l))) in
        subst (PairsEncoded l n n') are (record {
          well_formed = first_well_formed l n n' k end.fine;
          few = omega (arith, first_long l k, end.few);
          bytes_are = bytes;
        })
    on e (inr (number, place, fault)) = absurd (never_accepted (sym (fault_refused l n n' fault) ∙ e))

    reads : PairsEncoded l n n' ps → pairs_of l n n' ≡ accepted ps
    reads encoded =
        let fine = fine_encoded n n' ps encoded.well_formed in
        let long = pairs_long ps in
        let bytes : encode_pairs (first_pairs (encode_pairs ps) (length ps)) ≡ encode_pairs ps =
        first_bytes (encode_pairs ps) (length ps) fine.whole ∙ rw (← long) (take-length (encode_pairs ps)) in
        rw encoded.bytes_are (fine_accepted (encode_pairs ps) n n' fine encoded.few long ∙ ap accepted (encode_same _ _ bytes))

pub refuses_at_the_pair : RefusesAtThePair
refuses_at_the_pair l n n' number place = (λ e. on e (ways l n n'), fault_refused l n n')
  where
    on : pairs_of l n n' ≡ refused number place → ((k : ℕ) × Ends l n n' k) ⊎ Faulty l n n' → PairFault l n n' number place
    on e (inl (k, end)) = absurd (never_refused (sym (fine_accepted l n n' end.fine end.few end.ends) ∙ e))
    on e (inr (number', place', fault)) =
        let told = sym (fault_refused l n n' fault) ∙ e in
        let same : number' ≡ number = cc in
        let same' : place' ≡ place = cc in
        rw (same, same') at fault

-- ---- how far a list is read

module _ (l l' : List ℕ) (n n' : ℕ) (a : Agree 8194 l l') where
  fine_agrees : {k : ℕ} → 2 * k ≤ 8194 → FinePairs l n n' k → FinePairs l' n n' k
  fine_agrees few fine = record {
    whole = omega (arith, a.long');
    name_states = λ i h. rw (← a.same (2 * i) (omega arith), ← a.same (2 * i + 1) (omega arith)) (fine.name_states i h);
  }

  fault_agrees : {number place : ℕ} → PairFault l n n' number place → PairFault l' n n' number place
  fault_agrees (pair_cut fine few ends) = absurd (omega (arith, a.long))
  fault_agrees (no_such_state {k} fine few whole none) =
      no_such_state (fine_agrees (omega arith) fine) few (omega (arith, a.long'))
      (λ names. none (rw (← a.same (2 * k) (omega arith), ← a.same (2 * k + 1) (omega arith)) at names))
  fault_agrees (one_too_many fine) = one_too_many (fine_agrees (omega arith) fine)

  pairs_agree : pairs_of l n n' ≡ pairs_of l' n n'
  pairs_agree = on (ways l n n')
    where
      on : ((k : ℕ) × Ends l n n' k) ⊎ Faulty l n n' → pairs_of l n n' ≡ pairs_of l' n n'
      on (inl (k, end)) = absurd (omega (arith, end.few, end.ends, a.long))
      on (inr (number, place, fault)) = fault_refused l n n' fault ∙ sym (fault_refused l' n n' (fault_agrees fault))

pub pairs_settled : PairsSettled
pairs_settled l n n' = settled (λ l. pairs_of l n n') 8194 (λ l l'. pairs_agree l l' n n') l

-- 4,097 pairs of the states 0, and the same without the last byte
pub pairs_not_by_fewer : PairsNotByFewer
pairs_not_by_fewer = on 8194 refl
  where
    on : (m : ℕ) → m ≡ 8194 → PairsNotByFewer
    on m e =
        let l : List ℕ = replicate m 0 in
        let long : length l ≡ 8194 = length-replicate m 0 ∙ e in
        let short : length (take 8193 l) ≡ 8193 = length-take-le 8193 l (omega arith) in
        let zero-at : (i : ℕ) → get_or l i 0 ≡ 0 = repeated_at {A = ℕ} 0 m in
        let all : FinePairs l 1 1 (most_pairs + 1) = record { whole = omega arith; name_states = λ i h. (omega (arith, zero-at (2 * i)), omega (arith, zero-at (2 * i + 1))) } in
        let front : FinePairs (take 8193 l) 1 1 most_pairs = record {
          whole = omega arith;
          name_states = λ i h. (
            omega (arith, zero-at (2 * i), get_or-take 8193 l (2 * i) 0 (omega arith)),
            omega (arith, zero-at (2 * i + 1), get_or-take 8193 l (2 * i + 1) 0 (omega arith)),
          );
        } in
        (l, fault_refused _ 1 1 (pair_cut front (omega arith) short) ∙ rw short, fault_refused l 1 1 (one_too_many all))
