-- Reading a list of pairs comes to the end of its fine pairs, and goes on there. So it ends in one of four ways: after the last pair, inside one, at one that names
-- a state which isn't there, or at one too many.
use mathlib.Core.Path.{◌≡◌, refl, ap, ◌∙◌}
use mathlib.Core.Logic.{◌⊎◌, inl, inr}
use mathlib.Core.List.{List, [], ◌∷◌, ◌++◌, append-nil}
use Prim.Native.Nat.{ℕ, zero, suc, ◌+◌, ◌*◌, ◌-◌, ◌≤◌, ◌<◌}
use native.Mathlib.Nat.{lt_of_not-le}
use native.Mathlib.Decide.{dec_le, dec_lt}
use native.Mathlib.Omega.{arith}
use lib.ListN.{length, get_or}
use Rattle.reading.specs.File.{accepted, refused}
use Rattle.models.specs.Pairs.{Pair, most_pairs, pair_at, pairs_at, pairs_of}
use Rattle.models.specs.PairFaults.{NamesStates, FinePairs, PairFault, pair_cut, no_such_state, one_too_many}
use Rattle.models.proofs.Matchings.PairChecks as Checks
use Rattle.models.proofs.Matchings.PairsRead.{after, after_none, after_one, pairs_end, pairs_next, pairs_refused}

-- pair i of a list
abbrev pub pair_of : List ℕ → (i : ℕ) → Pair
pair_of l i = record { first = get_or l (2 * i) 0; second = get_or l (2 * i + 1) 0 }

-- its first k pairs
unfoldable pub first_pairs : List ℕ → (k : ℕ) → List Pair
first_pairs l zero = []
first_pairs l (suc k) = first_pairs l k ++ pair_of l k ∷ []

module _ (l : List ℕ) (n n' : ℕ) where
  -- one more that is whole and names states
  pub fine_more : {k : ℕ} → FinePairs l n n' k → 2 * k + 2 ≤ length l → NamesStates l n n' k → FinePairs l n n' (suc k)
  fine_more {k} fine whole names = record { whole = omega arith; name_states = λ i h. on i h (dec_lt i k) }
    where
      on : (i : ℕ) → i < suc k → Dec (i < k) → NamesStates l n n' i
      on i h (yes earlier) = fine.name_states i earlier
      on i h (no last) = let same : i ≡ k = omega arith in rw same names

  -- fewer
  pub fine_less : {k : ℕ} → FinePairs l n n' (suc k) → FinePairs l n n' k
  fine_less fine = record { whole = omega (arith, fine.whole); name_states = λ i h. fine.name_states i (omega arith) }

  -- ---- reading comes to the end of the fine pairs

  pub reached : (k left : ℕ) → FinePairs l n n' k → k + left ≡ most_pairs → pairs_of l n n' ≡ after (first_pairs l k) (pairs_at left l n n' (2 * k))
  unfolding first_pairs
  reached zero left fine all = let same : left ≡ most_pairs = omega arith in rw same (after_none (pairs_of l n n'))
  reached (suc k) left fine all =
      let names = fine.name_states k (omega arith) in
      let whole : 2 * k + 1 < length l = omega (arith, fine.whole) in
      let one = Checks.pair_whole l n n' (2 * k) (suc left) whole names.0 names.1 (λ z. omega arith) in
      let next : 2 * k + 2 ≡ 2 * suc k = omega arith in
      let same : suc left - 1 ≡ left = omega arith in
      reached k (suc left) (fine_less fine) (omega arith)
      ∙ (ap (after (first_pairs l k)) (pairs_next l n n' (2 * k) (suc left) (omega arith) one)
      ∙ rw (same, next) (after_one (first_pairs l k) (pair_of l k) (pairs_at left l n n' (2 * suc k))))

  -- the pair after them is refused, and so the list is
  refused_there : {k number place : ℕ} → FinePairs l n n' k → k ≤ most_pairs → 2 * k < length l
      → pair_at l n n' (2 * k) (most_pairs - k) ≡ refused number place → pairs_of l n n' ≡ refused number place
  refused_there {k} fine few inside e =
      reached k (most_pairs - k) fine (omega arith) ∙ rw (pairs_refused l n n' (2 * k) (most_pairs - k) inside e)

  -- ---- what each way gives

  pub fine_accepted : {k : ℕ} → FinePairs l n n' k → k ≤ most_pairs → length l ≡ 2 * k → pairs_of l n n' ≡ accepted (first_pairs l k)
  fine_accepted {k} fine few ends =
      reached k (most_pairs - k) fine (omega arith) ∙ rw (pairs_end l n n' (2 * k) (most_pairs - k) (omega arith), append-nil (first_pairs l k))

  pub fault_refused : {number place : ℕ} → PairFault l n n' number place → pairs_of l n n' ≡ refused number place
  fault_refused (pair_cut {k} fine few ends) =
      refused_there fine few (omega arith) (Checks.pair_cut l n n' (2 * k) (most_pairs - k) (omega arith))
  fault_refused (no_such_state {k} fine few whole none) =
      refused_there fine few (omega arith) (on (dec_le n (get_or l (2 * k) 0)))
    where
      outside : {x y : ℕ} → Dec (x ≤ y) → (y < x → ⊥) → x ≤ y
      outside (yes h) not-less = h
      outside (no h) not-less = absurd (not-less (lt_of_not-le h))

      on : Dec (n ≤ get_or l (2 * k) 0) → pair_at l n n' (2 * k) (most_pairs - k) ≡ refused 23 (2 * k)
      on (yes outside) = Checks.no_first_state l n n' (2 * k) (most_pairs - k) (omega arith) outside
      on (no inside) =
          let first = lt_of_not-le inside in
          Checks.no_second_state l n n' (2 * k) (most_pairs - k) (omega arith) first (outside (dec_le n' (get_or l (2 * k + 1) 0)) (λ second. none (first, second)))
  fault_refused (one_too_many fine) =
      let names = fine.name_states most_pairs (omega arith) in
      refused_there (fine_less fine) (omega arith) (omega (arith, fine.whole))
      (Checks.no_pair_left l n n' (2 * most_pairs) 0 (omega (arith, fine.whole)) names.0 names.1 refl)

  -- ---- there is no other way

  -- all pairs are fine and the list ends after them, or there is a fault
  pub record Ends (k : ℕ) : Type 0 where
    pub fine : FinePairs l n n' k
    pub few : k ≤ most_pairs
    pub ends : length l ≡ 2 * k

  abbrev pub Faulty : Type 0
  Faulty = (number : ℕ) × (place : ℕ) × PairFault l n n' number place

  decide_states : (k : ℕ) → Dec (NamesStates l n n' k)
  decide_states k = on (dec_lt (get_or l (2 * k) 0) n) (dec_lt (get_or l (2 * k + 1) 0) n')
    where
      on : Dec (get_or l (2 * k) 0 < n) → Dec (get_or l (2 * k + 1) 0 < n') → Dec (NamesStates l n n' k)
      on (yes first) (yes second) = yes (first, second)
      on (no first) second = no (λ names. first names.0)
      on (yes first) (no second) = no (λ names. second names.1)

  -- by what comes after some fine pairs: `more` is for one that is fine too
  ways_after : (k left : ℕ) → FinePairs l n n' k → k + left ≡ most_pairs → (FinePairs l n n' (suc k) → 0 < left → ((k : ℕ) × Ends k) ⊎ Faulty)
      → ((k : ℕ) × Ends k) ⊎ Faulty
  ways_after k left fine all more = at_end (dec_le (length l) (2 * k))
    where
      one_more : (left : ℕ) → k + left ≡ most_pairs → FinePairs l n n' (suc k) → (0 < left → ((k : ℕ) × Ends k) ⊎ Faulty) → ((k : ℕ) × Ends k) ⊎ Faulty
      one_more zero all longer go_on = let full : suc k ≡ most_pairs + 1 = omega arith in inr (24, 2 * most_pairs, one_too_many (rw full at longer))
      one_more (suc left) all longer go_on = go_on (omega arith)

      named : 2 * k + 2 ≤ length l → Dec (NamesStates l n n' k) → ((k : ℕ) × Ends k) ⊎ Faulty
      named whole (yes names) = let longer = fine_more fine whole names in one_more left all longer (more longer)
      named whole (no none) = inr (23, 2 * k, no_such_state fine (omega arith) whole none)

      inside : 2 * k < length l → Dec (2 * k + 2 ≤ length l) → ((k : ℕ) × Ends k) ⊎ Faulty
      inside some (yes whole) = named whole (decide_states k)
      inside some (no cut) = inr (22, length l, pair_cut fine (omega arith) (omega (arith, lt_of_not-le cut)))

      at_end : Dec (length l ≤ 2 * k) → ((k : ℕ) × Ends k) ⊎ Faulty
      at_end (yes over) = inl (k, record { fine = fine; few = omega arith; ends = omega (arith, fine.whole) })
      at_end (no some) = inside (lt_of_not-le some) (dec_le (2 * k + 2) (length l))

  ways_from : (left k : ℕ) → FinePairs l n n' k → k + left ≡ most_pairs → ((k : ℕ) × Ends k) ⊎ Faulty
  ways_from zero k fine all = ways_after k zero fine all (λ longer some. absurd (omega arith))
  ways_from (suc left) k fine all = ways_after k (suc left) fine all (λ longer some. ways_from left (suc k) longer (omega arith))

  pub ways : ((k : ℕ) × Ends k) ⊎ Faulty
  ways = ways_from most_pairs 0 (record { whole = omega arith; name_states = λ i h. absurd (omega arith) }) refl
