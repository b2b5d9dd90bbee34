-- Why a list of pairs is refused, and where, without the steps of a reader: a clause for each way in which a list can go wrong. Pair i of a list is its bytes
-- 2 × i and 2 × i + 1; n and n' are the counts of states of the two models.
use Rattle.std.specs.Prelude.{ℕ, ◌+◌, ◌*◌, ◌≤◌, ◌<◌, ◌≡◌, List, length, get_or}
use Rattle.models.specs.Pairs.{most_pairs}

-- pair i names states that the models have
abbrev pub NamesStates : List ℕ → (n n' i : ℕ) → Type 0
NamesStates l n n' i = (get_or l (2 * i) 0 < n) × (get_or l (2 * i + 1) 0 < n')

-- The first k pairs are whole, and name states.
pub record FinePairs (l : List ℕ) (n n' k : ℕ) : Type 0 where
  pub whole : 2 * k ≤ length l
  pub name_states : (i : ℕ) → i < k → NamesStates l n n' i

-- Refused with this number at this place. k counts the pairs before it.
pub data PairFault (l : List ℕ) (n n' : ℕ) : (number place : ℕ) → Type 0 where
  -- 22: one byte is left
  pair_cut : {k : ℕ} → FinePairs l n n' k → k ≤ most_pairs → length l ≡ 2 * k + 1 → PairFault l n n' 22 (length l)
  -- 23: the next pair is the first that names a state which isn't there
  no_such_state : {k : ℕ} → FinePairs l n n' k → k ≤ most_pairs → 2 * k + 2 ≤ length l → (NamesStates l n n' k → ⊥) → PairFault l n n' 23 (2 * k)
  -- 24: one too many, which is whole and names states
  one_too_many : FinePairs l n n' (most_pairs + 1) → PairFault l n n' 24 (2 * most_pairs)
