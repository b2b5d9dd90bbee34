-- Gathering the sets of the members of a set, its lowest member first: what is gathered has the members of the members' sets, so with the lowest
-- member's set the rest of the members give what all give.
use Prim.Native.Nat.{ℕ, zero, suc, ◌/◌, ◌^◌, ◌<◌}
use mathlib.Core.Path.{◌≡◌}
use mathlib.Core.Logic.{◌↔◌}
use mathlib.Core.Bool.{cond}
use mathlib.Core.List.{List, [], ◌∷◌}
use native.Mathlib.Decide.{ℕ_discrete}
use native.Mathlib.Omega.{arith}
use lib.Bits.{or_zero_r}
use lib.Count.{count_trailing_zeros}
use lib.ListN.{get_or}
use Rattle.reading.specs.Pattern.{least}
use Rattle.reading.proofs.Measures.Counting.{least_holds}
use Rattle.reading.proofs.Measures.Bits.{is_set, trailing_is_least, trailing_lt}
use Rattle.synthesis.specs.NodeSet.{Has, has, empty_set, union}
use Rattle.synthesis.specs.Arrays.{gathered}
use Rattle.synthesis.proofs.Unfolding.NodeSetLaws.{has_none, half_has, has_true, true_has, same_members_same_set, no_member_empty}
use Rattle.synthesis.proofs.Unfolding.NodeSetLaws.{toggled, toggled_other}
use Rattle.synthesis.proofs.Unfolding.MemberLaws.{cond_has, has_union_first, has_union_second, union_cases}

-- ---- which nodes are gathered

-- some member's set has m
abbrev pub Gathers : List ℕ → (live m : ℕ) → Type 0
Gathers xs live m = (n : ℕ) × Has live n × Has (get_or xs n 0) m

pub gathered_has : (xs : List ℕ) (live m : ℕ) → Has (gathered xs live) m ↔ Gathers xs live m
gathered_has xs live m = (has_gathers xs live, λ g. gathers_has xs live g.0 g.1 g.2)
  where
    has_gathers : (xs : List ℕ) (live : ℕ) → Has (gathered xs live) m → Gathers xs live m
    has_gathers [] live h = absurd (has_none m h)
    has_gathers (x ∷ xs) live h =
        union_cases (cond (has live 0) x empty_set) (gathered xs (live / 2)) m
        (λ a. let (test, k) = cond_has (has live 0) x m a in (0, has_true live 0 test, k))
        (λ a. let (n, l, k) = has_gathers xs (live / 2) a in (suc n, (half_has live n).0 l, k)) h

    gathers_has : (xs : List ℕ) (live n : ℕ) → Has live n → Has (get_or xs n 0) m → Has (gathered xs live) m
    gathers_has [] live n h k = k
    gathers_has (x ∷ xs) live zero h k = has_union_first (cond (has live 0) x empty_set) (gathered xs (live / 2)) m (rw (true_has live 0 h) k)
    gathers_has (x ∷ xs) live (suc n) h k =
        has_union_second (cond (has live 0) x empty_set) (gathered xs (live / 2)) m (gathers_has xs (live / 2) n ((half_has live n).1 h) k)

-- ---- one member at a time

-- with the set of a member, what the other members have is what all have
pub gather_step : (xs : List ℕ) (all rest i : ℕ) → Has rest i
    → union (union all (get_or xs i 0)) (gathered xs (toggled rest i)) ≡ union all (gathered xs rest)
gather_step xs all rest i h = same_members_same_set _ _ (λ m. (stepped_in_whole m, whole_in_stepped m))
  where
    own_set : ℕ
    own_set = get_or xs i 0

    other_sets : ℕ
    other_sets = gathered xs (toggled rest i)

    toggled_member : (n : ℕ) → Has (toggled rest i) n → Dec (i ≡ n) → Has rest n
    toggled_member n k (yes q) = rw (← q) h
    toggled_member n k (no q) = (toggled_other rest i n q).0 k

    gathered_in_whole : (m n : ℕ) → Has rest n → Has (get_or xs n 0) m → Has (union all (gathered xs rest)) m
    gathered_in_whole m n r a = has_union_second all (gathered xs rest) m ((gathered_has xs rest m).1 (n, r, a))

    stepped_in_whole : (m : ℕ) → Has (union (union all own_set) other_sets) m → Has (union all (gathered xs rest)) m
    stepped_in_whole m =
        union_cases (union all own_set) other_sets m (union_cases all own_set m (has_union_first all (gathered xs rest) m) (gathered_in_whole m i h))
        (λ a. let (n, k, x) = (gathered_has xs (toggled rest i) m).0 a in gathered_in_whole m n (toggled_member n k (ℕ_discrete i n)) x)

    gathered_in_stepped : (m n : ℕ) → Has rest n → Has (get_or xs n 0) m → Dec (i ≡ n) → Has (union (union all own_set) other_sets) m
    gathered_in_stepped m n r a (yes q) = has_union_first (union all own_set) other_sets m (has_union_second all own_set m (rw q a))
    gathered_in_stepped m n r a (no q) =
        has_union_second (union all own_set) other_sets m ((gathered_has xs (toggled rest i) m).1 (n, (toggled_other rest i n q).1 r, a))

    whole_in_stepped : (m : ℕ) → Has (union all (gathered xs rest)) m → Has (union (union all own_set) other_sets) m
    whole_in_stepped m =
        union_cases all (gathered xs rest) m (λ a. has_union_first (union all own_set) other_sets m (has_union_first all own_set m a))
        (λ a. let (n, r, x) = (gathered_has xs rest m).0 a in gathered_in_stepped m n r x (ℕ_discrete i n))

pub gather_none : (xs : List ℕ) (all : ℕ) → union all (gathered xs empty_set) ≡ all
gather_none xs all = rw gathered_empty (or_zero_r all)
  where
    gathered_empty : gathered xs empty_set ≡ empty_set
    gathered_empty = no_member_empty (gathered xs empty_set) (λ m a. let (n, h, x) = (gathered_has xs empty_set m).0 a in has_none n h)

-- ---- the lowest member

pub lowest_lt : (e : ℕ) → (e ≡ 0 → ⊥) → e < 2 ^ 64 → count_trailing_zeros 64 e < 64
lowest_lt e n h = trailing_lt 64 e (omega arith) h

pub has_lowest : (e : ℕ) → (e ≡ 0 → ⊥) → e < 2 ^ 64 → Has e (count_trailing_zeros 64 e)
has_lowest e n h =
    let t = trailing_is_least 64 e in
    let l : least 64 (is_set e) < 64 = rw (← t) (lowest_lt e n h) in
    rw t (has_true e (least 64 (is_set e)) (least_holds 64 (is_set e) l))
