-- The rows of the refusal table of a list of pairs: where the checks before it pass and its own doesn't, its refusal is what the pair says. And what a pair is
-- where every check passes.
use mathlib.Core.Path.{◌≡◌, sym, ap}
use mathlib.Core.List.{List}
use Prim.Native.Nat.{ℕ, ◌+◌, ◌≤◌, ◌<◌}
use native.Mathlib.Omega.{arith}
use lib.Dec.{eqb, leb}
use lib.ListN.{length, get_or}
use borrow.Author.Tests.{le-leb, lt-leb, ne_eqb, leb-false, eqb-false}
use Rattle.reading.specs.File.{Outcome, accepted, refused}
use Rattle.reading.proofs.Basics.Outcomes.{accepted_is, never_accepted, never_refused, refuse_accepted, and_then-refused}
use Rattle.models.specs.Pairs.{Pair, pair_at}
use Rattle.models.specs.Relating.{pair_read}

module _ (l : List ℕ) (n n' at left : ℕ) where
  pub pair_cut : length l ≤ at + 1 → pair_at l n n' at left ≡ refused 22 (length l)
  pair_cut h = simp (le-leb _ _ h)

  module _ (whole : at + 1 < length l) where
    pub no_first_state : n ≤ get_or l at 0 → pair_at l n n' at left ≡ refused 23 at
    no_first_state h = simp (lt-leb _ _ whole, le-leb _ _ h)

    module _ (first : get_or l at 0 < n) where
      pub no_second_state : n' ≤ get_or l (at + 1) 0 → pair_at l n n' at left ≡ refused 23 at
      no_second_state h = simp (lt-leb _ _ whole, lt-leb _ _ first, le-leb _ _ h)

      module _ (second : get_or l (at + 1) 0 < n') where
        pub no_pair_left : left ≡ 0 → pair_at l n n' at left ≡ refused 24 at
        no_pair_left h = simp (lt-leb _ _ whole, lt-leb _ _ first, lt-leb _ _ second, h)

        pub pair_whole : (left ≡ 0 → ⊥) → pair_at l n n' at left ≡ accepted (record { first = get_or l at 0; second = get_or l (at + 1) 0 })
        pair_whole h = simp (lt-leb _ _ whole, lt-leb _ _ first, lt-leb _ _ second, ne_eqb _ _ h)

  -- What an accepted pair is.
  pub record PairStands (p : Pair) : Type 0 where
    pub whole : at + 1 < length l
    pub first_is : get_or l at 0 ≡ p.first
    pub second_is : get_or l (at + 1) 0 ≡ p.second
    pub first_state : p.first < n
    pub second_state : p.second < n'
    pub some_left : 0 < left

  pub pair_stands : (p : Pair) → pair_at l n n' at left ≡ accepted p → PairStands p
  pair_stands p e =
      let whole = refuse_accepted (leb (length l) (at + 1)) 22 (length l) _ e in
      let first = refuse_accepted (leb n (get_or l at 0)) 23 at _ whole.1 in
      let second = refuse_accepted (leb n' (get_or l (at + 1) 0)) 23 at _ first.1 in
      let some = refuse_accepted (eqb left 0) 24 at _ second.1 in
      let is : ◌≡◌ {A = Pair} (record { first = get_or l at 0; second = get_or l (at + 1) 0 }) p = accepted_is some.1 in
      let first_is : get_or l at 0 ≡ p.first = cc in
      let second_is : get_or l (at + 1) 0 ≡ p.second = cc in
      record {
        whole = leb-false _ _ whole.0;
        first_is = first_is;
        second_is = second_is;
        first_state = omega (arith, leb-false n (get_or l at 0) first.0);
        second_state = omega (arith, leb-false n' (get_or l (at + 1) 0) second.0);
        some_left = omega (arith, eqb-false left 0 some.0);
      }

-- ---- what stands for a pair

pub pair_same : (p q : Pair) → p.first ≡ q.first → p.second ≡ q.second → p ≡ q
pair_same p q first second =
    let same : ◌≡◌ {A = Pair} (record { first = p.first; second = p.second }) (record { first = q.first; second = q.second }) = cc in
    same

-- its two states tell it
pub states_tell : (o : Outcome Pair) {x y : ℕ} → accepted (x, y) ≡ pair_read o → o ≡ accepted (record { first = x; second = y })
states_tell (accepted p) e = let same = accepted_is e in ap accepted (pair_same p _ (ap (λ (q : ℕ × ℕ). q.0) (sym same)) (ap (λ (q : ℕ × ℕ). q.1) (sym same)))
states_tell (refused number place) e = absurd (never_accepted (sym e))

pub pair_refused : (o : Outcome Pair) {number place : ℕ} → refused number place ≡ pair_read o → o ≡ refused number place
pair_refused o e = and_then-refused o _ (sym e) (λ r. r) (λ p is r. absurd (never_refused r))
