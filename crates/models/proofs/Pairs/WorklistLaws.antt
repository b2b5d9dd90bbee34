-- Laws of the worklist. Each pair seen is marked in an array of 64,000, so there are at most so many; and where one isn't seen yet, there is room.
use Prim.Native.Nat.{ℕ, ◌+◌, ◌<◌}
use mathlib.Core.Path.{◌≡◌, refl, sym, ◌∙◌, ap, subst}
use mathlib.Core.Logic.{◌⊎◌, inl, inr}
use mathlib.Core.Bool.{Bool, true, false, cond}
use native.Mathlib.Decide.{dec_lt}
use native.Mathlib.Omega.{arith}
use lib.Dec.{eqb}
use lib.ListN.{get_or, set, replicate, length-set, length-replicate}
use lib.Seq.{get_or-set_same, get_or-set_other}
use borrow.Author.Tests.{eqb-true, eqb-false}
use Rattle.std.proofs.Common.{count_by}
use Rattle.std.proofs.lemmas.List.Sums.{sum_by-set, count_by-le-length}
use Rattle.std.proofs.lemmas.List.Folds.{sum_by-replicate}
use Rattle.reading.proofs.Numbering.NumberedLaws.{repeated_at}
use Rattle.models.specs.Exploring.{pair_limit, Seen, ListsSeen, Extended, Enqueued, TakenPair}
use Rattle.models.specs.declared.worklist.Worklist.{Worklist}

-- ---- enqueueing a pair

module _ (w : Worklist) (lists : ListsSeen w) where
  module _ (pair : ℕ) (inside : pair < pair_limit) (new : get_or w.seen pair false ≡ false) where
    abbrev after : Worklist
    after = record { seen = set w.seen pair true; pairs = set w.pairs w.found pair; found = w.found + 1; expanded = w.expanded }

    count_enqueued : count_by (λ s. s) (set w.seen pair true) ≡ w.found + 1
    count_enqueued =
        let more = sum_by-set (λ s. cond s 1 0) w.seen pair true false (omega (arith, lists.seen_length)) in
        omega (arith, more, ap (λ s. cond {A = ℕ} s 1 0) new, lists.counted)

    -- there is room for a new one
    pub found_room : w.found < pair_limit
    found_room = omega (arith, count_enqueued, count_by-le-length (λ s. s) (set w.seen pair true), length-set w.seen pair true, lists.seen_length)

    set_seen : Seen after pair
    set_seen = get_or-set_same w.seen pair true false (omega (arith, lists.seen_length))

    not_seen : Seen w pair → ⊥
    not_seen h = let e : true ≡ false = sym h ∙ new in cc

    set_keeps_seen : (p : ℕ) → Seen w p → Seen after p
    set_keeps_seen p h = get_or-set_other w.seen pair p true false (λ e. not_seen (rw e at h)) ∙ h

    set_adds_only : (p : ℕ) → Seen after p → Seen w p ⊎ (p ≡ pair)
    set_adds_only p h = on (eqb p pair) refl
      where
        on : (b : Bool) → eqb p pair ≡ b → Seen w p ⊎ (p ≡ pair)
        on true q = inr (eqb-true p pair q)
        on false q = inl (sym (get_or-set_other w.seen pair p true false (eqb-false p pair q)) ∙ h)

    set_keeps_listed : (i : ℕ) → i < w.found → get_or after.pairs i 0 ≡ get_or w.pairs i 0
    set_keeps_listed i h = get_or-set_other w.pairs w.found i pair 0 (λ e. omega arith)

    set_listed : get_or after.pairs w.found 0 ≡ pair
    set_listed = get_or-set_same w.pairs w.found pair 0 (omega (arith, found_room, lists.pairs_length))

    set_seen_listed : (p : ℕ) → Seen w p ⊎ (p ≡ pair) → (i : ℕ) × (i < w.found + 1) × (get_or after.pairs i 0 ≡ p)
    set_seen_listed p (inl h) = let at = lists.seen_listed p h in (at.0, omega (arith, at.1), set_keeps_listed at.0 at.1 ∙ at.2)
    set_seen_listed p (inr e) = (w.found, omega arith, set_listed ∙ sym e)

    set_listed_seen : (i : ℕ) → i < w.found + 1 → Seen after (get_or after.pairs i 0)
    set_listed_seen i h = on (dec_lt i w.found)
      where
        on : Dec (i < w.found) → Seen after (get_or after.pairs i 0)
        on (yes a) = rw (set_keeps_listed i a) (set_keeps_seen (get_or w.pairs i 0) (lists.listed_seen i a))
        on (no a) = let e : i ≡ w.found = omega arith in rw (e, set_listed) set_seen

    pub enqueued_new : Enqueued pair w after
    enqueued_new = record {
      extended = record {
        lists_seen = record {
          seen_length = length-set w.seen pair true ∙ lists.seen_length;
          pairs_length = length-set w.pairs w.found pair ∙ lists.pairs_length;
          counted = count_enqueued;
          seen_listed = λ p h. set_seen_listed p (set_adds_only p h);
          listed_seen = set_listed_seen;
          expanded_found = omega (arith, lists.expanded_found);
        };
        same_expanded = refl;
        keeps_seen = set_keeps_seen;
        adds_only = set_adds_only;
        grows = omega arith;
        keeps_listed = set_keeps_listed;
      };
      is_seen = set_seen;
    }

-- ---- taking a pair off the frontier

pub taken_lists : {w w' : Worklist} {pair : ℕ} → ListsSeen w → TakenPair w w' pair → ListsSeen w'
taken_lists lists taken = subst ListsSeen (sym taken.taken) (record {
  seen_length = lists.seen_length;
  pairs_length = lists.pairs_length;
  counted = lists.counted;
  seen_listed = lists.seen_listed;
  listed_seen = lists.listed_seen;
  expanded_found = omega (arith, taken.more);
})

-- ---- the empty worklist, and one extended twice

abbrev pub empty : Worklist
empty = record { seen = replicate pair_limit false; pairs = replicate pair_limit 0; found = 0; expanded = 0 }

pub empty_unseen : (p : ℕ) → Seen empty p → ⊥
empty_unseen p h = let e : true ≡ false = sym h ∙ repeated_at false pair_limit p in cc

pub empty_lists : ListsSeen empty
empty_lists = record {
  seen_length = length-replicate pair_limit false;
  pairs_length = length-replicate {A = ℕ} pair_limit 0;
  counted = sum_by-replicate (λ s. cond s 1 0) pair_limit false ∙ omega arith;
  seen_listed = λ p h. absurd (empty_unseen p h);
  listed_seen = λ i h. absurd (omega arith);
  expanded_found = omega arith;
}

pub extended_trans : (P Q : ℕ → Type 0) {v w x : Worklist} → Extended P v w → Extended Q w x → ((p : ℕ) → Q p → P p) → Extended P v x
extended_trans P Q {v} {w} {x} g h has = record {
  lists_seen = h.lists_seen;
  same_expanded = h.same_expanded ∙ g.same_expanded;
  keeps_seen = λ p a. h.keeps_seen p (g.keeps_seen p a);
  adds_only = λ p a. adds_only_trans p (h.adds_only p a);
  grows = omega (arith, g.grows, h.grows);
  keeps_listed = λ i a. h.keeps_listed i (omega (arith, g.grows)) ∙ g.keeps_listed i a;
}
  where
    adds_only_trans : (p : ℕ) → Seen w p ⊎ Q p → Seen v p ⊎ P p
    adds_only_trans p (inl a) = g.adds_only p a
    adds_only_trans p (inr a) = inr (has p a)
