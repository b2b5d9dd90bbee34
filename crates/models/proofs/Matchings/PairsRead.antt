-- Reading a list of pairs one after the other: the pairs that are read so far stand before the rest, and their relation is in the rows and columns.
use mathlib.Core.Path.{◌≡◌, refl, sym, ap, ◌∙◌}
use mathlib.Core.List.{List, [], ◌∷◌, ◌++◌, append-nil, append_assoc}
use Prim.Native.Nat.{ℕ, zero, suc, ◌*◌, ◌%◌, ◌^◌, ◌+◌, ◌-◌, ◌≤◌, ◌<◌}
use native.Mathlib.Omega.{arith}
use lib.ListN.{length, get_or, set, replicate}
use borrow.Author.Tests.{lt-ltb, le-ltb}
use Rattle.std.specs.Prelude.{Result, Ok}
use Rattle.std.proofs.Common.{min, take, drop, length-drop}
use Rattle.std.proofs.lemmas.List.{take_min, drop-drop}
use Rattle.std.proofs.Math.Seq.{take-append_seam, drop-append_seam}
use Rattle.reading.specs.File.{Outcome, accepted, refused, and_then}
use Rattle.reading.specs.Refusals.{as_outcome}
use Rattle.reading.specs.declared.refusals.Refusal.{Refusal}
use Rattle.synthesis.specs.NodeSet.{union}
use Rattle.models.specs.Pairs.{Pair, most_pairs, pair_at, pairs_at, pairs_of}
use Rattle.models.specs.Relating.{pair_read, Relates, RelatedAs}
use Rattle.models.specs.declared.pairing.Relation.{Relation}
use Rattle.models.proofs.Matchings.PairChecks.{pair_stands, pair_refused}
use Rattle.models.proofs.Matchings.PartnerLaws.{shifted}
use Rattle.models.proofs.Matchings.RelationLaws.{relates_none, relates_one_more}

-- ---- the ways of a list

-- some pairs before those of an outcome
abbrev pub after : List Pair → Outcome (List Pair) → Outcome (List Pair)
after done o = and_then o (λ ps. accepted (done ++ ps))

pub after_none : (o : Outcome (List Pair)) → o ≡ after [] o
after_none (accepted ps) = refl
after_none (refused number place) = refl

pub after_one : (done : List Pair) (p : Pair) (o : Outcome (List Pair)) → after done (and_then o (λ ps. accepted (p ∷ ps))) ≡ after (done ++ p ∷ []) o
after_one done p (accepted ps) = rw (append_assoc done (p ∷ []) ps)
after_one done p (refused number place) = refl

module _ (l : List ℕ) (n n' at : ℕ) where
  pub pairs_end : (left : ℕ) → length l ≤ at → pairs_at left l n n' at ≡ accepted []
  unfolding pairs_at
  pairs_end zero over = rw (le-ltb at (length l) over)
  pairs_end (suc left) over = rw (le-ltb at (length l) over)

  pub pairs_next : (left : ℕ) {p : Pair} → at < length l → pair_at l n n' at left ≡ accepted p
      → pairs_at left l n n' at ≡ and_then (pairs_at (left - 1) l n n' (at + 2)) (λ ps. accepted (p ∷ ps))
  unfolding pairs_at
  pairs_next zero {p} inside e = absurd (omega (arith, (pair_stands l n n' at zero p e).some_left))
  pairs_next (suc left) inside e = let same : suc left - 1 ≡ left = omega arith in rw (lt-ltb at (length l) inside, e, same)

  pub pairs_refused : (left : ℕ) {number place : ℕ} → at < length l → pair_at l n n' at left ≡ refused number place
      → pairs_at left l n n' at ≡ refused number place
  unfolding pairs_at
  pairs_refused zero inside e = rw (lt-ltb at (length l) inside, e)
  pairs_refused (suc left) inside e = rw (lt-ltb at (length l) inside, e)

-- ---- the chunks of a list

-- A chunk of two bytes, or of one that is left, and the rest after it.
module _ (l : List ℕ) (at : ℕ) (pair rest' : List ℕ) {rest : List ℕ} {size : ℕ} (is : rest ≡ drop at l) (two : size ≡ 2)
    (cut : (rest ≡ pair ++ rest') × (length pair ≡ min size (length rest)) × (0 < length rest)) where
  pub chunk_is : pair ≡ take 2 (drop at l)
  chunk_is =
      let long : length pair ≡ min 2 (length rest) = rw two at cut.1 in
      sym (take-append_seam pair rest') ∙ rw (← cut.0, long) (take_min 2 rest ∙ ap (take 2) is)

  pub chunk_inside : at < length l
  chunk_inside = omega (arith, cut.2, ap length is, length-drop at l)

  pub chunk_after : at + 1 < length l → rest' ≡ drop (at + 2) l
  chunk_after whole =
      let long : length pair ≡ 2 = omega (arith, cut.1, two, ap length is, length-drop at l) in
      sym (drop-append_seam pair rest') ∙ rw (← cut.0, long, is) (drop-drop 2 at l)

pub chunks_over : (l : List ℕ) (at : ℕ) {rest : List ℕ} → rest ≡ drop at l → length rest ≡ 0 → length l ≤ at
chunks_over l at is none = omega (arith, none, ap length is, length-drop at l)

-- ---- the loop

-- a set of states with one more, by its bit
abbrev pub with_bit : (set state : ℕ) → ℕ
with_bit set state = union set (1 * 2 ^ state % 2 ^ 64)

-- Pairs are read up to `at`, `left` are left, and the relation of those read is in the rows and the columns.
pub record PairsBegun (l : List ℕ) (n n' : ℕ) (rows columns : List ℕ) (left at : ℕ) : Type 0 where
  pub done : List Pair
  pub rest : pairs_of l n n' ≡ after done (pairs_at left l n n' at)
  pub relates : Relates done rows columns

pub begun_none : (l : List ℕ) (n n' : ℕ) → PairsBegun l n n' (replicate 64 0) (replicate 64 0) most_pairs 0
begun_none l n n' = record { done = []; rest = after_none (pairs_of l n n'); relates = relates_none }

module _ {l : List ℕ} {n n' : ℕ} {rows columns : List ℕ} {left at : ℕ} (b : PairsBegun l n n' rows columns left at) where
  pub begun_one : n ≤ 64 → n' ≤ 64 → at < length l → (p : Pair) → pair_at l n n' at left ≡ accepted p
      → PairsBegun l n n' (set rows p.first (with_bit (get_or rows p.first 0) p.second)) (set columns p.second (with_bit (get_or columns p.second 0) p.first))
      (left - 1) (at + 2)
  begun_one few few' inside p e =
      let stands = pair_stands l n n' at left p e in
      let first : p.first < 64 = omega (arith, stands.first_state) in
      let second : p.second < 64 = omega (arith, stands.second_state) in
      record {
        done = b.done ++ p ∷ [];
        rest = b.rest ∙ (ap (after b.done) (pairs_next l n n' at left inside e) ∙ after_one b.done p (pairs_at (left - 1) l n n' (at + 2)));
        relates = rw (shifted p.first first, shifted p.second second) (relates_one_more p first second b.relates);
      }

  -- ---- the ways out of the loop

  pub all_related : length l ≤ at → RelatedAs (pairs_of l n n') (Ok (record { rows = rows; columns = columns }))
  all_related over =
      let all : pairs_of l n n' ≡ accepted b.done = b.rest ∙ rw (pairs_end l n n' at left over, append-nil b.done) in
      rw all (_, refl, b.relates)

  pub refused_related : at < length l → {number place : ℕ} → refused number place ≡ pair_read (pair_at l n n' at left)
      → (result : Result Relation Refusal) → as_outcome result ≡ refused number place → RelatedAs (pairs_of l n n') result
  refused_related inside {number} {place} e result is =
      let refusal = pair_refused (pair_at l n n' at left) e in
      let all : pairs_of l n n' ≡ refused number place = b.rest ∙ rw (pairs_refused l n n' at left inside refusal) in
      rw all is
