-- The slots that first and last name. In order they are one run: misses, hits, misses. Round, they are hits, misses, hits. So the lowest is read off,
-- and the count is that of the hits. It is done for any number n of slots in place of 32.
use mathlib.Core.Path.{◌≡◌}
use mathlib.Core.Logic.{◌↔◌, ◌⊎◌, inl, inr}
use mathlib.Core.Bool.{Bool, true, false, cond, ◌||◌, and-eq-true_iff, and-false, or-true}
use Prim.Native.Nat.{ℕ, suc, ◌+◌, ◌-◌, ◌≤◌, ◌<◌}
use native.Mathlib.Nat.{lt_of_not-le}
use native.Mathlib.Decide.{dec_le}
use native.Mathlib.Omega.{arith}
use lib.Dec.{leb}
use borrow.Author.Tests.{leb-true, le-leb, lt-leb}
use Rattle.reading.specs.Pattern.{named, lowest_slot, slot_width, least, count_below}
use Rattle.reading.specs.Promises.{Names}
use Rattle.reading.proofs.Measures.Counting.{least_is, count_below-parts, count_below-none, count_below-all}

-- ---- what they are

-- a slot is in one of two orders with each end
pub named_means : (first last slot : ℕ) → (named first last slot ≡ true) ↔ Names first last slot
named_means first last slot = (λ h. forth (dec_le first last) h, back)
  where
    either : Dec (first ≤ slot) → (leb first slot || leb slot last) ≡ true → (first ≤ slot) ⊎ (slot ≤ last)
    either (yes f) h = inl f
    either (no f) h = inr (leb-true slot last (rw (lt-leb first slot (lt_of_not-le f)) at h))

    forth : Dec (first ≤ last) → named first last slot ≡ true → Names first last slot
    forth (yes o) h =
        let ends = (and-eq-true_iff (leb first slot) (leb slot last)).0 (rw (le-leb first last o) at h) in
        inl (o, leb-true first slot ends.0, leb-true slot last ends.1)
    forth (no o) h = inr (lt_of_not-le o, either (dec_le first slot) (rw (lt-leb first last (lt_of_not-le o)) at h))

    back : Names first last slot → named first last slot ≡ true
    back (inl (o, f, l)) = rw (le-leb first last o, le-leb first slot f, le-leb slot last l)
    back (inr (o, inl f)) = rw (lt-leb first last o, le-leb first slot f)
    back (inr (o, inr l)) = rw (lt-leb first last o, le-leb slot last l) (or-true (leb first slot))

-- ---- the lowest of them, and how many there are

pub lowest_slot-lt : (n first last : ℕ) → first < n → lowest_slot first last < n
lowest_slot-lt n first last h = on (leb first last)
  where
    on : (b : Bool) → cond b first 0 < n
    on true = h
    on false = omega arith

-- among n slots
abbrev Measured : (n first last lowest width : ℕ) → Type 0
Measured n first last lowest width = (least n (named first last) ≡ lowest) × (count_below n (named first last) ≡ width)

module _ (n first last : ℕ) (first_slot : first < n) (last_slot : last < n) where
  in_order : first ≤ last → Measured n first last first (last - first + 1)
  in_order h =
      let width = last - first + 1 in
      let rest = n - last - 1 in
      let test = named first last in
      let whole : first + width + rest ≡ n = omega arith in
      let on : leb first last ≡ true = le-leb first last h in
      let all = rw whole at (count_below-parts first width rest test) in
      let misses = count_below-none first test (λ i l. rw (on, lt-leb first i l)) in
      let hits = count_below-all width (λ i. test (first + i))
      (λ i l. rw (on, le-leb first (first + i) (omega arith), le-leb (first + i) last (omega arith))) in
      let more = count_below-none rest (λ i. test (first + width + i))
      (λ i l. rw (on, lt-leb (first + width + i) last (omega arith)) (and-false (leb first (first + width + i)))) in (
        least_is n first test first_slot (rw (on, le-leb first first (omega arith))) (λ i l. rw (on, lt-leb first i l)),
        omega (arith, all, misses, hits, more),
      )

  round : last < first → Measured n first last 0 (n - first + last + 1)
  round h =
      let gap = first - suc last in
      let rest = n - first in
      let test = named first last in
      let whole : suc last + gap + rest ≡ n = omega arith in
      let off : leb first last ≡ false = lt-leb first last h in
      let all = rw whole at (count_below-parts (suc last) gap rest test) in
      let hits = count_below-all (suc last) test (λ i l. rw (off, lt-leb first i (omega arith), le-leb i last (omega arith))) in
      let misses = count_below-none gap (λ i. test (suc last + i))
      (λ i l. rw (off, lt-leb first (suc last + i) (omega arith), lt-leb (suc last + i) last (omega arith))) in
      let more = count_below-all rest (λ i. test (suc last + gap + i)) (λ i l. rw (off, le-leb first (suc last + gap + i) (omega arith))) in (
        least_is n 0 test (omega arith) (rw (off, lt-leb first 0 (omega arith), le-leb 0 last (omega arith))) (λ i l. absurd (omega arith)),
        omega (arith, all, hits, misses, more),
      )

-- among 32, in either case
pub named_extent : (first last : ℕ) → first < 32 → last < 32 → Measured 32 first last (lowest_slot first last) (slot_width first last)
named_extent first last f l = by (dec_le first last)
  where
    by : Dec (first ≤ last) → Measured 32 first last (lowest_slot first last) (slot_width first last)
    by (yes h) = let on = le-leb first last h in let (low, many) = in_order 32 first last f l h in (rw on low, rw on many)
    by (no h) = let off = lt-leb first last (lt_of_not-le h) in let (low, many) = round 32 first last f l (lt_of_not-le h) in (rw off low, rw off many)
