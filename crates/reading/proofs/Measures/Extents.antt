-- What a pattern covers: the trailing zeros of its mask and of its set of slots give the lowest code, and their ones how many codes. A pattern tests the
-- kind of a code and its slot, each by itself; so the lowest code has the lowest kind and the lowest slot, and the count is a product. A mask of 0 has no
-- bit that is set, so no code is covered, and any other has one.
use mathlib.Core.Path.{◌≡◌, refl, sym, ap, ◌∙◌}
use mathlib.Core.Bool.{Bool, true, false, cond, true≢false, and-eq-true_iff}
use Prim.Native.Nat.{ℕ, ◌+◌, ◌*◌, ◌≤◌, ◌<◌}
use native.Mathlib.Nat.{lt_of_not-le}
use native.Mathlib.Decide.{dec_le}
use native.Mathlib.Omega.{arith}
use lib.Count.{ones, count_trailing_zeros}
use lib.Dec.{ltb}
use borrow.Author.Tests.{eqb-true, eq-eqb, lt-leb, lt-ltb, le-ltb}
use Rattle.reading.specs.Pattern.{kind_of, slot_of, bit, named, IsSlotSet, covers, least, count_below, lowest_slot, slot_width}
use Rattle.reading.specs.Pattern.{lowest_of, extent_of, WellFormedPattern}
use Rattle.reading.specs.Numbered.{no_extent}
use Rattle.reading.specs.Promises.{CoversMeans, MeasuresPattern, ToldBySet}
use Rattle.reading.specs.declared.Pattern.{Pattern}
use Rattle.reading.specs.declared.Extent.{Extent}
use Rattle.std.specs.Prelude.{Some, None}
use Rattle.reading.proofs.Measures.Bits.{bit_over, is_set, trailing_is_least, trailing_lt, ones_is_count}
use Rattle.reading.proofs.Measures.Counting.{least_is, least_holds, least_min, least_none, count_below-none}
use Rattle.reading.proofs.Measures.NamedSlots.{named_means, named_extent, lowest_slot-lt}
use Rattle.reading.proofs.Measures.SlotSets.{measures_slots}
use Rattle.reading.proofs.Measures.TwoEnds.{sets_of_slots}
use Rattle.reading.proofs.Measures.Products.{of_both, least_of_both, count_below-of_both}

-- ---- what a pattern covers

pub covers_means : CoversMeans
unfolding covers
covers_means p code = (
  λ h.
      let parts = (and-eq-true_iff (is_set p.mask (kind_of code)) (named p.first p.last (slot_of code))).0 h in
      (eqb-true (bit (kind_of code) p.mask) 1 parts.0, (named_means p.first p.last (slot_of code)).0 parts.1),
  λ (k, n). rw (eq-eqb _ _ k) ((named_means p.first p.last (slot_of code)).1 n),
)

-- a test of the kind and a test of the slot
covers_both : (p : Pattern) → covers p ≡ of_both (is_set p.mask) (named p.first p.last)
unfolding covers
covers_both p = refl

-- ---- a mask of 0

pub covers_none : (p : Pattern) → p.mask ≡ 0 → (code : ℕ) → covers p code ≡ false
unfolding covers
covers_none p none code = rw (none, bit_over 0 (kind_of code) 0 (omega arith) (omega arith))

pub no_extent_lem : (p : Pattern) → p.mask ≡ 0 → extent_of p ≡ no_extent
no_extent_lem p none =
    let uncovered : (i : ℕ) → i < 256 → covers p i ≡ false = λ i l. covers_none p none i in
    rw (least_none 256 (covers p) uncovered, count_below-none 256 (covers p) uncovered)

-- ---- the lowest code as a case

absent_code : (low : ℕ) → None ≡ Some low → ⊥
absent_code low e = let z : ◌≡◌ {A = ℕ} 0 1 = cc in omega arith

code_same : (a b : ℕ) → Some a ≡ Some b → a ≡ b
code_same a b e = cc

lowest_least : (p : Pattern) (low : ℕ) → lowest_of p ≡ Some low → (least 256 (covers p) < 256) × (least 256 (covers p) ≡ low)
lowest_least p low e = on (least 256 (covers p)) (dec_le 256 (least 256 (covers p))) e
  where
    on : (m : ℕ) → Dec (256 ≤ m) → cond (ltb m 256) (Some m) None ≡ Some low → (m < 256) × (m ≡ low)
    on m (yes h) e = absurd (absent_code low (rw (le-ltb m 256 h) at e))
    on m (no h) e = (lt_of_not-le h, code_same m low (rw (lt-ltb m 256 (lt_of_not-le h)) at e))

-- ---- its lowest code, and its count

module _ (p : Pattern) (ok : WellFormedPattern p) where
  slots : (least 32 (named p.first p.last) ≡ lowest_slot p.first p.last)
      × (count_below 32 (named p.first p.last) ≡ slot_width p.first p.last)
  slots = named_extent p.first p.last (omega (arith, ok.first_slot)) (omega (arith, ok.last_slot))

  slot_inside : lowest_slot p.first p.last < 32
  slot_inside = lowest_slot-lt 32 p.first p.last (omega (arith, ok.first_slot))

  -- each kind of the mask has the slots that first and last name
  pub code_count : count_below 256 (covers p) ≡ ones p.mask * slot_width p.first p.last
  code_count =
      rw (covers_both, ones_is_count 8 p.mask (omega (arith, ok.byte)), ← slots.1)
      (count_below-of_both (is_set p.mask) (named p.first p.last) 8)

  -- no code past the 256 has a kind of the mask
  covered_lt : (code : ℕ) → covers p code ≡ true → code < 256
  covered_lt code t = on (dec_le 8 (kind_of code))
    where
      on : Dec (8 ≤ kind_of code) → code < 256
      on (yes h) = absurd (omega (arith, ((covers_means p code).0 t).0, bit_over 8 (kind_of code) p.mask (omega (arith, ok.byte)) h))
      on (no h) = omega arith

  module _ (some : 0 < p.mask) where
    lowest_kind : count_trailing_zeros 8 p.mask < 8
    lowest_kind = trailing_lt 8 p.mask some (omega (arith, ok.byte))

    -- the least kind of the mask, with the lowest slot
    least_code : least 256 (covers p) ≡ count_trailing_zeros 8 p.mask * 32 + lowest_slot p.first p.last
    least_code =
        let kind : least 8 (is_set p.mask) ≡ count_trailing_zeros 8 p.mask = sym (trailing_is_least 8 p.mask) in
        let inside : least 8 (is_set p.mask) < 8 = omega (arith, lowest_kind) in
        let both = least_of_both (is_set p.mask) (named p.first p.last) 8 inside (omega (arith, slots.0, slot_inside)) in
        rw covers_both (omega (arith, slots.0))

    least_lt : least 256 (covers p) < 256
    least_lt = rw least_code (omega (arith, lowest_kind, slot_inside))

    lowest_code : lowest_of p ≡ Some (least 256 (covers p))
    lowest_code = rw (lt-ltb _ _ least_lt)

  no_kind : Dec (1 ≤ p.mask) → (0 < p.mask → ⊥) → p.mask ≡ 0
  no_kind (yes some) none = absurd (none some)
  no_kind (no m) none = omega (arith, lt_of_not-le m)

  pub measures_pattern : MeasuresPattern p
  measures_pattern = record {
    lowest = λ low. (least_covered low, λ (t, min). least_lowest low t min);
    absent = (
      λ e. no_kind (dec_le 1 p.mask) (λ some. absent_code _ (sym e ∙ lowest_code some)),
      λ none. ap (λ (x : Extent). x.lowest) (no_extent_lem p none),
    );
    empty = (covers_none p, λ none. no_kind (dec_le 1 p.mask) (λ some. true≢false (sym (least_holds 256 (covers p) (least_lt some)) ∙ none _)));
    round_lowest = λ low e h. round low (lowest_least p low e) h (dec_le 1 p.mask);
    by_zeros = λ some. lowest_code some ∙ ap Some (least_code some);
    by_ones = code_count;
  }
    where
      least_covered : (low : ℕ) → lowest_of p ≡ Some low → (covers p low ≡ true) × ((code : ℕ) → covers p code ≡ true → low ≤ code)
      least_covered low e =
          let (inside, is) = lowest_least p low e in
          (rw is at (least_holds 256 (covers p) inside), λ code t. omega (arith, least_min 256 (covers p) code t))

      uncovered : (low i : ℕ) → ((code : ℕ) → covers p code ≡ true → low ≤ code) → i < low → (b : Bool) → covers p i ≡ b → covers p i ≡ false
      uncovered low i min h true e = absurd (omega (arith, min i e))
      uncovered low i min h false e = e

      least_lowest : (low : ℕ) → covers p low ≡ true → ((code : ℕ) → covers p code ≡ true → low ≤ code) → lowest_of p ≡ Some low
      least_lowest low t min =
          let inside = covered_lt low t in
          let is = least_is 256 low (covers p) inside t (λ i h. uncovered low i min h (covers p i) refl) in
          rw (is, lt-ltb low 256 inside)

      round : (low : ℕ) → (least 256 (covers p) < 256) × (least 256 (covers p) ≡ low) → p.last < p.first → Dec (1 ≤ p.mask) → slot_of low ≡ 0
      round low (inside, is) h (yes some) =
          let slot : lowest_slot p.first p.last ≡ 0 = rw (lt-leb p.first p.last h) in omega (arith, least_code some)
      round low (inside, is) h (no m) =
          absurd (true≢false (sym (least_holds 256 (covers p) inside) ∙ covers_none p (omega (arith, lt_of_not-le m)) _))

-- ---- both by the word of the set of slots

module _ (p : Pattern) (word : ℕ) (set : IsSlotSet (named p.first p.last) word) where
  least_by_set : WellFormedPattern p → 0 < p.mask → least 256 (covers p) ≡ count_trailing_zeros 8 p.mask * 32 + count_trailing_zeros 32 word
  least_by_set ok some = omega (arith, least_code p ok some, (slots p ok).0, (measures_slots (named p.first p.last) word set).by_zeros)

  count_by_set : WellFormedPattern p → count_below 256 (covers p) ≡ ones p.mask * ones word
  count_by_set ok = rw ((measures_slots (named p.first p.last) word set).by_ones, (slots p ok).1) (code_count p ok)

  pub told_by_set : ToldBySet p word
  told_by_set = record {
    covered = λ code.
        let means = covers_means p code in
        let exactly = (sets_of_slots.members p.first p.last word).0 set (slot_of code) in (
          λ h. let (kind, slot) = means.0 h in (kind, exactly.1 (omega arith, slot)),
          λ (kind, slot). means.1 (kind, (exactly.0 slot).1),
        );
    lowest = λ ok some. lowest_code p ok some ∙ ap Some (least_by_set ok some);
    count = count_by_set;
  }

  -- it is one of the 256 codes
  pub lowest_fits : WellFormedPattern p → 0 < p.mask → count_trailing_zeros 8 p.mask * 32 + count_trailing_zeros 32 word < 256
  lowest_fits ok some = omega (arith, least_lt p ok some, least_by_set ok some)
