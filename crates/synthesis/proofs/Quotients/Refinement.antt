-- After as many rounds as there are equations the classes are settled. A round leaves the first equations of the classes first and, unless it changes
-- nothing, adds to them; but there are no more of them than equations, and after a round that changes nothing no other changes anything. Equations
-- that drop alike are never parted, as a code that they keep leads them to equations that drop alike.
use Prim.Native.Nat.{ℕ, zero, suc, ◌≤◌, ◌<◌}
use mathlib.Core.Path.{◌≡◌, refl, sym, ◌∙◌, ap}
use mathlib.Core.Logic.{◌↔◌, ◌⊎◌, inl, inr}
use mathlib.Core.Bool.{Bool, true}
use mathlib.Core.List.{List}
use native.Mathlib.Decide.{dec_le, dec_lt}
use native.Mathlib.Omega.{arith}
use lib.Dec.{eqb}
use lib.ListN.{length, get_or, get_or-replicate}
use lib.Seq.{ext_get_or}
use borrow.Author.Tests.{eq-eqb, eqb-true}
use Rattle.reading.specs.Pattern.{least, count_below}
use Rattle.reading.proofs.Measures.Counting.{least_holds, least_le, least_min, count_below-le, count_below-no_wider}
use Rattle.synthesis.specs.Monitor.{Answer, next}
use Rattle.synthesis.specs.Merging.{DropAlike, up_to, together, refined, rounds}
use Rattle.synthesis.proofs.Monitors.DroppingAlike.{StepAlike, both_dropped, both_next, alike_step}
use Rattle.synthesis.proofs.Quotients.Together.{Agree, together_agree, agree_together, agree_refl, agree_sym, agree_trans}
use Rattle.synthesis.proofs.Quotients.Together.{refined_length, refined_at, rounds_first, rounds_next, rounds_length}
use Rattle.synthesis.proofs.Quotients.Settled.{Inside, Settled}

-- the equation is the first of its class
abbrev is_first : List ℕ → ℕ → Bool
is_first classes k = eqb (get_or classes k 0) k

-- ---- one round

module _ (codes : ℕ) (answer : ℕ → ℕ → Answer ℕ) (count : ℕ) (classes : List ℕ) where
  abbrev after : List ℕ
  after = refined codes answer classes count

  abbrev Agrees : (k l : ℕ) → Type 0
  Agrees = Agree codes answer classes

  abbrev stays : (k l : ℕ) → Bool
  stays = together codes answer classes

  pub refined_le : (k : ℕ) → k < count → get_or after k 0 ≤ k
  refined_le k h = rw (refined_at codes answer classes count k h) (least_le k (stays k))

  -- an equation agrees with the first of its class, and with none before that
  first_agrees : (k : ℕ) → k < count → Agrees k (get_or after k 0)
  first_agrees k h = rw (refined_at codes answer classes count k h) (on (dec_lt (least k (stays k)) k))
    where
      on : Dec (least k (stays k) < k) → Agrees k (least k (stays k))
      on (yes l) = together_agree codes answer classes k _ (least_holds k (stays k) l)
      on (no l) = let z : least k (stays k) ≡ k = omega (arith, least_le k (stays k)) in rw z (agree_refl codes answer classes k)

  first_least : (k i : ℕ) → k < count → Agrees k i → get_or after k 0 ≤ i
  first_least k i h a = rw (refined_at codes answer classes count k h) (least_min k (stays k) i (agree_together codes answer classes k i a))

  -- equations are of one class after the round where they agree before it
  pub refined_class : (k l : ℕ) → k < count → l < count → (get_or after k 0 ≡ get_or after l 0) ↔ Agrees k l
  refined_class k l h h' = (
    λ e. trans k (get_or after l 0) l (rw e at (first_agrees k h)) (agree_sym codes answer classes l _ (first_agrees l h')),
    λ a. omega (arith, below k l h h' a, below l k h' h (agree_sym codes answer classes k l a)),
  )
    where
      trans : (k l m : ℕ) → Agrees k l → Agrees l m → Agrees k m
      trans = agree_trans codes answer classes

      below : (k l : ℕ) → k < count → l < count → Agrees k l → get_or after k 0 ≤ get_or after l 0
      below k l h h' a = first_least k (get_or after l 0) h (trans k l (get_or after l 0) a (first_agrees l h'))

  -- the first equation of a class is of that class
  pub refined_again : (k : ℕ) → k < count → get_or after (get_or after k 0) 0 ≡ get_or after k 0
  refined_again k h = sym ((refined_class k (get_or after k 0) h (omega (arith, refined_le k h))).1 (first_agrees k h))

  module _ (le : (k : ℕ) → k < count → get_or classes k 0 ≤ k) where
    -- a first equation stays first
    first_stays : (k : ℕ) → k < count → is_first classes k ≡ true → is_first after k ≡ true
    first_stays k h e =
        let down = refined_le k h in
        let low = le (get_or after k 0) (omega arith) in
        eq-eqb (get_or after k 0) k (omega (arith, eqb-true (get_or classes k 0) k e, (first_agrees k h).one_class))

    -- where no equation becomes first, nothing changes
    no_more : length classes ≡ count → count_below count (is_first after) ≤ count_below count (is_first classes) → after ≡ classes
    no_more whole few = let long = refined_length codes answer classes count in ext_get_or 0 after classes (cc) (λ k h. unchanged k (omega arith))
      where
        was_first : (k : ℕ) → k < count → is_first after k ≡ true → is_first classes k ≡ true
        was_first = count_below-no_wider (is_first classes) (is_first after) count first_stays few

        unchanged : (k : ℕ) → k < count → get_or after k 0 ≡ get_or classes k 0
        unchanged k h =
            let was = was_first (get_or after k 0) (omega (arith, refined_le k h)) (eq-eqb _ _ (refined_again k h)) in
            sym ((first_agrees k h).one_class ∙ eqb-true _ _ was)

-- ---- all rounds

module _ (codes : ℕ) (answer : ℕ → ℕ → Answer ℕ) (count : ℕ) where
  abbrev classes_after : ℕ → List ℕ
  classes_after r = rounds codes answer count r

  first_class : (k : ℕ) → k < count → get_or (classes_after 0) k 0 ≡ 0
  first_class k h = rw (rounds_first codes answer count) (get_or-replicate count k 0 0 h)

  pub rounds_le : (r k : ℕ) → k < count → get_or (classes_after r) k 0 ≤ k
  rounds_le zero k h = omega (arith, first_class k h)
  rounds_le (suc r) k h = rw (← rounds_next codes answer count r) (refined_le codes answer count (classes_after r) k h)

  -- one more round than r changes nothing
  abbrev Still : ℕ → Type 0
  Still r = classes_after (suc r) ≡ classes_after r

  still_next : (r : ℕ) → Still r → Still (suc r)
  still_next r e = rw (← rounds_next codes answer count (suc r), e) (rounds_next codes answer count r ∙ e)

  abbrev first_count : ℕ → ℕ
  first_count r = count_below count (is_first (classes_after r))

  still_where_no_more : (r : ℕ) → first_count (suc r) ≤ first_count r → Still r
  still_where_no_more r few =
      sym (rounds_next codes answer count r)
      ∙ no_more codes answer count (classes_after r) (rounds_le r) (rounds_length codes answer count r) (rw rounds_next few)

  still_or_more : (r : ℕ) → Still r ⊎ (r ≤ first_count r)
  still_or_more zero = inr (omega arith)
  still_or_more (suc r) = on (still_or_more r) (dec_le (first_count (suc r)) (first_count r))
    where
      on : Still r ⊎ (r ≤ first_count r) → Dec (first_count (suc r) ≤ first_count r) → Still (suc r) ⊎ (suc r ≤ first_count (suc r))
      on (inl e) d = inl (still_next r e)
      on (inr h) (yes few) = inl (still_next r (still_where_no_more r few))
      on (inr h) (no more) = inr (omega arith)

  still_at_last : Still count
  still_at_last = on (still_or_more count)
    where
      on : Still count ⊎ (count ≤ first_count count) → Still count
      on (inl e) = e
      on (inr h) = still_where_no_more count (omega (arith, count_below-le count (is_first (classes_after (suc count)))))

  -- ---- equations that drop alike are never parted

  module _ (inside : Inside codes answer count) where
    abbrev Unparted : ℕ → Type 0
    Unparted r = (k l : ℕ) → k < count → l < count → DropAlike codes answer k answer l → get_or (classes_after r) k 0 ≡ get_or (classes_after r) l 0

    never_parted : (r : ℕ) → Unparted r
    never_parted zero k l h h' same = first_class k h ∙ sym (first_class l h')
    never_parted (suc r) k l h h' same =
        rw (← rounds_next codes answer count r)
        ((refined_class codes answer count (classes_after r) k l h h').1 (record {
          one_class = never_parted r k l h h' same;
          alike = λ c b.
              on (alike_step codes answer answer k l same c b) (λ i. inside k c i h b) (λ j. inside l c j h' b) (never_parted r);
        }))
      where
        on : {a a' : Answer ℕ} → StepAlike codes answer answer a a' → ((i : ℕ) → a ≡ next i → i < count) → ((j : ℕ) → a' ≡ next j → j < count)
            → Unparted r → up_to (classes_after r) a ≡ up_to (classes_after r) a'
        on both_dropped below below' unparted = refl
        on (both_next {e = i} {f = j} alike) below below' unparted = ap next (unparted i j (below i refl) (below' j refl) alike)

pub settled : (codes : ℕ) (answer : ℕ → ℕ → Answer ℕ) (count : ℕ) → Inside codes answer count
    → Settled codes answer count (rounds codes answer count count)
settled codes answer count inside = record {
  are_classes = record {
    le = rounds_le codes answer count count;
    again = λ k h. rw still at (refined_again codes answer count classes k h);
  };
  alike = λ k l c h h' b e. ((refined_class codes answer count classes k l h h').0 (rw still e)).alike c b;
  parts = never_parted codes answer count inside count;
}
  where
    classes : List ℕ
    classes = rounds codes answer count count

    still : refined codes answer classes count ≡ classes
    still = rounds_next codes answer count count ∙ still_at_last codes answer count
