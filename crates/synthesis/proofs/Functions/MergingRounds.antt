-- Laws of the tests by which equations are merged, and of the rounds. An equation with which k stays together stays together with the first of its
-- class, so it is enough to ask first equations. After a round that changes nothing no other does.
use Prim.Native.Nat.{ℕ, zero, suc, ◌+◌, ◌-◌, ◌≤◌, ◌<◌}
use mathlib.Core.Path.{◌≡◌, refl, sym, ◌∙◌, ap}
use mathlib.Core.Bool.{Bool, true, false, ◌&&◌, true≢false}
use mathlib.Core.List.{List}
use native.Mathlib.Decide.{dec_lt}
use native.Mathlib.Omega.{arith}
use lib.Dec.{eqb}
use lib.ListN.{length, get_or, take}
use lib.Seq.{get_or-take}
use borrow.Author.Tests.{ne_eqb, eqb-false}
use Rattle.std.specs.List.{zip, list_all}
use Rattle.std.specs.Option.{MatchOption, unwrap_or}
use Rattle.std.specs.Prelude.{Option, Some, None}
use Rattle.std.proofs.lemmas.List.Folds.{list_all_at}
use Rattle.std.proofs.lemmas.List.Recursion.{and_from_places}
use Rattle.std.proofs.lemmas.Slice.Zip.{length-zip, get_or-zip}
use Rattle.reading.specs.Pattern.{least, every}
use Rattle.reading.proofs.Measures.BoundedTests.{every_is, every_fails}
use Rattle.reading.proofs.Basics.ListLaws.{get_or-inside}
use Rattle.reading.proofs.Measures.Counting.{least_is, least_holds, least_le, least_none}
use Rattle.synthesis.specs.Monitor.{Answer, meaning}
use Rattle.synthesis.specs.Table.{InRange, RowInRange}
use Rattle.synthesis.specs.Merging.{up_to, same_answer, together, refined, rounds}
use Rattle.synthesis.specs.Arrays.{ClassesEarlier}
use Rattle.synthesis.proofs.Quotients.Together.{together_agree, agree_together, agree_trans, refined_at, rounds_next}

-- ---- two entries

module _ (mark : ℕ) (classes : List ℕ) where
  -- they are the same up to classes
  abbrev pub same_entry : (x y : ℕ) → Bool
  same_entry x y = same_answer (up_to classes (meaning mark x)) (up_to classes (meaning mark y))

-- ---- two rows

-- a test of each element of a list, by the numbers of the elements
all_every : {X : Type 0} (test : X → Bool) (xs : List X) (d : X) (n : ℕ) (holds : ℕ → Bool) → length xs ≡ n
    → ((i : ℕ) → i < n → test (get_or xs i d) ≡ holds i) → list_all test xs ≡ every n holds
all_every test xs d n holds long same = on (every n holds) refl
  where
    on : (b : Bool) → every n holds ≡ b → list_all test xs ≡ b
    on true e = and_from_places (list_all test) test refl (λ x xs. refl) xs d
        (λ i h. same i (omega (arith, h, long)) ∙ (every_is n holds).0 e i (omega (arith, h, long)))
    on false e = let f = every_fails n holds e in list_all_at test xs f.0 d (omega (arith, f.1, long)) (same f.0 f.1 ∙ f.2)

module _ (mark : ℕ) (classes : List ℕ) {a b : List ℕ} (first : RowInRange mark (length classes) a) (second : RowInRange mark (length classes) b) where
  pairs_length : length (zip a b) ≡ 256
  pairs_length = omega (arith, length-zip a b, first.whole, second.whole)

  -- each pair of entries is in range
  pub pair_in_range : (k : ℕ) → k < length (zip a b) → (x y : ℕ) → (x, y) ≡ get_or (zip a b) k (x, y)
      → InRange mark (length classes) x × InRange mark (length classes) y
  pair_in_range k h x y is =
      let long = pairs_length in
      let inside : k < 256 = omega arith in
      let at = is ∙ get_or-zip a b k (x, y) (omega (arith, first.whole)) (omega (arith, second.whole)) in (
        rw (ap (λ (p : ℕ × ℕ). p.0) at, get_or-inside a k x 0 (omega (arith, first.whole))) (first.range k inside),
        rw (ap (λ (p : ℕ × ℕ). p.1) at, get_or-inside b k y 0 (omega (arith, second.whole))) (second.range k inside),
      )

  -- the test of all pairs
  pub rows_alike : list_all (λ (p : ℕ × ℕ). same_entry mark classes p.0 p.1) (zip a b)
      ≡ every 256 (λ c. same_entry mark classes (get_or a c mark) (get_or b c mark))
  rows_alike = all_every (λ (p : ℕ × ℕ). same_entry mark classes p.0 p.1) (zip a b) (mark, mark) 256
      (λ c. same_entry mark classes (get_or a c mark) (get_or b c mark)) pairs_length
      (λ i h. ap (λ (p : ℕ × ℕ). same_entry mark classes p.0 p.1)
      (get_or-zip a b i (mark, mark) (omega (arith, first.whole)) (omega (arith, second.whole))))

-- ---- the first equation with which one stays together

module _ (codes : ℕ) (answer : ℕ → ℕ → Answer ℕ) (classes : List ℕ) (k : ℕ) where
  -- k stays together with none of the first l equations
  abbrev NoneBelow : ℕ → Type 0
  NoneBelow l = (i : ℕ) → i < l → together codes answer classes k i ≡ false

  -- so it is with those before the first of its class, where classes are named by earlier equations
  none_before_class : ClassesEarlier classes → k < length classes → NoneBelow (get_or classes k 0)
  unfolding together
  none_before_class earlier h i b =
      let inside = earlier k h in
      rw (ne_eqb (get_or classes k 0) (get_or classes i 0) (λ e. omega (arith, e, inside, earlier i (omega (arith, inside)))))

  -- the first l with which it does is the first of its class
  first_asked : (l : ℕ) → together codes answer classes k l ≡ true → NoneBelow l → (least l (together codes answer classes l) ≡ l → ⊥) → ⊥
  first_asked l is none other =
      let m = least l (together codes answer classes l) in
      let below : m < l = omega (arith, least_le l (together codes answer classes l), other) in
      let k-l = together_agree codes answer classes k l is in
      let l-m = together_agree codes answer classes l m (least_holds l (together codes answer classes l) below) in
      true≢false (sym (agree_together codes answer classes k m (agree_trans codes answer classes k l m k-l l-m)) ∙ none m below)

  module _ (next : List ℕ) (begun : take k next ≡ refined codes answer classes k) where
    abbrev pub joins : ℕ → Bool
    joins l = eqb (get_or next l 0) l && together codes answer classes k l

    joined : (l : ℕ) → l < k → joins l ≡ true → NoneBelow l → least k (together codes answer classes k) ≡ l
    joined l h is none = least_is k l (together codes answer classes k) h (on (eqb (get_or next l 0) l) is) none
      where
        on : (b : Bool) → (b && together codes answer classes k l) ≡ true → together codes answer classes k l ≡ true
        on true h = h
        on false h = absurd (true≢false (sym h))

    not_joined : (l : ℕ) → l < k → joins l ≡ false → NoneBelow l → together codes answer classes k l ≡ false
    not_joined l h is none = on (together codes answer classes k l) refl (eqb (get_or next l 0) l) refl
      where
        class : get_or next l 0 ≡ least l (together codes answer classes l)
        class = sym (get_or-take k next l 0 h) ∙ rw begun (refined_at codes answer classes k l h)

        on : (b : Bool) → together codes answer classes k l ≡ b → (b' : Bool) → eqb (get_or next l 0) l ≡ b' → b ≡ false
        on false q b' q' = refl
        on true q true q' = absurd (true≢false (rw (q, q') at is))
        on true q false q' = absurd (first_asked l q none (λ e. eqb-false (get_or next l 0) l q' (class ∙ e)))

    module _ (earlier : ClassesEarlier classes) (h : k < length classes) where
      -- k joins none of those from the first of its class up to l
      abbrev pub NoneJoined : ℕ → Type 0
      NoneJoined l = (i : ℕ) → get_or classes k 0 ≤ i → i < l → joins i ≡ false

      none_joined : (l : ℕ) → l ≤ k → NoneJoined l → NoneBelow l
      none_joined zero le none i b = absurd (omega arith)
      none_joined (suc l) le none i b =
          on (none_joined l (omega arith) (λ j low high. none j low (omega arith))) (dec_lt i l) (dec_lt l (get_or classes k 0))
        where
          on : NoneBelow l → Dec (i < l) → Dec (l < get_or classes k 0) → together codes answer classes k i ≡ false
          on before (yes less) d = before i less
          on before (no over) (yes first) = none_before_class earlier h i (omega arith)
          on before (no over) (no from) =
              let e : i ≡ l = omega arith in rw e (not_joined l (omega arith) (none l (omega arith) (omega arith)) before)

      -- the first that it joins, of those from the first of its class on, and else k itself
      pub class_found : (first : Option ℕ)
          → MatchOption first (NoneJoined k) (λ l. (get_or classes k 0 ≤ l) × (l < k) × (joins l ≡ true) × NoneJoined l)
          → unwrap_or first k ≡ least k (together codes answer classes k)
      class_found None none = sym (least_none k (together codes answer classes k) (none_joined k (omega arith) none))
      class_found (Some l) (from, below, is, none) = sym (joined l below is (none_joined l (omega arith) none))

-- ---- rounds

module _ (codes : ℕ) (answer : ℕ → ℕ → Answer ℕ) (count : ℕ) where
  -- where a round changes nothing, no later one does
  rounds_stay : (r : ℕ) → rounds codes answer count (suc r) ≡ rounds codes answer count r → (m : ℕ)
      → rounds codes answer count (m + r) ≡ rounds codes answer count r
  rounds_stay r same zero = ap (rounds codes answer count) (omega arith)
  rounds_stay r same (suc m) =
      ap (rounds codes answer count) (omega arith) ∙ sym (rounds_next codes answer count (m + r))
      ∙ rw (rounds_stay r same m) (rounds_next codes answer count r ∙ same)

  -- the classes after r rounds, and after one more
  module _ (classes : List ℕ) (r : ℕ) (so_far : classes ≡ rounds codes answer count r) (after : List ℕ) (is : after ≡ refined codes answer classes count)
    where
      pub rounds_more : after ≡ rounds codes answer count (suc r)
      rounds_more = is ∙ rw so_far (rounds_next codes answer count r)

      pub rounds_end : r ≤ count → classes ≡ after → classes ≡ rounds codes answer count count
      rounds_end inside same =
          so_far ∙ sym (rounds_stay r (sym rounds_more ∙ sym same ∙ so_far) (count - r)) ∙ ap (rounds codes answer count) (omega arith)
