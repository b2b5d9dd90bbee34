-- A test on the elements of a list: what one more element at the end adds, what the tests mean, and which elements pass, each by induction on the list.
use Prim.Native.Nat.{ℕ, zero, suc, ◌+◌, ◌-◌, ◌≤◌, ◌<◌}
use mathlib.Core.Path.{◌≡◌, refl, sym, ◌∙◌}
use mathlib.Core.Logic.{◌↔◌, ◌⊎◌, inl, inr, ⊎_elim}
use mathlib.Core.Bool.{Bool, true, false, not, cond, ◌&&◌, ◌||◌, true≢false, false≢true, not-eq-not}
use mathlib.Core.Bool.{or_assoc, or-false, and_assoc, and-true, and-eq-true_iff}
use mathlib.Core.List.{List, [], ◌∷◌, ◌++◌}
use native.Mathlib.Omega.{arith}
use lib.ListN.{length, get_or, take, drop, length-append, length-take, length-drop, get_or-append}
use lib.Seq.{get_or-append-add, get_or-take, get_or-drop}
use Rattle.std.specs.List.{list_any, list_all}
use Rattle.reading.specs.Rule.{All}
use Rattle.reading.proofs.Basics.AllLaws.{all_at, all_of, all_map}
use Rattle.synthesis.specs.Joined.{Some}
use Rattle.running.specs.Lists.{any, all, filter}

module _ {A : Type 0} (test : A → Bool) where
  -- ---- one more list, and one more element

  pub any_append : (l m : List A) → any test (l ++ m) ≡ (any test l || any test m)
  unfolding any
  any_append [] m = refl
  any_append (x ∷ l) m = rw (any_append l m) (sym (or_assoc (test x) (any test l) (any test m)))

  pub any_last : (l : List A) (x : A) → any test (l ++ (x ∷ [])) ≡ (any test l || test x)
  unfolding any
  any_last [] x = or-false (test x)
  any_last (y ∷ l) x = rw (any_last l x) (sym (or_assoc (test y) (any test l) (test x)))

  pub all_last : (l : List A) (x : A) → all test (l ++ (x ∷ [])) ≡ (all test l && test x)
  unfolding all
  all_last [] x = and-true (test x)
  all_last (y ∷ l) x = rw (all_last l x) (sym (and_assoc (test y) (all test l) (test x)))

  pub filter_last : (l : List A) (x : A) → filter test (l ++ (x ∷ [])) ≡ cond (test x) (filter test l ++ (x ∷ [])) (filter test l)
  unfolding filter
  filter_last [] x = on (test x)
    where
      on : (b : Bool) → cond b (x ∷ []) [] ≡ cond b (x ∷ []) []
      on b = refl
  filter_last (y ∷ l) x = rw (filter_last l x) (on (test y) (test x))
    where
      on : (a b : Bool) → cond a (y ∷ cond b (filter test l ++ (x ∷ [])) (filter test l)) (cond b (filter test l ++ (x ∷ [])) (filter test l))
          ≡ cond b (cond a (y ∷ filter test l) (filter test l) ++ (x ∷ [])) (cond a (y ∷ filter test l) (filter test l))
      on true true = refl
      on true false = refl
      on false true = refl
      on false false = refl

  -- ---- as the library says them

  pub any_is : (l : List A) → any test l ≡ list_any test l
  unfolding any
  any_is [] = refl
  any_is (x ∷ l) = rw (any_is l)

  pub all_is : (l : List A) → all test l ≡ list_all test l
  unfolding all
  all_is [] = refl
  all_is (x ∷ l) = rw (all_is l)

  -- ---- what the tests mean

  -- where not all pass, one fails
  pub all_fails : (l : List A) → all test l ≡ false → Some (λ x. test x ≡ false) l
  unfolding all
  all_fails [] e = absurd (true≢false e)
  all_fails (x ∷ l) e = on (test x) refl e (all_fails l)
    where
      on : (b : Bool) → test x ≡ b → (b && all test l) ≡ false → (all test l ≡ false → Some (λ x. test x ≡ false) l)
          → (test x ≡ false) ⊎ Some (λ x. test x ≡ false) l
      on true q e rest = inr (rest e)
      on false q e rest = inl q

  pub all_passes : (l : List A) → (all test l ≡ true) ↔ All (λ x. test x ≡ true) l
  unfolding all
  all_passes [] = (λ e. tt, λ a. refl)
  all_passes (x ∷ l) =
      let both = and-eq-true_iff (test x) (all test l) in
      let rest = all_passes l in
      (λ e. ((both.0 e).0, rest.0 (both.0 e).1), λ a. both.1 (a.0, rest.1 a.1))

  -- a test that holds exactly of a property
  module _ (P : A → Type 0) (holds : (x : A) → (test x ≡ true) ↔ P x) where
    pub any_some : (l : List A) → (any test l ≡ true) ↔ Some P l
    unfolding any
    any_some [] = (λ e. absurd (false≢true e), λ s. absurd s)
    any_some (x ∷ l) = on (test x) refl (any_some l)
      where
        on : (b : Bool) → test x ≡ b → (any test l ≡ true) ↔ Some P l → ((b || any test l) ≡ true) ↔ (P x ⊎ Some P l)
        on true q rest = (λ e. inl ((holds x).0 q), λ s. refl)
        on false q rest = (λ e. inr (rest.0 e), λ s. ⊎_elim (λ p. absurd (true≢false (sym ((holds x).1 p) ∙ q))) rest.1 s)

    pub all_each : (none : A) (l : List A) → (all test l ≡ true) ↔ ((i : ℕ) → i < length l → P (get_or l i none))
    all_each none l = (
      λ e i. all_at P l i none (all_map l (λ x. (holds x).0) ((all_passes l).0 e)),
      λ h. (all_passes l).1 (all_map l (λ x. (holds x).1) (all_of P l none h)),
    )

  -- ---- those that pass

  pub filter_all : (l : List A) → All (λ x. test x ≡ true) l → filter test l ≡ l
  unfolding filter
  filter_all [] all = refl
  filter_all (x ∷ l) all = rw (all.0, filter_all l all.1)

  pub filter_keeps : (P : A → Type 0) (l : List A) → All P l → All P (filter test l)
  unfolding filter
  filter_keeps P [] each = tt
  filter_keeps P (x ∷ l) each = on (test x) (filter_keeps P l each.1)
    where
      on : (b : Bool) → All P (filter test l) → All P (cond b (x ∷ filter test l) (filter test l))
      on true rest = (each.0, rest)
      on false rest = rest

  -- where only one fails, all others, in their order
  pub filter_one : (none : A) (l : List A) (i : ℕ) → i < length l → test (get_or l i none) ≡ false
      → ((j : ℕ) → j < length l → test (get_or l j none) ≡ false → j ≡ i) → filter test l ≡ take i l ++ drop (suc i) l
  unfolding filter
  filter_one none [] i h q only = absurd (omega arith)
  filter_one none (x ∷ l) zero h q only =
      rw q (filter_all l (all_of (λ y. test y ≡ true) l none (λ j k. not-eq-not.0 (λ f. omega (arith, only (suc j) (omega arith) f)))))
  filter_one none (x ∷ l) (suc i) h q only =
      let first : test x ≡ true = not-eq-not.0 (λ f. omega (arith, only 0 (omega arith) f)) in
      rw (first, filter_one none l i (omega arith) q (λ j k f. omega (arith, only (suc j) (omega arith) f)))

  -- what no element has, none of those that pass has
  pub filter_none : (other : A → Bool) (l : List A) → any other l ≡ false → any other (filter test l) ≡ false
  unfolding any filter
  filter_none other [] e = refl
  filter_none other (x ∷ l) e = on (other x) (test x) refl e (filter_none other l)
    where
      on : (a b : Bool) → other x ≡ a → (a || any other l) ≡ false → (any other l ≡ false → any other (filter test l) ≡ false)
          → any other (cond b (x ∷ filter test l) (filter test l)) ≡ false
      on true b q e rest = absurd (true≢false e)
      on false true q e rest = rw q (rest e)
      on false false q e rest = rest e

  -- none is left of those that fail
  pub none_left : (l : List A) → any test (filter (λ x. not (test x)) l) ≡ false
  unfolding any filter
  none_left [] = refl
  none_left (x ∷ l) = on (test x) refl (none_left l)
    where
      on : (b : Bool) → test x ≡ b → any test (filter (λ x. not (test x)) l) ≡ false
          → any test (cond (not b) (x ∷ filter (λ x. not (test x)) l) (filter (λ x. not (test x)) l)) ≡ false
      on true q rest = rest
      on false q rest = rw (q, rest)

-- what each element lacks, none has
pub none_has : {A : Type 0} (P : A → Type 0) (l : List A) → All (λ x. P x → ⊥) l → Some P l → ⊥
none_has P [] lacks some = some
none_has P (x ∷ l) lacks some = ⊎_elim lacks.0 (none_has P l lacks.1) some

-- ---- by index

pub some_at : {A : Type 0} (P : A → Type 0) (none : A) (l : List A) → Some P l ↔ ((i : ℕ) × (i < length l) × P (get_or l i none))
some_at P none [] = (λ s. absurd s, λ h. absurd (omega arith))
some_at P none (x ∷ l) = (first (some_at P none l), λ h. back (some_at P none l) h.0 h.1 h.2)
  where
    first : Some P l ↔ ((i : ℕ) × (i < length l) × P (get_or l i none)) → P x ⊎ Some P l → (i : ℕ) × (i < length (x ∷ l)) × P (get_or (x ∷ l) i none)
    first rest (inl p) = (0, omega arith, p)
    first rest (inr s) = let at = rest.0 s in (suc at.0, omega arith, at.2)

    back : Some P l ↔ ((i : ℕ) × (i < length l) × P (get_or l i none)) → (i : ℕ) → i < length (x ∷ l) → P (get_or (x ∷ l) i none) → P x ⊎ Some P l
    back rest zero h p = inl p
    back rest (suc i) h p = inr (rest.1 (i, omega arith, p))

-- without the element at i: those before it, and those behind it one place earlier
module _ {A : Type 0} (none : A) (l : List A) (i : ℕ) (inside : i < length l) where
  pub removed_length : length (take i l ++ drop (suc i) l) + 1 ≡ length l
  removed_length = simp (length-append, length-take, length-drop) (omega arith)

  pub removed_before : (j : ℕ) → j < i → get_or (take i l ++ drop (suc i) l) j none ≡ get_or l j none
  removed_before j h = get_or-append (take i l) (drop (suc i) l) none j (omega (arith, length-take i l)) ∙ get_or-take i l j none h

  pub removed_behind : (j : ℕ) → i ≤ j → get_or (take i l ++ drop (suc i) l) j none ≡ get_or l (suc j) none
  removed_behind j h =
      let at : length (take i l) + (j - i) ≡ j = omega (arith, length-take i l) in
      let to : suc i + (j - i) ≡ suc j = omega arith in
      rw at at (rw to at (get_or-append-add (take i l) (drop (suc i) l) (j - i) none ∙ get_or-drop (suc i) l (j - i) none))
