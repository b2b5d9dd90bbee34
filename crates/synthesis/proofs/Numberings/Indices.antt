-- Laws of the index of a number in a list, and of lists whose numbers are distinct, by induction on the list.
use Prim.Native.Nat.{ℕ, zero, suc, ◌≤◌, ◌<◌}
use mathlib.Core.Path.{◌≡◌, refl, sym, ◌∙◌, ap}
use mathlib.Core.Bool.{Bool, true, false, cond, ◌&&◌, true≢false}
use mathlib.Core.List.{List, [], ◌∷◌, ◌++◌}
use native.Mathlib.Decide.{dec_lt}
use native.Mathlib.Omega.{arith}
use lib.Dec.{eqb, ltb}
use lib.ListN.{length, get_or, length-append, get_or-append}
use lib.Seq.{get_or_at}
use Rattle.std.specs.Prelude.{◌==◌, Some, None}
use Rattle.std.specs.List.{position}
use Rattle.std.specs.Option.{is_some, unwrap_or}
use Rattle.std.proofs.lemmas.Bool.Decides.{nat_tests}
use Rattle.std.proofs.lemmas.List.Recursion.{is_position_or_len}
use borrow.Author.Tests.{eq-eqb, eqb-true, eqb-false, ltb-true, ltb-false, lt-ltb, le-ltb}
use Rattle.synthesis.specs.Search.{index_of, insert}
use Rattle.synthesis.specs.Arrays.{Distinct}

abbrev pub Member : ℕ → List ℕ → Type 0
Member e l = index_of e l < length l

-- ---- indices

pub index_is : (e : ℕ) (l : List ℕ) → Member e l → get_or l (index_of e l) 0 ≡ e
index_is e [] h = absurd (omega arith)
index_is e (x ∷ l) h = on (eqb e x) refl h (index_is e l)
  where
    on : (b : Bool) → eqb e x ≡ b → cond b 0 (suc (index_of e l)) < suc (length l) → (Member e l → get_or l (index_of e l) 0 ≡ e)
        → get_or (x ∷ l) (cond b 0 (suc (index_of e l))) 0 ≡ e
    on true q h ih = sym (eqb-true e x q)
    on false q h ih = ih (omega arith)

-- here, or one further on
step_le : (b : Bool) (m n : ℕ) → m ≤ n → cond b 0 (suc m) ≤ suc n
step_le true m n h = omega arith
step_le false m n h = omega arith

pub index_le : (e : ℕ) (l : List ℕ) → index_of e l ≤ length l
index_le e [] = omega arith
index_le e (x ∷ l) = step_le (eqb e x) (index_of e l) (length l) (index_le e l)

-- the index is the first
pub index_first : (e : ℕ) (l : List ℕ) (i : ℕ) → i < length l → get_or l i 0 ≡ e → index_of e l ≤ i
index_first e [] i h p = absurd (omega arith)
index_first e (x ∷ l) zero h p = rw (eq-eqb e x (sym p)) (omega arith)
index_first e (x ∷ l) (suc i) h p = step_le (eqb e x) (index_of e l) i (index_first e l i (omega arith) p)

-- what stands in a list is a member
pub member_at : (e : ℕ) (l : List ℕ) (i : ℕ) → i < length l → get_or l i 0 ≡ e → Member e l
member_at e l i h p = omega (arith, index_first e l i h p)

-- ---- the index as std finds it

module _ (e : ℕ) (l : List ℕ) where
  pub position_is : position (λ x. x == e) l ≡ cond (ltb (index_of e l) (length l)) (Some (index_of e l)) None
  position_is =
      ap (λ (n : ℕ). cond (ltb n (length l)) (Some n) None)
      (sym (is_position_or_len (index_of e) (λ x. x == e) refl (λ x xs. grind (arith, nat_tests)) l))

  -- a place of a number among distinct ones, as a test tells it, is its index
  pub position_at : Distinct l → (i : ℕ) → (ltb i (length l) && eqb (get_or l i 0) e) ≡ true → Some i ≡ position (λ x. x == e) l
  position_at d i = on (ltb i (length l)) refl (eqb (get_or l i 0) e) refl
    where
      on : (b : Bool) → ltb i (length l) ≡ b → (b' : Bool) → eqb (get_or l i 0) e ≡ b' → (b && b') ≡ true → Some i ≡ position (λ x. x == e) l
      on true p true q t =
          let h = ltb-true i (length l) p in
          let index : index_of e l ≡ i = rw (eqb-true (get_or l i 0) e q) at (d i h) in
          rw (position_is, index, p)
      on true p false q t = absurd (true≢false (sym t))
      on false p b' q t = absurd (true≢false (sym t))

  pub position_some : is_some (position (λ x. x == e) l) ≡ true → Member e l
  position_some h = on (ltb (index_of e l) (length l)) refl (rw position_is at h)
    where
      on : (b : Bool) → ltb (index_of e l) (length l) ≡ b → is_some (cond b (Some (index_of e l)) None) ≡ true → Member e l
      on true q t = ltb-true _ _ q
      on false q t = absurd (true≢false (sym t))

  pub position_none : is_some (position (λ x. x == e) l) ≡ false → Member e l → ⊥
  position_none h m =
      let t : is_some (position (λ x. x == e) l) ≡ true = rw (position_is, lt-ltb _ _ m) refl in
      true≢false (sym t ∙ h)

  pub position_or_length : unwrap_or (position (λ x. x == e) l) (length l) ≡ index_of e l
  position_or_length = rw position_is (on (ltb (index_of e l) (length l)) refl)
    where
      on : (b : Bool) → ltb (index_of e l) (length l) ≡ b → unwrap_or (cond b (Some (index_of e l)) None) (length l) ≡ index_of e l
      on true q = refl
      on false q = omega (arith, ltb-false _ _ q, index_le e l)

-- ---- longer lists

pub index_append : (e : ℕ) (l r : List ℕ) → Member e l → index_of e (l ++ r) ≡ index_of e l
index_append e [] r h = absurd (omega arith)
index_append e (x ∷ l) r h = on (eqb e x) h (index_append e l r)
  where
    on : (b : Bool) → cond b 0 (suc (index_of e l)) < suc (length l) → (Member e l → index_of e (l ++ r) ≡ index_of e l)
        → cond b 0 (suc (index_of e (l ++ r))) ≡ cond b 0 (suc (index_of e l))
    on true h ih = refl
    on false h ih = ap suc (ih (omega arith))

pub member_append : (e : ℕ) (l r : List ℕ) → Member e l → Member e (l ++ r)
member_append e l r h = rw (index_append e l r h) (omega (arith, length-append l r))

pub index_new : (e : ℕ) (l : List ℕ) → (Member e l → ⊥) → index_of e (l ++ (e ∷ [])) ≡ length l
index_new e [] h = rw (eq-eqb e e refl)
index_new e (x ∷ l) h = on (eqb e x) h (index_new e l)
  where
    on : (b : Bool) → (cond b 0 (suc (index_of e l)) < suc (length l) → ⊥) → ((Member e l → ⊥) → index_of e (l ++ (e ∷ [])) ≡ length l)
        → cond b 0 (suc (index_of e (l ++ (e ∷ [])))) ≡ suc (length l)
    on true h ih = absurd (h (omega arith))
    on false h ih = ap suc (ih (λ m. h (omega arith)))

pub member_last : (e : ℕ) (l : List ℕ) → Member e (l ++ (e ∷ []))
member_last e l = member_at e (l ++ (e ∷ [])) (length l) (omega (arith, length-append l (e ∷ []))) (get_or_at l e [] 0 (length l) refl)

-- ---- a list with one number more, if it is new

pub insert_old : (l : List ℕ) (e : ℕ) → Member e l → insert l e ≡ l
insert_old l e h = rw (lt-ltb (index_of e l) (length l) h)

pub insert_new : (l : List ℕ) (e : ℕ) → (Member e l → ⊥) → insert l e ≡ l ++ (e ∷ [])
insert_new l e h = rw (le-ltb (index_of e l) (length l) (omega (arith, h)))

pub insert_cases : (P : List ℕ → Type 0) (l : List ℕ) (e : ℕ) → (Member e l → P l) → ((Member e l → ⊥) → P (l ++ (e ∷ []))) → P (insert l e)
insert_cases P l e old new = on (ltb (index_of e l) (length l)) refl
  where
    on : (b : Bool) → ltb (index_of e l) (length l) ≡ b → P (cond b l (l ++ (e ∷ [])))
    on true q = old (ltb-true _ _ q)
    on false q = new (λ m. omega (arith, ltb-false (index_of e l) (length l) q))

-- ---- distinct numbers

pub distinct_indices : (l : List ℕ) → Distinct l → (i j : ℕ) → i < length l → j < length l → get_or l i 0 ≡ get_or l j 0 → i ≡ j
distinct_indices l d i j h h' p = sym (d i h) ∙ ap (λ (e : ℕ). index_of e l) p ∙ d j h'

pub distinct_last : (l : List ℕ) (e : ℕ) → (Member e l → ⊥) → Distinct l → Distinct (l ++ (e ∷ []))
distinct_last l e n d i h = on (dec_lt i (length l))
  where
    on : Dec (i < length l) → index_of (get_or (l ++ (e ∷ [])) i 0) (l ++ (e ∷ [])) ≡ i
    on (yes a) = rw (get_or-append l (e ∷ []) 0 i a) (index_append (get_or l i 0) l (e ∷ []) (rw (d i a) a) ∙ d i a)
    on (no a) =
        let z : i ≡ length l = omega (arith, length-append l (e ∷ [])) in
        rw (z, get_or_at l e [] 0 (length l) refl) (index_new e l n)

-- ---- a list of distinct numbers is no longer than one that has them all

-- the list without the first e in it
abbrev pub without : ℕ → List ℕ → List ℕ
without e [] = []
without e (x ∷ l) = cond (eqb e x) l (x ∷ without e l)

pub without_length : (e : ℕ) (l : List ℕ) → Member e l → length l ≡ suc (length (without e l))
without_length e [] h = absurd (omega arith)
without_length e (x ∷ l) h = on (eqb e x) h (without_length e l)
  where
    on : (b : Bool) → cond b 0 (suc (index_of e l)) < suc (length l) → (Member e l → length l ≡ suc (length (without e l)))
        → suc (length l) ≡ suc (length (cond b l (x ∷ without e l)))
    on true h ih = refl
    on false h ih = ap suc (ih (omega arith))

pub without_member : (e y : ℕ) (l : List ℕ) → (y ≡ e → ⊥) → Member y l → Member y (without e l)
without_member e y [] n h = h
without_member e y (x ∷ l) n h = on (eqb e x) refl (eqb y x) refl h (without_member e y l n)
  where
    on : (b : Bool) → eqb e x ≡ b → (b' : Bool) → eqb y x ≡ b' → cond b' 0 (suc (index_of y l)) < suc (length l)
        → (Member y l → Member y (without e l)) → Member y (cond b l (x ∷ without e l))
    on true p true q h ih = absurd (n (eqb-true y x q ∙ sym (eqb-true e x p)))
    on true p false q h ih = omega arith
    on false p true q h ih = rw q (omega arith)
    on false p false q h ih = rw q (omega (arith, ih (omega arith)))

-- the others of a distinct list are distinct, and aren't its first
distinct_rest : (x : ℕ) (l : List ℕ) → Distinct (x ∷ l) → (i : ℕ) → i < length l → (get_or l i 0 ≡ x → ⊥) × (index_of (get_or l i 0) l ≡ i)
distinct_rest x l d i h = on (eqb (get_or l i 0) x) refl (d (suc i) (omega arith))
  where
    on : (b : Bool) → eqb (get_or l i 0) x ≡ b → cond b 0 (suc (index_of (get_or l i 0) l)) ≡ suc i
        → (get_or l i 0 ≡ x → ⊥) × (index_of (get_or l i 0) l ≡ i)
    on true q e = absurd (omega arith)
    on false q e = (eqb-false (get_or l i 0) x q, omega arith)

pub distinct_fits : (l m : List ℕ) → Distinct l → ((i : ℕ) → i < length l → Member (get_or l i 0) m) → length l ≤ length m
distinct_fits [] m d h = omega arith
distinct_fits (x ∷ l) m d h =
    omega (arith, without_length x m (h 0 (omega arith)), distinct_fits l (without x m) (λ i k. (rest_distinct i k).1) others_members)
  where
    rest_distinct : (i : ℕ) → i < length l → (get_or l i 0 ≡ x → ⊥) × (index_of (get_or l i 0) l ≡ i)
    rest_distinct = distinct_rest x l d

    others_members : (i : ℕ) → i < length l → Member (get_or l i 0) (without x m)
    others_members i k = without_member x (get_or l i 0) m (rest_distinct i k).0 (h (suc i) (omega arith))
