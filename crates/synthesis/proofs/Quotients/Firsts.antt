-- Laws of the list of the first equations of the classes, by induction on how many equations are looked at: each that is first goes last. So the list
-- ascends, and in an ascending list smaller numbers have smaller indices.
use Prim.Native.Nat.{ℕ, zero, suc, ◌≤◌, ◌<◌}
use mathlib.Core.Path.{◌≡◌, refl}
use mathlib.Core.Bool.{Bool, true, false, cond}
use mathlib.Core.List.{List, [], ◌∷◌, ◌++◌}
use native.Mathlib.Decide.{dec_lt}
use native.Mathlib.Omega.{arith}
use lib.Dec.{eqb}
use lib.ListN.{length, get_or, length-append, get_or-append}
use lib.Seq.{get_or_at}
use borrow.Author.Tests.{eqb-true, eqb-false}
use Rattle.reading.specs.Rule.{All}
use Rattle.reading.proofs.Basics.AllLaws.{all_at, all_append, all_map}
use Rattle.synthesis.specs.Search.{index_of}
use Rattle.synthesis.specs.Merging.{firsts}
use Rattle.synthesis.specs.Arrays.{Distinct}
use Rattle.synthesis.proofs.Numberings.Indices.{Member, index_is, index_first, member_at, member_append, member_last}

-- ---- lists that ascend

abbrev pub Ascending : List ℕ → Type 0
Ascending l = (i j : ℕ) → i < j → j < length l → get_or l i 0 < get_or l j 0

pub ascending_last : (l : List ℕ) (e : ℕ) → Ascending l → All (λ x. x < e) l → Ascending (l ++ (e ∷ []))
ascending_last l e asc all i j h b = on (dec_lt j (length l))
  where
    before : (i : ℕ) → i < length l → get_or (l ++ (e ∷ [])) i 0 ≡ get_or l i 0
    before i = get_or-append l (e ∷ []) 0 i

    on : Dec (j < length l) → get_or (l ++ (e ∷ [])) i 0 < get_or (l ++ (e ∷ [])) j 0
    on (yes y) = rw (before i (omega arith), before j y) (asc i j h y)
    on (no n) =
        let z : j ≡ length l = omega (arith, length-append l (e ∷ [])) in
        rw (before i (omega arith), z, get_or_at l e [] 0 (length l) refl) (all_at (λ x. x < e) l i 0 all (omega arith))

module _ (l : List ℕ) (asc : Ascending l) where
  pub ascending_index : (a b : ℕ) → Member a l → Member b l → a < b → index_of a l < index_of b l
  ascending_index a b h h' less = on (dec_lt (index_of a l) (index_of b l)) (dec_lt (index_of b l) (index_of a l))
    where
      is_a : get_or l (index_of a l) 0 ≡ a
      is_a = index_is a l h

      is_b : get_or l (index_of b l) 0 ≡ b
      is_b = index_is b l h'

      on : Dec (index_of a l < index_of b l) → Dec (index_of b l < index_of a l) → index_of a l < index_of b l
      on (yes y) d = y
      on (no n) (yes y) = absurd (omega (arith, is_a, is_b, asc (index_of b l) (index_of a l) y h))
      on (no n) (no n') =
          let z : index_of a l ≡ index_of b l = omega arith in
          let same : a ≡ b = cc (is_a, is_b) in
          absurd (omega arith)

  pub ascending_distinct : Distinct l
  ascending_distinct i h = on (dec_lt (index_of e l) i)
    where
      e : ℕ
      e = get_or l i 0

      on : Dec (index_of e l < i) → index_of e l ≡ i
      on (yes y) = absurd (omega (arith, asc (index_of e l) i y h, index_is e l (member_at e l i h refl)))
      on (no n) = omega (arith, index_first e l i h refl)

-- ---- first equations

module _ (classes : List ℕ) where
  -- what holds at first, and stays so with each equation that is first and each that isn't
  firsts_induction : (P : (n : ℕ) → List ℕ → Type 0) → P 0 []
      → ((n : ℕ) → get_or classes n 0 ≡ n → P n (firsts classes n) → P (suc n) (firsts classes n ++ (n ∷ [])))
      → ((n : ℕ) → (get_or classes n 0 ≡ n → ⊥) → P n (firsts classes n) → P (suc n) (firsts classes n)) → (n : ℕ) → P n (firsts classes n)
  unfolding firsts
  firsts_induction P none first other zero = none
  firsts_induction P none first other (suc n) = on (eqb (get_or classes n 0) n) refl (firsts_induction P none first other n)
    where
      on : (b : Bool) → eqb (get_or classes n 0) n ≡ b → P n (firsts classes n)
          → P (suc n) (cond b (firsts classes n ++ (n ∷ [])) (firsts classes n))
      on true q p = first n (eqb-true _ n q) p
      on false q p = other n (eqb-false _ n q) p

  -- equation e is one of the first n, and the first of its class
  pub record First (n e : ℕ) : Type 0 where
    pub below : e < n
    pub own : get_or classes e 0 ≡ e

  pub firsts_all : (n : ℕ) → All (First n) (firsts classes n)
  firsts_all =
      firsts_induction (λ n l. All (First n) l) tt
      (λ n q all. all_append (First (suc n)) (firsts classes n) (n ∷ []) (weaken n all) (record { below = omega arith; own = q }, tt))
      (λ n q all. weaken n all)
    where
      weaken : (n : ℕ) → All (First n) (firsts classes n) → All (First (suc n)) (firsts classes n)
      weaken n = all_map (firsts classes n) (λ e f. record { below = omega arith; own = f.own })

  pub first_at : (n i : ℕ) → i < length (firsts classes n) → First n (get_or (firsts classes n) i 0)
  first_at n i = all_at (First n) (firsts classes n) i 0 (firsts_all n)

  pub member_first : (n e : ℕ) → Member e (firsts classes n) → First n e
  member_first n e h = rw (index_is e (firsts classes n) h) at (first_at n (index_of e (firsts classes n)) h)

  last_or_earlier : {A : Type 0} (n e : ℕ) → First (suc n) e → (e ≡ n → A) → (First n e → A) → A
  last_or_earlier {A} n e f last earlier = on (dec_lt e n)
    where
      on : Dec (e < n) → A
      on (yes less) = earlier (record { below = less; own = f.own })
      on (no over) = last (omega arith)

  pub first_member : (n e : ℕ) → First n e → Member e (firsts classes n)
  first_member =
      firsts_induction (λ n l. (e : ℕ) → First n e → Member e l) (λ e f. absurd (omega arith))
      (λ n q h e f. last_or_earlier n e f (λ z. rw z (member_last n (firsts classes n)))
      (λ g. member_append e (firsts classes n) (n ∷ []) (h e g)))
      (λ n q h e f. last_or_earlier n e f (λ z. absurd (q (rw z at f.own))) (h e))

  -- ---- their order

  pub firsts_ascend : (n : ℕ) → Ascending (firsts classes n)
  firsts_ascend =
      firsts_induction (λ n l. Ascending l) (λ i j h b. absurd (omega arith))
      (λ n q asc. ascending_last (firsts classes n) n asc (all_map (firsts classes n) (λ e f. f.below) (firsts_all n)))
      (λ n q asc. asc)

  pub firsts_distinct : (n : ℕ) → Distinct (firsts classes n)
  firsts_distinct n = ascending_distinct (firsts classes n) (firsts_ascend n)

  pub firsts_index : (n a b : ℕ) → Member a (firsts classes n) → Member b (firsts classes n) → a < b
      → index_of a (firsts classes n) < index_of b (firsts classes n)
  firsts_index n = ascending_index (firsts classes n) (firsts_ascend n)

  pub firsts_length : (n : ℕ) → length (firsts classes n) ≤ n
  firsts_length =
      firsts_induction (λ n l. length l ≤ n) (omega arith) (λ n q h. simp length-append (omega arith)) (λ n q h. omega arith)

  -- equation 0 is the first of the first equations, where its class is 0
  module _ (n : ℕ) (some : 0 < n) (zero-first : get_or classes 0 0 ≡ 0) where
    zero_member : Member 0 (firsts classes n)
    zero_member = first_member n 0 (record { below = some; own = zero-first })

    pub firsts_some : 0 < length (firsts classes n)
    firsts_some = omega (arith, zero_member)

    pub firsts_first : get_or (firsts classes n) 0 0 ≡ 0
    firsts_first = on (dec_lt 0 (index_of 0 (firsts classes n)))
      where
        is_zero : get_or (firsts classes n) (index_of 0 (firsts classes n)) 0 ≡ 0
        is_zero = index_is 0 (firsts classes n) zero_member

        on : Dec (0 < index_of 0 (firsts classes n)) → get_or (firsts classes n) 0 0 ≡ 0
        on (yes y) = absurd (omega (arith, is_zero, firsts_ascend n 0 (index_of 0 (firsts classes n)) y zero_member))
        on (no none) = let z : index_of 0 (firsts classes n) ≡ 0 = omega arith in rw z at is_zero

-- only the classes of the first n equations matter
pub firsts_cong : (classes classes' : List ℕ) (n : ℕ) → ((k : ℕ) → k < n → get_or classes k 0 ≡ get_or classes' k 0)
    → firsts classes n ≡ firsts classes' n
unfolding firsts
firsts_cong classes classes' zero h = refl
firsts_cong classes classes' (suc n) h = rw (h n (omega arith), firsts_cong classes classes' n (λ k l. h k (omega arith)))
