-- Tabulated functions, by recursion over the bound. A function that takes different numbers below m to different numbers below n tabulates distinct
-- numbers, which all stand in a list of n: so m is no more than n. Where m is n, no number is left out, as the others are fewer.
use Prim.Native.Nat.{ℕ, zero, suc, ◌≤◌, ◌<◌}
use mathlib.Core.Path.{◌≡◌, refl, sym, ◌∙◌, subst}
use mathlib.Core.List.{List, [], ◌∷◌, ◌++◌}
use native.Mathlib.Decide.{dec_lt}
use native.Mathlib.Omega.{arith}
use lib.ListN.{length, get_or, length-append, get_or-append}
use lib.Seq.{get_or_at}
use Rattle.synthesis.specs.Search.{index_of}
use Rattle.synthesis.specs.Merging.{tabulate}
use Rattle.synthesis.specs.Arrays.{Distinct}
use Rattle.synthesis.proofs.Numberings.Indices.{Member, index_is, member_at, distinct_last}
use Rattle.synthesis.proofs.Numberings.Indices.{without, without_length, without_member, distinct_fits}

module _ (f : ℕ → ℕ) where
  pub tabulate_length : (n : ℕ) → length (tabulate f n) ≡ n
  unfolding tabulate
  tabulate_length zero = refl
  tabulate_length (suc n) = length-append (tabulate f n) (f n ∷ []) ∙ omega (arith, tabulate_length n)

  pub tabulate_at : (n i : ℕ) → i < n → get_or (tabulate f n) i 0 ≡ f i
  unfolding tabulate
  tabulate_at zero i h = absurd (omega arith)
  tabulate_at (suc n) i h = on (dec_lt i n) (tabulate_at n i)
    where
      on : Dec (i < n) → (i < n → get_or (tabulate f n) i 0 ≡ f i) → get_or (tabulate f n ++ (f n ∷ [])) i 0 ≡ f i
      on (yes a) ih = get_or-append (tabulate f n) (f n ∷ []) 0 i (rw (tabulate_length n) a) ∙ ih a
      on (no a) ih = let z : i ≡ n = omega arith in rw z (get_or_at (tabulate f n) (f n) [] 0 n (tabulate_length n))

  -- no two numbers below m have one value
  abbrev pub Injective : ℕ → Type 0
  Injective m = (i j : ℕ) → i < m → j < m → f i ≡ f j → i ≡ j

  pub tabulate_distinct : (m : ℕ) → Injective m → Distinct (tabulate f m)
  unfolding tabulate
  tabulate_distinct zero apart = λ i h. absurd (omega arith)
  tabulate_distinct (suc m) apart =
      distinct_last (tabulate f m) (f m) new (tabulate_distinct m (λ i j h k. apart i j (omega arith) (omega arith)))
    where
      new : Member (f m) (tabulate f m) → ⊥
      new h =
          let i = index_of (f m) (tabulate f m) in
          let below : i < m = omega (arith, tabulate_length m, h) in
          let same = sym (tabulate_at m i below) ∙ index_is (f m) (tabulate f m) h in
          omega (arith, apart i m (omega arith) (omega arith) same)

pub tabulate_cong : (f g : ℕ → ℕ) (n : ℕ) → ((i : ℕ) → i < n → f i ≡ g i) → tabulate f n ≡ tabulate g n
unfolding tabulate
tabulate_cong f g zero h = refl
tabulate_cong f g (suc n) h = rw (tabulate_cong f g n (λ i b. h i (omega arith)), h n (omega arith))

-- the numbers below n are those of their list
pub number_member : (n i : ℕ) → i < n → Member i (tabulate (λ i. i) n)
number_member n i h = member_at i (tabulate (λ i. i) n) i (omega (arith, tabulate_length (λ i. i) n)) (tabulate_at (λ i. i) n i h)

-- ---- the pigeonhole principle

injective_listed : (f : ℕ → ℕ) (m : ℕ) (l : List ℕ) → Injective f m → ((i : ℕ) → i < m → Member (f i) l) → m ≤ length l
injective_listed f m l apart listed = omega (arith, tabulate_length f m, distinct_fits (tabulate f m) l (tabulate_distinct f m apart) inside)
  where
    inside : (i : ℕ) → i < length (tabulate f m) → Member (get_or (tabulate f m) i 0) l
    inside i h =
        let b : i < m = omega (arith, tabulate_length f m, h) in
        subst (λ (e : ℕ). Member e l) (sym (tabulate_at f m i b)) (listed i b)

pub injective_fits : (f : ℕ → ℕ) (m n : ℕ) → Injective f m → ((i : ℕ) → i < m → f i < n) → m ≤ n
injective_fits f m n apart below =
    omega (arith, tabulate_length (λ i. i) n, injective_listed f m (tabulate (λ i. i) n) apart (λ i h. number_member n (f i) (below i h)))

-- as many as there are leave none out
pub injective_onto : (f : ℕ → ℕ) (n : ℕ) → Injective f n → ((i : ℕ) → i < n → f i < n) → (j : ℕ) → j < n → (i : ℕ) × (i < n) × (f i ≡ j)
injective_onto f n apart below j h = on (dec_lt (index_of j (tabulate f n)) (length (tabulate f n)))
  where
    on : Dec (Member j (tabulate f n)) → (i : ℕ) × (i < n) × (f i ≡ j)
    on (yes a) =
        let i = index_of j (tabulate f n) in
        let b : i < n = omega (arith, tabulate_length f n) in
        (i, b, sym (tabulate_at f n i b) ∙ index_is j (tabulate f n) a)
    on (no a) =
        let all = tabulate (λ i. i) n in
        let fits = injective_listed f n (without j all) apart (λ i b.
        without_member j (f i) all (λ e. a (member_at j (tabulate f n) i (omega (arith, tabulate_length f n)) (tabulate_at f n i b ∙ e)))
        (number_member n (f i) (below i b))) in
        absurd (omega (arith, without_length j all (number_member n j h), tabulate_length (λ i. i) n))
