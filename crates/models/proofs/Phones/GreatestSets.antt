-- The greatest decided set of listed numbers whose members pass a test that may ask about the set itself. Take away a number that fails, as
-- long as there is one: the list gets shorter.
use Prim.Native.Nat.{ℕ, zero, suc, ◌≤◌}
use mathlib.Core.Path.{◌≡◌, refl, sym, ◌∙◌, ap, subst}
use mathlib.Core.Bool.{Bool, true, false, true≢false}
use mathlib.Core.List.{List}
use native.Mathlib.Omega.{arith}
use lib.Dec.{ltb}
use lib.ListN.{length, get_or}
use borrow.Author.Tests.{ltb-true, lt-ltb}
use Rattle.reading.specs.Pattern.{every}
use Rattle.reading.proofs.Measures.BoundedTests.{every_is, every_fails}
use Rattle.synthesis.specs.Search.{index_of}
use Rattle.synthesis.proofs.Numberings.Indices.{Member, index_is, member_at, without, without_length, without_member}

-- ---- sets of listed numbers

abbrev pub listed : List ℕ → ℕ → Bool
listed l v = ltb (index_of v l) (length l)

-- every number with the property P is in the set X
abbrev pub Within : (ℕ → Type 0) → (ℕ → Bool) → Type 0
Within P X = (v : ℕ) → P v → X v ≡ true

module _ (test : (ℕ → Bool) → ℕ → Bool) where
  -- Wherever P is within a set, the numbers with P pass the test about that set.
  abbrev pub Consistent : (ℕ → Type 0) → Type 0
  Consistent P = (X : ℕ → Bool) → Within P X → Within P (test X)

  pub record Greatest (l : List ℕ) : Type 1 where
    pub set : ℕ → Bool
    pub passes : (v : ℕ) → set v ≡ true → test set v ≡ true
    pub contains : (P : ℕ → Type 0) → Consistent P → Within P (listed l) → Within P set

  -- ---- taking numbers away

  -- the listed numbers, or what there is without one that fails
  shrunk : (l : List ℕ) → ((e : ℕ) → Member e l → Greatest (without e l)) → Greatest l
  shrunk l rest = on (every (length l) pass) refl
    where
      pass : ℕ → Bool
      pass i = test (listed l) (get_or l i 0)

      pass_fail_distinct : (u v : ℕ) → test (listed l) u ≡ true → test (listed l) v ≡ false → u ≡ v → ⊥
      pass_fail_distinct u v h n same = true≢false (sym h ∙ ap (test (listed l)) same ∙ n)

      on : (b : Bool) → every (length l) pass ≡ b → Greatest l
      on true q = record {
        set = listed l;
        passes = λ v h.
            let m : Member v l = ltb-true _ _ h in
            subst (λ (u : ℕ). test (listed l) u ≡ true) (index_is v l m) ((every_is (length l) pass).0 q (index_of v l) m);
        contains = λ P keeps within. within;
      }
      on false q =
          let f = every_fails (length l) pass q in
          let e : ℕ = get_or l f.0 0 in
          let g : Greatest (without e l) = rest e (member_at e l f.0 f.1 refl) in
          record {
            set = g.set;
            passes = g.passes;
            contains = λ P keeps within. g.contains P keeps
                (λ v p. lt-ltb _ _ (without_member e v l (pass_fail_distinct v e (keeps (listed l) within v p) f.2) (ltb-true _ _ (within v p))));
          }

  shrink : (n : ℕ) (l : List ℕ) → length l ≤ n → Greatest l
  shrink zero l h = shrunk l (λ e m. absurd (omega arith))
  shrink (suc n) l h = shrunk l (λ e m. shrink n (without e l) (omega (arith, without_length e l m)))

  pub greatest : (l : List ℕ) → Greatest l
  greatest l = shrink (length l) l (omega arith)
