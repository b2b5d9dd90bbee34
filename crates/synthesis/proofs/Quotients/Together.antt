-- Equations that stay together, and one round of refinement. To stay together is an equivalence, since it says that two classes and two rows of answers
-- are equal.
use Prim.Native.Nat.{ℕ, zero, suc, ◌<◌}
use mathlib.Core.Path.{◌≡◌, refl, sym, ◌∙◌}
use mathlib.Core.Bool.{Bool, true, false, ◌&&◌, true≢false}
use mathlib.Core.List.{List}
use lib.Dec.{eqb}
use lib.ListN.{length, get_or, replicate, length-replicate}
use borrow.Author.Tests.{eq-eqb, eqb-true}
use Rattle.reading.specs.Pattern.{least, every}
use Rattle.reading.proofs.Measures.BoundedTests.{every_is}
use Rattle.synthesis.specs.Monitor.{Answer, dropped, next}
use Rattle.synthesis.specs.Merging.{merged, same_answer, together, refined, rounds}
use Rattle.synthesis.proofs.Numberings.Tabulating.{tabulate_length, tabulate_at}

-- ---- the same answer

pub same_answer_lem : (a b : Answer ℕ) → same_answer a b ≡ true → a ≡ b
same_answer_lem dropped dropped h = refl
same_answer_lem dropped (next j) h = absurd (true≢false (sym h))
same_answer_lem (next i) dropped h = absurd (true≢false (sym h))
same_answer_lem (next i) (next j) h = rw (eqb-true i j h)

answer_same : (a b : Answer ℕ) → a ≡ b → same_answer a b ≡ true
answer_same a b e = rw e (on b)
  where
    on : (b : Answer ℕ) → same_answer b b ≡ true
    on dropped = refl
    on (next j) = eq-eqb j j refl

module _ (codes : ℕ) (answer : ℕ → ℕ → Answer ℕ) (classes : List ℕ) where
  -- ---- what it is to stay together

  pub record Agree (k l : ℕ) : Type 0 where
    pub one_class : get_or classes k 0 ≡ get_or classes l 0
    pub alike : (c : ℕ) → c < codes → merged classes answer k c ≡ merged classes answer l c

  abbrev same_on : (k l c : ℕ) → Bool
  same_on k l c = same_answer (merged classes answer k c) (merged classes answer l c)

  pub together_agree : (k l : ℕ) → together codes answer classes k l ≡ true → Agree k l
  unfolding together
  together_agree k l h = on (eqb (get_or classes k 0) (get_or classes l 0)) refl h
    where
      on : (b : Bool) → eqb (get_or classes k 0) (get_or classes l 0) ≡ b → (b && every codes (same_on k l)) ≡ true → Agree k l
      on true q h = record {
        one_class = eqb-true (get_or classes k 0) (get_or classes l 0) q;
        alike = λ c b. same_answer_lem (merged classes answer k c) (merged classes answer l c) ((every_is codes (same_on k l)).0 h c b);
      }
      on false q h = absurd (true≢false (sym h))

  pub agree_together : (k l : ℕ) → Agree k l → together codes answer classes k l ≡ true
  unfolding together
  agree_together k l a =
      rw (eq-eqb _ _ a.one_class)
      ((every_is codes (same_on k l)).1 (λ c b. answer_same (merged classes answer k c) (merged classes answer l c) (a.alike c b)))

  pub agree_refl : (k : ℕ) → Agree k k
  agree_refl k = record { one_class = refl; alike = λ c b. refl }

  pub agree_sym : (k l : ℕ) → Agree k l → Agree l k
  agree_sym k l a = record { one_class = sym a.one_class; alike = λ c b. sym (a.alike c b) }

  pub agree_trans : (k l m : ℕ) → Agree k l → Agree l m → Agree k m
  agree_trans k l m a b = record { one_class = a.one_class ∙ b.one_class; alike = λ c h. a.alike c h ∙ b.alike c h }

  -- ---- one round

  pub refined_length : (n : ℕ) → length (refined codes answer classes n) ≡ n
  unfolding refined
  refined_length n = tabulate_length (λ k. least k (together codes answer classes k)) n

  -- the class of an equation after the round
  pub refined_at : (n k : ℕ) → k < n → get_or (refined codes answer classes n) k 0 ≡ least k (together codes answer classes k)
  unfolding refined
  refined_at n k h = tabulate_at (λ k. least k (together codes answer classes k)) n k h

-- ---- rounds

module _ (codes : ℕ) (answer : ℕ → ℕ → Answer ℕ) (count : ℕ) where
  pub rounds_first : rounds codes answer count 0 ≡ replicate count 0
  unfolding rounds
  rounds_first = refl

  pub rounds_next : (r : ℕ) → refined codes answer (rounds codes answer count r) count ≡ rounds codes answer count (suc r)
  unfolding rounds
  rounds_next r = refl

  pub rounds_length : (r : ℕ) → length (rounds codes answer count r) ≡ count
  unfolding rounds
  rounds_length zero = length-replicate {A = ℕ} count 0
  rounds_length (suc r) = refined_length codes answer (rounds codes answer count r) count
