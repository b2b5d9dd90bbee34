-- Chaining the steps of a model by the state from which they go, one step after the other: the new step becomes the last from its source, and the
-- one that was becomes the earlier one. And what the last of the first steps from a state is.
use Prim.Native.Nat.{ℕ, zero, suc, ◌+◌, ◌<◌}
use mathlib.Core.Path.{◌≡◌, refl, sym, ◌∙◌, subst}
use mathlib.Core.Bool.{Bool, true, false}
use mathlib.Core.List.{List}
use Rattle.std.proofs.Common.{Option, Some, None}
use Rattle.std.proofs.lemmas.Option.{none-some, same_Some}
use native.Mathlib.Decide.{dec_lt}
use native.Mathlib.Numerals.{add-one}
use native.Mathlib.Omega.{arith}
use lib.Dec.{eqb}
use lib.ListN.{length, get_or, set, replicate}
use lib.Seq.{get_or-set_same, get_or-set_other}
use borrow.Author.Tests.{eqb-true, eqb-false, eq-eqb, ne_eqb}
use Rattle.reading.proofs.Numbering.NumberedLaws.{repeated_at}
use Rattle.models.specs.Phone.{no_step}
use Rattle.models.specs.Exploring.{StepsWithinLimits, last_from, ChainsFirst}
use Rattle.models.specs.declared.Step.{Step}

-- ---- the last step from a state

module _ (steps : List Step) (s : ℕ) where
  last_from-same : (n : ℕ) → (get_or steps n no_step).from ≡ s → last_from steps s (n + 1) ≡ Some n
  unfolding last_from
  last_from-same n e = rw (add-one n, eq-eqb (get_or steps n no_step).from s e)

  last_from-other : (n : ℕ) → ((get_or steps n no_step).from ≡ s → ⊥) → last_from steps s (n + 1) ≡ last_from steps s n
  unfolding last_from
  last_from-other n d = rw (add-one n, ne_eqb (get_or steps n no_step).from s d)

  -- What the last of the first n steps from s is: one of them, and none of those after it goes from s.
  pub record IsLast (n j : ℕ) : Type 0 where
    pub inside : j < n
    pub from_is : (get_or steps j no_step).from ≡ s
    pub none_after : (i : ℕ) → j < i → i < n → (get_or steps i no_step).from ≡ s → ⊥

  -- Where there is none, none of them goes from s.
  pub last_from_none : (n : ℕ) → last_from steps s n ≡ None → (i : ℕ) → i < n → (get_or steps i no_step).from ≡ s → ⊥
  unfolding last_from
  last_from_none zero none i h e = omega arith
  last_from_none (suc n) none i h e = on (eqb (get_or steps n no_step).from s) refl (last_from_none n) (dec_lt i n)
    where
      on : (b : Bool) → eqb (get_or steps n no_step).from s ≡ b
          → (last_from steps s n ≡ None → (i : ℕ) → i < n → (get_or steps i no_step).from ≡ s → ⊥) → Dec (i < n) → ⊥
      on true q before d = none-some n (sym (rw q at none))
      on false q before (yes a) = before (rw q at none) i a e
      on false q before (no a) = let last : i ≡ n = omega arith in eqb-false _ s q (rw last at e)

  pub last_from_some : (n j : ℕ) → last_from steps s n ≡ Some j → IsLast n j
  unfolding last_from
  last_from_some zero j is = absurd (none-some j is)
  last_from_some (suc n) j is = on (eqb (get_or steps n no_step).from s) refl (last_from_some n j)
    where
      on : (b : Bool) → eqb (get_or steps n no_step).from s ≡ b → (last_from steps s n ≡ Some j → IsLast n j) → IsLast (suc n) j
      on true q before =
          let last : n ≡ j = same_Some n j (rw q at is) in
          record { inside = omega arith; from_is = rw (← last) (eqb-true _ s q); none_after = λ i a b e. absurd (omega arith) }
      on false q before =
          let l = before (rw q at is) in
          record {
            inside = omega (arith, l.inside);
            from_is = l.from_is;
            none_after = λ i a b e. at_last i e (dec_lt i n) (λ c. l.none_after i a c e) (omega arith);
          }
        where
          at_last : (i : ℕ) → (get_or steps i no_step).from ≡ s → Dec (i < n) → (i < n → ⊥) → i < suc n → ⊥
          at_last i e (yes c) none b = none c
          at_last i e (no c) none b = let last : i ≡ n = omega arith in eqb-false _ s q (rw last at e)

-- ---- one step after the other

-- What holds at the place of a write and at all others, holds at each.
pub set_everywhere : {A : Type 0} (d : A) (P : ℕ → A → Type 0) (l : List A) (k : ℕ) (x : A) → k < length l → P k x
    → ((i : ℕ) → (i ≡ k → ⊥) → P i (get_or l i d)) → (i : ℕ) → P i (get_or (set l k x) i d)
set_everywhere d P l k x h here there i = on (eqb i k) refl
  where
    on : (b : Bool) → eqb i k ≡ b → P i (get_or (set l k x) i d)
    on true e =
        subst (λ (j : ℕ). P j (get_or (set l k x) j d)) (sym (eqb-true i k e)) (subst (P k) (sym (get_or-set_same l k x d h)) here)
    on false e = let other = eqb-false i k e in subst (P i) (sym (get_or-set_other l k i x d other)) (there i other)

pub chains_none : (steps : List Step) → ChainsFirst steps 0 (replicate 64 None) (replicate 512 None)
unfolding last_from
chains_none steps = record { last_is = λ s h. repeated_at None 64 s; earlier_is = λ j h. absurd (omega arith) }

pub chains_next : {steps : List Step} {i : ℕ} {last earlier : List (Option ℕ)} → StepsWithinLimits steps → i < 512
    → length last ≡ 64 → length earlier ≡ 512 → ChainsFirst steps i last earlier
    → ChainsFirst steps (i + 1) (set last (get_or steps i no_step).from (Some i)) (set earlier i (get_or last (get_or steps i no_step).from None))
chains_next {steps} {i} {last} {earlier} within h long long' chains =
    let step = get_or steps i no_step in
    let from = (within.among i).from in
    record {
      last_is = set_everywhere None (λ s x. s < 64 → x ≡ last_from steps s (i + 1)) last _ _ (omega arith)
          (λ b. sym (last_from-same steps step.from i refl))
          (λ s d b. chains.last_is s b ∙ sym (last_from-other steps s i (λ e. d (sym e))));
      earlier_is = set_everywhere None (λ j x. j < i + 1 → x ≡ last_from steps (get_or steps j no_step).from j) earlier _ _ (omega arith)
          (λ b. chains.last_is step.from from)
          (λ j d b. chains.earlier_is j (omega (arith, d, b)));
    }
