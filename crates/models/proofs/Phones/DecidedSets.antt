-- For phone models satisfaction with decided sets is satisfaction: each max has a greatest decided set, and no set at all has more states.
use Prim.Native.Nat.{ℕ, zero, suc}
use mathlib.Core.Path.{◌≡◌, refl}
use mathlib.Core.Logic.{◌↔◌}
use mathlib.Core.Bool.{Bool, true, false, ◌&&◌, and-eq-true_iff, false≢true}
use mathlib.Core.List.{List, [], ◌∷◌, map}
use borrow.Author.Tests.{lt-ltb}
use Rattle.reading.specs.Rule.{Formula, truth, falsity, both, necessity, max, variable}
use Rattle.synthesis.specs.Violation.{covered_by}
use Rattle.enforcement.specs.Model.{InVariable, StateSatisfies, as_set, StateSatisfiesDecided}
use Rattle.enforcement.proofs.DecidedSatisfaction.{decided_satisfied}
use Rattle.models.specs.Phone.{Phone, model_of}
use Rattle.models.specs.Promises.{DecidedSatisfies}
use Rattle.models.proofs.Phones.GreatestSets.{Within, greatest}
use Rattle.models.proofs.Phones.PhoneStates.{states_in, Listed, start_listed, weak_listed}
use Rattle.models.proofs.Phones.Necessities.{necessary, necessary_sound, necessary_complete}

-- ---- the decided set of the states that satisfy a formula

module _ (y : Phone) (covered : (pattern code : ℕ) → Bool) where
  -- Every listed state of the sets Ps of the maxes around is in the decided ones Xs.
  abbrev Around : List (ℕ → Type 0) → List (ℕ → Bool) → Type 0
  Around Ps Xs = (d s : ℕ) → Listed y s → InVariable Ps d s → InVariable (map as_set Xs) d s

  -- A decided set whose states satisfy f with Xs, and which has every listed state that satisfies f with any sets within Xs.
  record Decision (Xs : List (ℕ → Bool)) (f : Formula) : Type 1 where
    set : ℕ → Bool
    satisfied : (s : ℕ) → set s ≡ true → StateSatisfiesDecided (model_of y) covered Xs f s
    complete : (Ps : List (ℕ → Type 0)) → Around Ps Xs
        → (s : ℕ) → Listed y s → StateSatisfies (model_of y) covered Ps f s → set s ≡ true

  around_max : (Ps : List (ℕ → Type 0)) (Xs : List (ℕ → Bool)) → Around Ps Xs
      → (P : ℕ → Type 0) (X : ℕ → Bool) → Within (λ s. Listed y s × P s) X → Around (P ∷ Ps) (X ∷ Xs)
  around_max Ps Xs around P X within zero s l h = within s (l, h)
  around_max Ps Xs around P X within (suc d) s l h = around d s l h

  -- a variable that no max binds is satisfied
  abbrev in_variable : List (ℕ → Bool) → ℕ → ℕ → Bool
  in_variable [] d s = true
  in_variable (X ∷ Xs) zero s = X s
  in_variable (X ∷ Xs) (suc d) s = in_variable Xs d s

  in_variable_is : (Xs : List (ℕ → Bool)) (d s : ℕ) → (in_variable Xs d s ≡ true) ↔ InVariable (map as_set Xs) d s
  in_variable_is [] d s = (λ e. tt, λ h. refl)
  in_variable_is (X ∷ Xs) zero s = (λ e. e, λ h. h)
  in_variable_is (X ∷ Xs) (suc d) s = in_variable_is Xs d s

  -- ---- by the formula's structure

  decision : (f : Formula) (Xs : List (ℕ → Bool)) → Decision Xs f
  decision truth Xs = record { set = λ s. true; satisfied = λ s e. tt; complete = λ Ps around s l h. refl }
  decision falsity Xs = record {
    set = λ s. false;
    satisfied = λ s e. absurd (false≢true e);
    complete = λ Ps around s l h. absurd h.lower;
  }
  decision (both f g) Xs =
      let a = decision f Xs in
      let b = decision g Xs in
      record {
        set = λ s. a.set s && b.set s;
        satisfied = λ s e. let p = (and-eq-true_iff (a.set s) (b.set s)).0 e in (a.satisfied s p.0, b.satisfied s p.1);
        complete = λ Ps around s l h.
            (and-eq-true_iff (a.set s) (b.set s)).1 (a.complete Ps around s l h.0, b.complete Ps around s l h.1);
      }
  decision (necessity p f) Xs =
      let a = decision f Xs in
      record {
        set = necessary y (covered p) a.set;
        satisfied = λ s e c t i w. a.satisfied t (necessary_sound y (covered p) a.set s e c t i w);
        complete = λ Ps around s l h.
            necessary_complete y (covered p) a.set s l (λ c t i w. a.complete Ps around t (weak_listed y w) (h c t i w));
      }
  decision (max f) Xs =
      let g = greatest (λ Y. (decision f (Y ∷ Xs)).set) (states_in y) in
      record {
        set = g.set;
        satisfied = λ s e. (g.set, (λ t i. (decision f (g.set ∷ Xs)).satisfied t (g.passes t i)), e);
        complete = λ Ps around s l h.
            g.contains (λ v. Listed y v × h.0 v)
            (λ Y within v i. (decision f (Y ∷ Xs)).complete (h.0 ∷ Ps) (around_max Ps Xs around h.0 Y within) v i.0 (h.1 v i.1))
            (λ v i. lt-ltb _ _ i.0) s (l, h.2);
      }
  decision (variable d) Xs = record {
    set = in_variable Xs d;
    satisfied = λ s. (in_variable_is Xs d s).0;
    complete = λ Ps around s l h. (in_variable_is Xs d s).1 (around d s l h.lower);
  }

-- ---- the promise

pub decided_satisfies : DecidedSatisfies
decided_satisfies y r = (
  decided_satisfied (model_of y) r,
  λ h. let a = decision y (covered_by r.patterns) r.formula [] in
      a.satisfied 0 (a.complete [] (λ d s l h. tt) 0 (start_listed y) h),
)
