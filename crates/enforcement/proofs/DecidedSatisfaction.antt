-- A model that satisfies a rule with decided sets satisfies it: each decided set, as a set, serves its max.
use Prim.Native.Nat.{ℕ}
use mathlib.Core.Bool.{Bool}
use mathlib.Core.List.{List, [], ◌∷◌, map}
use Rattle.reading.specs.Rule.{Formula, truth, falsity, both, necessity, max, variable}
use Rattle.synthesis.specs.Violation.{covered_by}
use Rattle.enforcement.specs.Model.{Model, StateSatisfies, as_set, StateSatisfiesDecided}
use Rattle.enforcement.specs.Promises.{DecidedSatisfied}

module _ (m : Model) (covered : (pattern code : ℕ) → Bool) where
  decided_state_satisfies : (Xs : List (m.State → Bool)) (f : Formula) (s : m.State) → StateSatisfiesDecided m covered Xs f s
      → StateSatisfies m covered (map as_set Xs) f s
  decided_state_satisfies Xs truth s h = tt
  decided_state_satisfies Xs falsity s h = absurd h
  decided_state_satisfies Xs (both f g) s h = (decided_state_satisfies Xs f s h.0, decided_state_satisfies Xs g s h.1)
  decided_state_satisfies Xs (necessity p f) s h = λ c t q x. decided_state_satisfies Xs f t (h c t q x)
  decided_state_satisfies Xs (max f) s h = (as_set h.0, (λ t i. decided_state_satisfies (h.0 ∷ Xs) f t (h.1 t i)), h.2)
  decided_state_satisfies Xs (variable d) s h = record { lower = h }

pub decided_satisfied : DecidedSatisfied
decided_satisfied m r = decided_state_satisfies m (covered_by r.patterns) [] r.formula m.start
