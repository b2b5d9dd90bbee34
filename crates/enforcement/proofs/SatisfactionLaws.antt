-- A state satisfies a formula exactly when no trace of a walk from it violates the formula. One way is by induction on the violation. For the other,
-- the set of a max has the states from which no trace violates its body.
use Prim.Native.Nat.{ℕ, zero, suc}
use mathlib.Core.Path.{◌≡◌, refl}
use mathlib.Core.Bool.{Bool}
use mathlib.Core.List.{List, [], ◌∷◌}
use native.Mathlib.Omega.{arith}
use lib.ListN.{drop}
use lib.Seq.{drop-nil}
use Rattle.reading.specs.Rule.{Formula, truth, falsity, both, necessity, max, variable}
use Rattle.synthesis.specs.Violation.{covered_by, Violates, by_falsity, by_first, by_second, by_code, by_body, by_variable}
use Rattle.enforcement.specs.Model.{Model, Walk, stay, InVariable, StateSatisfies}
use Rattle.enforcement.specs.Promises.{SatisfiesSafe, SatisfiedAlike}
use Rattle.enforcement.proofs.Walks.{walk_append, weak_walk, weak_first}

-- ---- what is satisfied isn't violated

module _ (m : Model) (covered : ℕ → ℕ → Bool) where
  abbrev Set : Type 1
  Set = m.State → Type 0

  -- the states of each set satisfy the body of its max
  data PostFixed : (bodies : List Formula) → (sets : List Set) → Type 1 where
    no_max_lem : PostFixed [] []
    one_max : {f : Formula} {bodies : List Formula} {X : Set} {Xs : List Set}
        → ((t : m.State) → X t → StateSatisfies m covered (X ∷ Xs) f t) → PostFixed bodies Xs → PostFixed (f ∷ bodies) (X ∷ Xs)

  -- a state in the set of a variable satisfies the body of its max
  record Bound (f : Formula) (outer : List Formula) (s : m.State) : Type 1 where
    sets : List Set
    fits : PostFixed (f ∷ outer) sets
    satisfied : StateSatisfies m covered sets f s

  bound_satisfies : {bodies outer : List Formula} {Xs : List Set} {f : Formula} (d : ℕ) (s : m.State) → PostFixed bodies Xs → drop d bodies ≡ f ∷ outer
      → InVariable Xs d s → Bound f outer s
  bound_satisfies d s no_max_lem q h = absurd (let e = drop-nil {A = Formula} d in let z : ◌≡◌ {A = ℕ} 0 1 = cc in omega arith)
  bound_satisfies {bodies} {outer} {Xs} {f} zero s (one_max {f = g} {bodies = around} body fits) q h =
      let same : g ≡ f = cc in
      let outside : around ≡ outer = cc in
      record { sets = Xs; fits = rw (← same, ← outside) (one_max body fits); satisfied = rw (← same) (body s h) }
  bound_satisfies (suc d) s (one_max body fits) q h = bound_satisfies d s fits q h

  satisfies_never : {bodies : List Formula} {Xs : List Set} {f : Formula} {w : List ℕ} {s t : m.State} → Violates covered bodies f w
      → PostFixed bodies Xs → StateSatisfies m covered Xs f s → Walk m s w t → ⊥
  satisfies_never by_falsity fits sat k = sat.lower
  satisfies_never (by_first v) fits sat k = satisfies_never v fits sat.0 k
  satisfies_never (by_second v) fits sat k = satisfies_never v fits sat.1 k
  satisfies_never (by_code {c = c} p v) fits sat k = let (t, x, j) = weak_first m k in satisfies_never v fits (sat c t p x) j
  satisfies_never {s = s} (by_body v) fits sat k = satisfies_never v (one_max sat.1 fits) (sat.1 s sat.2) k
  satisfies_never {s = s} (by_variable {d = d} q v) fits sat k =
      let b = bound_satisfies d s fits q sat.lower in
      satisfies_never v b.fits b.satisfied k

  -- ---- what is never violated is satisfied

  -- no trace of a walk from s violates f
  abbrev Never : (bodies : List Formula) → Formula → m.State → Type 0
  Never bodies f s = (w : List ℕ) (t : m.State) → Walk m s w t → Violates covered bodies f w → ⊥

  -- the greatest sets for the variables
  abbrev greatest_sets : List Formula → List Set
  greatest_sets [] = []
  greatest_sets (f ∷ bodies) = Never (f ∷ bodies) f ∷ greatest_sets bodies

  abbrev Satisfied : (bodies : List Formula) → Formula → m.State → Type 1
  Satisfied bodies = StateSatisfies m covered (greatest_sets bodies)

  violates_outer : {bodies : List Formula} {f : Formula} {d : ℕ} {w : List ℕ} → Violates covered bodies (variable d) w
      → Violates covered (f ∷ bodies) (variable (suc d)) w
  violates_outer (by_variable q v) = by_variable q v

  in_greatest_set : (bodies : List Formula) (d : ℕ) (s : m.State) → Never bodies (variable d) s
      → InVariable (greatest_sets bodies) d s
  in_greatest_set [] d s never = tt
  in_greatest_set (f ∷ bodies) zero s never = λ w t k v. never w t k (by_variable refl v)
  in_greatest_set (f ∷ bodies) (suc d) s never = in_greatest_set bodies d s (λ w t k v. never w t k (violates_outer v))

  never_satisfies : (bodies : List Formula) (f : Formula) (s : m.State) → Never bodies f s → Satisfied bodies f s
  never_satisfies bodies truth s never = tt
  never_satisfies bodies falsity s never = absurd (never [] s stay by_falsity)
  never_satisfies bodies (both f g) s never = (
    never_satisfies bodies f s (λ w t k v. never w t k (by_first v)),
    never_satisfies bodies g s (λ w t k v. never w t k (by_second v)),
  )
  never_satisfies bodies (necessity p f) s never =
      λ c t q x. never_satisfies bodies f t (λ w u k v. never (c ∷ w) u (walk_append m (weak_walk m x) k) (by_code q v))
  never_satisfies bodies (max f) s never =
      (Never (f ∷ bodies) f, never_satisfies (f ∷ bodies) f, λ w t k v. never w t k (by_body v))
  never_satisfies bodies (variable d) s never = record { lower = in_greatest_set bodies d s never }

-- ---- the promise

pub satisfies_safe : SatisfiesSafe
satisfies_safe m r = (
  λ sat w t k v. satisfies_never m (covered_by r.patterns) v no_max_lem sat k,
  never_satisfies m (covered_by r.patterns) [] r.formula m.start,
)

pub satisfied_alike : SatisfiedAlike
satisfied_alike r r' violated m =
    let one = satisfies_safe m r in
    let other = satisfies_safe m r' in
    (λ sat. other.1 (λ w t k v. one.0 sat w t k ((violated w).1 v)), λ sat. one.1 (λ w t k v. other.0 sat w t k ((violated w).0 v)))
