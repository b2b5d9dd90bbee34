-- Models of any kind, their walks and traces; which of them satisfy a rule, by the paper's "Meaning"; strong bisimulation; and a model behind
-- a monitor, which is a model too.
use Rattle.std.specs.Prelude.{ℕ, ◌<◌, zero, suc, ◌≡◌, List, [], ◌∷◌, map, ◌↔◌, Bool, true, length, get_or}
use Rattle.std.proofs.Math.Logic.{Lift}
use Rattle.reading.specs.Rule.{Formula, truth, falsity, both, necessity, max, variable, Rule}
use Rattle.synthesis.specs.Violation.{covered_by}
use Rattle.synthesis.specs.Monitor.{Answer, next, cases}

-- ---- models and walks

pub data Label : Type 0 where
  silent : Label
  code : ℕ → Label

-- The field calls a model a labelled transition system, and its steps transitions.
pub record Model : Type 1 where
  pub State : Type 0
  pub start : State
  pub Step : State → Label → State → Type 0

module _ (m : Model) where
  -- A walk from one state to another: any number of steps, also none. The trace has the codes in order, and nothing of silent steps. The field
  -- calls a walk a run or a computation, and its trace a weak trace.
  pub data Walk : m.State → (trace : List ℕ) → m.State → Type 0 where
    stay : {s : m.State} → Walk s [] s
    silent_first : {s t u : m.State} {w : List ℕ} → m.Step s silent t → Walk t w u → Walk s w u
    code_first : {s t u : m.State} {c : ℕ} {w : List ℕ} → m.Step s (code c) t → Walk t w u → Walk s (c ∷ w) u

  -- A weak transition: silent steps, one step with the code c, and silent steps, each time any number of them.
  pub record Weak (s : m.State) (c : ℕ) (t : m.State) : Type 0 where
    pub before : m.State
    pub after : m.State
    pub silent_before : Walk s [] before
    pub step : m.Step before (code c) after
    pub silent_after : Walk after [] t

-- A model is finite when the states to which walks lead from its start stand in a list. States that none leads to don't count.
pub record Finite (m : Model) : Type 0 where
  pub states : List m.State
  pub listed : (w : List ℕ) (t : m.State) → Walk m m.start w t → (i : ℕ) × (i < length states) × (get_or states i m.start ≡ t)

-- The codes of its steps are bytes.
abbrev pub ByteCodes : Model → Type 0
ByteCodes m = (s t : m.State) (c : ℕ) → m.Step s (code c) t → c < 256

-- ---- satisfaction

-- A set of states is any predicate on them. `sets` are those of the variables: of the maxes around a formula, innermost first.

-- s is in the set of the variable d. One that no max binds says nothing.
abbrev pub InVariable : {S : Type 0} → (sets : List (S → Type 0)) → (d : ℕ) → S → Type 0
InVariable [] d s = Unit
InVariable (X ∷ Xs) zero s = X s
InVariable (X ∷ Xs) (suc d) s = InVariable Xs d s

-- `covered p c`: pattern p covers the code c.
module _ (m : Model) (covered : (pattern code : ℕ) → Bool) where
  -- The state s satisfies f. Max is the greatest fixed point: s is in some set whose states all satisfy the body with this set for the variable.
  -- That there is such a set is a statement of Type 1; `Lift` makes one of Type 1 of the two that are smaller.
  abbrev pub StateSatisfies : (sets : List (m.State → Type 0)) → Formula → m.State → Type 1
  StateSatisfies Xs truth s = Unit
  StateSatisfies Xs falsity s = Lift ⊥
  StateSatisfies Xs (both f g) s = StateSatisfies Xs f s × StateSatisfies Xs g s
  StateSatisfies Xs (necessity p f) s = (c : ℕ) (t : m.State) → covered p c ≡ true → Weak m s c t → StateSatisfies Xs f t
  StateSatisfies Xs (max f) s = (X : m.State → Type 0) × ((t : m.State) → X t → StateSatisfies (X ∷ Xs) f t) × X s
  StateSatisfies Xs (variable d) s = Lift (InVariable Xs d s)

-- A model satisfies a rule when its start does.
abbrev pub Satisfies : Model → Rule → Type 1
Satisfies m r = StateSatisfies m (covered_by r.patterns) [] r.formula m.start

-- ---- satisfaction with decided sets

-- The same, but each set of a max is decided. This is a statement of Type 0, and so a contract can say it. It implies satisfaction in every model
-- (`decided_satisfied`), and for phone models the two agree (`decided_satisfies`).

-- a decided set as a set
abbrev pub as_set : {S : Type 0} → (S → Bool) → S → Type 0
as_set X s = X s ≡ true

module _ (m : Model) (covered : (pattern code : ℕ) → Bool) where
  abbrev pub StateSatisfiesDecided : (sets : List (m.State → Bool)) → Formula → m.State → Type 0
  StateSatisfiesDecided Xs truth s = Unit
  StateSatisfiesDecided Xs falsity s = ⊥
  StateSatisfiesDecided Xs (both f g) s = StateSatisfiesDecided Xs f s × StateSatisfiesDecided Xs g s
  StateSatisfiesDecided Xs (necessity p f) s = (c : ℕ) (t : m.State) → covered p c ≡ true → Weak m s c t → StateSatisfiesDecided Xs f t
  StateSatisfiesDecided Xs (max f) s = (X : m.State → Bool) × ((t : m.State) → as_set X t → StateSatisfiesDecided (X ∷ Xs) f t) × as_set X s
  StateSatisfiesDecided Xs (variable d) s = InVariable (map as_set Xs) d s

abbrev pub SatisfiesDecided : Model → Rule → Type 0
SatisfiesDecided m r = StateSatisfiesDecided m (covered_by r.patterns) [] r.formula m.start

-- ---- bisimulation

-- R relates states of m to states of n by a strong bisimulation: where two states are related, each step of one has a partner among the steps of
-- the other, with its label, and their ends are related again.
pub record Bisimulation (m n : Model) (R : m.State → n.State → Type 0) : Type 0 where
  pub forth : (s s' : m.State) (t : n.State) (a : Label) → R s t → m.Step s a s' → (t' : n.State) × n.Step t a t' × R s' t'
  pub back : (s : m.State) (t t' : n.State) (a : Label) → R s t → n.Step t a t' → (s' : m.State) × m.Step s a s' × R s' t'

-- Two models are strongly bisimilar from their starts.
abbrev pub Bisimilar : Model → Model → Type 1
Bisimilar m n = (R : m.State → n.State → Type 0) × Bisimulation m n R × R m.start n.start

-- ---- behind a monitor

-- The field calls this the composition of a system with a suppression monitor, or a monitored system.

-- What becomes of a code step of the model: it is passed and the monitor goes to an equation, or it is suppressed and the equation stays.
pub data Response (E : Type 0) : Type 0 where
  passed : E → Response E
  suppressed : Response E

-- Suppression: what is dropped is suppressed, and nothing else.
abbrev pub suppressing : {E : Type 0} → (answer : E → ℕ → Answer E) → E → ℕ → Response E
suppressing answer e c = cases (answer e c) suppressed passed

-- a response that passes exactly what a monitor keeps
abbrev pub PassesKept : {E : Type 0} → (respond : E → ℕ → Response E) → (answer : E → ℕ → Answer E) → Type 0
PassesKept {E} respond answer = (e e' : E) (c : ℕ) → (respond e c ≡ passed e') ↔ (answer e c ≡ next e')

-- The steps behind a monitor, from pairs of a state and an equation. The model's state moves with each of its steps.
pub data Behind {E : Type 0} (respond : E → ℕ → Response E) (m : Model) : m.State × E → Label → m.State × E → Type 0 where
  silent_step : {s t : m.State} {e : E} → m.Step s silent t → Behind respond m (s, e) silent (t, e)
  passed_step : {s t : m.State} {c : ℕ} {e e' : E} → m.Step s (code c) t → respond e c ≡ passed e' → Behind respond m (s, e) (code c) (t, e')
  suppressed_step : {s t : m.State} {c : ℕ} {e : E} → m.Step s (code c) t → respond e c ≡ suppressed → Behind respond m (s, e) silent (t, e)

-- the model m behind a monitor whose first equation is `first`
abbrev pub monitored : {E : Type 0} → (respond : E → ℕ → Response E) → (first : E) → Model → Model
monitored {E} respond first m = record { State = m.State × E; start = (m.start, first); Step = Behind respond m }
