-- What this crate promises, as statements over the definitions; proofs/ has a theorem of each of these types. A record says
-- what is claimed of one model, and the statement after it claims that of every one.
use Rattle.std.specs.Prelude.{ℕ, ◌≡◌, ◌↔◌, List, [], ◌∷◌}
use Rattle.reading.specs.Rule.{Rule, Bytes}
use Rattle.synthesis.specs.Violation.{ViolatesRule}
use Rattle.synthesis.specs.Monitor.{Answer, kept, ended, Suppresses, Monitors}
use Rattle.synthesis.specs.Merging.{DropAlike}
use Rattle.enforcement.specs.Model.{Model, Walk, Weak, ByteCodes, Satisfies, SatisfiesDecided, Bisimilar, Response, suppressing, PassesKept, monitored}

-- 1. Demand 3, for any monitor of a rule, any response that passes exactly what it keeps, and any model whose codes are bytes. The model behind the
-- monitor satisfies the rule; where the model already does, the two are strongly bisimilar; and every walk of the model whose trace doesn't violate
-- the rule is there behind the monitor, with the same trace, to the same state of the model. The field calls these soundness, transparency, and
-- the first half of non-violating trace transparency.
pub record Enforces (r : Rule) {E : Type 0} (respond : E → ℕ → Response E) (first : E) (m : Model) : Type 1 where
  pub satisfies : Satisfies (monitored respond first m) r
  pub bisimilar : Satisfies m r → Bisimilar m (monitored respond first m)
  pub keeps : (w : List ℕ) (t : m.State) → Walk m m.start w t → (ViolatesRule r w → ⊥)
      → (e : E) × Walk (monitored respond first m) (m.start, first) w (t, e)

abbrev pub MonitorsEnforce : Type 1
MonitorsEnforce =
    (E : Type 0) (r : Rule) (answer : E → ℕ → Answer E) (first : E) → Monitors r answer first
    → (respond : E → ℕ → Response E) → PassesKept respond answer → (m : Model) → ByteCodes m → Enforces r respond first m

-- 2. Of a monitor that drops something of each list that violates the rule, and maybe of others too, the first part of demand 3 holds.
abbrev pub SoundSatisfies : Type 1
SoundSatisfies =
    (E : Type 0) (r : Rule) (answer : E → ℕ → Answer E) (first : E) → ((w : List ℕ) → Bytes w → ViolatesRule r w → Suppresses answer first w)
    → (respond : E → ℕ → Response E) → PassesKept respond answer → (m : Model) → ByteCodes m → Satisfies (monitored respond first m) r

-- 3. Dropped scans too. Every walk of the model, violating or not, is there behind any monitor, with what a run keeps of its trace, to the same
-- state of the model beside the equation in which the run ends. Every walk behind the monitor has the ends and the trace of such a one.
pub record CameFrom {E : Type 0} (answer : E → ℕ → Answer E) (m : Model) (x : m.State × E) (v : List ℕ) (y : m.State × E) : Type 0 where
  pub trace : List ℕ
  pub walk : Walk m x.0 trace y.0
  pub kept_is : kept answer x.1 trace ≡ v
  pub ended_is : ended answer x.1 trace ≡ y.1

pub record WalksBehind {E : Type 0} (answer : E → ℕ → Answer E) (first : E) (m : Model) : Type 0 where
  pub forth : (s t : m.State) (w : List ℕ) (e : E) → Walk m s w t
      → Walk (monitored (suppressing answer) first m) (s, e) (kept answer e w) (t, ended answer e w)
  pub back : (x y : m.State × E) (v : List ℕ) → Walk (monitored (suppressing answer) first m) x v y → CameFrom answer m x v y

abbrev pub RunsBehind : Type 1
RunsBehind = (E : Type 0) (answer : E → ℕ → Answer E) (first : E) (m : Model) → WalksBehind answer first m

-- 4. A model satisfies a rule exactly when no trace of a walk from its start violates it: rules are safety properties.
abbrev pub Safe : Model → Rule → Type 0
Safe m r = (w : List ℕ) (t : m.State) → Walk m m.start w t → ViolatesRule r w → ⊥

abbrev pub SatisfiesSafe : Type 1
SatisfiesSafe = (m : Model) (r : Rule) → Satisfies m r ↔ Safe m r

-- 5. A model that satisfies a rule with decided sets satisfies it.
abbrev pub DecidedSatisfied : Type 1
DecidedSatisfied = (m : Model) (r : Rule) → SatisfiesDecided m r → Satisfies m r

-- 6. Bisimilar models satisfy the same rules. So a model that doesn't satisfy the rule isn't bisimilar to itself behind the monitor.
abbrev pub BisimilarAlike : Type 1
BisimilarAlike = (m n : Model) → Bisimilar m n → (r : Rule) → Satisfies m r ↔ Satisfies n r

-- 7. A weak transition is a walk whose trace is its code alone.
abbrev pub WeakWalks : Type 1
WeakWalks = (m : Model) (s t : m.State) (c : ℕ) → Weak m s c t ↔ Walk m s (c ∷ []) t

-- 8. Behind two monitors whose first equations drop alike, a model whose codes are bytes is strongly bisimilar to itself.
abbrev pub AlikeBisimilar : Type 1
AlikeBisimilar =
    (E F : Type 0) (answer : E → ℕ → Answer E) (first : E) (answer' : F → ℕ → Answer F) (first' : F) → DropAlike 256 answer first answer' first'
    → (m : Model) → ByteCodes m → Bisimilar (monitored (suppressing answer) first m) (monitored (suppressing answer') first' m)

-- 9. Rules that the same lists violate are satisfied by the same models.
abbrev pub SatisfiedAlike : Type 1
SatisfiedAlike = (r r' : Rule) → ((w : List ℕ) → ViolatesRule r w ↔ ViolatesRule r' w) → (m : Model) → Satisfies m r ↔ Satisfies m r'

-- ---- all of these

-- The theorem `promises` has this type, so that each promise has its proof.
pub record Promises : Type 1 where
  pub monitors_enforce : MonitorsEnforce
  pub sound_satisfies : SoundSatisfies
  pub runs_behind : RunsBehind
  pub satisfies_safe : SatisfiesSafe
  pub decided_satisfied : DecidedSatisfied
  pub bisimilar_alike : BisimilarAlike
  pub weak_walks : WeakWalks
  pub alike_bisimilar : AlikeBisimilar
  pub satisfied_alike : SatisfiedAlike
