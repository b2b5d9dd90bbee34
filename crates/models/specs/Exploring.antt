-- What judging goes by: the pairs of a state and an equation that are reached while nothing is dropped, the links that chain the steps of
-- a model by their source, and the worklist of the pairs seen. No public contract cites these.
use Rattle.std.specs.Prelude.{ℕ, zero, suc, ◌+◌, ◌*◌, ◌≤◌, ◌<◌, ◌≡◌, ◌⊎◌, true, false, cond, Option, Some, None, List, eqb, length, get_or, count_by}
use Rattle.synthesis.specs.Monitor.{mark, most, Answer, dropped, next, cases, lookup}
use Rattle.enforcement.specs.Model.{silent, code, Model}
use Rattle.models.specs.Phone.{Phone, no_step, StepIn, WellFormedStep, PhoneWithinLimits}
use Rattle.models.specs.Judging.{stored}
use Rattle.models.specs.declared.Step.{Step}
use Rattle.models.specs.declared.PhoneModel.{PhoneModel}
use Rattle.models.specs.declared.links.Links.{Links}
use Rattle.models.specs.declared.worklist.Worklist.{Worklist}

-- ---- the pairs

module _ {E : Type 0} (answer : E → ℕ → Answer E) (first : E) (m : Model) where
  -- steps lead from the start to s, and their codes from the first equation to e, and none is dropped
  pub data ReachablePair : m.State → E → Type 0 where
    begin : ReachablePair m.start first
    silently : {s t : m.State} {e : E} → ReachablePair s e → m.Step s silent t → ReachablePair t e
    keeping : {s t : m.State} {e e' : E} {c : ℕ} → ReachablePair s e → m.Step s (code c) t → answer e c ≡ next e' → ReachablePair t e'

  -- no such pair has a step that is dropped
  abbrev pub NeverDrops : Type 0
  NeverDrops = (s t : m.State) (e : E) (c : ℕ) → ReachablePair s e → m.Step s (code c) t → answer e c ≡ dropped → ⊥

-- ---- the steps of a model

-- a struct that has some phone model
pub record HasPhone (model : PhoneModel) : Type 0 where
  pub phone : Phone
  pub within_limits : PhoneWithinLimits phone
  pub is_stored : model ≡ stored phone

-- what is known of the steps of a phone model
pub record StepsWithinLimits (steps : List Step) : Type 0 where
  pub few : length steps ≤ 512
  pub among : (i : ℕ) → WellFormedStep 64 (get_or steps i no_step)

-- the model that has these steps
abbrev pub model_with : List Step → Model
model_with steps = record { State = ℕ; start = 0; Step = StepIn steps }

-- ---- the links

-- the last of the first n steps that goes from s
unfoldable pub last_from : List Step → (s n : ℕ) → Option ℕ
last_from steps s zero = None
last_from steps s (suc n) = cond (eqb (get_or steps n no_step).from s) (Some n) (last_from steps s n)

-- The arrays chain the first n of these steps by their source: an adjacency list for each state, its last step first.
pub record ChainsFirst (steps : List Step) (n : ℕ) (last earlier : List (Option ℕ)) : Type 0 where
  pub last_is : (s : ℕ) → s < 64 → get_or last s None ≡ last_from steps s n
  pub earlier_is : (i : ℕ) → i < n → get_or earlier i None ≡ last_from steps (get_or steps i no_step).from i

-- They chain all of them.
abbrev pub Chains : List Step → Links → Type 0
Chains steps l = ChainsFirst steps (length steps) l.last l.earlier

-- ---- the worklist

-- how many pairs there may be: 64 states beside each of the most equations
abbrev pub pair_limit : ℕ
pair_limit = 64 * most

-- a pair has been seen
abbrev pub Seen : Worklist → (pair : ℕ) → Type 0
Seen w p = get_or w.seen p false ≡ true

-- The pairs seen are `found` many, and they are those listed first. The ones that are not yet expanded are the frontier.
pub record ListsSeen (w : Worklist) : Type 0 where
  pub seen_length : length w.seen ≡ pair_limit
  pub pairs_length : length w.pairs ≡ pair_limit
  pub counted : count_by (λ s. s) w.seen ≡ w.found
  pub seen_listed : (p : ℕ) → Seen w p → (i : ℕ) × (i < w.found) × (get_or w.pairs i 0 ≡ p)
  pub listed_seen : (i : ℕ) → i < w.found → Seen w (get_or w.pairs i 0)
  pub expanded_found : w.expanded ≤ w.found

-- The worklist has been extended by pairs with the property P, and by no others.
pub record Extended (P : ℕ → Type 0) (w w' : Worklist) : Type 0 where
  pub lists_seen : ListsSeen w'
  pub same_expanded : w'.expanded ≡ w.expanded
  pub keeps_seen : (p : ℕ) → Seen w p → Seen w' p
  pub adds_only : (p : ℕ) → Seen w' p → Seen w p ⊎ P p
  pub grows : w.found ≤ w'.found
  pub keeps_listed : (i : ℕ) → i < w.found → get_or w'.pairs i 0 ≡ get_or w.pairs i 0

-- a pair has been put on the worklist, unless it was there
pub record Enqueued (pair : ℕ) (w w' : Worklist) : Type 0 where
  pub extended : Extended (λ p. p ≡ pair) w w'
  pub is_seen : Seen w' pair

-- a pair has been taken off the frontier
pub record TakenPair (w w' : Worklist) (pair : ℕ) : Type 0 where
  pub more : w.expanded < w.found
  pub first : pair ≡ get_or w.pairs w.expanded 0
  pub taken : w' ≡ record { seen = w.seen; pairs = w.pairs; found = w.found; expanded = w.expanded + 1 }

-- one has, or the frontier is empty
abbrev pub Taken : (w w' : Worklist) → Option ℕ → Type 0
Taken w w' None = w.found ≤ w.expanded
Taken w w' (Some pair) = TakenPair w w' pair

-- ---- steps

-- where a label leads from an equation; nowhere where it is dropped
abbrev pub leads_to : (table : List ℕ) → (equation label : ℕ) → Option ℕ
leads_to table equation label = cond (eqb label 256) (Some equation) (cases (lookup 256 mark table equation label) None Some)
