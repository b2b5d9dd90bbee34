-- The search that judging makes over the steps of a model, one pair after the other. No public contract cites these.
use Rattle.std.specs.Prelude.{ℕ, ◌+◌, ◌*◌, ◌/◌, ◌%◌, ◌≤◌, ◌<◌, ◌≡◌, Option, Some, None, List, length, get_or}
use Rattle.synthesis.specs.Monitor.{mark, most, lookup}
use Rattle.synthesis.specs.Table.{WellFormedTable}
use Rattle.models.specs.Phone.{no_step}
use Rattle.models.specs.Exploring.{ReachablePair, model_with, Seen, ListsSeen, Extended, leads_to}
use Rattle.models.specs.declared.Step.{Step}
use Rattle.models.specs.declared.worklist.Worklist.{Worklist}

module _ (steps : List Step) (table : List ℕ) where
  -- ---- expanding a pair

  module _ (pair : ℕ) where
    -- step i goes from the state of the pair
    pub record Outgoing (i : ℕ) : Type 0 where
      pub inside : i < length steps
      pub from_is : (get_or steps i no_step).from ≡ pair % 64

    -- the equation to which it leads
    abbrev pub equation_after : (i : ℕ) → Option ℕ
    equation_after i = leads_to table (pair / 64) (get_or steps i no_step).label

    -- It isn't dropped, and leads to the pair p.
    pub record LeadsTo (i p : ℕ) : Type 0 where
      pub equation : ℕ
      pub kept : equation_after i ≡ Some equation
      pub is : 64 * equation + (get_or steps i no_step).to ≡ p

    -- p is a successor of the pair
    pub record Successor (p : ℕ) : Type 0 where
      pub step : ℕ
      pub outgoing : Outgoing step
      pub leads : LeadsTo step p

    -- a step of the pair is dropped
    pub record DroppedStep : Type 0 where
      pub step : ℕ
      pub outgoing : Outgoing step
      pub is_dropped : equation_after step ≡ None

    -- step i has been followed: it leads to a pair seen
    pub record Followed (w : Worklist) (i : ℕ) : Type 0 where
      pub target : ℕ
      pub leads : LeadsTo i target
      pub is_seen : Seen w target

    -- The steps from number n on have been followed: their pairs are on the worklist.
    pub record Expands (w w' : Worklist) (n : ℕ) : Type 0 where
      pub extended : Extended Successor w w'
      pub followed : (i : ℕ) → n ≤ i → Outgoing i → Followed w' i

  -- ---- the pairs expanded

  -- the pair of this number is reachable
  abbrev pub ReachablePairNumber : (pair : ℕ) → Type 0
  ReachablePairNumber pair = ReachablePair (lookup 256 mark table) 0 (model_with steps) (pair % 64) (pair / 64)

  -- the invariant of the search between two pairs
  pub record Explored (w : Worklist) : Type 0 where
    pub lists_seen : ListsSeen w
    pub start_seen : Seen w 0
    pub inside : (count : ℕ) → WellFormedTable most mark count table → (p : ℕ) → Seen w p → p / 64 < count
    pub seen_reachable : (p : ℕ) → Seen w p → ReachablePairNumber p
    pub expanded : (k : ℕ) → k < w.expanded → (i : ℕ) → Outgoing (get_or w.pairs k 0) i → Followed (get_or w.pairs k 0) w i
