-- What matching goes by: a relation between the states of two models, as sets of states in rows and in columns, and the partners of steps. A set of states is a
-- number, state s its bit s. No public contract cites these.
use Rattle.std.specs.Prelude.{ℕ, ◌<◌, ◌≡◌, ◌↔◌, List, length, get_or, Result, Ok}
use Rattle.reading.specs.File.{Outcome, accepted, refused, and_then}
use Rattle.reading.specs.Refusals.{as_outcome}
use Rattle.reading.specs.declared.refusals.Refusal.{Refusal}
use Rattle.synthesis.specs.NodeSet.{Has}
use Rattle.models.specs.Phone.{no_step}
use Rattle.models.specs.Pairs.{Pair, Listed}
use Rattle.models.specs.declared.Step.{Step}
use Rattle.models.specs.declared.pairing.Relation.{Relation}

-- ---- reading a list

-- the states of a pair, two numbers
abbrev pub pair_read : Outcome Pair → Outcome (ℕ × ℕ)
pair_read o = and_then o (λ p. accepted (p.first, p.second))

-- Row x has the states that are related to x.
pub record Rows (R : (x y : ℕ) → Type 0) (rows : List ℕ) : Type 0 where
  pub long : length rows ≡ 64
  pub are : (x y : ℕ) → Has (get_or rows x 0) y ↔ R x y

-- the relation of a list of pairs, in rows, and from the second model's side in columns
pub record Relates (ps : List Pair) (rows columns : List ℕ) : Type 0 where
  pub in_rows : Rows (Listed ps) rows
  pub in_columns : Rows (λ y x. Listed ps x y) columns

-- the relation of an outcome; of a refusal that alone
abbrev pub RelatedAs : Outcome (List Pair) → Result Relation Refusal → Type 0
RelatedAs (accepted ps) result = (r : Relation) × (result ≡ Ok r) × Relates ps r.rows r.columns
RelatedAs (refused number place) result = as_outcome result ≡ refused number place

-- ---- partners

-- the step has the label, and leads to one of the targets
abbrev pub IsPartner : Step → (label targets : ℕ) → Type 0
IsPartner step label targets = (step.label ≡ label) × Has targets step.to

-- one of the first n steps goes from s with the label to one of the targets
pub record PartnerStep (steps : List Step) (n label targets s : ℕ) : Type 0 where
  pub index : ℕ
  pub inside : index < n
  pub from_is : (get_or steps index no_step).from ≡ s
  pub label_is : (get_or steps index no_step).label ≡ label
  pub leads : Has targets (get_or steps index no_step).to

-- the set of all states with such a step
pub record Partners (steps : List Step) (n label targets states : ℕ) : Type 0 where
  pub is : (s : ℕ) → Has states s ↔ PartnerStep steps n label targets s

-- Each of the first n steps has a partner among the others, from every state that is related to its own, and their ends are related again.
abbrev pub HavePartners : (steps : List Step) → (n : ℕ) → (others : List Step) → (rows : List ℕ) → Type 0
HavePartners steps n others rows =
    (i t : ℕ) → i < n → Has (get_or rows (get_or steps i no_step).from 0) t
    → PartnerStep others (length others) (get_or steps i no_step).label (get_or rows (get_or steps i no_step).to 0) t

-- The starts are related, the steps of the first model have partners by the rows, and those of the second by the columns.
pub record MatchedBy (first second : List Step) (rows columns : List ℕ) : Type 0 where
  pub starts : Has (get_or rows 0 0) 0
  pub forth : HavePartners first (length first) second rows
  pub back : HavePartners second (length second) first columns
