-- What the crate's own functions say of the plan for a table.
use Rattle.std.specs.Prelude.{ℕ, ◌≤◌, ◌<◌, ◌≡◌, List, length, Result, MatchResult}
use Rattle.reading.specs.File.{Outcome, accepted, refused}
use Rattle.reading.specs.Refusals.{number}
use Rattle.reading.specs.declared.refusals.Refusal.{Refusal}
use Rattle.synthesis.specs.Monitor.{mark, most, lookup}
use Rattle.synthesis.specs.Answering.{answer_of}
use Rattle.synthesis.specs.Table.{WellFormedTable}
use Rattle.synthesis.specs.Building.{Synthesis, numbered_answer, classes_of}
use Rattle.synthesis.specs.Arrays.{IsGraph, Found}
use Rattle.synthesis.specs.Numbering.{IsNumberingOf}
use Rattle.synthesis.specs.declared.Plan.{Plan}
use Rattle.synthesis.specs.declared.renumbering.Numbering.{Numbering}

-- the refusal of an outcome
abbrev pub IsRefusal : {A : Type 0} → Outcome A → Refusal → Type 0
IsRefusal o r = o ≡ refused (number r.fault) r.place

-- ---- the table of a rule's equations

-- what a plan and the equations found have to fill the rows of a synthesis from
pub record PlanFor (y : Synthesis) (found : Found) (p : Plan) : Type 0 where
  pub graph_is : IsGraph y.rule p.graph
  pub answer_is : y.answer ≡ answer_of y.rule
  pub found_is : found.equations ≡ y.equations
  pub count_is : p.count ≡ length y.equations
  pub few : length y.equations ≤ most

-- the plan of an outcome that is accepted
pub record Planned (o : Outcome Synthesis) (found : Found) (p : Plan) : Type 0 where
  pub synthesis : Synthesis
  pub is : o ≡ accepted synthesis
  pub fills : PlanFor synthesis found p

-- the plan of each outcome
abbrev pub IsPlan : Outcome Synthesis → Result Plan Refusal → Found → Type 0
IsPlan o result found = MatchResult result (Planned o found) (IsRefusal o)

-- ---- the short table

-- What the short table of a synthesis is filled from: a long table that answers as its equations do, by their numbers, and the numbers of their classes.
pub record ShortPlanFor (y : Synthesis) (n : Numbering) (long : List ℕ) : Type 0 where
  pub all : n.equations ≡ length y.equations
  pub well_formed : WellFormedTable most mark n.equations long
  pub answers : (k c : ℕ) → k < n.equations → c < 256 → lookup 256 mark long k c ≡ numbered_answer y k c
  pub numbered : IsNumberingOf (classes_of y) n

-- the plan of an outcome that is accepted
pub record ShortPlanned (o : Outcome Synthesis) (long : List ℕ) (n : Numbering) : Type 0 where
  pub synthesis : Synthesis
  pub is : o ≡ accepted synthesis
  pub fills : ShortPlanFor synthesis n long

-- the plan of each outcome
abbrev pub IsShortPlan : Outcome Synthesis → Result Numbering Refusal → (long : List ℕ) → Type 0
IsShortPlan o result long = MatchResult result (ShortPlanned o long) (IsRefusal o)
