-- The paper's model under the number-pool rule, which it breaks; one that meets the rule; one that shows a trace behind a monitor only; and what
-- tells some definitions from others.
use Rattle.std.specs.Prelude.{ℕ, suc, ◌≤◌, ◌≡◌, ◌↔◌, List, [], ◌∷◌, length}
use Rattle.reading.specs.Rule.{falsity, necessity, Rule}
use Rattle.reading.specs.File.{accepted, Outcome}
use Rattle.synthesis.specs.Violation.{ViolatesRule}
use Rattle.synthesis.specs.Monitor.{mark, most, lookup}
use Rattle.synthesis.specs.Building.{table_left}
use Rattle.enforcement.specs.Model.{code, Model, Walk, Finite, Satisfies, Bisimilar, suppressing, monitored}
use Rattle.models.specs.Phone.{Phone, model_of, phone_of}
use Rattle.models.specs.Judging.{judging_of, JudgedAs}
use Rattle.models.specs.declared.Step.{Step}
use Rattle.examples.specs.Examples.{pattern, rule, ReadAs, pool_file, pool_rule}
use Rattle.models.specs.declared.Judgment.{Judgment}
use Rattle.models.specs.declared.Judgment.TheVariants.{Meets, Breaks}

-- label 256 is silent
abbrev pub step : (from label to : ℕ) → Step
step from label to = record { from = from; label = label; to = to }

-- a model behind the table that filling leaves of a rule file
abbrev pub behind : (s table : List ℕ) → Model → Model
behind s table = monitored (suppressing (lookup 256 mark (table_left most mark s table))) 0

-- With a table of so many entries this is an answer of judging a model under a rule, and it is the only one.
abbrev pub JudgesIn : (s : List ℕ) → (capacity : ℕ) → (model : List ℕ) → Outcome Judgment → Type 0
JudgesIn s capacity f answer = (r : Outcome Judgment) → JudgedAs (judging_of most s capacity f) r ↔ (r ≡ answer)

-- the same with every table of at least so many entries
abbrev pub Judges : (s : List ℕ) → (room : ℕ) → (model : List ℕ) → Outcome Judgment → Type 0
Judges s room f answer = (capacity : ℕ) → room ≤ capacity → JudgesIn s capacity f answer

abbrev pub JudgesPool : (model : List ℕ) → Outcome Judgment → Type 0
JudgesPool = Judges pool_file 768

-- ---- a model that breaks the rule

-- Model 16 3, 17 0 37 1, 18 1 2, 17 2 5 0 under the number-pool rule: breaks
abbrev pub breaking_file : List ℕ
breaking_file = 16 ∷ 3 ∷ 17 ∷ 0 ∷ 37 ∷ 1 ∷ 18 ∷ 1 ∷ 2 ∷ 17 ∷ 2 ∷ 5 ∷ 0 ∷ []

abbrev pub breaking_phone : Phone
breaking_phone = record { states = 3; steps = step 0 37 1 ∷ step 1 256 2 ∷ step 2 5 0 ∷ [] }

-- the same phone behind the monitor, drawn out: the issue after the first cancel is silent, and after the second cancel everything passes
abbrev pub drawn_phone : Phone
drawn_phone = record {
  states = 7;
  steps = step 0 37 1 ∷ step 1 256 2 ∷ step 2 256 3 ∷ step 3 37 4 ∷ step 4 256 5 ∷ step 5 5 6 ∷ step 6 37 4 ∷ [];
}

-- Behind the monitor it is another: no strong bisimulation has the two starts. It is the one that is drawn.
pub record Breaking : Type 1 where
  pub file : phone_of breaking_file ≡ accepted breaking_phone
  pub unsatisfied : Satisfies (model_of breaking_phone) pool_rule → ⊥
  pub judged : JudgesPool breaking_file (accepted Breaks)
  pub changed : (table : List ℕ) → 768 ≤ length table → Bisimilar (model_of breaking_phone) (behind pool_file table (model_of breaking_phone)) → ⊥
  pub drawn : (table : List ℕ) → 768 ≤ length table → Bisimilar (behind pool_file table (model_of breaking_phone)) (model_of drawn_phone)

-- ---- a model that meets it

-- Not in the paper: a phone that cancels number 5 and syncs, again and again, meets the rule. The monitor doesn't change it.
abbrev pub meeting_file : List ℕ
meeting_file = 16 ∷ 2 ∷ 17 ∷ 0 ∷ 37 ∷ 1 ∷ 17 ∷ 1 ∷ 128 ∷ 0 ∷ []

abbrev pub meeting_phone : Phone
meeting_phone = record { states = 2; steps = step 0 37 1 ∷ step 1 128 0 ∷ [] }

pub record Meeting : Type 1 where
  pub file : phone_of meeting_file ≡ accepted meeting_phone
  pub satisfied : Satisfies (model_of meeting_phone) pool_rule
  pub judged : JudgesPool meeting_file (accepted Meets)
  pub unchanged : (table : List ℕ) → 768 ≤ length table → Bisimilar (model_of meeting_phone) (behind pool_file table (model_of meeting_phone))

-- ---- a trace behind a monitor only

-- The paper's last reading that leads astray: the second half of the article's Proposition 24, which has every trace behind the monitor that
-- doesn't violate the rule be one of the bare model too. Suppression makes a step silent, and with weak steps a walk may pass over it: the phone
-- that does 5 and then 6 shows 6 alone behind "after code 5, ff". So this half doesn't hold, and no promise has it.
abbrev pub never_file : List ℕ
never_file = 1 ∷ 1 ∷ 5 ∷ 5 ∷ 5 ∷ 0 ∷ 3 ∷ []

abbrev pub never_rule : Rule
never_rule = rule (pattern 1 5 5 ∷ []) (necessity 0 falsity)

abbrev pub shortening_file : List ℕ
shortening_file = 16 ∷ 3 ∷ 17 ∷ 0 ∷ 5 ∷ 1 ∷ 17 ∷ 1 ∷ 6 ∷ 2 ∷ []

abbrev pub shortening_phone : Phone
shortening_phone = record { states = 3; steps = step 0 5 1 ∷ step 1 6 2 ∷ [] }

-- the bare phone's whole trace, which violates the rule, and what is left of it
pub record Shortening : Type 0 where
  pub rule_file : ReadAs never_file never_rule (accepted 2)
  pub model_file : phone_of shortening_file ≡ accepted shortening_phone
  pub bare : Walk (model_of shortening_phone) 0 (5 ∷ 6 ∷ []) 2
  pub violating : ViolatesRule never_rule (5 ∷ 6 ∷ [])
  pub shown : (table : List ℕ) → 512 ≤ length table → Walk (behind never_file table (model_of shortening_phone)) (0, 0) (6 ∷ []) (2, 1)
  pub not_bare : (t : ℕ) → Walk (model_of shortening_phone) 0 (6 ∷ []) t → ⊥
  pub not_violating : ViolatesRule never_rule (6 ∷ []) → ⊥

-- ---- what tells definitions apart

-- Not in the paper: what isn't finite, and what isn't strongly bisimilar.

-- a model that counts: code 0 leads from each number to the next
abbrev pub counting_model : Model
counting_model = record { State = ℕ; start = 0; Step = λ s a t. (a ≡ code 0) × (t ≡ suc s) }

-- a phone that does nothing, and one whose only step is silent and leads back
abbrev pub still_phone : Phone
still_phone = record { states = 1; steps = [] }

abbrev pub idle_phone : Phone
idle_phone = record { states = 1; steps = step 0 256 0 ∷ [] }

-- The idle phone is finite, unlike the one that counts. It satisfies the same rules as the still one, the number-pool rule among them.
pub record Distinctions : Type 1 where
  pub endless : Finite counting_model → ⊥
  pub idle_finite : Finite (model_of idle_phone)
  pub same_rules : (r : Rule) → Satisfies (model_of still_phone) r ↔ Satisfies (model_of idle_phone) r
  pub idle_satisfies : Satisfies (model_of idle_phone) pool_rule
  pub not_bisimilar : Bisimilar (model_of still_phone) (model_of idle_phone) → ⊥

pub record ModelExamples : Type 1 where
  pub breaking : Breaking
  pub meeting : Meeting
  pub shortening : Shortening
  pub distinctions : Distinctions
