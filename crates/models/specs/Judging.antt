-- What reading a model file hands up, what judging answers, and what it leaves in the table that it is lent. The limit on equations is any;
-- the paper's is `most`.
use Rattle.std.specs.Prelude.{ℕ, ◌≡◌, ◌⊎◌, List, length}
use Rattle.reading.specs.Rule.{Rule}
use Rattle.reading.specs.File.{Outcome, accepted, refused, and_then}
use Rattle.reading.specs.Numbered.{padded}
use Rattle.synthesis.specs.Building.{Synthesis, filling_of}
use Rattle.enforcement.specs.Model.{SatisfiesDecided}
use Rattle.models.specs.Phone.{Phone, no_step, model_of, phone_of}
use Rattle.models.specs.declared.PhoneModel.{PhoneModel}
use Rattle.models.specs.declared.Judgment.{Judgment}
use Rattle.models.specs.declared.Judgment.TheVariants.{Meets, Breaks}

-- ---- reading

-- the steps in an array of 512
abbrev pub stored : Phone → PhoneModel
stored y = record { states = y.states; steps = padded 512 no_step y.steps; nsteps = length y.steps }

-- The answer of each outcome: the model, or the refusal with the paper's number and place.
abbrev pub model_reading_of : Outcome Phone → Outcome PhoneModel
model_reading_of (accepted y) = accepted (stored y)
model_reading_of (refused number place) = refused number place

-- ---- judging

-- a rule and a phone model that were accepted
pub record RuleAndModel : Type 0 where
  pub rule : Rule
  pub phone : Phone

-- a rule that was accepted with a model file: 11 to 14 of the model
abbrev pub with_model : (model : List ℕ) → Synthesis → Outcome RuleAndModel
with_model f y = and_then (phone_of f) (λ p. accepted (record { rule = y.rule; phone = p }))

-- What is judged, with a table of so many entries: 1 to 9 of the rule come first, then 10 of the table, and then 11 to 14 of the model.
unfoldable pub judging_of : (limit : ℕ) → (rule : List ℕ) → (capacity : ℕ) → (model : List ℕ) → Outcome RuleAndModel
judging_of limit s capacity f = and_then (filling_of limit s capacity) (with_model f)

-- The answer of each outcome: meets where the model satisfies the rule, breaks where it doesn't, or the refusal with the paper's number
-- and place.
abbrev pub JudgedAs : Outcome RuleAndModel → Outcome Judgment → Type 0
JudgedAs (accepted x) answer =
    ((answer ≡ accepted Meets) × SatisfiesDecided (model_of x.phone) x.rule)
    ⊎ ((answer ≡ accepted Breaks) × (SatisfiesDecided (model_of x.phone) x.rule → ⊥))
JudgedAs (refused number place) answer = answer ≡ refused number place

-- what is left in the table: what filling leaves, or no change where judging is refused
abbrev pub table_judged : Outcome RuleAndModel → (left before : List ℕ) → List ℕ
table_judged (accepted x) left before = left
table_judged (refused number place) left before = before
