-- Phone models: a count of states and a list of steps; which are well formed, and their encoding as the bytes of a file. What the bytes of a model
-- file say: the checks of each record stand in the order of the paper's table, a line each; that for a full list comes with the list. f is the file, `at` the
-- place of a record.
use Rattle.std.specs.Prelude.{ℕ, ◌≤◌, ◌<◌, ◌+◌, ◌≡◌, Bool, true, false, cond, not, ◌||◌, List, [], ◌∷◌, eqb, ltb, leb, length, get_or}
use Rattle.reading.specs.Rule.{All, encode_each}
use Rattle.reading.specs.File.{Outcome, accepted, refuse, and_then, RecordFormat, Records, records_at}
use Rattle.enforcement.specs.Model.{Label, silent, code, Model}
use Rattle.models.specs.declared.Step.{Step}

-- ---- phone models

pub record Phone : Type 0 where
  pub states : ℕ
  pub steps : List Step

-- The label of a record: 256 is silent, and any other number a code.
abbrev pub label_of : ℕ → Label
label_of x = cond (eqb x 256) silent (code x)

-- what is read where a list has no record
abbrev pub no_step : Step
no_step = record { from = 0; label = 0; to = 0 }

-- A record of the list says that there is a step from s with the label a to t.
pub record StepIn (steps : List Step) (s : ℕ) (a : Label) (t : ℕ) : Type 0 where
  pub index : ℕ
  pub inside : index < length steps
  pub from_is : (get_or steps index no_step).from ≡ s
  pub label_is : label_of (get_or steps index no_step).label ≡ a
  pub to_is : (get_or steps index no_step).to ≡ t

-- The model that a phone model is, from its steps alone. Every number is a state; walks from state 0 lead only to 0 and to targets of steps.
abbrev pub model_of : Phone → Model
model_of y = record { State = ℕ; start = 0; Step = StepIn y.steps }

-- a step among so many states, with a code or silent
pub record WellFormedStep (states : ℕ) (x : Step) : Type 0 where
  pub from : x.from < states
  pub label : x.label ≤ 256
  pub to : x.to < states

-- well formed: 1 to 64 states, and any number of steps
pub record WellFormedPhone (y : Phone) : Type 0 where
  pub some_states : 1 ≤ y.states
  pub few_states : y.states ≤ 64
  pub steps : All (WellFormedStep y.states) y.steps

-- well formed, and within 512 steps
pub record PhoneWithinLimits (y : Phone) : Type 0 where
  pub well_formed : WellFormedPhone y
  pub few_steps : length y.steps ≤ 512

-- ---- records and their bytes

-- The byte with which a record begins is its kind: the count of states, a step with a code, a silent step.
abbrev pub states_kind : ℕ
states_kind = 16

abbrev pub code_step_kind : ℕ
code_step_kind = 17

abbrev pub silent_step_kind : ℕ
silent_step_kind = 18

-- the record of a step, silent or with a code
abbrev pub step_bytes : (silent : Bool) → Step → List ℕ
step_bytes true x = silent_step_kind ∷ x.from ∷ x.to ∷ []
step_bytes false x = code_step_kind ∷ x.from ∷ x.label ∷ x.to ∷ []

abbrev pub encode_step : Step → List ℕ
encode_step x = step_bytes (eqb x.label 256) x

abbrev pub encode_steps : List Step → List ℕ
encode_steps = encode_each encode_step

-- the count of states, then the steps
abbrev pub encode_phone : Phone → List ℕ
encode_phone y = states_kind ∷ y.states ∷ encode_steps y.steps

-- ---- what a file says

-- the first record: the count of states
unfoldable pub states_of : List ℕ → Outcome ℕ
states_of f =
    let states = get_or f 1 0 in
    refuse (eqb (length f) 0) 11 (length f)
    (refuse (not (eqb (get_or f 0 0) states_kind)) 12 0
    (refuse (eqb (length f) 1) 11 (length f)
    (refuse (eqb states 0) 12 0
    (refuse (ltb 64 states) 12 0
    (accepted states)))))

-- a step among so many states
abbrev pub among : (states at : ℕ) → Step → Outcome Step
among states at x =
    refuse (leb states x.from) 13 at
    (refuse (leb states x.to) 13 at
    (accepted x))

-- a step whose record ends with the byte at `last`
abbrev pub ending_at : List ℕ → (states at last : ℕ) → Step → Outcome Step
ending_at f states at last x =
    refuse (leb (length f) last) 11 (length f)
    (among states at x)

-- a step with a code
abbrev pub code_step_at : List ℕ → (states at : ℕ) → Outcome Step
code_step_at f states at =
    ending_at f states at (at + 3) (record { from = get_or f (at + 1) 0; label = get_or f (at + 2) 0; to = get_or f (at + 3) 0 })

-- a silent step
abbrev pub silent_step_at : List ℕ → (states at : ℕ) → Outcome Step
silent_step_at f states at =
    ending_at f states at (at + 2) (record { from = get_or f (at + 1) 0; label = 256; to = get_or f (at + 2) 0 })

abbrev pub is_step : (kind : ℕ) → Bool
is_step kind = eqb kind code_step_kind || eqb kind silent_step_kind

-- The record of a step at `at`. Between its two checks comes that of `step_format`: 14 where none of the 512 steps is left.
abbrev pub step_at : List ℕ → (states at : ℕ) → Outcome Step
step_at f states at =
    let kind = get_or f at 0 in
    refuse (not (is_step kind)) 12 at
    (cond (eqb kind code_step_kind) (code_step_at f states at) (silent_step_at f states at))

-- how many bytes the record of a step has
abbrev pub record_length : Step → ℕ
record_length x = cond (eqb x.label 256) 3 4

-- Steps go on to the end of the file. One too many is refused with 14, but what is no step with 12 all the same.
abbrev pub step_format : List ℕ → (states : ℕ) → RecordFormat Step
step_format f states = record {
  more = λ at. ltb at (length f);
  one = step_at f states;
  width = record_length;
  too_many = λ at. cond (is_step (get_or f at 0)) 14 12;
}

-- The steps from `at` on, with `left` of the 512 left.
abbrev pub steps_at : (left : ℕ) → List ℕ → (states at : ℕ) → Outcome (Records Step)
steps_at left f states at = records_at (step_format f states) left at

-- the whole file
unfoldable pub phone_of : List ℕ → Outcome Phone
phone_of f = and_then (states_of f) (λ states. and_then (steps_at 512 f states 2) (λ steps. accepted (record { states = states; steps = steps.list })))
