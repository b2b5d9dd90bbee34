-- Why a model file is refused, and where, without the steps of a reader: a clause for each way in which a file can go wrong. Before a step at fault
-- stands a whole model: a model may end after its count of states, and after each step.
use Rattle.std.specs.Prelude.{ℕ, ◌+◌, ◌≤◌, ◌<◌, ◌≡◌, ◌⊎◌, cond, List, ◌++◌, eqb, length, get_or, take}
use Rattle.reading.specs.Faults.{KindAt}
use Rattle.models.specs.Phone.{Phone, WellFormedPhone, PhoneWithinLimits, states_kind, code_step_kind, silent_step_kind, encode_phone}

-- ---- fronts of files

-- The bytes of the file before `at` are a model within the limits, with so many steps.
pub record ModelBefore (f : List ℕ) (at steps : ℕ) : Type 0 where
  pub phone : Phone
  pub within_limits : PhoneWithinLimits phone
  pub steps_are : length phone.steps ≡ steps
  pub bytes_are : take at f ≡ encode_phone phone

-- A well-formed model, with any number of steps, is encoded with these bytes and none or some after them.
pub record BeginsModel (f : List ℕ) : Type 0 where
  pub phone : Phone
  pub well_formed : WellFormedPhone phone
  pub rest : List ℕ
  pub bytes_are : f ++ rest ≡ encode_phone phone

-- ---- the clauses

abbrev pub IsCount : ℕ → Type 0
IsCount k = k ≡ states_kind

abbrev pub NotCount : ℕ → Type 0
NotCount k = IsCount k → ⊥

abbrev pub IsStep : ℕ → Type 0
IsStep k = (k ≡ code_step_kind) ⊎ (k ≡ silent_step_kind)

abbrev pub NotStep : ℕ → Type 0
NotStep k = IsStep k → ⊥

-- the place after the step that begins at `at`, by its kind
abbrev pub after_step : List ℕ → (at : ℕ) → ℕ
after_step f at = at + cond (eqb (get_or f at 0) code_step_kind) 4 3

-- Refused with this number at this place. n counts the steps before it.
pub data Fault (f : List ℕ) : (number place : ℕ) → Type 0 where
  -- 11: the file is empty, or ends inside a record that may come next
  empty_file : length f ≡ 0 → Fault f 11 (length f)
  count_cut : KindAt f 0 IsCount → length f < 2 → Fault f 11 (length f)
  step_cut : {at n : ℕ} → ModelBefore f at n → KindAt f at IsStep → n < 512 → length f < after_step f at → Fault f 11 (length f)
  -- 12: another kind than the one that is due, or a count that isn't 1 to 64
  not_count : KindAt f 0 NotCount → Fault f 12 0
  bad_count : KindAt f 0 IsCount → 2 ≤ length f → (get_or f 1 0 ≡ 0) ⊎ (64 < get_or f 1 0) → Fault f 12 0
  not_step : {at n : ℕ} → ModelBefore f at n → KindAt f at NotStep → Fault f 12 at
  -- 13: a step with which no model begins
  bad_step : {at n : ℕ} → ModelBefore f at n → KindAt f at IsStep → n < 512 → after_step f at ≤ length f
      → (BeginsModel (take (after_step f at) f) → ⊥) → Fault f 13 at
  -- 14: a 513th step
  step_513 : {at : ℕ} → ModelBefore f at 512 → KindAt f at IsStep → Fault f 14 at
