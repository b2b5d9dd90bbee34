-- A phone that shows a trace behind the monitor and not without it: its first step is suppressed there, so the second can be seen alone.
use Prim.Native.Nat.{ℕ, ◌≤◌}
use mathlib.Core.Path.{◌≡◌, refl, sym}
use mathlib.Core.Bool.{false, true≢false}
use mathlib.Core.List.{List, [], ◌∷◌, ◌++◌}
use native.Mathlib.Omega.{arith}
use lib.ListN.{length, replicate}
use Rattle.reading.specs.Pattern.{bit, covers}
use Rattle.reading.specs.File.{accepted, records_at, formula_at, formula_of, rule_of}
use Rattle.synthesis.specs.Violation.{ViolatesRule, by_falsity, by_code}
use Rattle.synthesis.specs.Answering.{first_of, answer_of, unsatisfiable}
use Rattle.synthesis.specs.Search.{explored, found}
use Rattle.synthesis.specs.Monitor.{mark, most, row_of, lookup}
use Rattle.synthesis.specs.Table.{entries_of}
use Rattle.synthesis.specs.Building.{equations_of, table_left}
use Rattle.enforcement.specs.Model.{Label, silent, code, Walk, stay, silent_first, code_first}
use Rattle.enforcement.specs.Model.{Response, passed, suppressed, suppressing, passed_step, suppressed_step}
use Rattle.models.specs.Phone.{StepIn, model_of, states_of, phone_of}
use Rattle.examples.specs.ModelExamples.{behind, never_file, never_rule, shortening_file, shortening_phone, Shortening}
use Rattle.examples.proofs.FileAnswers.{reads, row_left}
use Rattle.examples.proofs.PhoneSteps.{step_at_lem, every_step}

-- ---- the rule

never_read : rule_of never_file ≡ accepted never_rule
unfolding rule_of records_at formula_of formula_at
never_read = refl

never_satisfiable : unsatisfiable never_rule ≡ false
unfolding unsatisfiable first_of
never_satisfiable = refl

-- {0} and the empty set
never_equations : equations_of most never_rule ≡ 1 ∷ 0 ∷ []
unfolding equations_of found explored first_of answer_of bit covers
never_equations = refl

never_row : (table : List ℕ) → 512 ≤ length table → row_of 256 (table_left most mark never_file table) 0 ≡ replicate 5 1 ++ mark ∷ replicate 250 1
unfolding entries_of answer_of bit covers
never_row table room =
    row_left never_file never_rule never_read never_satisfiable (1 ∷ 0 ∷ []) never_equations (omega arith) table room 0 (omega arith)

violating : ViolatesRule never_rule (5 ∷ 6 ∷ [])
unfolding bit covers
violating = by_code refl by_falsity

not_violating : ViolatesRule never_rule (6 ∷ []) → ⊥
unfolding bit covers
not_violating (by_code q x) = true≢false (sym q)

-- ---- the phone

shortening_read : phone_of shortening_file ≡ accepted shortening_phone
unfolding phone_of states_of records_at
shortening_read = refl

-- its two steps
data ShorteningStep : ℕ → Label → ℕ → Type 0 where
  five : ShorteningStep 0 (code 5) 1
  six : ShorteningStep 1 (code 6) 2

shortening_step : {s t : ℕ} {a : Label} → StepIn shortening_phone.steps s a t → ShorteningStep s a t
shortening_step = every_step ShorteningStep shortening_phone.steps (five, (six, tt))

bare : Walk (model_of shortening_phone) 0 (5 ∷ 6 ∷ []) 2
bare = let steps = shortening_phone.steps in code_first (step_at_lem steps 0 (omega arith)) (code_first (step_at_lem steps 1 (omega arith)) stay)

-- 6 isn't the first of its codes
six_not_first : {t : ℕ} → ShorteningStep 0 (code 6) t → ⊥
six_not_first x = elim x [ ]

no_silent : {s t : ℕ} → ShorteningStep s silent t → ⊥
no_silent x = elim x [ ]

not_bare : (t : ℕ) → Walk (model_of shortening_phone) 0 (6 ∷ []) t → ⊥
not_bare t (silent_first h k) = no_silent (shortening_step h)
not_bare t (code_first h k) = six_not_first (shortening_step h)

-- ---- behind the monitor

module _ (table : List ℕ) (room : 512 ≤ length table) where
  abbrev respond : ℕ → ℕ → Response ℕ
  respond = suppressing (lookup 256 mark (table_left most mark never_file table))

  five_suppressed : respond 0 5 ≡ suppressed
  five_suppressed = rw (never_row table room)

  six_passed : respond 0 6 ≡ passed 1
  six_passed = rw (never_row table room)

  -- 5 is suppressed and the equation stays, then 6 is passed
  shown : Walk (behind never_file table (model_of shortening_phone)) (0, 0) (6 ∷ []) (2, 1)
  shown =
      let steps = shortening_phone.steps in
      silent_first (suppressed_step (step_at_lem steps 0 (omega arith)) five_suppressed)
      (code_first (passed_step (step_at_lem steps 1 (omega arith)) six_passed) stay)

pub shortening : Shortening
shortening = record {
  rule_file = reads never_file never_rule never_read never_satisfiable (1 ∷ 0 ∷ []) never_equations (omega arith);
  model_file = shortening_read;
  bare = bare;
  violating = violating;
  shown = shown;
  not_bare = not_bare;
  not_violating = not_violating;
}
