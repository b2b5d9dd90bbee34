-- Slots that go round, by the rule "after an issue of slots 30 to 2, ff". The paper has no such rule. What it means, what is dropped under it, for what
-- reason, and which models meet it: at 31, a slot from first on, at 2, a slot up to last, and at 29, which is neither.
use Rattle.std.specs.Prelude.{ℕ, suc, ◌≤◌, ◌≡◌, List, [], ◌∷◌, ◌++◌, length, Some, None}
use Rattle.reading.specs.Pattern.{covers, extent_of}
use Rattle.reading.specs.Rule.{Rule}
use Rattle.reading.specs.File.{accepted, Outcome}
use Rattle.synthesis.specs.Monitor.{mark, most}
use Rattle.synthesis.specs.Violation.{ViolatesRule}
use Rattle.synthesis.specs.Building.{table_left}
use Rattle.running.specs.Running.{start, moved, Run, run_of}
use Rattle.listing.specs.Text.{text}
use Rattle.enforcement.specs.Model.{Satisfies}
use Rattle.models.specs.Phone.{model_of, phone_of}
use Rattle.examples.specs.Examples.{pattern, extent}
use Rattle.examples.specs.NumberingExamples.{Numbers}
use Rattle.examples.specs.PatternMeaning.{never, repeating_phone}
use Rattle.examples.specs.ReasonExamples.{reason}
use Rattle.examples.specs.ModelExamples.{Judges}
use Rattle.models.specs.declared.Judgment.{Judgment}
use Rattle.models.specs.declared.Judgment.TheVariants.{Meets, Breaks}

-- ---- patterns

pub record RoundPatterns : Type 0 where
  -- slots 30, 31, 0, 1 and 2; of two kinds, by the lower of which the lowest code goes
  pub five : extent_of (pattern 1 30 2) ≡ extent 0 5
  pub two_kinds : extent_of (pattern 10 30 2) ≡ extent 32 10
  -- 31 to 0 is two slots, and first = last is one
  pub two : extent_of (pattern 1 31 0) ≡ extent 0 2
  pub one : extent_of (pattern 1 31 31) ≡ extent 31 1
  -- a first slot just over the last has all slots, as 0 to 31 has; the two are still two patterns
  pub whole_ring : (mask last code : ℕ) → covers (pattern mask (suc last) last) code ≡ covers (pattern mask 0 31) code
  pub two_patterns : pattern 1 6 5 ≡ pattern 1 0 31 → ⊥

-- ---- the rule

abbrev pub round_file : List ℕ
round_file = 1 ∷ 1 ∷ 30 ∷ 2 ∷ 5 ∷ 0 ∷ 3 ∷ []

abbrev pub round_rule : Rule
round_rule = never (pattern 1 30 2 ∷ []) 0

-- {0} and the empty set
abbrev pub round_sets : List ℕ
round_sets = 1 ∷ 0 ∷ []

abbrev pub round_listing : List ℕ
round_listing =
    text "patterns 1\n"
    ++ text "p 0 0 5\n"
    ++ text "equations 2\n"
    ++ text "0 0 2 drop\n"
    ++ text "0 3 29 1\n"
    ++ text "0 30 31 drop\n"
    ++ text "0 32 255 1\n"
    ++ text "1 0 255 1\n"

-- 31 and 2 are dropped; 29 is kept, and with it the rule is over
abbrev pub round_scans : List ℕ
round_scans = 31 ∷ 2 ∷ 29 ∷ 0 ∷ []

abbrev pub round_run : Run
round_run = record { state = moved start 1; kept = 29 ∷ 0 ∷ []; verdicts = 1 ∷ 1 ∷ 0 ∷ 0 ∷ [] }

-- ---- models

-- the file of a phone that scans a code again and again
abbrev pub repeating_file : (code : ℕ) → List ℕ
repeating_file c = 16 ∷ 1 ∷ 17 ∷ 0 ∷ c ∷ 0 ∷ []

-- judging has one answer to it under the rule
pub record JudgedRound (code : ℕ) (answer : Outcome Judgment) : Type 0 where
  pub file : phone_of (repeating_file code) ≡ accepted (repeating_phone code)
  pub judged : Judges round_file 512 (repeating_file code) answer

pub record RoundExample : Type 1 where
  pub patterns : RoundPatterns
  pub numbers : Numbers round_file round_rule round_sets round_listing
  pub violating_31 : ViolatesRule round_rule (31 ∷ [])
  pub violating_2 : ViolatesRule round_rule (2 ∷ [])
  pub not_violating : ViolatesRule round_rule (29 ∷ []) → ⊥
  pub run : (table : List ℕ) → 512 ≤ length table → (output verdicts : ℕ) → 4 ≤ output → 4 ≤ verdicts
      → run_of most mark (table_left most mark round_file table) 2 start round_scans output verdicts ≡ accepted round_run
  -- node 1 is the ff
  pub dropped_31 : reason round_file [] 31 ≡ accepted (Some 1)
  pub dropped_2 : reason round_file [] 2 ≡ accepted (Some 1)
  pub kept_29 : reason round_file [] 29 ≡ accepted None
  pub unsatisfied_31 : Satisfies (model_of (repeating_phone 31)) round_rule → ⊥
  pub unsatisfied_2 : Satisfies (model_of (repeating_phone 2)) round_rule → ⊥
  pub breaks_31 : JudgedRound 31 (accepted Breaks)
  pub breaks_2 : JudgedRound 2 (accepted Breaks)
  pub satisfied : Satisfies (model_of (repeating_phone 29)) round_rule
  pub meets : JudgedRound 29 (accepted Meets)
