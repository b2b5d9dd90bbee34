-- What a pattern means above the reader, for every pattern of every list: the rule "after a code of the pattern, ff" is violated, drops and is broken by
-- exactly the codes that the pattern covers, in words of kinds and slots. So what a rule means, what is dropped and which models meet it are read with the
-- same patterns.
use Rattle.std.specs.Prelude.{ℕ, ◌<◌, ◌≡◌, ◌↔◌, List, [], ◌∷◌, length, get_or}
use Rattle.reading.specs.Rule.{falsity, necessity, Rule}
use Rattle.reading.specs.Numbered.{no_pattern}
use Rattle.reading.specs.Promises.{Covered}
use Rattle.reading.specs.declared.Pattern.{Pattern}
use Rattle.synthesis.specs.Monitor.{mark, most}
use Rattle.synthesis.specs.Violation.{ViolatesRule}
use Rattle.synthesis.specs.Building.{Fills}
use Rattle.running.specs.Calls.{History, Calls, OnTableOrRefused}
use Rattle.enforcement.specs.Model.{Satisfies}
use Rattle.models.specs.Phone.{Phone, model_of}
use Rattle.examples.specs.Examples.{rule}
use Rattle.examples.specs.ModelExamples.{step}

-- "after a code of pattern i, ff"
abbrev pub never : List Pattern → (i : ℕ) → Rule
never ps i = rule ps (necessity i falsity)

-- pattern i covers the code, in words
abbrev pub CoveredIn : List Pattern → (i code : ℕ) → Type 0
CoveredIn ps i c = Covered (get_or ps i no_pattern) c

-- a phone of one state that scans a code again and again
abbrev pub repeating_phone : (code : ℕ) → Phone
repeating_phone c = record { states = 1; steps = step 0 c 0 ∷ [] }

pub record PatternMeaning (ps : List Pattern) (i : ℕ) : Type 1 where
  -- a code by itself violates the rule
  pub violates : (c : ℕ) → ViolatesRule (never ps i) (c ∷ []) ↔ CoveredIn ps i c
  -- the first scan of a run is dropped
  pub drops : (s table : List ℕ) (n : ℕ) (left : List ℕ) → Fills most mark s table (never ps i) n left
      → (h : History) → Calls most mark (OnTableOrRefused most mark left n) h → 0 < length h.scans
      → (get_or h.verdicts 0 0 ≡ 1) ↔ CoveredIn ps i (get_or h.scans 0 0)
  -- a phone that scans the code meets the rule
  pub satisfies : (c : ℕ) → c < 256 → Satisfies (model_of (repeating_phone c)) (never ps i) ↔ (CoveredIn ps i c → ⊥)
