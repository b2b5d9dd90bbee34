-- What this crate promises of reasons, as statements over the definitions. The limit on equations is any; with `most` these are the terms of the contract
-- of `explain`.
use Rattle.std.specs.Prelude.{ℕ, ◌<◌, ◌≡◌, ◌↔◌, ◌⊎◌, List, [], ◌∷◌, ◌++◌, length, Option, Some, None}
use Rattle.reading.specs.Rule.{size, WellFormed, Rule, Bytes}
use Rattle.reading.specs.File.{accepted, rule_of, Outcome, refused}
use Rattle.synthesis.specs.Violation.{ViolatesRule}
use Rattle.synthesis.specs.Monitor.{ended, lookup}
use Rattle.synthesis.specs.Opening.{IsFalsity}
use Rattle.synthesis.specs.Answering.{first_of, answer_of}
use Rattle.synthesis.specs.Building.{synthesis_of, counted_of, Fills}
use Rattle.synthesis.specs.Reason.{ViolatesAt, only_falsity, LowestPlace, FirstViolated, LowestOpened, explanation_of, reason_of}

-- ---- places add nothing to violation

-- A list violates a well-formed rule exactly when it does so at some node. It does so at m exactly when it violates the rule that has no ff but node m; so
-- each such node is an ff.
pub record Placed (r : Rule) : Type 0 where
  pub somewhere : (w : List ℕ) → ViolatesRule r w ↔ ((m : ℕ) × ViolatesAt r 0 w m)
  pub alone : (w : List ℕ) (m : ℕ) → ViolatesAt r 0 w m ↔ ViolatesRule (only_falsity r m) w
  pub at_falsities : (k : ℕ) (w : List ℕ) (m : ℕ) → ViolatesAt r k w m → IsFalsity r.formula m

abbrev pub ViolatesSomewhere : Type 0
ViolatesSomewhere = (r : Rule) → WellFormed (length r.patterns) [] r.formula → Placed r

-- ---- what is said of the scan c after the scans w

pub record Explained (r : Rule) (w : List ℕ) (c : ℕ) (reason : Outcome (Option ℕ)) : Type 0 where
  -- 17 stands at the last scan of the shortest front that violates the rule
  pub unfit : (i : ℕ) → (reason ≡ refused 17 i) ↔ FirstViolated r w i
  -- a scan is kept where the list with it doesn't violate the rule
  pub kept : (reason ≡ accepted None) ↔ (ViolatesRule r (w ++ (c ∷ [])) → ⊥)
  -- a node is the lowest at which the list with the scan violates the rule, where the list alone doesn't
  pub node : (m : ℕ) → (reason ≡ accepted (Some m)) ↔ ((ViolatesRule r w → ⊥) × LowestPlace r (w ++ (c ∷ [])) m)
  -- it is the lowest that the scan opens in the equation to which the list leads
  pub opened : (m : ℕ) → (reason ≡ accepted (Some m)) ↔ ((ViolatesRule r w → ⊥) × LowestOpened r (ended (answer_of r) (first_of r) w) c m)
  -- it is a node of the rule
  pub inside : (m : ℕ) → reason ≡ accepted (Some m) → m < size r.formula
  -- nothing else is said
  pub only : (reason ≡ accepted None) ⊎ (((m : ℕ) × (reason ≡ accepted (Some m))) ⊎ ((i : ℕ) × (reason ≡ refused 17 i)))

-- Where counting refuses the rule file, `explain` does so with the same number and place; and else it explains.
pub record Reasons (limit : ℕ) (s w : List ℕ) (c : ℕ) : Type 0 where
  pub refused : (number place : ℕ) → counted_of (synthesis_of limit s) ≡ refused number place
      → reason_of (explanation_of limit s w c) ≡ refused number place
  pub explained : (r : Rule) (n : ℕ) → rule_of s ≡ accepted r → counted_of (synthesis_of limit s) ≡ accepted n
      → Explained r w c (reason_of (explanation_of limit s w c))

abbrev pub ReasonsExactly : Type 0
ReasonsExactly = (limit : ℕ) (s : List ℕ) → Bytes s → (w : List ℕ) (c : ℕ) → Reasons limit s w c

-- ---- by the equation alone

-- Under the table that filling leaves, two lists that don't violate the rule and end in the same equation give every scan the same reason.
abbrev pub ReasonsByEquation : Type 0
ReasonsByEquation =
    (limit mark : ℕ) (s table : List ℕ) (r : Rule) (n : ℕ) (left : List ℕ) → Fills limit mark s table r n left
    → (w w' : List ℕ) → Bytes w → Bytes w' → (ViolatesRule r w → ⊥) → (ViolatesRule r w' → ⊥)
    → ended (lookup 256 mark left) 0 w ≡ ended (lookup 256 mark left) 0 w'
    → (c : ℕ) → reason_of (explanation_of limit s w c) ≡ reason_of (explanation_of limit s w' c)
