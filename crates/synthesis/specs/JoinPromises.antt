-- What this crate promises of the rule that joins rules by "both", as statements over the definitions; proofs/ has a theorem of each of these types.
use Rattle.std.specs.Prelude.{ℕ, ◌↔◌, List, ◌∷◌}
use Rattle.reading.specs.Rule.{Rule, All, WellFormedRule}
use Rattle.synthesis.specs.Violation.{ViolatesRule}
use Rattle.synthesis.specs.Joined.{joined, Some}

-- The join of well-formed rules is well formed, with any number of patterns and nodes.
abbrev pub JoinWellFormed : Type 0
JoinWellFormed = (r : Rule) (rs : List Rule) → All WellFormedRule (r ∷ rs) → WellFormedRule (joined r rs)

-- A list violates the join of well-formed rules exactly when it violates one of them. The join needn't be accepted.
abbrev pub JoinViolates : Type 0
JoinViolates =
    (r : Rule) (rs : List Rule) → All WellFormedRule (r ∷ rs) → (w : List ℕ)
    → ViolatesRule (joined r rs) w ↔ Some (λ q. ViolatesRule q w) (r ∷ rs)

-- The theorem `join_promises` has this type, so that each promise has its proof.
pub record JoinPromises : Type 0 where
  pub join_well_formed : JoinWellFormed
  pub join_violates : JoinViolates
