-- What the loop of a run on duty goes by, for the crate's own functions alone: the equations apart from the rules.
use Rattle.std.specs.Prelude.{ℕ, zero, suc, Bool, cond, List, [], ◌∷◌, ◌++◌, get_or}
use Rattle.running.specs.Duty.{vacant, moved_to}
use Rattle.running.specs.declared.OnDuty.{OnDuty}

-- the rule in a place, if it is taken
abbrev pub in_place : Bool → OnDuty → List OnDuty
in_place taken d = cond taken (d ∷ []) []

-- the rules in the first n places, each in the equation that stands in its place
unfoldable pub standing : (n : ℕ) → (places : List OnDuty) → (equations : List ℕ) → List OnDuty
standing zero places equations = []
standing (suc n) places equations = standing n places equations ++ (moved_to (get_or places n vacant) (get_or equations n 0) ∷ [])
