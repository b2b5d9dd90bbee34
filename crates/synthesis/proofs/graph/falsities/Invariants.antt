-- The set has the ff nodes among those passed.
use Rattle.reading.specs.Rule.{Rule}
use Rattle.synthesis.specs.Arrays.{IsNumbered}
use Rattle.synthesis.proofs.Functions.SetsByTest.{FalsitiesBelow}
use Rattle.synthesis.proofs.graph.falsities.Given as goal

abbrev pub invariant-loop-k : goal.invariant-loop-k
invariant-loop-k l = (r : Rule) → IsNumbered r l.rule → FalsitiesBelow r l.k l.set
