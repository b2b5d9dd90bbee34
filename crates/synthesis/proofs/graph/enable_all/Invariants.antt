-- The nodes passed are enabled by their codes.
use Rattle.reading.specs.Rule.{Rule}
use Rattle.synthesis.specs.Arrays.{IsNumbered, EnabledBelow}
use Rattle.synthesis.proofs.graph.enable_all.Given as goal

abbrev pub invariant-loop-k : goal.invariant-loop-k
invariant-loop-k l = (r : Rule) → IsNumbered r l.rule → EnabledBelow r l.k l.enabled
