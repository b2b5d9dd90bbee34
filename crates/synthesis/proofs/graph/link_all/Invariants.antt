-- The nodes passed are linked.
use Rattle.reading.specs.Rule.{Rule}
use Rattle.synthesis.specs.Arrays.{IsNumbered, Linked}
use Rattle.synthesis.proofs.graph.link_all.Given as goal

abbrev pub invariant-loop-k : goal.invariant-loop-k
invariant-loop-k l = (r : Rule) → IsNumbered r l.rule → Linked r l.k l.opened l.after
