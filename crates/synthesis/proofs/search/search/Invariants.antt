-- The list holds the equations found after the expansions so far.
use Rattle.std.proofs.Common.{◌≡◌}
use Rattle.synthesis.specs.Search.{found}
use Rattle.synthesis.specs.Arrays.{answer_by}
use Rattle.synthesis.proofs.search.search.Given as goal

abbrev pub invariant-loop-k : goal.invariant-loop-k
invariant-loop-k l = l.equations ≡ record { limit = l.initial.equations.limit; equations = found 256 (answer_by l.graph) l.k l.graph.first }
