-- The list holds what the answers to the codes so far give.
use Rattle.std.proofs.Common.{◌≡◌}
use Rattle.synthesis.specs.Search.{explored}
use Rattle.synthesis.specs.Arrays.{answer_by}
use Rattle.synthesis.proofs.search.Equations.explore.Given as goal

abbrev pub invariant-loop-code : goal.invariant-loop-code
invariant-loop-code l =
    l.self ≡ record { limit = l.initial.self.limit; equations = explored 256 (answer_by l.graph) l.e l.code l.initial.self.equations }
