-- The classes are those after the rounds so far.
use Rattle.std.proofs.Common.{◌≡◌, length}
use Rattle.synthesis.specs.Monitor.{mark, lookup}
use Rattle.synthesis.specs.Merging.{rounds}
use Rattle.synthesis.proofs.merging.merge.Given as goal

abbrev pub invariant-loop-round : goal.invariant-loop-round
invariant-loop-round l = let n = length l.initial.classes in l.classes ≡ rounds 256 (lookup 256 mark l.long) n l._round
