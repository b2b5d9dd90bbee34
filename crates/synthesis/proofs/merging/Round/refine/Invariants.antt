-- The classes of the equations passed are those after the round.
use Rattle.std.proofs.Common.{◌≡◌, take}
use Rattle.synthesis.specs.Monitor.{mark, lookup}
use Rattle.synthesis.specs.Merging.{refined}
use Rattle.synthesis.proofs.merging.Round.refine.Given as goal

abbrev pub invariant-loop-k : goal.invariant-loop-k
invariant-loop-k l = take l.k l.next ≡ refined 256 (lookup 256 mark l.self.long.now) l.self.classes.now l.k
