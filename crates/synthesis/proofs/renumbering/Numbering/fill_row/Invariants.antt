-- The row has the entries passed.
use Rattle.std.proofs.Common.{◌≡◌, List, ℕ, ◌++◌, drop}
use Rattle.synthesis.specs.Monitor.{mark, lookup}
use Rattle.synthesis.specs.Table.{entries_of}
use Rattle.synthesis.specs.Merging.{merged}
use Rattle.synthesis.specs.Numbering.{AreNumbered, listed}
use Rattle.synthesis.proofs.renumbering.Numbering.fill_row.Given as goal

abbrev pub invariant-loop-c : goal.invariant-loop-c
invariant-loop-c l = (classes : List ℕ) → AreNumbered classes l.self
    → l.short ≡ entries_of mark (merged classes (lookup 256 mark l.long)) (listed l.self) l.k l.c ++ drop l.c l.initial.short
