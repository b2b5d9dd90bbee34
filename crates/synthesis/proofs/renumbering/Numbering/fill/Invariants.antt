-- The table has the rows of the classes so far.
use Rattle.std.proofs.Common.{◌≡◌, ◌*◌, ℕ, List, ◌++◌, drop}
use Rattle.synthesis.specs.Monitor.{mark, lookup}
use Rattle.synthesis.specs.Table.{rows}
use Rattle.synthesis.specs.Merging.{merged}
use Rattle.synthesis.specs.Numbering.{AreNumbered, listed}
use Rattle.synthesis.proofs.renumbering.Numbering.fill.Given as goal

abbrev pub invariant-loop-i : goal.invariant-loop-i
invariant-loop-i l = (classes : List ℕ) → AreNumbered classes l.self
    → l.table ≡ rows mark (merged classes (lookup 256 mark l.long)) (listed l.self) 256 l.i ++ drop (256 * l.i) l.initial.table
