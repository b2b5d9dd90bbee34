-- The table has the rows of the equations so far.
use Rattle.std.proofs.Common.{◌≡◌, ◌*◌, ◌++◌, drop}
use Rattle.synthesis.specs.Monitor.{mark}
use Rattle.synthesis.specs.Table.{rows}
use Rattle.synthesis.specs.Arrays.{answer_by}
use Rattle.synthesis.proofs.filling.fill_table.Given as goal

abbrev pub invariant-loop-k : goal.invariant-loop-k
invariant-loop-k l =
    record {
      same : l.equations ≡ l.initial.equations;
      filled : l.table ≡ rows mark (answer_by l.graph) l.initial.equations.equations 256 l.k ++ drop (256 * l.k) l.initial.table;
    }
