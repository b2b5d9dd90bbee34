-- The row has the entries of the codes so far.
use Rattle.std.proofs.Common.{◌≡◌, ◌++◌, drop}
use Rattle.synthesis.specs.Monitor.{mark}
use Rattle.synthesis.specs.Table.{entries_of}
use Rattle.synthesis.specs.Arrays.{answer_by}
use Rattle.synthesis.proofs.filling.fill_row.Given as goal

abbrev pub invariant-loop-code : goal.invariant-loop-code
invariant-loop-code l =
    record {
      same : l.equations ≡ l.initial.equations;
      filled : l.row ≡ entries_of mark (answer_by l.graph) l.initial.equations.equations l.e l.code ++ drop l.code l.initial.row;
    }
