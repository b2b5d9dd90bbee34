-- `all` is the answer for the entries so far.
use Rattle.std.proofs.Common.{◌≡◌, take}
use Rattle.synthesis.specs.Monitor.{mark}
use Rattle.running.specs.Running.{entries_in_range}
use Rattle.running.proofs.checking.entries_in_range.Given as goal

abbrev pub invariant-loop-entry : goal.invariant-loop-entry
invariant-loop-entry l = l.all ≡ entries_in_range mark l.count (take l.entry-index l.entries)
