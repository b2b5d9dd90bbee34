-- What the loop has is right for the scans so far.
use Rattle.synthesis.specs.Monitor.{mark}
use Rattle.running.proofs.Stepping.{After}
use Rattle.running.proofs.following.follow.Given as goal

abbrev pub invariant-loop-i : goal.invariant-loop-i
invariant-loop-i l = After mark l.table l.fn.state l.initial.output l.initial.verdicts l.scans l.output l.verdicts l.from l.kept l.i
