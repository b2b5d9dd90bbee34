-- What the loop has is right for the scans so far.
use Rattle.synthesis.specs.Monitor.{mark}
use Rattle.running.proofs.ServingSteps.{After}
use Rattle.running.proofs.serving.follow_all.Given as goal

abbrev pub invariant-loop-i : goal.invariant-loop-i
invariant-loop-i l = After mark l.tables l.roster.duty.count l.roster.duty.rules l.initial.output l.initial.verdicts l.scans l.output l.verdicts l.equations l.kept l.i
