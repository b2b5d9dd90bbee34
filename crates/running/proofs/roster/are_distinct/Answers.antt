-- One rule more.
use Rattle.std.proofs.Common.{arith}
use Rattle.std.proofs.lemmas.List.{take_more}
use Rattle.running.specs.Duty.{vacant}
use Rattle.running.proofs.RosterLaws.{distinct_last}
use Rattle.running.proofs.roster.are_distinct.Goals as goal

pub loop-i-preserved : goal.loop-i-preserved
loop-i-preserved c = rw (take_more c.args.rules.now c.loop-i.i vacant (omega arith), distinct_last) cc
