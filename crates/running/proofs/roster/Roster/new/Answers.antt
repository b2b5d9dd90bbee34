-- Nobody is on duty.
use Rattle.std.proofs.Common.{[], arith}
use Rattle.running.proofs.RosterLaws.{tidy_by}
use Rattle.running.proofs.roster.Roster.new.Goals as goal

pub invariant_of-result : goal.invariant_of-result
invariant_of-result c = record { few = rw c.nobody.ensures (omega arith); tidy = tidy_by [] c.nobody.ensures }
