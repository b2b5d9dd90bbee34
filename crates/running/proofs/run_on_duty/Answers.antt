-- A run that isn't refused is the run of the definition.
use Rattle.synthesis.specs.Monitor.{mark}
use Rattle.running.specs.Duty.{on_duty, together}
use Rattle.running.proofs.Counting.{kept_few, rest_dropped}
use Rattle.running.proofs.run_on_duty.Goals as goal

pub ended-requires : goal.ended-requires
ended-requires c = kept_few (together mark c.args.tables.now) (on_duty c.in-Ok.roster.duty) c.args.scans.now c.follow_all-end.ensures.kept_value

pub returns-clause-value : goal.returns-clause-value
returns-clause-value c =
    let x = c.args in
    let e = c.follow_all-end.ensures in
    let rest = rest_dropped (together mark x.tables.now) (on_duty c.in-Ok.roster.duty) x.scans.now e.kept_value in
    rw (c.in-Ok.ensures.outcome, ← c.in-Ok.ensures.rules) (rw (c.ended.ensures, e.state_value, rest, e.kept_value))
