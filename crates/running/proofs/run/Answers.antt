-- A run that isn't refused has passed its checks, and is the run of the definition.
use Rattle.std.proofs.Common.{ap}
use Rattle.reading.specs.Refusals.{as_outcome}
use Rattle.synthesis.specs.Monitor.{mark, most}
use Rattle.running.specs.Running.{answer_in}
use Rattle.running.proofs.Counting.{kept_few, rest_dropped}
use Rattle.running.proofs.Outcomes.{passed}
use Rattle.running.proofs.run.Goals as goal

pub follow-end-requires : goal.follow-end-requires
follow-end-requires c =
    let f = passed most mark _ _ _ _ _ _ c.check.ensures (ap as_outcome c.in_default.is) in
    (f.below, f.output_room, f.verdicts_room)

pub ended-requires : goal.ended-requires
ended-requires c = kept_few (answer_in mark c.args.table.now) c.args.state c.args.scans.now c.follow-end.ensures.kept_value

pub returns-clause-value : goal.returns-clause-value
returns-clause-value c =
    let x = c.args in
    let f = passed most mark _ _ _ _ _ _ c.check.ensures (ap as_outcome c.in_default.is) in
    let e = c.follow-end.ensures in
    let rest = rest_dropped (answer_in mark x.table.now) x.state x.scans.now e.kept_value in
    rw f.is (rw (c.ended.ensures, e.state_value, rest, e.kept_value))

pub returns-clause-output_after : goal.returns-clause-output_after
returns-clause-output_after c =
    let f = passed most mark _ _ _ _ _ _ c.check.ensures (ap as_outcome c.in_default.is) in
    rw f.is c.follow-end.ensures.output_after

pub returns-clause-verdicts_after : goal.returns-clause-verdicts_after
returns-clause-verdicts_after c =
    let f = passed most mark _ _ _ _ _ _ c.check.ensures (ap as_outcome c.in_default.is) in
    rw f.is c.follow-end.ensures.verdicts_after
