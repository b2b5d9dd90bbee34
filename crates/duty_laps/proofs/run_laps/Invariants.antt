use Rattle.std.proofs.Common.{◌*◌, ◌≤◌}
use Rattle.duty_laps.proofs.run_laps.Given as goal

abbrev pub invariant-loop-lap : goal.invariant-loop-lap
invariant-loop-lap l = (l.kept ≤ 65536 * l._lap) × (l.dropped ≤ 65536 * l._lap)
