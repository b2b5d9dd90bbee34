use Rattle.std.proofs.Common.{◌<◌}
use Rattle.duty_laps.proofs.make_scans.Given as goal

abbrev pub invariant-loop-scan : goal.invariant-loop-scan
invariant-loop-scan l = l.x < 65537
