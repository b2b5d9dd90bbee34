use Rattle.std.proofs.Common.{◌*◌, ◌≤◌}
use Rattle.tables.proofs.listing_summary.Given as goal

abbrev pub invariant-loop-line : goal.invariant-loop-line
invariant-loop-line l = l.len ≤ 64 * l._line
