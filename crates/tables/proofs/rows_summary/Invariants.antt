use Rattle.std.proofs.Common.{◌*◌, ◌≤◌, length}
use Rattle.tables.proofs.rows_summary.Given as goal

abbrev pub invariant-loop-k : goal.invariant-loop-k
invariant-loop-k l = (l.len ≤ 256 * l.k) × (l.len ≤ length l.table)
