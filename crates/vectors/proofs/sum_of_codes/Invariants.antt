use Rattle.std.proofs.Common.{◌≤◌, ◌*◌}
use Rattle.vectors.proofs.sum_of_codes.Given as goal

abbrev pub invariant-loop-code : goal.invariant-loop-code
invariant-loop-code l = l.sum ≤ 255 * l.code
