use Rattle.std.proofs.Common.{◌≡◌, ◌≤◌, map, take}
use Rattle.testing.specs.Numbers.{digest_of}
use Rattle.testing.proofs.digests.digest.Given as goal

abbrev pub invariant-loop-digit : goal.invariant-loop-digit
invariant-loop-digit g l =
    (l.sum ≤ 1000000006) × (l.sum ≡ digest_of g.D.Digit.BASE l.high (map g.D.Digit.value_of (take l.digit-index l.digits)))
