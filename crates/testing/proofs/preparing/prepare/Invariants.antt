use Rattle.std.proofs.Common.{◌≡◌, ◌+◌, ◌*◌, ◌%◌, map, take}
use Rattle.testing.specs.Preparing.{prepared}
use Rattle.testing.proofs.preparing.prepare.Given as goal

abbrev pub invariant-loop-digit : goal.invariant-loop-digit
invariant-loop-digit g l =
    (map g.D.Digit.value_of (take l.digit-index l.digits) ≡ prepared l.size l.first (g.D.Digit.value_of l.step) l.digit-index)
    × (l.next ≡ (l.first + g.D.Digit.value_of l.step * l.digit-index) % l.size)
