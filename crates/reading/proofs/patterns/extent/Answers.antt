-- Of a pattern with a kind the two words tell the numbers.
use Rattle.std.proofs.Common.{◌<◌, arith}
use Rattle.reading.proofs.Measures.Extents.{told_by_set}
use Rattle.reading.proofs.patterns.extent.Goals as goal

pub returns : goal.returns
returns c =
    let some : 0 < c.args.p.mask = omega arith in
    let told = told_by_set _ _ c.slot_set-slots.ensures in
    rw (told.lowest c.requires some, told.count c.requires)
