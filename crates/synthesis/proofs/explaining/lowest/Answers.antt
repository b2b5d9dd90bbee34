use Rattle.std.proofs.Common.{Some, ap, ne_eqb}
use Rattle.reading.proofs.Measures.Bits.{trailing_is_least}
use Rattle.synthesis.proofs.explaining.lowest.Goals as goal

pub returns-else-set-eq0 : goal.returns-else-set-eq0
returns-else-set-eq0 c = rw (ne_eqb _ _ c.if-set-eq0.false) (ap Some (trailing_is_least 64 c.args.set))
