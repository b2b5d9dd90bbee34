-- Behind the end of what is lent there are no rows.
use Rattle.std.proofs.Common.{arith, drop, length-drop}
use Rattle.synthesis.proofs.Tables.Rows.{row_none}
use Rattle.running.proofs.serving.own_entry.Goals as goal

pub returns-in-None : goal.returns-in-None
returns-in-None c =
    let x = c.args in
    rw (row_none 256 (drop x.base x.tables.now) x.equation (omega (arith, length-drop x.base x.tables.now, c.in-None.ensures.lookup)))
