use Rattle.std.proofs.Common.{sym, ◌∙◌, arith}
use Rattle.synthesis.proofs.Tables.Rows.{row_is_chunk, row_is_none}
use Rattle.synthesis.proofs.row.Goals as goal

pub returns-in-Some : goal.returns-in-Some
returns-in-Some c =
    let row = c.in-Some.row.now in
    let found = c.in-Some.ensures.lookup in
    rw c.as_chunks.ensures.front at found.1 ∙ row_is_chunk c.args.table.now c.args.k (omega (arith, found.3.0, c.as_chunks.ensures.front_len)) row

pub returns-in-None : goal.returns-in-None
returns-in-None c =
    sym (row_is_none c.args.table.now c.args.k (omega (arith, c.in-None.ensures.lookup.3, c.as_chunks.ensures.front_len)))
