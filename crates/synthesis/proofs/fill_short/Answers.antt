use Rattle.synthesis.specs.Monitor.{most}
use Rattle.synthesis.proofs.Tables.SynthesisOutcomes.{short_refused, short_filling-by_count}
use Rattle.synthesis.proofs.Functions.FillingWays.{refused_leaves, too_short_leaves, filled_leaves}
use Rattle.synthesis.proofs.Functions.ShortWays.{short_is, short_count, short_filled}
use Rattle.synthesis.proofs.fill_short.Goals as goal

pub returns-in_err-numbering : goal.returns-in_err-numbering
returns-in_err-numbering c =
    let left =
    refused_leaves c.args.table.now (short_filling-by_count most _ _) _ _ c.from_residual.ensures.1
    ((short_refused most _ _ _).1 c.in_err-numbering.ensures) in
    record { value = left.value; table_after = left.table_after }

pub returns-then-table-numbering : goal.returns-then-table-numbering
returns-then-table-numbering c =
    let plan = c.in_ok-numbering.ensures in
    let left = too_short_leaves c.args.table.now (short_filling-by_count most _ _) (short_is _ plan) (short_count _ plan) c.if-table-numbering.true in
    record { value = rw c.at.ensures left.value; table_after = left.table_after }

pub fill-requires : goal.fill-requires
fill-requires c = (c.in_ok-numbering.ensures.fills.well_formed, c.if-table-numbering.false)

pub returns : goal.returns
returns c =
    let plan = c.in_ok-numbering.ensures in
    let left =
    filled_leaves c.args.table.now (short_filling-by_count most _ _) (short_is _ plan) (short_count _ plan) c.if-table-numbering.false _
    (short_filled _ plan _ _ c.fill.ensures) in
    record { value = left.value; table_after = left.table_after }
