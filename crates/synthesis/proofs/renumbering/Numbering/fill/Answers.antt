use Rattle.std.proofs.Common.{refl, arith}
use Rattle.synthesis.specs.Monitor.{mark}
use Rattle.synthesis.specs.Table.{rows}
use Rattle.synthesis.specs.Numbering.{listed}
use Rattle.synthesis.proofs.Functions.FillingRows.{rows_next, rows_all}
use Rattle.synthesis.proofs.renumbering.Numbering.fill.Goals as goal

pub loop-i-init : goal.loop-i-init
unfolding rows
loop-i-init c classes are = refl

pub loop-i-preserved : goal.loop-i-preserved
loop-i-preserved c classes are =
    rows_next mark _ (listed c.args.self.now) 256 _ _ _ (c.loop-i.invariant classes are) _ _ refl (c.fill_row.ensures classes are)

pub returns : goal.returns
returns c classes are = rows_all mark _ (listed c.args.self.now) 256 _ _ _ (c.loop-i.invariant classes are) (omega arith)
