use Rattle.std.proofs.Common.{refl, sym, ◌∙◌, arith}
use Rattle.synthesis.specs.Monitor.{mark}
use Rattle.synthesis.specs.Table.{rows}
use Rattle.synthesis.proofs.Functions.FillingRows.{rows_next, rows_all}
use Rattle.synthesis.proofs.filling.fill_table.Goals as goal

pub loop-k-init : goal.loop-k-init
unfolding rows
loop-k-init c = record { same = refl; filled = refl }

pub loop-k-preserved : goal.loop-k-preserved
loop-k-preserved c = record {
  same = c.fill_row.ensures.same ∙ c.loop-k.invariant.same;
  filled = rows_next mark _ _ 256 _ _ _ c.loop-k.invariant.filled _ _ (sym (rw c.loop-k.invariant.same at c.get-e.ensures))
      (rw c.loop-k.invariant.same at c.fill_row.ensures.filled);
}

pub returns : goal.returns
returns c = rows_all mark _ _ 256 _ _ _ c.loop-k.invariant.filled (omega arith)
