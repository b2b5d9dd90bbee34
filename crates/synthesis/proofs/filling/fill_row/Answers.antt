use Rattle.std.proofs.Common.{refl, ◌∙◌, arith}
use Rattle.synthesis.specs.Monitor.{mark}
use Rattle.synthesis.specs.Table.{entries_of}
use Rattle.synthesis.proofs.Functions.FillingRows.{entries_next}
use Rattle.synthesis.proofs.filling.fill_row.Goals as goal

pub loop-code-init : goal.loop-code-init
unfolding entries_of
loop-code-init c = record { same = refl; filled = refl }

pub loop-code-preserved : goal.loop-code-preserved
loop-code-preserved c = record {
  same = c.entry.ensures.same ∙ c.loop-code.invariant.same;
  filled = entries_next mark _ _ _ _ _ _ c.loop-code.invariant.filled _ (omega arith) (rw c.loop-code.invariant.same at c.entry.ensures.value);
}
