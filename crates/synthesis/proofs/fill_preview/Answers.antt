use Rattle.std.proofs.Common.{◌∙◌}
use Rattle.synthesis.proofs.Functions.PageWays.{preview_filled, preview_left}
use Rattle.synthesis.proofs.fill_preview.Goals as goal

pub returns-clause-value : goal.returns-clause-value
returns-clause-value c = preview_filled _ _ _ _ c.fill_within.ensures.value c.map_err.ensures.cases

pub returns-clause-table_after : goal.returns-clause-table_after
returns-clause-table_after c = c.fill_within.ensures.table_after ∙ preview_left _ _ _
