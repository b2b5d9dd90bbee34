use Rattle.synthesis.proofs.Functions.PageWays.{preview_counted}
use Rattle.synthesis.proofs.count_preview.Goals as goal

pub returns : goal.returns
returns c = preview_counted _ _ _ c.count_within.ensures c.map_err.ensures.cases
