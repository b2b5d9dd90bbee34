use Rattle.synthesis.specs.Monitor.{most}
use Rattle.synthesis.proofs.Tables.SynthesisOutcomes.{short_refused}
use Rattle.synthesis.proofs.Functions.FillingWays.{counted_refused}
use Rattle.synthesis.proofs.Functions.ShortWays.{short_counted}
use Rattle.synthesis.proofs.count_short.Goals as goal

pub returns-in_err-classes : goal.returns-in_err-classes
returns-in_err-classes c = counted_refused _ _ c.from_residual.ensures.1 ((short_refused most _ _ _).1 c.in_err-classes.ensures)

pub returns : goal.returns
returns c = short_counted _ c.in_ok-classes.ensures
