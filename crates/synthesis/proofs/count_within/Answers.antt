use Rattle.synthesis.proofs.Functions.FillingWays.{counted_refused, counted_plan}
use Rattle.synthesis.proofs.count_within.Goals as goal

pub returns-in_err-plan : goal.returns-in_err-plan
returns-in_err-plan c = counted_refused _ _ c.from_residual.ensures.1 (rw (c.new-equations.ensures, c.min.ensures) at c.in_err-plan.ensures)

pub returns : goal.returns
returns c = counted_plan (rw (c.new-equations.ensures, c.min.ensures) at c.in_ok-plan.ensures)
