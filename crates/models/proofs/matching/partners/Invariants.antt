-- The partners among the steps passed are found.
use Rattle.models.specs.Relating.{Partners}
use Rattle.models.proofs.matching.partners.Given as goal

abbrev pub invariant-loop-step : goal.invariant-loop-step
invariant-loop-step l = Partners l.steps l.step-index l.label l.targets l.states
