-- The steps passed have partners.
use Rattle.models.specs.Relating.{HavePartners}
use Rattle.models.proofs.matching.have_partners.Given as goal

abbrev pub invariant-loop-step : goal.invariant-loop-step
invariant-loop-step l = HavePartners l.steps l.step-index l.others l.rows
