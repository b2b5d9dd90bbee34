-- One step more is looked at: its state is added exactly where it is a partner.
use Rattle.std.proofs.Common.{sym, ◌∙◌}
use mathlib.Core.Bool.{true≢false}
use Rattle.models.proofs.Matchings.PartnerLaws.{shifted, no_partners, next_partner, next_no_partner}
use Rattle.models.proofs.matching.partners.Goals as goal
use Rattle.models.proofs.matching.partners.Goals.{then-is_partner, else-is_partner}

pub loop-step-init : goal.loop-step-init
loop-step-init c = no_partners _ _ _

pub loop-step-preserved : goal.loop-step-preserved
loop-step-preserved c = elim c.if-is_partner.branch [
  | then-is_partner w ↦
      rw (w.states-is, shifted _ (c.requires.among c.loop-step.step-index).from)
      (next_partner c.loop-step.invariant (c.is_partner.ensures.0 w.if-is_partner.true))
  | else-is_partner w ↦
      rw w.states-is (next_no_partner c.loop-step.invariant (λ p. true≢false (sym (c.is_partner.ensures.1 p) ∙ w.if-is_partner.false)))
]
