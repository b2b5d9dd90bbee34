use Rattle.std.proofs.Common.{sym, ◌∙◌}
use Rattle.synthesis.proofs.Numberings.Indices.{position_at}
use Rattle.synthesis.proofs.search.Equations.find.Goals as goal

pub returns-then-stands_at-clause-value : goal.returns-then-stands_at-clause-value
returns-then-stands_at-clause-value c =
    rw (← c.self.view_is)
    (position_at c.args.e _ c.self.invariant.distinct _ (rw (← c.self.view_is) at (sym c.stands_at.ensures ∙ c.if-stands_at.true)))

pub returns-then-stands_at-2-clause-value : goal.returns-then-stands_at-2-clause-value
returns-then-stands_at-2-clause-value c =
    rw (← c.self.view_is)
    (position_at c.args.e _ c.self.invariant.distinct _ (rw (← c.self.view_is) at (sym c.stands_at-2.ensures ∙ c.if-stands_at-2.true)))
