use Rattle.std.proofs.Common.{eq-eqb, ne_eqb}
use Rattle.synthesis.specs.Arrays.{answer_by}
use Rattle.synthesis.proofs.graph.Graph.answer.Goals as goal

pub returns-then-reached-self-eq0 : goal.returns-then-reached-self-eq0
unfolding answer_by
returns-then-reached-self-eq0 c = rw (← c.reached-reached.ensures, eq-eqb _ _ c.if-reached-self-eq0.true)

pub returns-else-reached-self-eq0 : goal.returns-else-reached-self-eq0
unfolding answer_by
returns-else-reached-self-eq0 c = rw (← c.reached-reached.ensures, ne_eqb _ _ c.if-reached-self-eq0.false)
