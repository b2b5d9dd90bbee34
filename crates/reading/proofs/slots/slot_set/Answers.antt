-- By the laws of two ends, in order and round.
use Rattle.reading.proofs.Measures.TwoEnds.{ends_in_order, ends_round}
use Rattle.reading.proofs.slots.slot_set.Goals as goal

pub returns-then-first-last : goal.returns-then-first-last
returns-then-first-last c = ends_in_order _ _ _ _ c.slots_under.ensures c.slots_under-2.ensures c.if-first-last.true

pub returns-else-first-last : goal.returns-else-first-last
returns-else-first-last c =
    ends_round _ _ _ _ c.slots_under.ensures c.slots_under-2.ensures c.if-first-last.false _ c.slots_under-else-first-last.ensures
