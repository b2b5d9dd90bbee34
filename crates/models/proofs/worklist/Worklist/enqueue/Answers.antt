-- A pair that was not seen before finds room in the list.
use Rattle.models.proofs.Pairs.WorklistLaws.{found_room, enqueued_new}
use Rattle.models.proofs.worklist.Worklist.enqueue.Goals as goal

pub bounds-self-self : goal.bounds-self-self
bounds-self-self c = found_room _ c.requires.0 _ c.requires.1 c.if-self-pair.false

pub returns : goal.returns
returns c = enqueued_new _ c.requires.0 _ c.requires.1 c.if-self-pair.false
