-- The word stands in the table, which is the list of the laws.
use Rattle.reading.proofs.Measures.SlotTable.{table, word_slots}
use Rattle.reading.proofs.slots.slots_under.Goals as goal

pub returns : goal.returns
unfolding table
returns c = rw c.min.ensures (word_slots c.args.width)
