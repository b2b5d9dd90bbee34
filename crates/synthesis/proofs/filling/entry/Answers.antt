use Rattle.std.proofs.Common.{sym, ◌∙◌}
use Rattle.synthesis.proofs.Numberings.Indices.{position_or_length}
use Rattle.synthesis.proofs.Functions.FoundLaws.{answered_next}
use Rattle.synthesis.proofs.filling.entry.Goals as goal

pub returns-in-Some-clause-value : goal.returns-in-Some-clause-value
returns-in-Some-clause-value c =
    rw (answered_next (sym c.in-Some.is ∙ c.answer.ensures), ← position_or_length)
    (rw (c.len.ensures.value, c.find.ensures.same, c.find.ensures.value) at c.unwrap_or.ensures)
