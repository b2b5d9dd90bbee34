-- The four fields, one after the other, are the line.
use Rattle.synthesis.specs.Monitor.{mark, meaning}
use Rattle.listing.specs.Text.{decimal}
use Rattle.listing.specs.Lines.{answer_text}
use Rattle.listing.proofs.Additions.{four_fields}
use Rattle.listing.proofs.lines.run.Goals as goal

pub returns : goal.returns
returns c =
    four_fields (decimal c.args.k) (decimal c.args.first) (decimal c.args.last) (answer_text (meaning mark c.args.entry)) c.new.ensures c.decimal.ensures
    c.field.ensures c.field-2.ensures c.entry.ensures c.line.ensures
