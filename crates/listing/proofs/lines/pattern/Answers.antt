-- The four fields, one after the other, are the line.
use Rattle.listing.specs.Text.{text, decimal}
use Rattle.listing.specs.Lines.{lowest_text}
use Rattle.listing.proofs.Additions.{four_fields}
use Rattle.listing.proofs.lines.pattern.Goals as goal

pub returns : goal.returns
returns c =
    four_fields (text "p") (decimal c.args.i) (lowest_text c.args.extent.lowest) (decimal c.args.extent.count) c.new.ensures c.word.ensures c.field.ensures
    c.lowest.ensures.adds c.field-2.ensures c.line.ensures
