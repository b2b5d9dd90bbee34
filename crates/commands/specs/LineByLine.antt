-- What a call of `next` gives on the lines of a listing. It serves the crate's own functions alone.
use Rattle.std.specs.Prelude.{◌≡◌, ◌≢◌, ◌<◌, ◌^◌, Option, MatchOption}
use Rattle.listing.specs.Positions.{listing_line_at, Within}
use Rattle.listing.specs.declared.Line.{Line}
use Rattle.listing.specs.declared.ListingLine.{ListingLine}
use Rattle.commands.specs.declared.lines.Lines.{Lines}

-- the line that stands next
abbrev pub line_next : Lines → ListingLine
line_next s = listing_line_at s.rule s.table.now s.count s.at

-- a call from s gave that line and left t, or `None` where it is empty
pub record GivesLine (s : Lines) (r : Option Line) (t : Lines) : Type 0 where
  pub rule : t.rule ≡ s.rule
  pub table : t.table.now ≡ s.table.now
  pub count : t.count ≡ s.count
  pub at : t.at ≡ (line_next s).next
  pub fits : t.at < 2 ^ 64
  pub line : MatchOption r ((line_next s).line.len ≡ 0) (λ l. ((line_next s).line.len ≢ 0) × (l ≡ (line_next s).line) × Within l)
