-- What the crate's own functions say of a whole line.
use Rattle.std.specs.Prelude.{ℕ, ◌≡◌, List}
use Rattle.listing.specs.Positions.{line_of, Within}
use Rattle.listing.specs.declared.Line.{Line}
use Rattle.listing.specs.declared.ListingLine.{ListingLine}

-- a line with this text, which stands within its bytes
pub record Prints (t : List ℕ) (l : Line) : Type 0 where
  pub is : l ≡ line_of t
  pub within : Within l

-- the line of a listing that is expected
pub record Gives (expected l : ListingLine) : Type 0 where
  pub is : l ≡ expected
  pub within : Within l.line
