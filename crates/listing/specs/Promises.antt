-- What this crate promises, as statements over the definitions; proofs/ has a theorem of each of these types.
use Rattle.std.specs.Prelude.{ℕ, suc, ◌+◌, ◌*◌, ◌/◌, ◌%◌, ◌≤◌, ◌<◌, ◌≡◌, List, [], ◌∷◌, ◌++◌, map, length, get_or, Some}
use Rattle.reading.specs.Pattern.{extent_of}
use Rattle.reading.specs.Rule.{Rule, RuleWithinLimits, All}
use Rattle.reading.specs.Numbered.{numbered}
use Rattle.reading.specs.declared.Pattern.{Pattern}
use Rattle.reading.specs.declared.NumberedRule.{NumberedRule}
use Rattle.synthesis.specs.Monitor.{mark, most, row_of, meaning, lookup}
use Rattle.synthesis.specs.Alike.{RulesAlike}
use Rattle.synthesis.specs.Building.{counted_of, table_after, table_left, preview_of, preview_filling_of, Fills}
use Rattle.listing.specs.Text.{text, digit, decimal}
use Rattle.listing.specs.Runs.{CodeRun, runs, RunTo}
use Rattle.listing.specs.Lines.{line, pattern_line, listing}
use Rattle.listing.specs.Positions.{extents_of, listing_line_at, lines_from}
use Rattle.reading.specs.File.{accepted}

-- 1. Read line by line from position 0 on, up to an empty line, the text is the listing; so many lines are enough. A rule is any value
-- whose array has 32 patterns;
abbrev pub ListsAll : Type 0
ListsAll =
    (rule : NumberedRule) (table : List ℕ) (count lines : ℕ) → length rule.patterns ≡ 32 → 34 + 256 * count ≤ lines
    → lines_from rule table count lines 0 ≡ listing (extents_of rule) count table

-- in particular of a rule that was read.
abbrev pub ListsRule : Type 0
ListsRule =
    (r : Rule) (table : List ℕ) (count lines : ℕ) → RuleWithinLimits r → 34 + 256 * count ≤ lines
    → lines_from (numbered r) table count lines 0 ≡ listing (map extent_of r.patterns) count table

-- 2. Each run is a longest run of codes with one entry: no code before it or after it can join it.
pub record Longest (row : List ℕ) (r : CodeRun) : Type 0 where
  pub entry : r.entry ≡ get_or row r.first 0
  pub reaches : RunTo row r.first r.last
  pub begins : (c : ℕ) → suc c ≡ r.first → get_or row c 0 ≡ r.entry → ⊥

-- some runs, one after the other, of the codes from c up to the end
abbrev pub Consecutive : (c end : ℕ) → List CodeRun → Type 0
Consecutive c end [] = c ≡ end
Consecutive c end (r ∷ rs) = (r.first ≡ c) × Consecutive (suc r.last) end rs

-- The runs of a row are such, and cover its codes in order.
pub record Groups (row : List ℕ) : Type 0 where
  pub longest : All (Longest row) (runs row)
  pub consecutive : Consecutive 0 (length row) (runs row)

-- 3. The entry in the line of a run is what the table answers to each of its codes.
abbrev pub ShowsAnswers : Type 0
ShowsAnswers =
    (table : List ℕ) (k : ℕ) → All (λ (r : CodeRun). (c : ℕ) → r.first ≤ c → c ≤ r.last → lookup 256 mark table k c ≡ meaning mark r.entry)
    (runs (row_of 256 table k))

-- 4. A line goes by the rows that are listed, and by no other entry of the table: over tables with the same rows each position has the same line.
abbrev pub ListsByRows : Type 0
ListsByRows =
    (rule : NumberedRule) (table table' : List ℕ) (count : ℕ) → ((k : ℕ) → k < count → row_of 256 table k ≡ row_of 256 table' k)
    → (at : ℕ) → listing_line_at rule table count at ≡ listing_line_at rule table' count at

-- So where the rule page answers n, each line over the table that it fills is that over a table that the desk fills, however long the two tables are
-- and whatever they held.
abbrev pub PreviewListed : Type 0
PreviewListed =
    (s : List ℕ) (n : ℕ) → counted_of (preview_of s) ≡ accepted n → (table table' : List ℕ) → 256 * n ≤ length table → 256 * n ≤ length table'
    → (rule : NumberedRule) (at : ℕ)
    → listing_line_at rule (table_after mark (preview_filling_of s (length table)) table) n at ≡ listing_line_at rule (table_left most mark s table') n at

-- So too over the long tables of two rules with the same patterns that differ only in formulas after empty ones.
abbrev pub ListedAlike : Type 0
ListedAlike =
    (limit limit' mark : ℕ) (s table : List ℕ) (r : Rule) (n : ℕ) (left : List ℕ) → Fills limit mark s table r n left
    → (s' table' : List ℕ) (r' : Rule) (n' : ℕ) (left' : List ℕ) → Fills limit' mark s' table' r' n' left' → RulesAlike r r'
    → r.patterns ≡ r'.patterns → (at : ℕ) → listing_line_at (numbered r) left n at ≡ listing_line_at (numbered r') left' n' at

-- The line of a pattern has its lowest code and how many codes it covers; of one of no kind, none and 0.
pub record PatternListed (i : ℕ) (p : Pattern) : Type 0 where
  pub code : (low : ℕ) → (extent_of p).lowest ≡ Some low
      → pattern_line i (extent_of p) ≡ line (text "p" ∷ decimal i ∷ decimal low ∷ decimal (extent_of p).count ∷ [])
  pub none : p.mask ≡ 0 → pattern_line i (extent_of p) ≡ line (text "p" ∷ decimal i ∷ text "none" ∷ text "0" ∷ [])

-- 5. A number below 10 is one digit. Any other has the digits of n / 10, followed by the digit of n % 10.
pub record SpellsDecimal (n : ℕ) : Type 0 where
  pub one : n < 10 → decimal n ≡ digit n ∷ []
  pub more : 10 ≤ n → decimal n ≡ decimal (n / 10) ++ (digit (n % 10) ∷ [])

-- ---- all of these

-- The theorem `promises` has this type, so that each promise has its proof.
pub record Promises : Type 0 where
  pub lists_all : ListsAll
  pub lists_rule : ListsRule
  pub groups : (row : List ℕ) → Groups row
  pub shows_answers : ShowsAnswers
  pub lists_by_rows : ListsByRows
  pub preview_listed : PreviewListed
  pub listed_alike : ListedAlike
  pub pattern_listed : (i : ℕ) (p : Pattern) → PatternListed i p
  pub spells_decimal : (n : ℕ) → SpellsDecimal n
