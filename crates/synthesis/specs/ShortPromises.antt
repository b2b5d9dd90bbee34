-- What this crate promises of the short table, as statements over the definitions; proofs/ has a theorem of each of these types. The limit on equations
-- and the mark for dropped are any, the limit up to the mark; with `most` and `mark` these are the terms of the contracts of `count`, `fill`,
-- `count_short` and `fill_short`.
use Rattle.std.specs.Prelude.{ℕ, ◌≤◌, ◌<◌, ◌≡◌, ◌↔◌, List, length}
use Rattle.reading.specs.Rule.{Rule, Bytes}
use Rattle.reading.specs.File.{accepted, rule_of, refused}
use Rattle.synthesis.specs.Monitor.{kept, verdicts, Monitors, row_of, lookup}
use Rattle.synthesis.specs.Table.{WellFormedTable}
use Rattle.synthesis.specs.Merging.{DropAlike, tabulate}
use Rattle.synthesis.specs.Building.{Synthesis, synthesis_of, short_of, short_filling_of, counted_of, table_after, Fills, FillsShort}
use Rattle.synthesis.specs.Promises.{FillsAsCounted, DropsViolations, AsFound, SameAfterRows, TableUnchanged}

-- ---- answers

-- 1. Counting for the short table is refused with a number and a place exactly when counting is. Else its count is at least 1 and at most that of the
-- long table.
pub record RefusesAlike (limit : ℕ) (s : List ℕ) : Type 0 where
  pub refused : (number place : ℕ) → (counted_of (short_of limit s) ≡ refused number place) ↔ (counted_of (synthesis_of limit s) ≡ refused number place)
  pub counted : (n : ℕ) → counted_of (synthesis_of limit s) ≡ accepted n → (m : ℕ) × (counted_of (short_of limit s) ≡ accepted m) × (1 ≤ m) × (m ≤ n)

abbrev pub ShortRefusesAlike : Type 0
ShortRefusesAlike = (limit : ℕ) (s : List ℕ) → RefusesAlike limit s

-- Filling goes by this count, as it does for the long table by the other.
abbrev pub ShortFillsAsCounted : Type 0
ShortFillsAsCounted = (limit : ℕ) (s : List ℕ) (capacity : ℕ) → FillsAsCounted (short_of limit s) (short_filling_of limit s capacity) capacity

-- A filling that is refused leaves every entry of the table as it was.
abbrev pub ShortRefusedUnchanged : Type 0
ShortRefusedUnchanged =
    (limit mark : ℕ) (s table : List ℕ) (number place : ℕ) → counted_of (short_filling_of limit s (length table)) ≡ refused number place
    → TableUnchanged mark table (short_filling_of limit s (length table))

-- Where it answers a list of bytes with a count, the file fills the table.
abbrev pub ShortFillsAccepted : Type 0
ShortFillsAccepted =
    (limit mark : ℕ) (s table : List ℕ) (n : ℕ) → limit ≤ mark → Bytes s → counted_of (short_filling_of limit s (length table)) ≡ accepted n
    → (r : Rule) × FillsShort limit mark s table r n (table_after mark (short_filling_of limit s (length table)) table)

-- What it accepts is of the file's rule.
abbrev pub ShortOfRule : Type 0
ShortOfRule = (limit : ℕ) (s : List ℕ) (y : Synthesis) → short_of limit s ≡ accepted y → rule_of s ≡ accepted y.rule

-- ---- the short table as a monitor

-- 2. The tables that the two fillings leave drop and keep alike: from row 0, every list of bytes has the same verdicts and the same kept scans on both.
pub record RunAlike (mark : ℕ) (long short w : List ℕ) : Type 0 where
  pub verdicts_alike : verdicts (lookup 256 mark short) 0 w ≡ verdicts (lookup 256 mark long) 0 w
  pub kept_alike : kept (lookup 256 mark short) 0 w ≡ kept (lookup 256 mark long) 0 w

abbrev pub ShortDropsAlike : Type 0
ShortDropsAlike =
    (limit mark : ℕ) (s table : List ℕ) (r : Rule) (n : ℕ) (long : List ℕ) → Fills limit mark s table r n long
    → (table' : List ℕ) (m : ℕ) (short : List ℕ) → FillsShort limit mark s table' r m short
    → (w : List ℕ) → Bytes w → RunAlike mark long short w

-- Equations that drop alike are merged, and no others: each row of the long table drops as some row of the short one, row 0 as row 0; and no two rows of the
-- short one drop alike.
pub record MergesRows (mark n : ℕ) (long : List ℕ) (m : ℕ) (short : List ℕ) : Type 0 where
  pub start : DropAlike 256 (lookup 256 mark long) 0 (lookup 256 mark short) 0
  pub each : (k : ℕ) → k < n → (i : ℕ) × (i < m) × DropAlike 256 (lookup 256 mark long) k (lookup 256 mark short) i
  pub apart : (i j : ℕ) → i < m → j < m → DropAlike 256 (lookup 256 mark short) i (lookup 256 mark short) j → i ≡ j

abbrev pub ShortMerges : Type 0
ShortMerges =
    (limit mark : ℕ) (s table : List ℕ) (r : Rule) (n : ℕ) (long : List ℕ) → Fills limit mark s table r n long
    → (table' : List ℕ) (m : ℕ) (short : List ℕ) → FillsShort limit mark s table' r m short → MergesRows mark n long m short

-- 3. The short table monitors the rule, and so it drops exactly what would violate it.
abbrev pub ShortMonitors : Type 0
ShortMonitors =
    (limit mark : ℕ) (s table : List ℕ) (r : Rule) (n : ℕ) (left : List ℕ) → FillsShort limit mark s table r n left
    → Monitors r (lookup 256 mark left) 0

abbrev pub ShortDrops : Type 0
ShortDrops =
    (limit mark : ℕ) (s table : List ℕ) (r : Rule) (n : ℕ) (left : List ℕ) → FillsShort limit mark s table r n left
    → DropsViolations r (lookup 256 mark left) 0

-- ---- none is shorter

-- 4. A rival is any table that is well formed for its rows, at least one and however many. One whose row 0 drops alike has at least as many rows as the
-- short table.
abbrev pub ShortIsMinimal : Type 0
ShortIsMinimal =
    (limit mark : ℕ) (s table : List ℕ) (r : Rule) (n : ℕ) (left : List ℕ) → FillsShort limit mark s table r n left
    → (rows : ℕ) (rival : List ℕ) → WellFormedTable rows mark rows rival → DropAlike 256 (lookup 256 mark left) 0 (lookup 256 mark rival) 0 → n ≤ rows

-- So has one that monitors the rule.
abbrev pub ShortestMonitor : Type 0
ShortestMonitor =
    (limit mark : ℕ) (s table : List ℕ) (r : Rule) (n : ℕ) (left : List ℕ) → FillsShort limit mark s table r n left
    → (rows : ℕ) (rival : List ℕ) → WellFormedTable rows mark rows rival → Monitors r (lookup 256 mark rival) 0 → n ≤ rows

-- ---- the rows and their numbers

-- the numbers below n, in order
abbrev pub numbers_below : ℕ → List ℕ
numbers_below n = tabulate (λ i. i) n

-- 5. The rows are numbered as found from row 0: to every other a code of an earlier row leads, and all that is asked before leads to smaller numbers.
abbrev pub ShortAsFound : Type 0
ShortAsFound =
    (limit mark : ℕ) (s table : List ℕ) (r : Rule) (n : ℕ) (left : List ℕ) → FillsShort limit mark s table r n left
    → AsFound 256 (lookup 256 mark left) 0 (numbers_below n)

-- So the short table is the only one: a well-formed table with as many rows, whose row 0 drops alike and whose rows are numbered as found, has the same
-- rows, entry for entry.
abbrev pub ShortIsOnly : Type 0
ShortIsOnly =
    (limit mark : ℕ) (s table : List ℕ) (r : Rule) (n : ℕ) (left : List ℕ) → FillsShort limit mark s table r n left
    → (rival : List ℕ) → WellFormedTable n mark n rival → DropAlike 256 (lookup 256 mark left) 0 (lookup 256 mark rival) 0
    → AsFound 256 (lookup 256 mark rival) 0 (numbers_below n) → (k : ℕ) → k < n → row_of 256 rival k ≡ row_of 256 left k

-- 6. The table is well formed for the short count. Behind its last row nothing changes, and it keeps its length.
abbrev pub ShortInRange : Type 0
ShortInRange =
    (limit mark : ℕ) (s table : List ℕ) (r : Rule) (n : ℕ) (left : List ℕ) → FillsShort limit mark s table r n left
    → WellFormedTable limit mark n left

abbrev pub ShortRest : Type 0
ShortRest =
    (limit mark : ℕ) (s table : List ℕ) (r : Rule) (n : ℕ) (left : List ℕ) → FillsShort limit mark s table r n left
    → SameAfterRows n table left

-- ---- all of these

-- The theorem `short_promises` has this type, so that each promise has its proof.
pub record ShortPromises : Type 0 where
  pub short_refuses_alike : ShortRefusesAlike
  pub short_fills_as_counted : ShortFillsAsCounted
  pub short_refused_unchanged : ShortRefusedUnchanged
  pub short_fills_accepted : ShortFillsAccepted
  pub short_of-rule : ShortOfRule
  pub short_drops_alike : ShortDropsAlike
  pub short_merges : ShortMerges
  pub short_monitors : ShortMonitors
  pub short_drops : ShortDrops
  pub short_is_minimal : ShortIsMinimal
  pub shortest_monitor : ShortestMonitor
  pub short_as_found : ShortAsFound
  pub short_is_only : ShortIsOnly
  pub short_in_range : ShortInRange
  pub short_rest : ShortRest
