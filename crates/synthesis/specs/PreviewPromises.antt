-- What this crate promises of the rule page, as statements over the definitions; proofs/ has a theorem of each of these types. They
-- are in the terms of the contracts of `count_preview`, `fill_preview`, `count` and `fill`; those that name the desk rest on `LimitsAgree` of specs/LimitPromises.antt.
use Rattle.std.specs.Prelude.{ℕ, ◌*◌, ◌≤◌, ◌<◌, ◌≡◌, ◌↔◌, List, [], length}
use Rattle.reading.specs.Rule.{Rule, Bytes}
use Rattle.reading.specs.File.{Outcome, accepted, rule_of, refused}
use Rattle.synthesis.specs.Violation.{ViolatesRule}
use Rattle.synthesis.specs.Monitor.{mark, most, row_of}
use Rattle.synthesis.specs.Building.{Synthesis, synthesis_of, filling_of, counted_of, table_after, table_left, Fills}
use Rattle.synthesis.specs.Building.{preview_limit, preview_of, preview_filling_of}
use Rattle.synthesis.specs.Promises.{FillsAsCounted, TableUnchanged, Closed}

-- ---- what the page shows

-- 1. The page answers n exactly where the desk does and n is at most 32.
abbrev pub PreviewCounts : Type 0
PreviewCounts = (s : List ℕ) (n : ℕ) → (counted_of (preview_of s) ≡ accepted n) ↔ ((counted_of (synthesis_of most s) ≡ accepted n) × (n ≤ preview_limit))

-- Filling on the page goes by this count, as it does at the desk by the desk's.
abbrev pub PreviewFillsAsCounted : Type 0
PreviewFillsAsCounted = (s : List ℕ) (capacity : ℕ) → FillsAsCounted (preview_of s) (preview_filling_of s capacity) capacity

-- Where the page answers n, both fillings answer the same for every table and leave the very same table. Two tables, each with the entries of n rows, get
-- the same rows from the two, however long they are and whatever they held.
pub record SameAtDesk (s : List ℕ) (n : ℕ) : Type 0 where
  pub count : counted_of (synthesis_of most s) ≡ accepted n
  pub answer : (capacity : ℕ) → counted_of (preview_filling_of s capacity) ≡ counted_of (filling_of most s capacity)
  pub table : (before : List ℕ) → table_after mark (preview_filling_of s (length before)) before ≡ table_left most mark s before
  pub rows : (table table' : List ℕ) → 256 * n ≤ length table → 256 * n ≤ length table' → (k : ℕ) → k < n
      → row_of 256 (table_after mark (preview_filling_of s (length table)) table) k ≡ row_of 256 (table_left most mark s table') k

abbrev pub PreviewAgrees : Type 0
PreviewAgrees = (s : List ℕ) (n : ℕ) → counted_of (preview_of s) ≡ accepted n → SameAtDesk s n

-- So each table that the page fills is one that the desk fills, and what is promised of those is promised of it.
abbrev pub PreviewFillsAccepted : Type 0
PreviewFillsAccepted =
    (s table : List ℕ) (n : ℕ) → Bytes s → counted_of (preview_filling_of s (length table)) ≡ accepted n
    → (r : Rule) × Fills most mark s table r n (table_after mark (preview_filling_of s (length table)) table)

-- ---- what the page refuses

-- The file is a rule, the empty list doesn't violate it, and over `limit` equations are reached: no list of so few sets that has the first equation is closed
-- under the codes.
pub record OverLimit (limit : ℕ) (s : List ℕ) : Type 0 where
  pub rule : Rule
  pub is : rule_of s ≡ accepted rule
  pub not_by_empty : ViolatesRule rule [] → ⊥
  pub none_closed : (es : List ℕ) → length es ≤ limit → Closed rule es → ⊥

-- 2. Counting on the page answers 18 exactly there, at place 0; and so does filling, since it is refused where counting is, and else with 10 alone.
abbrev pub PreviewRefusesTooMany : Type 0
PreviewRefusesTooMany =
    (s : List ℕ) (place : ℕ) → Bytes s → (counted_of (preview_of s) ≡ refused 18 place) ↔ ((place ≡ 0) × OverLimit preview_limit s)

-- The page never answers 9, in counting or in filling, and a refusal other than 18 is the desk's too, with the same place.
pub record RefusesAsDesk (page desk : Outcome Synthesis) : Type 0 where
  pub never_nine : (place : ℕ) → counted_of page ≡ refused 9 place → ⊥
  pub others : (number place : ℕ) → (number ≡ 18 → ⊥) → counted_of page ≡ refused number place → counted_of desk ≡ refused number place

-- In counting, the desk's refusals are the page's as well, with 18 for 9. In filling, a refusal other than 18 leaves the table that the desk leaves.
pub record PreviewRefusals (s : List ℕ) : Type 0 where
  pub counting : RefusesAsDesk (preview_of s) (synthesis_of most s)
  pub nine_at_desk : (place : ℕ) → counted_of (synthesis_of most s) ≡ refused 9 place → counted_of (preview_of s) ≡ refused 18 place
  pub other_at_desk : (number place : ℕ) → (number ≡ 9 → ⊥) → counted_of (synthesis_of most s) ≡ refused number place
      → counted_of (preview_of s) ≡ refused number place
  pub filling : (capacity : ℕ) → RefusesAsDesk (preview_filling_of s capacity) (filling_of most s capacity)
  pub table : (before : List ℕ) (number place : ℕ) → (number ≡ 18 → ⊥) → counted_of (preview_filling_of s (length before)) ≡ refused number place
      → table_after mark (preview_filling_of s (length before)) before ≡ table_left most mark s before

abbrev pub PreviewRefuses : Type 0
PreviewRefuses = (s : List ℕ) → PreviewRefusals s

-- A filling that is refused leaves every entry of the table as it was.
abbrev pub PreviewRefusedUnchanged : Type 0
PreviewRefusedUnchanged =
    (s table : List ℕ) (number place : ℕ) → counted_of (preview_filling_of s (length table)) ≡ refused number place
    → TableUnchanged mark table (preview_filling_of s (length table))

-- 3. What the desk answers with a count and the page refuses, the page refuses with 18 at place 0, and the count is over 32.
abbrev pub MoreAtDesk : (page desk : Outcome Synthesis) → Type 0
MoreAtDesk page desk =
    (n number place : ℕ) → counted_of desk ≡ accepted n → counted_of page ≡ refused number place → (number ≡ 18) × (place ≡ 0) × (preview_limit < n)

abbrev pub DeskShowsMore : Type 0
DeskShowsMore =
    (s : List ℕ) → MoreAtDesk (preview_of s) (synthesis_of most s) × ((capacity : ℕ) → MoreAtDesk (preview_filling_of s capacity) (filling_of most s capacity))

-- ---- all of these

-- The theorem `preview_promises` has this type, so that each promise has its proof.
pub record PreviewPromises : Type 0 where
  pub preview_counts : PreviewCounts
  pub preview_fills_as_counted : PreviewFillsAsCounted
  pub preview_agrees : PreviewAgrees
  pub preview_fills_accepted : PreviewFillsAccepted
  pub preview_refuses_too_many : PreviewRefusesTooMany
  pub preview_refuses : PreviewRefuses
  pub preview_refused_unchanged : PreviewRefusedUnchanged
  pub desk_shows_more : DeskShowsMore
