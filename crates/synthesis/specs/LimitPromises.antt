-- What this crate promises of two limits on equations and of two marks for dropped; proofs/ has a theorem of each of these types. The library has the limit
-- `most`, the programs 128, and the rule page 32. Before C-19 a table had bytes for entries, the mark was 255, and the limit 128.
use Rattle.std.specs.Prelude.{ℕ, ◌≤◌, ◌<◌, ◌≡◌, ◌↔◌, ◌⊎◌, List, length}
use Rattle.reading.specs.Rule.{Rule, Bytes}
use Rattle.reading.specs.File.{Outcome, accepted, refused, and_then}
use Rattle.synthesis.specs.Monitor.{kept, verdicts, ended, lookup}
use Rattle.synthesis.specs.Building.{Synthesis, within_limit, synthesis_of, filling_of, short_of, short_filling_of, counted_of, table_after, FillsBy}

-- ---- two limits

-- 1. The shared result, for any file. Under the smaller limit it has the outcome that it has under the larger, and then 9 where its equations are over
-- the smaller. So what the smaller accepts the larger accepts, with the same rule, equations and answers; each refusal
-- of the larger is one of the smaller, 9 too; and each of the smaller but 9 is one of the larger. A table too is filled alike, or refused alike, where the
-- smaller accepts the file.
pub record AgreeOn (limit limit' : ℕ) (s : List ℕ) : Type 0 where
  pub by_limit : synthesis_of limit s ≡ and_then (synthesis_of limit' s) (within_limit limit)
  pub accepts : (y : Synthesis) → synthesis_of limit s ≡ accepted y → synthesis_of limit' s ≡ accepted y
  pub others : (number place : ℕ) → (number ≡ 9 → ⊥) → synthesis_of limit s ≡ refused number place → synthesis_of limit' s ≡ refused number place
  pub refuses : (number place : ℕ) → synthesis_of limit' s ≡ refused number place → synthesis_of limit s ≡ refused number place
  pub fills : (y : Synthesis) → synthesis_of limit s ≡ accepted y → (capacity : ℕ) → filling_of limit s capacity ≡ filling_of limit' s capacity

abbrev pub LimitsAgree : Type 0
LimitsAgree = (limit limit' : ℕ) (s : List ℕ) → limit ≤ limit' → AgreeOn limit limit' s

-- 2. The answers under two limits, the second no smaller. A file is counted under the first exactly where it has that count under the second and this is up to
-- the first limit; by the short table it then has the same count, too. A refusal other than 9 is the same under both. Refused with 9 under the first is what
-- has a count over that limit under the second, and what is refused with 9 there as well. With 128 and `most` this says which files get another answer by C-19.
pub record Stays (limit limit' : ℕ) (s : List ℕ) : Type 0 where
  pub counted : (n : ℕ) → (counted_of (synthesis_of limit s) ≡ accepted n) ↔ ((counted_of (synthesis_of limit' s) ≡ accepted n) × (n ≤ limit))
  pub short_counted : (m : ℕ) → counted_of (short_of limit s) ≡ accepted m → counted_of (short_of limit' s) ≡ accepted m
  pub others : (number place : ℕ) → (number ≡ 9 → ⊥)
      → (counted_of (synthesis_of limit s) ≡ refused number place) ↔ (counted_of (synthesis_of limit' s) ≡ refused number place)
  pub nine : (place : ℕ) → counted_of (synthesis_of limit s) ≡ refused 9 place
      → ((n : ℕ) × (limit < n) × (counted_of (synthesis_of limit' s) ≡ accepted n)) ⊎ (counted_of (synthesis_of limit' s) ≡ refused 9 place)
  pub over : (n : ℕ) → limit < n → counted_of (synthesis_of limit' s) ≡ accepted n → counted_of (synthesis_of limit s) ≡ refused 9 0
  pub still_nine : (place : ℕ) → counted_of (synthesis_of limit' s) ≡ refused 9 place → counted_of (synthesis_of limit s) ≡ refused 9 place

abbrev pub OldRulesStay : Type 0
OldRulesStay = (limit limit' : ℕ) (s : List ℕ) → limit ≤ limit' → Stays limit limit' s

-- A file that fills a table under a limit fills it under every larger one up to the mark, as the same rule and with the same rows.
abbrev pub FillMore : (outcome_of : (limit : ℕ) → List ℕ → (capacity : ℕ) → Outcome Synthesis) → Type 0
FillMore outcome_of =
    (limit limit' mark : ℕ) (s table : List ℕ) (r : Rule) (n : ℕ) (left : List ℕ) → limit ≤ limit' → limit' ≤ mark
    → FillsBy outcome_of limit mark s table r n left → FillsBy outcome_of limit' mark s table r n left

-- ---- two marks

-- Two tables, each with its mark, mean the same in their first n rows: each entry of the one means what that of the other means, an equation or dropped.
-- So runs over lists of bytes from any of these rows keep, judge and end alike.
pub record SameMeaning (n mark mark' : ℕ) (left left' : List ℕ) : Type 0 where
  pub rows : (k c : ℕ) → k < n → c < 256 → lookup 256 mark left k c ≡ lookup 256 mark' left' k c
  pub keeps : (k : ℕ) (w : List ℕ) → k < n → Bytes w → kept (lookup 256 mark left) k w ≡ kept (lookup 256 mark' left') k w
  pub judges : (k : ℕ) (w : List ℕ) → k < n → Bytes w → verdicts (lookup 256 mark left) k w ≡ verdicts (lookup 256 mark' left') k w
  pub ends : (k : ℕ) (w : List ℕ) → k < n → Bytes w → ended (lookup 256 mark left) k w ≡ ended (lookup 256 mark' left') k w

-- 3. Any two limits and marks, each limit not over its mark, and any two tables lent: where both fillings answer a file with a count, the counts are the same,
-- and each row means the same.
abbrev pub MeanTheSame : (outcome_of : (limit : ℕ) → List ℕ → (capacity : ℕ) → Outcome Synthesis) → Type 0
MeanTheSame outcome_of =
    (limit mark limit' mark' : ℕ) (s table table' : List ℕ) (n n' : ℕ) → limit ≤ mark → limit' ≤ mark'
    → counted_of (outcome_of limit s (length table)) ≡ accepted n → counted_of (outcome_of limit' s (length table')) ≡ accepted n'
    → (n ≡ n') × SameMeaning n mark mark' (table_after mark (outcome_of limit s (length table)) table) (table_after mark' (outcome_of limit' s (length table')) table')

-- With 128 and 255 on the one side, and `most` and `mark` on the other, this is the sentence of C-19: for every rule of the old size each row means the same as
-- before. By `OldRulesStay` these are all the rules that had a count.
abbrev pub RowsMeanTheSame : Type 0
RowsMeanTheSame = MeanTheSame filling_of

abbrev pub ShortRowsMeanTheSame : Type 0
ShortRowsMeanTheSame = MeanTheSame short_filling_of

-- ---- all of these

-- The theorem `limit_promises` has this type, so that each promise has its proof.
pub record LimitPromises : Type 0 where
  pub limits_agree : LimitsAgree
  pub old_rules_stay : OldRulesStay
  pub fills_more : FillMore filling_of
  pub short_fills_more : FillMore short_filling_of
  pub rows_mean_the_same : RowsMeanTheSame
  pub short_rows_mean_the_same : ShortRowsMeanTheSame
