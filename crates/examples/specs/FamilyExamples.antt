-- The paper's two families of rules, by how many equations they have. A chain of necessities has one for each of its nodes. A window over the last m codes
-- has one for each way in which these were 5 or not: with m = 7 they are the most that the programs take, with m = 9 the library
-- still takes them, and with m = 10 they are too many for it.
use Rattle.std.specs.Prelude.{ℕ, zero, suc, ◌*◌, ◌≤◌, ◌<◌, ◌≡◌, List, [], ◌∷◌, length, get_or}
use Rattle.reading.specs.Rule.{Formula, truth, both, necessity, max, variable, Rule}
use Rattle.synthesis.specs.Monitor.{mark, most, dropped, next, row_of, lookup}
use Rattle.synthesis.specs.Building.{synthesis_of, counted_of, table_left}
use Rattle.examples.specs.Examples.{pattern, rule, ReadAs, pool_file}
use Rattle.examples.specs.RefusalExamples.{times}
use Rattle.reading.specs.File.{accepted, refused}

-- n times "after a code of pattern 0", then tt
unfoldable pub chain : (n : ℕ) → Formula
chain zero = truth
chain (suc n) = necessity 0 (chain n)

-- The paper: 1 255 0 31, then n times 5 0, then 2. Pattern 0 covers every code.
abbrev pub chain_file : (n : ℕ) → List ℕ
chain_file n = 1 ∷ 255 ∷ 0 ∷ 31 ∷ times n (5 ∷ 0 ∷ []) (2 ∷ [])

abbrev pub chain_rule : (n : ℕ) → Rule
chain_rule n = rule (pattern 255 0 31 ∷ []) (chain n)

-- The paper: max of both "after any code, the variable" and "after code 5, then m times after any code, then tt".
abbrev pub window_file : (m : ℕ) → List ℕ
window_file m = 1 ∷ 255 ∷ 0 ∷ 31 ∷ 1 ∷ 1 ∷ 5 ∷ 5 ∷ 6 ∷ 4 ∷ 5 ∷ 0 ∷ 7 ∷ 0 ∷ 5 ∷ 1 ∷ times m (5 ∷ 0 ∷ []) (2 ∷ [])

abbrev pub window_rule : (m : ℕ) → Rule
window_rule m = rule (pattern 255 0 31 ∷ pattern 1 5 5 ∷ []) (max (both (necessity 0 (variable 0)) (necessity 1 (chain m))))

-- Some entry of a table with 256 rows is 255. With `mark` for dropped it means equation 255, whose row is there; with 255 it would mean dropped.
pub record Stands255 (table : List ℕ) : Type 0 where
  pub equation : ℕ
  pub code : ℕ
  pub inside : (equation < 256) × (code < 256)
  pub entry : get_or (row_of 256 table equation) code 0 ≡ 255
  pub means : lookup 256 mark table equation code ≡ next 255
  pub has_row : length (row_of 256 table 255) ≡ 256
  pub by_old_mark : lookup 256 255 table equation code ≡ dropped

pub record FamilyExamples : Type 0 where
  -- n = 63 gives 64 equations, and every smaller n one more than n; n = 64 is `node_65` of specs/RefusalExamples.antt
  pub chains : (n : ℕ) → n ≤ 63 → ReadAs (chain_file n) (chain_rule n) (accepted (suc n))
  -- m = 7 gives 128 equations, and under a limit of 128 too
  pub window_7 : ReadAs (window_file 7) (window_rule 7) (accepted 128)
  pub window_7_within : counted_of (synthesis_of 128 (window_file 7)) ≡ accepted 128
  -- m = 8 gives 256, and 9 under a limit of 128
  pub window_8 : ReadAs (window_file 8) (window_rule 8) (accepted 256)
  pub window_8_within : counted_of (synthesis_of 128 (window_file 8)) ≡ refused 9 0
  -- an entry that is 255 means equation 255
  pub window_8_entry : (table : List ℕ) → 256 * 256 ≤ length table → Stands255 (table_left most mark (window_file 8) table)
  -- m = 9 gives 512, m = 10 gives 9
  pub window_9 : ReadAs (window_file 9) (window_rule 9) (accepted 512)
  pub window_10 : ReadAs (window_file 10) (window_rule 10) (refused 9 0)
  -- under a limit of 0 the number-pool rule is 9, as every rule is that isn't refused before
  pub pool_within_0 : counted_of (synthesis_of 0 pool_file) ≡ refused 9 0
