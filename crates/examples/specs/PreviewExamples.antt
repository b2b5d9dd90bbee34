-- The rule page beside the desk, by files of the paper: what it shows, what it refuses with 18, and what it refuses as the desk does.
use Rattle.std.specs.Prelude.{ℕ, ◌*◌, ◌≤◌, ◌≡◌, List, [], ◌∷◌, length}
use Rattle.synthesis.specs.Monitor.{mark, most}
use Rattle.synthesis.specs.Building.{synthesis_of, filling_of, counted_of, table_after, preview_of, preview_filling_of}
use Rattle.examples.specs.Examples.{pool_file, PoolTable}
use Rattle.examples.specs.TableExamples.{Needs}
use Rattle.examples.specs.FamilyExamples.{chain_file, window_file}
use Rattle.reading.specs.File.{accepted, refused}

-- The page and the desk count n equations, and the page fills a table that has the entries for them. With fewer it is 10 at 0.
pub record ShownOnPage (s : List ℕ) (n : ℕ) : Type 0 where
  pub page : counted_of (preview_of s) ≡ accepted n
  pub filling : Needs (preview_filling_of s) (256 * n) n
  pub desk : counted_of (synthesis_of most s) ≡ accepted n

-- On the page the file is refused so, in counting, and in filling with any table, also an empty one.
pub record RefusedOnPage (s : List ℕ) (number place : ℕ) : Type 0 where
  pub counting : counted_of (preview_of s) ≡ refused number place
  pub filling : (capacity : ℕ) → counted_of (preview_filling_of s capacity) ≡ refused number place

-- The desk counts n equations and fills a table that has the entries for them; on the page the file is 18 at 0.
pub record ShownAtDeskOnly (s : List ℕ) (n : ℕ) : Type 0 where
  pub desk : counted_of (synthesis_of most s) ≡ accepted n
  pub filling : Needs (filling_of most s) (256 * n) n
  pub page : RefusedOnPage s 18 0

pub record PreviewExamples : Type 0 where
  -- 32 equations are the most that the page shows, in 8192 entries
  pub chain_31 : ShownOnPage (chain_file 31) 32
  -- 33, in 8448 entries at the desk
  pub chain_32 : ShownAtDeskOnly (chain_file 32) 33
  pub chain_63 : ShownAtDeskOnly (chain_file 63) 64
  -- a node too many comes before 18
  pub chain_64 : RefusedOnPage (chain_file 64) 4 132
  -- what the programs take at most, what only the library takes, and what is 9 there
  pub window_7 : ShownAtDeskOnly (window_file 7) 128
  pub window_9 : ShownAtDeskOnly (window_file 9) 512
  pub window_10 : RefusedOnPage (window_file 10) 18 0
  -- the number-pool rule: its count, and of the page's table the rows and the listing that the paper prints
  pub pool : ShownOnPage pool_file 3
  pub pool_table : (table : List ℕ) → 768 ≤ length table → PoolTable (table_after mark (preview_filling_of pool_file (length table)) table)
  -- the empty file, 6 7 0, and 3: as at the desk
  pub empty : RefusedOnPage [] 1 0
  pub not_guarded : RefusedOnPage (6 ∷ 7 ∷ 0 ∷ []) 7 1
  pub falsity_alone : RefusedOnPage (3 ∷ []) 8 0
