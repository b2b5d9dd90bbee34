-- The paper's examples as one statement over the definitions of all layers, in the paper's order and words. The stars in the comments are
-- the paper's; a row without one has none there.
use Rattle.std.specs.Prelude.{ℕ, ◌*◌, ◌≤◌, ◌<◌, ◌≡◌, ◌⊎◌, true, false, List, [], ◌∷◌, ◌++◌, map, length, drop, replicate, Some}
use Rattle.reading.specs.Pattern.{code_of, kind_of, slot_of, issue, cancel, collect, deliver, sync, return, note, handover, extent_of}
use Rattle.reading.specs.Rule.{Formula, truth, falsity, both, necessity, max, variable, Rule}
use Rattle.reading.specs.Rule.{pattern_kind, truth_kind, falsity_kind, both_kind, necessity_kind, max_kind, variable_kind}
use Rattle.models.specs.Phone.{states_kind, code_step_kind, silent_step_kind}
use Rattle.reading.specs.File.{Outcome, accepted, refused, rule_of}
use Rattle.reading.specs.declared.Pattern.{Pattern}
use Rattle.reading.specs.declared.Extent.{Extent}
use Rattle.synthesis.specs.Monitor.{mark, most, row_of}
use Rattle.synthesis.specs.Building.{synthesis_of, filling_of, counted_of, table_left}
use Rattle.running.specs.Running.{start, moved, Run, run_of, checked_of, result_of, output_after, verdicts_after}
use Rattle.listing.specs.Text.{text, decimal}
use Rattle.listing.specs.Lines.{refusal_line, judgment_line, listing}

-- ---- shorter to write

abbrev pub pattern : (mask first last : ℕ) → Pattern
pattern mask first last = record { mask = mask; first = first; last = last }

-- of a pattern that covers some code
abbrev pub extent : (low count : ℕ) → Extent
extent low count = record { lowest = Some low; count = count }

abbrev pub rule : List Pattern → Formula → Rule
rule patterns formula = record { patterns = patterns; formula = formula }

-- ---- scans

-- a kind has this number; with a slot it makes this code, which gives both back
abbrev pub IsKind : (kind number slot code : ℕ) → Type 0
IsKind kind number slot code = (kind ≡ number) × (code_of kind slot ≡ code) × (kind_of code ≡ kind) × (slot_of code ≡ slot)

-- the eight kinds by the paper's numbers; issue, cancel and sync by scans of the number-pool rule
pub record Codes : Type 0 where
  pub issues : IsKind issue 0 5 5
  pub cancels : IsKind cancel 1 5 37
  pub collects : IsKind collect 2 31 95
  pub delivers : IsKind deliver 3 5 101
  pub syncs : IsKind sync 4 0 128
  pub returns : IsKind return 5 31 191
  pub notes : IsKind note 6 0 192
  pub handovers : IsKind handover 7 31 255

-- ---- records

-- the kind bytes of the records of rule files and of model files, by the paper's numbers
pub record KindBytes : Type 0 where
  pub patterns : pattern_kind ≡ 1
  pub plain_nodes : (truth_kind ≡ 2) × (falsity_kind ≡ 3) × (both_kind ≡ 4) × (max_kind ≡ 6)
  pub nodes_with_body : (necessity_kind ≡ 5) × (variable_kind ≡ 7)
  pub steps : (states_kind ≡ 16) × (code_step_kind ≡ 17) × (silent_step_kind ≡ 18)

-- ---- what is said of a file

-- the entries of a table that an answer needs: 256 for each equation, and none for a refusal
abbrev pub entries_for : Outcome ℕ → ℕ
entries_for (accepted n) = 256 * n
entries_for (refused number place) = 0

-- Counting answers so, and filling too with every table that has the entries for it. So a refused file is refused by its own number with any table.
pub record CountedAs (s : List ℕ) (answer : Outcome ℕ) : Type 0 where
  pub counting : counted_of (synthesis_of most s) ≡ answer
  pub filling : (capacity : ℕ) → entries_for answer ≤ capacity → counted_of (filling_of most s capacity) ≡ answer

-- reading refuses the file, and so do counting and filling
pub record Refuses (s : List ℕ) (number place : ℕ) : Type 0 where
  pub reading : rule_of s ≡ refused number place
  pub answers : CountedAs s (refused number place)

-- reading accepts the file as this rule, and counting and filling answer so
pub record ReadAs (s : List ℕ) (r : Rule) (answer : Outcome ℕ) : Type 0 where
  pub reading : rule_of s ≡ accepted r
  pub answers : CountedAs s answer

-- ---- the number-pool rule

abbrev pub pool_file : List ℕ
pool_file = 1 ∷ 2 ∷ 5 ∷ 5 ∷ 1 ∷ 1 ∷ 5 ∷ 5 ∷ 1 ∷ 16 ∷ 0 ∷ 31 ∷ 6 ∷ 5 ∷ 0 ∷ 4 ∷ 5 ∷ 1 ∷ 3 ∷ 5 ∷ 2 ∷ 7 ∷ 0 ∷ []

abbrev pub pool_rule : Rule
pool_rule =
    rule (pattern 2 5 5 ∷ pattern 1 5 5 ∷ pattern 16 0 31 ∷ [])
    (max (necessity 0 (both (necessity 1 falsity) (necessity 2 (variable 0)))))

-- its bytes say this rule, which has 3 equations; and the lowest code and the count of each of its patterns
pub record NumberPool : Type 0 where
  pub file : ReadAs pool_file pool_rule (accepted 3)
  pub extents : map extent_of pool_rule.patterns ≡ extent 37 1 ∷ extent 5 1 ∷ extent 128 32 ∷ []

-- what `equations` prints
abbrev pub pool_listing : List ℕ
pool_listing =
    text "patterns 3\n"
    ++ text "p 0 37 1\n"
    ++ text "p 1 5 1\n"
    ++ text "p 2 128 32\n"
    ++ text "equations 3\n"
    ++ text "0 0 36 1\n"
    ++ text "0 37 37 2\n"
    ++ text "0 38 255 1\n"
    ++ text "1 0 255 1\n"
    ++ text "2 0 4 1\n"
    ++ text "2 5 5 drop\n"
    ++ text "2 6 127 1\n"
    ++ text "2 128 159 0\n"
    ++ text "2 160 255 1\n"

-- its rows, in a table
pub record PoolRows (table : List ℕ) : Type 0 where
  -- a cancel of slot 5 goes to equation 2, any other scan to equation 1
  pub row_0 : row_of 256 table 0 ≡ replicate 37 1 ++ 2 ∷ replicate 218 1
  -- the empty set, which passes everything
  pub row_1 : row_of 256 table 1 ≡ replicate 256 1
  -- an issue of 5 is dropped, a sync starts the rule again, and any other scan ends it
  pub row_2 : row_of 256 table 2 ≡ replicate 5 1 ++ 65535 ∷ replicate 122 1 ++ replicate 32 0 ++ replicate 96 1

-- a table that filling leaves of it
pub record PoolTable (table : List ℕ) : Type 0 where
  pub rows : PoolRows table
  pub listed : listing (map extent_of pool_rule.patterns) 3 table ≡ pool_listing

-- ---- what is printed

pub record Texts : Type 0 where
  pub refusal : refusal_line 7 12 ≡ text "refused 7 at 12\n"
  pub meets : judgment_line true ≡ text "meets\n"
  pub breaks : judgment_line false ≡ text "breaks\n"
  -- not in the paper: numbers of one digit and of more
  pub one_digit : decimal 0 ≡ text "0"
  pub two_digits : decimal 10 ≡ text "10"
  pub four_digits : decimal 4096 ≡ text "4096"

-- ---- small files

pub record SmallFiles : Type 0 where
  -- * empty: 1 at 0
  pub empty : Refuses [] 1 0
  -- * 2: one equation, every entry 0
  pub truth_alone : ReadAs (2 ∷ []) (rule [] truth) (accepted 1)
  pub truth_entries : (table : List ℕ) → 256 ≤ length table → row_of 256 (table_left most mark (2 ∷ []) table) 0 ≡ replicate 256 0
  -- * 3: 8 at 0
  pub falsity_alone : ReadAs (3 ∷ []) (rule [] falsity) (refused 8 0)
  -- * 2 2: 3 at 1
  pub byte_after : Refuses (2 ∷ 2 ∷ []) 3 1
  -- * 0: 2 at 0
  pub no_kind : Refuses (0 ∷ []) 2 0
  -- * 7 0: 6 at 0
  pub no_max_lem : Refuses (7 ∷ 0 ∷ []) 6 0
  -- * 6 7 0: 7 at 1
  pub not_guarded : Refuses (6 ∷ 7 ∷ 0 ∷ []) 7 1
  -- * 5 0 2: 6 at 0
  pub no_pattern_lem : Refuses (5 ∷ 0 ∷ 2 ∷ []) 6 0
  -- * 1 1 5 5: 1 at 4
  pub no_formula : Refuses (1 ∷ 1 ∷ 5 ∷ 5 ∷ []) 1 4
  -- * 1 1 6 5 2: 5 at 0 in the paper. C-12 changed this row: it is accepted, and covers 32 codes from 0 on
  pub first_over_last : ReadAs (1 ∷ 1 ∷ 6 ∷ 5 ∷ 2 ∷ []) (rule (pattern 1 6 5 ∷ []) truth) (accepted 1)
  pub first_over_last_extent : extent_of (pattern 1 6 5) ≡ extent 0 32
  -- * 1 1 31 31 2: accepted, lowest 31
  pub last_slot : ReadAs (1 ∷ 1 ∷ 31 ∷ 31 ∷ 2 ∷ []) (rule (pattern 1 31 31 ∷ []) truth) (accepted 1)
  pub last_slot_lowest : (extent_of (pattern 1 31 31)).lowest ≡ Some 31

-- ---- a run

-- * Scans 37 5 128 5 37 5 under the number-pool rule: verdicts 0 1 0 0 0 0.
abbrev pub pool_scans : List ℕ
pool_scans = 37 ∷ 5 ∷ 128 ∷ 5 ∷ 37 ∷ 5 ∷ []

abbrev pub pool_run : Run
pool_run = record {
  state = moved start 1;
  kept = 37 ∷ 128 ∷ 5 ∷ 37 ∷ 5 ∷ [];
  verdicts = 0 ∷ 1 ∷ 0 ∷ 0 ∷ 0 ∷ 0 ∷ [];
}

-- The outcome is this run: what it hands back, and what it leaves in an output and in verdicts.
pub record RunsPool (outcome : Outcome Run) : Type 0 where
  pub accepts : outcome ≡ accepted pool_run
  pub handed_back_lem : result_of start outcome ≡ record { checked = accepted tt; state = moved start 1; kept = 5; dropped = 1 }
  pub ends_in : (result_of start outcome).state.equation ≡ 1
  pub output : (bytes : List ℕ) → output_after outcome bytes ≡ 37 ∷ 128 ∷ 5 ∷ 37 ∷ 5 ∷ drop 5 bytes
  pub verdicts : (bytes : List ℕ) → verdicts_after outcome bytes ≡ 0 ∷ 1 ∷ 0 ∷ 0 ∷ 0 ∷ 0 ∷ drop 6 bytes

-- These scans from the start, over a table of 3 equations, with an output and verdicts of any sizes. Under 6 bytes: 15 at 0.
pub record PoolScans (table : List ℕ) : Type 0 where
  pub enough : (output verdicts : ℕ) → 6 ≤ output → 6 ≤ verdicts → RunsPool (run_of most mark table 3 start pool_scans output verdicts)
  pub short : (output verdicts : ℕ) → (output < 6) ⊎ (verdicts < 6)
      → checked_of (run_of most mark table 3 start pool_scans output verdicts) ≡ refused 15 0

-- ---- all of them

pub record PaperExamples : Type 0 where
  pub codes : Codes
  pub kind_bytes : KindBytes
  pub number_pool : NumberPool
  pub pool_table : (table : List ℕ) → 768 ≤ length table → PoolTable (table_left most mark pool_file table)
  pub texts : Texts
  pub small_files : SmallFiles
  pub pool_scans_lem : (table : List ℕ) → 768 ≤ length table → PoolScans (table_left most mark pool_file table)
