-- Rules on duty and the rule that joins them by "both". The join of the hold rule and the race rule is accepted, so their morning can be held against
-- one run on its table. A longer day has everything that may stand before and between: earlier spells, dropped scans, refused calls, more that is
-- lent.
use Rattle.std.specs.Prelude.{ℕ, ◌≡◌, List, [], ◌∷◌, ◌++◌, map, replicate}
use Rattle.reading.specs.Rule.{encode}
use Rattle.reading.specs.File.{accepted, refused, rule_of}
use Rattle.synthesis.specs.Monitor.{mark, most}
use Rattle.synthesis.specs.Building.{table_left, Fills}
use Rattle.synthesis.specs.Joined.{joined}
use Rattle.running.specs.Running.{start, moved, run_from, run_of}
use Rattle.running.specs.Duty.{on_duty}
use Rattle.running.specs.Spells.{Event, goes, new_desk, after}
use Rattle.running.specs.SpellPromises.{JoinDay}
use Rattle.examples.specs.Examples.{ReadAs}
use Rattle.examples.specs.FamilyExamples.{chain_file, chain_rule}
use Rattle.examples.specs.DutyExamples.{hold_rule, race_rule, note_rule, lent, hold_comes, race_comes, note_comes, run_with, run_over, morning, comings}

-- ---- two rules

-- both of them; the patterns of the race rule have numbers 4 to 6 here
abbrev pub both_file : List ℕ
both_file =
    1 ∷ 255 ∷ 0 ∷ 31 ∷ 1 ∷ 2 ∷ 0 ∷ 31 ∷ 1 ∷ 1 ∷ 0 ∷ 31 ∷ 1 ∷ 239 ∷ 0 ∷ 31 ∷ 1 ∷ 255 ∷ 0 ∷ 31 ∷ 1 ∷ 128 ∷ 0 ∷ 31 ∷ 1 ∷ 4 ∷ 0 ∷ 31
    ∷ 4 ∷ 6 ∷ 4 ∷ 5 ∷ 0 ∷ 7 ∷ 0 ∷ 5 ∷ 1 ∷ 6 ∷ 4 ∷ 5 ∷ 2 ∷ 3 ∷ 5 ∷ 3 ∷ 7 ∷ 0 ∷ 6 ∷ 4 ∷ 5 ∷ 4 ∷ 7 ∷ 0 ∷ 5 ∷ 5 ∷ 5 ∷ 6 ∷ 3 ∷ []

pub record DutyJoin : Type 0 where
  pub join : Fills most mark both_file (replicate 1024 0) (joined hold_rule (race_rule ∷ [])) 4 (table_left most mark both_file (replicate 1024 0))
  pub one_run : run_of most mark (table_left most mark both_file (replicate 1024 0)) 4 start morning 9 9
      ≡ accepted (record {
        state = moved start 3;
        kept = 32 ∷ 224 ∷ 128 ∷ 0 ∷ 64 ∷ 32 ∷ 224 ∷ [];
        verdicts = 0 ∷ 0 ∷ 1 ∷ 1 ∷ 0 ∷ 0 ∷ 0 ∷ 0 ∷ 0 ∷ [];
      })
  -- the morning is one of those that the promises on joined rules are about
  pub join_day : JoinDay most mark comings (run_over morning ∷ []) hold_rule (race_rule ∷ [])

-- ---- a longer day

-- Earlier the hold rule was on duty, with a kept scan, and nobody, with two. Then the note rule comes on, drops a note, and the two others come on; a
-- rule under a known number is refused, and so is a going of one that isn't on duty.
abbrev pub earlier : List Event
earlier =
    hold_comes ∷ run_over (32 ∷ []) ∷ goes 7 ∷ run_over (192 ∷ 0 ∷ [])
    ∷ note_comes ∷ run_over (192 ∷ []) ∷ hold_comes ∷ hold_comes ∷ race_comes ∷ goes 8 ∷ []

-- More is lent, and a coming and a going are refused. All three rules drop a scan.
abbrev pub later : List Event
later = run_with (lent ++ (7 ∷ [])) (32 ∷ 224 ∷ 192 ∷ []) ∷ race_comes ∷ goes 8 ∷ run_over (0 ∷ 64 ∷ 128 ∷ []) ∷ []

pub record LongDay : Type 0 where
  pub judged : (after most mark new_desk (earlier ++ later)).verdicts ≡ 0 ∷ 0 ∷ 0 ∷ 1 ∷ 0 ∷ 0 ∷ 1 ∷ 1 ∷ 1 ∷ 0 ∷ []
  pub on_duty_lem : map (λ d. d.number) (on_duty (after most mark new_desk (earlier ++ later)).duty) ≡ 5 ∷ 7 ∷ 9 ∷ []
  pub join_day : JoinDay most mark earlier later note_rule (hold_rule ∷ race_rule ∷ [])

-- ---- what is supposed is needed

-- the verdicts of the join's table from the start over these scans
abbrev pub join_verdicts : List ℕ → List ℕ
join_verdicts scans = (run_from mark (table_left most mark both_file (replicate 1024 0)) start scans).verdicts

pub record Needed : Type 0 where
  -- Where a scan was kept between the comings, the issue 0 is dropped on duty, and the join keeps it from its start.
  pub kept_between : (after most mark new_desk (hold_comes ∷ run_over (32 ∷ []) ∷ race_comes ∷ run_over (0 ∷ []) ∷ [])).verdicts ≡ 0 ∷ 1 ∷ []
  pub kept_by_join : join_verdicts (0 ∷ []) ≡ 0 ∷ []
  -- Where a run lends other rows, it follows them: the issue that the hold rule forbids is kept.
  pub other_rows : (after most mark new_desk (hold_comes ∷ run_over (32 ∷ []) ∷ run_with (replicate 512 0) (0 ∷ []) ∷ [])).verdicts ≡ 0 ∷ 0 ∷ []
  -- Two rules of 41 nodes are accepted, and a file with their join has a 65th node.
  pub chain_accepted : ReadAs (chain_file 40) (chain_rule 40) (accepted 41)
  pub join_refused : rule_of (encode (joined (chain_rule 40) (chain_rule 40 ∷ []))) ≡ refused 4 134

pub record DutyJoinExamples : Type 0 where
  pub join : DutyJoin
  pub long_day : LongDay
  pub needed : Needed
