-- Rules on duty. The hold rule: after a cancel no issue until a sync. The race rule, for a day with a street race: no collect right after a handover.
-- The note rule: no notes at all.
--
-- What a lazy program would do with the scans of the day: one that asks the first rule only keeps the collect 64; one that lets a dropped scan move the
-- rules that would have kept it keeps it too, since the issue 0 before it, which the hold rule drops, would take the race rule on; one that puts the
-- others back when a rule goes off, or doesn't put a rule that comes on again to its first equation, differs in the last run.
use Rattle.std.specs.Prelude.{ℕ, ◌≡◌, List, [], ◌∷◌, ◌++◌, map, length, replicate}
use Rattle.reading.specs.Rule.{falsity, both, necessity, max, variable, Rule}
use Rattle.synthesis.specs.Monitor.{mark, most}
use Rattle.synthesis.specs.Building.{table_left}
use Rattle.running.specs.Duty.{duty_of, nobody, at_start, moved_to}
use Rattle.running.specs.Spells.{Event, runs, comes, goes, Desk, new_desk, after, answered}
use Rattle.running.specs.SpellPromises.{OrderlyDay}
use Rattle.running.specs.declared.OnDuty.{OnDuty}
use Rattle.running.specs.declared.Duty.{Duty}
use Rattle.examples.specs.Examples.{pattern, rule}
use Rattle.reading.specs.File.{Outcome, accepted, refused}

-- ---- the rules

abbrev pub hold_file : List ℕ
hold_file =
    1 ∷ 255 ∷ 0 ∷ 31 ∷ 1 ∷ 2 ∷ 0 ∷ 31 ∷ 1 ∷ 1 ∷ 0 ∷ 31 ∷ 1 ∷ 239 ∷ 0 ∷ 31
    ∷ 6 ∷ 4 ∷ 5 ∷ 0 ∷ 7 ∷ 0 ∷ 5 ∷ 1 ∷ 6 ∷ 4 ∷ 5 ∷ 2 ∷ 3 ∷ 5 ∷ 3 ∷ 7 ∷ 0 ∷ []

abbrev pub hold_rule : Rule
hold_rule =
    rule (pattern 255 0 31 ∷ pattern 2 0 31 ∷ pattern 1 0 31 ∷ pattern 239 0 31 ∷ [])
    (max (both (necessity 0 (variable 0)) (necessity 1 (max (both (necessity 2 falsity) (necessity 3 (variable 0)))))))

abbrev pub race_file : List ℕ
race_file = 1 ∷ 255 ∷ 0 ∷ 31 ∷ 1 ∷ 128 ∷ 0 ∷ 31 ∷ 1 ∷ 4 ∷ 0 ∷ 31 ∷ 6 ∷ 4 ∷ 5 ∷ 0 ∷ 7 ∷ 0 ∷ 5 ∷ 1 ∷ 5 ∷ 2 ∷ 3 ∷ []

abbrev pub race_rule : Rule
race_rule = rule (pattern 255 0 31 ∷ pattern 128 0 31 ∷ pattern 4 0 31 ∷ []) (max (both (necessity 0 (variable 0)) (necessity 1 (necessity 2 falsity))))

abbrev pub note_file : List ℕ
note_file = 1 ∷ 255 ∷ 0 ∷ 31 ∷ 1 ∷ 64 ∷ 0 ∷ 31 ∷ 6 ∷ 4 ∷ 5 ∷ 0 ∷ 7 ∷ 0 ∷ 5 ∷ 1 ∷ 3 ∷ []

abbrev pub note_rule : Rule
note_rule = rule (pattern 255 0 31 ∷ pattern 64 0 31 ∷ []) (max (both (necessity 0 (variable 0)) (necessity 1 falsity)))

-- ---- the day

-- Their rows. Hold rule: in its first equation a cancel leads to the second, in which issues are dropped and a sync leads back.
abbrev pub hold_rows : List ℕ
hold_rows =
    replicate 32 0 ++ replicate 32 1 ++ replicate 192 0
    ++ replicate 32 65535 ++ replicate 96 1 ++ replicate 32 0 ++ replicate 96 1

-- Race rule: a handover leads to the second equation, in which collects are dropped and every other code leads back.
abbrev pub race_rows : List ℕ
race_rows = replicate 224 0 ++ replicate 32 1 ++ replicate 64 0 ++ replicate 32 65535 ++ replicate 128 0 ++ replicate 32 1

-- Note rule: notes are dropped, and no code leads on.
abbrev pub note_rows : List ℕ
note_rows = replicate 192 0 ++ replicate 32 65535 ++ replicate 32 0

-- What is lent: the table of the hold rule from 0 on, that of the race rule from 512 on, that of the note rule from 1,024 on.
abbrev pub lent : List ℕ
lent = hold_rows ++ race_rows ++ note_rows

abbrev pub hold_comes : Event
hold_comes = comes (record { number = 7; tables = lent; base = 0; count = 2; rule = hold_rule })

abbrev pub race_comes : Event
race_comes = comes (record { number = 9; tables = lent; base = 512; count = 2; rule = race_rule })

abbrev pub note_comes : Event
note_comes = comes (record { number = 5; tables = lent; base = 1024; count = 1; rule = note_rule })

-- a run that lends these tables, with as many zeros for each buffer as there are scans
abbrev pub run_with : (tables scans : List ℕ) → Event
run_with tables scans = runs (record { tables = tables; scans = scans; output = replicate (length scans) 0; verdicts = replicate (length scans) 0 })

abbrev pub run_over : List ℕ → Event
run_over scans = run_with lent scans

-- The hold rule is at work after the cancel 32, and the race rule after the handover 224: the issue 0 and the collect 64 are dropped. After the sync
-- 128 both are kept.
abbrev pub morning : List ℕ
morning = 32 ∷ 224 ∷ 0 ∷ 64 ∷ 128 ∷ 0 ∷ 64 ∷ 32 ∷ 224 ∷ []

abbrev pub comings : List Event
comings = hold_comes ∷ race_comes ∷ []

-- The race rule goes off while it is at work; a collect passes, an issue is still dropped. Then the rule comes on again, last and in its first
-- equation, so that the next collect passes.
abbrev pub day : List Event
day = comings ++ (run_over morning ∷ goes 9 ∷ run_over (64 ∷ 0 ∷ []) ∷ race_comes ∷ run_over (64 ∷ 0 ∷ []) ∷ [])

-- the rules on duty, each in an equation
abbrev pub hold : (equation : ℕ) → OnDuty
hold e = moved_to (at_start 7 0 2) e

abbrev pub race : (equation : ℕ) → OnDuty
race e = moved_to (at_start 9 512 2) e

pub record DutyDay : Type 0 where
  -- the day begins with four places that no rule has
  pub nobody_yet : nobody ≡ record { rules = replicate 4 (record { number = 0; base = 0; count = 0; equation = 0 }); count = 0 }
  -- the rows are those that filling leaves
  pub hold_filled : table_left most mark hold_file (replicate 512 0) ≡ hold_rows
  pub race_filled : table_left most mark race_file (replicate 512 0) ≡ race_rows
  pub note_filled : table_left most mark note_file (replicate 256 0) ≡ note_rows
  pub came : (after most mark new_desk comings).duty ≡ duty_of (hold 0 ∷ race 0 ∷ [])
  pub at_noon : (after most mark new_desk (comings ++ (run_over morning ∷ []))).duty ≡ duty_of (hold 1 ∷ race 1 ∷ [])
  pub judged : (after most mark new_desk (comings ++ (run_over morning ∷ []))).verdicts ≡ 0 ∷ 0 ∷ 1 ∷ 1 ∷ 0 ∷ 0 ∷ 0 ∷ 0 ∷ 0 ∷ []
  pub gone : (after most mark new_desk (comings ++ (run_over morning ∷ goes 9 ∷ []))).duty ≡ duty_of (hold 1 ∷ [])
  pub at_night : (after most mark new_desk day).duty ≡ duty_of (hold 1 ∷ race 0 ∷ [])
  pub all_judged : (after most mark new_desk day).verdicts ≡ 0 ∷ 0 ∷ 1 ∷ 1 ∷ 0 ∷ 0 ∷ 0 ∷ 0 ∷ 0 ∷ 0 ∷ 1 ∷ 0 ∷ 1 ∷ []
  pub spells : map (λ s. s.kept) (after most mark new_desk day).spells
      ≡ (32 ∷ 224 ∷ 128 ∷ 0 ∷ 64 ∷ 32 ∷ 224 ∷ 64 ∷ 64 ∷ []) ∷ (64 ∷ []) ∷ []
  pub over : map (λ s. s.kept) (after most mark new_desk day).over ≡ (32 ∷ 224 ∷ 128 ∷ 0 ∷ 64 ∷ 32 ∷ 224 ∷ []) ∷ []
  -- the day is one of those that the promises on spells are about
  pub orderly : OrderlyDay most mark day

-- ---- refusals

-- a desk at which these rules are on duty, whatever else it has
abbrev pub at_desk : Duty → Desk
at_desk d = record { duty = d; spells = []; over = []; scans = []; kept = []; verdicts = [] }

-- the hold rule under this number
abbrev pub hold_as : (number : ℕ) → OnDuty
hold_as number = at_start number 0 2

abbrev pub four : List OnDuty
four = hold_as 1 ∷ hold_as 2 ∷ hold_as 3 ∷ hold_as 4 ∷ []

-- the four, and another count
abbrev pub counted : (count : ℕ) → Duty
counted n = record { rules = four; count = n }

-- a coming, under a number, with a base and a count
abbrev pub coming : (number base count : ℕ) → Event
coming number base count = comes (record { number = number; tables = lent; base = base; count = count; rule = hold_rule })

abbrev pub answer : List OnDuty → Event → Outcome Unit
answer ds e = answered most mark (at_desk (duty_of ds)) e

pub record DutyRefusals : Type 0 where
  -- four rules on one table; a fifth, also under a known number; five are an unsound state, whatever is asked
  pub fourth : answer (hold_as 1 ∷ hold_as 2 ∷ hold_as 3 ∷ []) (coming 4 0 2) ≡ accepted tt
  pub fifth : answer four (coming 5 0 2) ≡ refused 19 0
  pub fifth_known : answer four (coming 4 0 2) ≡ refused 19 0
  pub five : answered most mark (at_desk (counted 5)) (coming 6 0 2) ≡ refused 16 0
  pub five_go : answered most mark (at_desk (counted 5)) (goes 1) ≡ refused 16 0
  pub five_run : answered most mark (at_desk (counted 5)) (run_over morning) ≡ refused 16 0
  -- what stands behind the count doesn't count
  pub three : answered most mark (at_desk (counted 3)) (coming 4 0 2) ≡ accepted tt
  -- a number twice
  pub known : answer (hold_as 1 ∷ []) (coming 1 0 2) ≡ refused 20 0
  pub twice : answer (hold_as 1 ∷ hold_as 1 ∷ []) (coming 2 0 2) ≡ refused 16 0
  pub twice_run : answer (hold_as 1 ∷ hold_as 1 ∷ []) (run_over []) ≡ refused 16 0
  -- 20 comes before 16 for the table: no equations, a row more than there are, the end of what is lent, and behind it
  pub known_first : answer (hold_as 1 ∷ []) (coming 1 0 0) ≡ refused 20 0
  pub no_equations : answer [] (coming 1 0 0) ≡ refused 16 0
  pub no_second_row : answer [] (coming 1 1024 2) ≡ refused 16 0
  pub at_end : answer [] (coming 1 1280 1) ≡ refused 16 0
  pub behind_end : answer [] (coming 1 4096 1) ≡ refused 16 0
  -- nobody to go off
  pub absent : answer (hold_as 1 ∷ []) (goes 2) ≡ refused 21 0
  pub nobody_goes : answer [] (goes 0) ≡ refused 21 0
  -- a run: 15 before 16; a rule that isn't the first is looked at, too
  pub short_first : answer (hold_as 1 ∷ hold_as 1 ∷ []) (runs (record { tables = []; scans = 0 ∷ []; output = []; verdicts = [] })) ≡ refused 15 0
  pub second_unfit : answer (hold_as 1 ∷ moved_to (hold_as 2) 2 ∷ []) (run_over []) ≡ refused 16 0
  pub nobody_on_duty : answer [] (runs (record { tables = []; scans = 0 ∷ []; output = 9 ∷ []; verdicts = 9 ∷ [] })) ≡ accepted tt

pub record DutyExamples : Type 0 where
  pub day : DutyDay
  pub refusals : DutyRefusals
