-- Rules on duty: files, tables and the day are computed. That the tables monitor their rules, wherever they stand, is what filling promises.
use Prim.Native.Nat.{ℕ, ◌*◌, ◌≤◌}
use mathlib.Core.Path.{◌≡◌, refl}
use mathlib.Core.Logic.{inl}
use mathlib.Core.Bool.{false}
use mathlib.Core.List.{List, [], ◌∷◌}
use native.Mathlib.Omega.{arith}
use lib.ListN.{length, replicate, drop}
use Rattle.reading.specs.Pattern.{bit, covers}
use Rattle.reading.specs.Rule.{Rule, Bytes}
use Rattle.reading.specs.File.{accepted, records_at, formula_at, formula_of, rule_of}
use Rattle.synthesis.specs.Monitor.{mark, most, row_of, Monitors, lookup}
use Rattle.synthesis.specs.Answering.{first_of, answer_of, unsatisfiable}
use Rattle.synthesis.specs.Search.{explored, found}
use Rattle.synthesis.specs.Table.{entries_of, rows, filled}
use Rattle.synthesis.specs.Building.{equations_of, synthesis_of, filling_of, table_left, Fills}
use Rattle.running.specs.Lists.{any, all, filter}
use Rattle.running.specs.Running.{is_well_formed, fits}
use Rattle.running.specs.Duty.{in_places, are_distinct, coming_of, going_of, duty_run_of}
use Rattle.running.specs.SpellPromises.{FilledInPlace, OrderlyDay}
use Rattle.running.proofs.FilledInPlace.{fills_for_duty}
use Rattle.examples.specs.DutyExamples.{hold_file, hold_rule, race_file, race_rule, note_file, note_rule, hold_rows, race_rows, note_rows, lent}
use Rattle.examples.specs.DutyExamples.{comings, morning, day, DutyDay, DutyRefusals, DutyExamples}
use Rattle.examples.proofs.FileAnswers.{reads, reads_fills}

-- ---- the files

-- what filling leaves of a file whose rule has so many equations
pub fills : (s : List ℕ) (r : Rule) → rule_of s ≡ accepted r → unsatisfiable r ≡ false → Bytes s → (n : ℕ) → length (equations_of most r) ≡ n → n ≤ most
    → (table : List ℕ) → 256 * n ≤ length table → Fills most mark s table r n (table_left most mark s table)
fills s r read satisfiable bytes n count few table room =
    reads_fills s r n (rw count at (reads s r read satisfiable (equations_of most r) refl (omega arith))) bytes table room

hold_filled : table_left most mark hold_file (replicate 512 0) ≡ hold_rows
unfolding records_at formula_at formula_of rule_of first_of answer_of unsatisfiable explored found entries_of rows filled equations_of synthesis_of filling_of bit covers
hold_filled = refl

race_filled : table_left most mark race_file (replicate 512 0) ≡ race_rows
unfolding records_at formula_at formula_of rule_of first_of answer_of unsatisfiable explored found entries_of rows filled equations_of synthesis_of filling_of bit covers
race_filled = refl

note_filled : table_left most mark note_file (replicate 256 0) ≡ note_rows
unfolding records_at formula_at formula_of rule_of first_of answer_of unsatisfiable explored found entries_of rows filled equations_of synthesis_of filling_of bit covers
note_filled = refl

-- each in a table of its own
hold_fills : Fills most mark hold_file (replicate 512 0) hold_rule 2 hold_rows
unfolding records_at formula_at formula_of rule_of first_of answer_of unsatisfiable explored found equations_of bit covers
hold_fills = rw hold_filled at (fills hold_file hold_rule refl refl (search arith) 2 refl (omega arith) (replicate 512 0) (omega arith))

race_fills : Fills most mark race_file (replicate 512 0) race_rule 2 race_rows
unfolding records_at formula_at formula_of rule_of first_of answer_of unsatisfiable explored found equations_of bit covers
race_fills = rw race_filled at (fills race_file race_rule refl refl (search arith) 2 refl (omega arith) (replicate 512 0) (omega arith))

note_fills : Fills most mark note_file (replicate 256 0) note_rule 1 note_rows
unfolding records_at formula_at formula_of rule_of first_of answer_of unsatisfiable explored found equations_of bit covers
note_fills = rw note_filled at (fills note_file note_rule refl refl (search arith) 1 refl (omega arith) (replicate 256 0) (omega arith))

-- ---- the monitors

pub hold_in_place : FilledInPlace most mark (replicate 512 0) 0 hold_rule 2 hold_rows
hold_in_place = fills_for_duty most mark hold_file (replicate 512 0) 0 hold_rule 2 hold_rows (omega arith) (inl hold_fills)

pub race_in_place : FilledInPlace most mark (replicate 512 0) 0 race_rule 2 race_rows
race_in_place = fills_for_duty most mark race_file (replicate 512 0) 0 race_rule 2 race_rows (omega arith) (inl race_fills)

pub note_in_place : FilledInPlace most mark (replicate 256 0) 0 note_rule 1 note_rows
note_in_place = fills_for_duty most mark note_file (replicate 256 0) 0 note_rule 1 note_rows (omega arith) (inl note_fills)

-- with the rows in what is lent
pub hold_monitors : Monitors hold_rule (lookup 256 mark (drop 0 lent)) 0
hold_monitors = (hold_in_place.rows 0 lent refl).1

pub race_monitors : Monitors race_rule (lookup 256 mark (drop 512 lent)) 0
race_monitors = (race_in_place.rows 512 lent refl).1

pub note_monitors : Monitors note_rule (lookup 256 mark (drop 1024 lent)) 0
note_monitors = (note_in_place.rows 1024 lent refl).1

-- ---- the day

pub morning_bytes : Bytes morning
morning_bytes = search arith

noon_bytes : Bytes (64 ∷ 0 ∷ [])
noon_bytes = search arith

pub orderly_comings : OrderlyDay most mark comings
orderly_comings = (inl hold_monitors, (inl race_monitors, tt))

orderly_day : OrderlyDay most mark day
unfolding row_of any all filter is_well_formed fits in_places are_distinct coming_of going_of duty_run_of
orderly_day = (
  inl hold_monitors,
  (
    inl race_monitors,
    (
      inl (morning_bytes, (refl, (refl, tt))),
      (inl tt, (inl (noon_bytes, (refl, tt)), (inl race_monitors, (inl (noon_bytes, (refl, (refl, tt))), tt)))),
    ),
  ),
)

duty_day : DutyDay
unfolding row_of any all filter is_well_formed fits in_places are_distinct coming_of going_of duty_run_of
duty_day = record {
  nobody_yet = refl;
  hold_filled = hold_filled;
  race_filled = race_filled;
  note_filled = note_filled;
  came = refl;
  at_noon = refl;
  judged = refl;
  gone = refl;
  at_night = refl;
  all_judged = refl;
  spells = refl;
  over = refl;
  orderly = orderly_day;
}

-- ---- refusals

duty_refusals : DutyRefusals
unfolding row_of any all filter is_well_formed fits in_places are_distinct coming_of going_of duty_run_of
duty_refusals = record {
  fourth = refl;
  fifth = refl;
  fifth_known = refl;
  five = refl;
  five_go = refl;
  five_run = refl;
  three = refl;
  known = refl;
  twice = refl;
  twice_run = refl;
  known_first = refl;
  no_equations = refl;
  no_second_row = refl;
  at_end = refl;
  behind_end = refl;
  absent = refl;
  nobody_goes = refl;
  short_first = refl;
  second_unfit = refl;
  nobody_on_duty = refl;
}

pub duty_examples : DutyExamples
duty_examples = record { day = duty_day; refusals = duty_refusals }
