-- The join of rules on duty: what is filled, run and kept is computed, and each call of the longer day is orderly or refused.
use mathlib.Core.Path.{◌≡◌, refl}
use mathlib.Core.Logic.{inl, inr}
use mathlib.Core.List.{[], ◌∷◌}
use native.Mathlib.Omega.{arith}
use lib.ListN.{replicate}
use Rattle.reading.specs.Pattern.{bit, covers}
use Rattle.reading.specs.Rule.{encode}
use Rattle.reading.specs.File.{refused, records_at, formula_at, formula_of, rule_of}
use Rattle.synthesis.specs.Monitor.{mark, most, row_of}
use Rattle.synthesis.specs.Answering.{first_of, answer_of, unsatisfiable}
use Rattle.synthesis.specs.Search.{explored, found}
use Rattle.synthesis.specs.Table.{entries_of, rows, filled}
use Rattle.synthesis.specs.Building.{equations_of, synthesis_of, filling_of, table_left, Fills}
use Rattle.synthesis.specs.Joined.{joined}
use Rattle.running.specs.Lists.{any, all, filter}
use Rattle.running.specs.Running.{is_well_formed, fits, run_of}
use Rattle.running.specs.Duty.{in_places, are_distinct, coming_of, going_of, duty_run_of}
use Rattle.running.specs.SpellPromises.{OrderlyDay, JoinDay}
use Rattle.examples.specs.FamilyExamples.{chain, chain_rule}
use Rattle.examples.specs.DutyExamples.{hold_rule, race_rule, comings, morning, run_over}
use Rattle.examples.specs.DutyJoinExamples.{both_file, DutyJoin, earlier, LongDay, Needed, DutyJoinExamples}
use Rattle.examples.proofs.FamilyExamples.{family_examples}
use Rattle.examples.proofs.DutyExamples.{fills, hold_in_place, race_in_place, note_in_place, hold_monitors, race_monitors, note_monitors}
use Rattle.examples.proofs.DutyExamples.{morning_bytes, orderly_comings}

-- ---- two rules

both_fills : Fills most mark both_file (replicate 1024 0) (joined hold_rule (race_rule ∷ [])) 4 (table_left most mark both_file (replicate 1024 0))
unfolding records_at formula_at formula_of rule_of first_of answer_of unsatisfiable explored found equations_of bit covers
both_fills = fills both_file (joined hold_rule (race_rule ∷ [])) refl refl (search arith) 4 refl (omega arith) (replicate 1024 0) (omega arith)

join_day : JoinDay most mark comings (run_over morning ∷ []) hold_rule (race_rule ∷ [])
unfolding row_of any all filter is_well_formed fits in_places are_distinct coming_of going_of duty_run_of
join_day = record {
  orderly = orderly_comings;
  none_kept = (refl, (refl, tt));
  rules = refl;
  well_formed = (hold_in_place.rule, (race_in_place.rule, tt));
  quiet = ((inl (morning_bytes, (refl, (refl, tt))), tt), tt);
}

duty_join : DutyJoin
unfolding records_at formula_at formula_of rule_of first_of answer_of unsatisfiable explored found entries_of rows filled equations_of synthesis_of filling_of bit covers row_of all is_well_formed fits run_of
duty_join = record { join = both_fills; one_run = refl; join_day = join_day }

-- ---- a longer day

orderly_earlier : OrderlyDay most mark earlier
unfolding row_of any all filter is_well_formed fits in_places are_distinct coming_of going_of duty_run_of
orderly_earlier = (
  inl hold_monitors,
  (
    inl (search arith, (refl, tt)),
    (
      inl tt,
      (
        inl (search arith, tt),
        (
          inl note_monitors,
          (inl (search arith, (refl, tt)), (inl hold_monitors, (inr (20, 0, refl), (inl race_monitors, (inr (21, 0, refl), tt))))),
        ),
      ),
    ),
  ),
)

long_day : LongDay
unfolding row_of any all filter is_well_formed fits in_places are_distinct coming_of going_of duty_run_of
long_day = record {
  judged = refl;
  on_duty_lem = refl;
  join_day = record {
    orderly = orderly_earlier;
    none_kept = (refl, (refl, (refl, tt)));
    rules = refl;
    well_formed = (note_in_place.rule, (hold_in_place.rule, (race_in_place.rule, tt)));
    quiet = (
      (inl (search arith, (refl, (refl, (refl, tt)))), tt),
      (
        (inr (20, 0, refl), (20, 0, refl)),
        ((inr (21, 0, refl), (21, 0, refl)), ((inl (search arith, (refl, (refl, (refl, tt)))), tt), tt)),
      ),
    );
  };
}

-- ---- what is supposed is needed

join_refused : rule_of (encode (joined (chain_rule 40) (chain_rule 40 ∷ []))) ≡ refused 4 134
unfolding records_at formula_at formula_of rule_of chain
join_refused = refl

needed : Needed
unfolding records_at formula_at formula_of rule_of first_of answer_of unsatisfiable explored found entries_of rows filled equations_of synthesis_of filling_of bit covers row_of any all filter is_well_formed fits in_places are_distinct coming_of going_of duty_run_of
needed = record {
  kept_between = refl;
  kept_by_join = refl;
  other_rows = refl;
  chain_accepted = family_examples.chains 40 (omega arith);
  join_refused = join_refused;
}

pub duty_join_examples : DutyJoinExamples
duty_join_examples = record { join = duty_join; long_day = long_day; needed = needed }
