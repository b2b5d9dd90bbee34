-- Each promise on a day of rules on duty, by its theorem.
use Rattle.running.specs.SpellPromises.{SpellPromises}
use Rattle.running.proofs.Days.{tells_runs, may_happen}
use Rattle.running.proofs.DutyDays.{spells_on_duty}
use Rattle.running.proofs.FilledInPlace.{fills_for_duty}
use Rattle.running.proofs.SpellDays.{stands_by_spell, duty_drops_exactly, on_duty-never_unfit, spells_safe}
use Rattle.running.proofs.DutyMonitors.{duty_monitors}
use Rattle.running.proofs.JoinedDays.{join_sifts, joins_as_one, joins_however}

pub spell_promises : SpellPromises
spell_promises = record {
  spells_on_duty = spells_on_duty;
  tells_runs = tells_runs;
  may_happen = may_happen;
  fills_for_duty = fills_for_duty;
  stands_by_spell = stands_by_spell;
  duty_drops_exactly = duty_drops_exactly;
  on_duty-never_unfit = on_duty-never_unfit;
  spells_safe = spells_safe;
  duty_monitors = duty_monitors;
  join_sifts = join_sifts;
  joins_as_one = joins_as_one;
  joins_however = joins_however;
}
