-- Each promise of rules on duty, by its theorem.
use Rattle.running.specs.DutyPromises.{DutyPromises}
use Rattle.running.proofs.ComingAndGoing.{comes, goes, makes_room}
use Rattle.running.proofs.TogetherRuns.{keeps_together}
use Rattle.running.proofs.DutyRuns.{runs}
use Rattle.running.proofs.OneOnDuty.{one_on_duty}
use Rattle.running.proofs.DutyCalls.{duty_two_calls, duty_conserves, duty_refused_unchanged, duty_rest_unchanged}

pub duty_promises : DutyPromises
duty_promises = record {
  keeps_together = keeps_together;
  comes_and_goes = record { comes = comes; goes = goes; makes_room = makes_room; runs = runs };
  one_on_duty = one_on_duty;
  duty_two_calls = duty_two_calls;
  duty_conserves = duty_conserves;
  duty_refused_unchanged = duty_refused_unchanged;
  duty_rest_unchanged = duty_rest_unchanged;
}
