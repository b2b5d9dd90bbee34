-- Each promise of this crate, by its theorem.
use Rattle.enforcement.specs.Promises.{Promises}
use Rattle.enforcement.proofs.Enforcing.{monitors_enforce, sound_satisfies}
use Rattle.enforcement.proofs.Suppressing.{runs_behind}
use Rattle.enforcement.proofs.SatisfactionLaws.{satisfies_safe, satisfied_alike}
use Rattle.enforcement.proofs.DecidedSatisfaction.{decided_satisfied}
use Rattle.enforcement.proofs.BisimulationLaws.{bisimilar_alike}
use Rattle.enforcement.proofs.Walks.{weak_walks}
use Rattle.enforcement.proofs.MonitoredAlike.{alike_bisimilar}

pub promises : Promises
promises = record {
  monitors_enforce = monitors_enforce;
  sound_satisfies = sound_satisfies;
  runs_behind = runs_behind;
  satisfies_safe = satisfies_safe;
  decided_satisfied = decided_satisfied;
  bisimilar_alike = bisimilar_alike;
  weak_walks = weak_walks;
  alike_bisimilar = alike_bisimilar;
  satisfied_alike = satisfied_alike;
}
