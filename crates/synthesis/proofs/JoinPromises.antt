-- Each promise of the rule that joins rules by "both", by its theorem.
use Rattle.synthesis.specs.JoinPromises.{JoinPromises}
use Rattle.synthesis.proofs.Joins.JoinLaws.{join_well_formed, join_violates}

pub join_promises : JoinPromises
join_promises = record {
  join_well_formed = join_well_formed;
  join_violates = join_violates;
}
