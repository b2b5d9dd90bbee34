-- Each promise of this crate, by its theorem.
use Rattle.boundary.specs.Promises.{Promises}
use Rattle.boundary.proofs.KeptValue.{kept_is_no_node}
use Rattle.boundary.proofs.Told.{tells_counts, tells_reason, tells_judgment, tells_match, tells_run}

pub promises : Promises
promises = record {
  tells_counts = tells_counts;
  kept_is_no_node = kept_is_no_node;
  tells_reason = tells_reason;
  tells_judgment = tells_judgment;
  tells_match = tells_match;
  tells_run = tells_run;
}
