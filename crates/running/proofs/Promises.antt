-- Each promise of this crate, by its theorem.
use Rattle.running.specs.Promises.{Promises}
use Rattle.running.proofs.DemandTwo.{drops_exactly, short_drops_exactly, monitors_sift}
use Rattle.running.proofs.SiftingAlike.{sifted_alike, rules_drop_alike}
use Rattle.running.proofs.Joining.{two_calls}
use Rattle.running.proofs.Conservation.{conserves, calls_conserve}
use Rattle.running.proofs.Refusals.{runs_on_tables}
use Rattle.running.proofs.BuiltTables.{never_unfit, short_never_unfit, well_formed_not_unfit}
use Rattle.running.proofs.Leaving.{refused_unchanged, rest_unchanged}
use Rattle.running.proofs.Reasons.{reasons_of_runs, short_reasons_of_runs, reasons_by_state}

pub promises : Promises
promises = record {
  drops_exactly = drops_exactly;
  short_drops_exactly = short_drops_exactly;
  monitors_sift = monitors_sift;
  two_calls = two_calls;
  conserves = conserves;
  calls_conserve = calls_conserve;
  runs_on_tables = runs_on_tables;
  never_unfit = never_unfit;
  short_never_unfit = short_never_unfit;
  well_formed_not_unfit = well_formed_not_unfit;
  refused_unchanged = refused_unchanged;
  rest_unchanged = rest_unchanged;
  reasons_of_runs = reasons_of_runs;
  short_reasons_of_runs = short_reasons_of_runs;
  reasons_by_state = reasons_by_state;
  sifted_alike = sifted_alike;
  rules_drop_alike = rules_drop_alike;
}
