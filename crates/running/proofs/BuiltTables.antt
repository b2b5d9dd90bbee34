-- No call on a well-formed table is unfit, since a run on it stays inside it; and both fillings leave one.
use lib.ListN.{length}
use Rattle.synthesis.proofs.Tables.WellFormedTables.{same_rows_well_formed}
use Rattle.synthesis.proofs.Tables.Built.{built_well_formed}
use Rattle.synthesis.proofs.Quotients.ShortFillings.{short_in_range}
use Rattle.running.specs.Promises.{NeverUnfit, ShortNeverUnfit, WellFormedNotUnfit}
use Rattle.running.proofs.Refusals.{runs_on_tables}
use Rattle.running.proofs.Histories.{one_run}

pub well_formed_not_unfit : WellFormedNotUnfit
well_formed_not_unfit limit mark n table wf h calls c on refusal =
    let inside = (one_run limit mark n table wf h calls).inside in
    ((runs_on_tables limit mark c.table c.count h.state c.scans (length c.output) (length c.verdicts)).unfit.0 refusal).2
    (rw on.same_count (same_rows_well_formed wf c.table on.same_rows, inside))

pub never_unfit : NeverUnfit
never_unfit limit mark s table r n left b = well_formed_not_unfit limit mark n left (built_well_formed limit mark s table r n left b)

pub short_never_unfit : ShortNeverUnfit
short_never_unfit limit mark s table r n left b = well_formed_not_unfit limit mark n left (short_in_range limit mark s table r n left b)
