use Rattle.std.proofs.Common.{◌*◌, ◌≤◌, length, ◌∙◌, arith}
use Rattle.synthesis.proofs.Functions.FillingWays.{plan_filled}
use Rattle.synthesis.proofs.Functions.Exits.{passed}
use Rattle.synthesis.proofs.Functions.ShortWays.{long_well_formed, long_answers, short_planned}
use Rattle.synthesis.proofs.shortening.short_plan_of.Goals as goal

pub returns-in_err-plan : goal.returns-in_err-plan
returns-in_err-plan c = passed _ _ _ _ c.from_residual.ensures.1 (rw c.new-equations.ensures at c.in_err-plan.ensures)

pub of_table-requires : goal.of_table-requires
of_table-requires c =
    let plan = rw c.new-equations.ensures at c.in_ok-plan.ensures in
    rw plan.fills.count_is
    (long_well_formed _ plan.synthesis plan.is _ _ (omega (arith, plan.fills.few)) (plan_filled plan _ _ c.fill_table.ensures))

pub returns : goal.returns
returns c =
    let plan = rw c.new-equations.ensures at c.in_ok-plan.ensures in
    let left = plan_filled plan _ _ c.fill_table.ensures in
    let room : 256 * length plan.synthesis.equations ≤ length c.args.long.now = omega (arith, plan.fills.few) in
    let numbering = c.of_table.ensures in
    short_planned plan.is (numbering.all ∙ plan.fills.count_is)
    (rw (numbering.all, plan.fills.count_is) (long_well_formed _ plan.synthesis plan.is _ _ room left))
    (long_answers _ plan.synthesis plan.is _ _ room left) (rw (← numbering.all) at numbering.numbered)
