use Rattle.std.proofs.Common.{min}
use Rattle.synthesis.specs.Monitor.{most}
use Rattle.synthesis.specs.Building.{synthesis_of}
use Rattle.synthesis.specs.Plans.{Planned}
use Rattle.synthesis.proofs.Tables.SynthesisOutcomes.{filling_by_count}
use Rattle.synthesis.proofs.Functions.FillingWays.{refused_leaves, too_short_leaves, filled_leaves, plan_fits, plan_filled}
use Rattle.synthesis.proofs.fill_within.Goals as goal

pub returns-in_err-plan : goal.returns-in_err-plan
returns-in_err-plan c =
    let left = refused_leaves c.args.table.now (filling_by_count _ _ _) _ _ c.from_residual.ensures.1 (rw (c.new-equations.ensures, c.min.ensures) at c.in_err-plan.ensures) in
    record { value = left.value; table_after = left.table_after }

pub returns-then-table-plan : goal.returns-then-table-plan
returns-then-table-plan c =
    let plan : Planned (synthesis_of (min c.args.limit most) c.args.rule.now) _ c.in_ok-plan.plan = rw (c.new-equations.ensures, c.min.ensures) at c.in_ok-plan.ensures in
    let left = too_short_leaves c.args.table.now (filling_by_count _ _ _) plan.is plan.fills.count_is c.if-table-plan.true in
    record { value = rw c.at.ensures left.value; table_after = left.table_after }

pub fill_table-requires : goal.fill_table-requires
fill_table-requires c =
    let plan : Planned (synthesis_of (min c.args.limit most) c.args.rule.now) _ c.in_ok-plan.plan = rw (c.new-equations.ensures, c.min.ensures) at c.in_ok-plan.ensures in
    plan_fits plan _ c.if-table-plan.false

pub returns : goal.returns
returns c =
    let plan : Planned (synthesis_of (min c.args.limit most) c.args.rule.now) _ c.in_ok-plan.plan = rw (c.new-equations.ensures, c.min.ensures) at c.in_ok-plan.ensures in
    let left =
    filled_leaves c.args.table.now (filling_by_count _ _ _) plan.is plan.fills.count_is c.if-table-plan.false _
    (plan_filled plan _ _ c.fill_table.ensures) in
    record { value = left.value; table_after = left.table_after }
