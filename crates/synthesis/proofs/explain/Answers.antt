use Rattle.std.proofs.Common.{ap, ◌∙◌}
use Rattle.reading.specs.File.{accepted}
use Rattle.reading.proofs.Basics.ByteLaws.{slice_bytes}
use Rattle.reading.proofs.Basics.Results.{passed_up}
use Rattle.synthesis.proofs.Functions.ExplainingWays.{refused_reason, dropped_reason, kept_reason}
use Rattle.synthesis.proofs.explain.Goals as goal

pub returns-in_err-plan : goal.returns-in_err-plan
returns-in_err-plan c = passed_up _ _ c.from_residual.ensures.1 (refused_reason c.args.rule.now c.args.kept.now c.args.scan (rw c.new-equations.ensures at c.in_err-plan.ensures))

pub returns-in_err-e : goal.returns-in_err-e
returns-in_err-e c =
    let x = c.args in
    passed_up _ _ c.from_residual-in_err-e.ensures.1
    (dropped_reason x.rule.now x.kept.now x.scan (slice_bytes x.kept.now c.type_inv.kept) _ (rw c.new-equations.ensures at c.in_ok-plan.ensures) c.in_err-e.ensures)

pub returns : goal.returns
returns c =
    let x = c.args in
    ap accepted c.lowest.ensures
    ∙ kept_reason x.rule.now x.kept.now x.scan (slice_bytes x.kept.now c.type_inv.kept) _ (rw c.new-equations.ensures at c.in_ok-plan.ensures) _ c.in_ok-e.ensures
    c.ranges.scan.fits _ c.reached-reached.ensures
