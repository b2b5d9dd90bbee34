-- Counting is refused, the table is too short, or it is long enough.
use Rattle.std.proofs.Common.{sym, arith}
use Rattle.reading.proofs.Basics.Results.{passed_up}
use Rattle.synthesis.proofs.Tables.SynthesisOutcomes.{fills_as_counted}
use Rattle.synthesis.proofs.Tables.Equations.{answers_count}
use Rattle.models.proofs.count_to_fill.Goals as goal

pub returns-in_err-count : goal.returns-in_err-count
returns-in_err-count c =
    passed_up _ _ c.from_residual.ensures.1 (sym ((fills_as_counted _ c.args.rule.now c.args.capacity).refused _ _ (sym c.in_err-count.ensures)))

pub overflow_mul-count : goal.overflow_mul-count
overflow_mul-count c = omega (arith, (answers_count _ c.args.rule.now c.in_ok-count.count (sym c.in_ok-count.ensures)).few)

pub returns-then-capacity-count : goal.returns-then-capacity-count
returns-then-capacity-count c =
    rw c.at.ensures (sym ((fills_as_counted _ c.args.rule.now c.args.capacity).too_short _ (sym c.in_ok-count.ensures) c.if-capacity-count.true))

pub returns : goal.returns
returns c = sym ((fills_as_counted _ c.args.rule.now c.args.capacity).enough _ (sym c.in_ok-count.ensures) c.if-capacity-count.false)
