-- Each return is the reading of what the file says.
use Rattle.reading.proofs.Basics.Results.{passed_up}
use Rattle.reading.proofs.Functions.Ways.{head_refused, formula_refused, rest_few, end_refused, end_accepted}
use Rattle.reading.proofs.read_rule.Goals as goal

pub returns-in_err-head : goal.returns-in_err-head
returns-in_err-head c = passed_up _ _ c.from_residual.ensures.1 (head_refused _ c.in_err-head.ensures)

pub returns-in_err-rest : goal.returns-in_err-rest
returns-in_err-rest c =
    passed_up _ _ c.from_residual-in_err-rest.ensures.1
    (formula_refused _ _ c.in_ok-head.ensures _ (rw c.outermost-scope.ensures at c.in_err-rest.ensures))

pub returns-then-rest-bytes : goal.returns-then-rest-bytes
returns-then-rest-bytes c =
    rw c.at.ensures (end_refused _ _ c.in_ok-head.ensures _ _ (rw c.outermost-scope.ensures at c.in_ok-rest.ensures) c.if-rest-bytes.true)

pub overflow_sub-result : goal.overflow_sub-result
overflow_sub-result c = rest_few _ _ c.in_ok-head.ensures _ _ (rw c.outermost-scope.ensures at c.in_ok-rest.ensures)

pub returns : goal.returns
returns c = end_accepted _ _ c.in_ok-head.ensures _ _ (rw c.outermost-scope.ensures at c.in_ok-rest.ensures) c.if-rest-bytes.false
