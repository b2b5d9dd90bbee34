use Rattle.reading.proofs.Basics.ByteLaws.{slice_bytes}
use Rattle.synthesis.proofs.Functions.Exits.{passed}
use Rattle.synthesis.proofs.Functions.PlanLaws.{unread, read, read_some, unsatisfiable_refused, many_refused, planned}
use Rattle.synthesis.proofs.plan_of.Goals as goal

pub returns-in_err-numbered : goal.returns-in_err-numbered
returns-in_err-numbered c = passed _ _ _ _ c.from_residual.ensures.1 (unread _ _ c.in_err-numbered.ensures)

pub of_rule-graph-requires : goal.of_rule-graph-requires
of_rule-graph-requires c =
    let s = c.args.rule.now in
    read_some (read s (slice_bytes s c.type_inv.rule) _ c.in_ok-numbered.ensures)

pub returns-then-graph-ne0 : goal.returns-then-graph-ne0
returns-then-graph-ne0 c =
    let s = c.args.rule.now in
    let rule = read s (slice_bytes s c.type_inv.rule) _ c.in_ok-numbered.ensures in
    rw c.at.ensures (unsatisfiable_refused rule c.of_rule-graph.ensures _ c.if-graph-ne0.true)

pub returns-in_err-search : goal.returns-in_err-search
returns-in_err-search c =
    let s = c.args.rule.now in
    let rule = read s (slice_bytes s c.type_inv.rule) _ c.in_ok-numbered.ensures in
    let (refused, many) = c.in_err-search.ensures in
    passed _ _ _ _ c.from_residual-in_err-search.ensures.1 (rw refused (many_refused rule c.of_rule-graph.ensures _ c.if-graph-ne0.false many))

pub returns : goal.returns
returns c =
    let s = c.args.rule.now in
    let rule = read s (slice_bytes s c.type_inv.rule) _ c.in_ok-numbered.ensures in
    let (few, small) = c.len-count.ensures.within in
    planned rule c.of_rule-graph.ensures _ c.if-graph-ne0.false c.in_ok-search.ensures c.len-count.ensures.value few small
