-- Each return is a row of what judging answers and leaves.
use Rattle.std.proofs.Common.{ℕ, min, ◌≤◌, refl, arith}
use Rattle.reading.proofs.Basics.ByteLaws.{slice_bytes}
use Rattle.reading.proofs.Basics.Results.{passed_up}
use Rattle.synthesis.specs.Monitor.{most}
use Rattle.models.proofs.Files.ReadModels.{model_read}
use Rattle.models.proofs.Judgments.Judgment.{judges_rule_refused, rule_leaves, judges_model_refused, both_accepted}
use Rattle.models.proofs.Judgments.Judgment.{model_steps, table_well_formed, judges_meets, judges_breaks}
use Rattle.models.proofs.judge_within.Goals as goal

capped : (limit : ℕ) → min limit most ≤ most
capped limit = omega arith

-- ---- one of the two is refused

pub returns-in_err-count_to_fill-in-Err : goal.returns-in_err-count_to_fill-in-Err
returns-in_err-count_to_fill-in-Err c =
    let x = c.args in
    let judged =
    judges_rule_refused (min x.limit most) (capped x.limit) x.rule.now x.table.now x.model.now c.in_err-count_to_fill-in-Err.ensures
    (passed_up _ _ c.from_residual.ensures.1 refl) in
    record { judged_as = judged.0; table_after = judged.1 }

pub returns-in-Err : goal.returns-in-Err
returns-in-Err c =
    let x = c.args in
    let judged =
    judges_model_refused (min x.limit most) (capped x.limit) x.rule.now x.table.now x.model.now c.in_ok-count_to_fill-in-Err.ensures c.in-Err.ensures refl in
    record { judged_as = judged.0; table_after = judged.1 }

pub returns-in_err-fill_within : goal.returns-in_err-fill_within
returns-in_err-fill_within c =
    let x = c.args in
    let judged =
    rule_leaves (min x.limit most) (capped x.limit) x.rule.now x.table.now x.model.now c.in_err-fill_within.ensures.value
    (passed_up _ _ c.from_residual-in_err-fill_within.ensures.1 refl) c.in_err-fill_within.ensures.table_after in
    record { judged_as = judged.0; table_after = judged.1 }

-- ---- both are accepted

pub steps-requires : goal.steps-requires
steps-requires c = (model_read _ (slice_bytes c.args.model.now c.type_inv.model) c.in-Ok.ensures).has

pub never_drops-requires : goal.never_drops-requires
never_drops-requires c =
    let x = c.args in
    let a =
    both_accepted (min x.limit most) (capped x.limit) x.rule.now x.table.now x.model.now (slice_bytes x.rule.now c.type_inv.rule)
    (slice_bytes x.model.now c.type_inv.model) c.in-Ok.ensures c.in_ok-fill_within.ensures.value c.in_ok-fill_within.ensures.table_after in
    (model_steps _ (capped x.limit) _ _ _ a c.steps.ensures, table_well_formed _ (capped x.limit) _ _ _ a)

pub returns-then-never_drops : goal.returns-then-never_drops
returns-then-never_drops c =
    let x = c.args in
    let a =
    both_accepted (min x.limit most) (capped x.limit) x.rule.now x.table.now x.model.now (slice_bytes x.rule.now c.type_inv.rule)
    (slice_bytes x.model.now c.type_inv.model) c.in-Ok.ensures c.in_ok-fill_within.ensures.value c.in_ok-fill_within.ensures.table_after in
    let judged = judges_meets _ (capped x.limit) _ _ _ a c.steps.ensures c.never_drops.ensures c.if-never_drops.true in
    record { judged_as = judged.0; table_after = judged.1 }

pub returns-else-never_drops : goal.returns-else-never_drops
returns-else-never_drops c =
    let x = c.args in
    let a =
    both_accepted (min x.limit most) (capped x.limit) x.rule.now x.table.now x.model.now (slice_bytes x.rule.now c.type_inv.rule)
    (slice_bytes x.model.now c.type_inv.model) c.in-Ok.ensures c.in_ok-fill_within.ensures.value c.in_ok-fill_within.ensures.table_after in
    let judged = judges_breaks _ (capped x.limit) _ _ _ a c.steps.ensures c.never_drops.ensures c.if-never_drops.false in
    record { judged_as = judged.0; table_after = judged.1 }
