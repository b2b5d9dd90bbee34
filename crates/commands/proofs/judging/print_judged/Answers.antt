-- The answer is that of `judge_within`, with a table in which all rows fit.
use Rattle.std.proofs.Common.{length, arith}
use Rattle.reading.proofs.Basics.ByteLaws.{slice_bytes}
use Rattle.models.proofs.Judgments.JudgingOrder.{judging_within_lem}
use Rattle.commands.specs.Printing.{program_limit}
use Rattle.commands.proofs.judging.print_judged.Goals as goal

pub returns-clause-bytes : goal.returns-clause-bytes
returns-clause-bytes g c = (slice_bytes c.args.rule.now c.type_inv.rule, slice_bytes c.args.model.now c.type_inv.model)

pub returns-clause-judges_files : goal.returns-clause-judges_files
returns-clause-judges_files g c =
    let x = c.args in
    let same = judging_within_lem program_limit x.rule.now (length x.table.now) (omega arith) x.model.now in
    rw same at c.judge_within-answer.ensures.judged_as
