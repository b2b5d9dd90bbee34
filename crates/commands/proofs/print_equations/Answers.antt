-- The answer is that of `fill_within`, which is that of counting, and the table the one that it leaves.
use Rattle.std.proofs.Common.{length, sym, arith}
use Rattle.reading.proofs.Basics.ByteLaws.{slice_bytes}
use Rattle.synthesis.proofs.Tables.SynthesisOutcomes.{filling_within_lem}
use Rattle.commands.specs.Printing.{program_limit}
use Rattle.commands.proofs.Printing.{reading_refused}
use Rattle.commands.proofs.print_equations.Goals as goal

pub returns-in-Ok-Ok-clause-bytes : goal.returns-in-Ok-Ok-clause-bytes
returns-in-Ok-Ok-clause-bytes g c = slice_bytes c.args.file.now c.type_inv.file

pub returns-in-Ok-Ok-clause-shows : goal.returns-in-Ok-Ok-clause-shows
returns-in-Ok-Ok-clause-shows g c =
    let x = c.args in
    let filled = c.fill_within-answer.ensures in
    let same = filling_within_lem program_limit x.file.now (length x.table.now) (omega arith) in
    record {
      answer = rw same at filled.value;
      stops = rw c.in-Ok-Ok.is-0
          (c.in-Ok-Ok.rule, sym (rw c.in-Ok-Ok.is-1 at c.read_rule.ensures), rw (← rw same at filled.table_after) c.print_listing-printed.ensures);
    }

pub returns-in-Err-default-clause-bytes : goal.returns-in-Err-default-clause-bytes
returns-in-Err-default-clause-bytes g c = slice_bytes c.args.file.now c.type_inv.file

pub returns-in-Err-default-clause-shows : goal.returns-in-Err-default-clause-shows
returns-in-Err-default-clause-shows g c =
    let x = c.args in
    let same = filling_within_lem program_limit x.file.now (length x.table.now) (omega arith) in
    record {
      answer = rw same at c.fill_within-answer.ensures.value;
      stops = rw c.in-Err-default.is-0 c.print_refusal-printed-in-Err-default.ensures;
    }

pub returns-in_default-Err-clause-bytes : goal.returns-in_default-Err-clause-bytes
returns-in_default-Err-clause-bytes g c = slice_bytes c.args.file.now c.type_inv.file

pub returns-in_default-Err-clause-shows : goal.returns-in_default-Err-clause-shows
returns-in_default-Err-clause-shows g c =
    let x = c.args in
    let same = filling_within_lem program_limit x.file.now (length x.table.now) (omega arith) in
    let answer = rw same at c.fill_within-answer.ensures.value in
    record {
      answer = answer;
      stops = reading_refused _ x.file.now _ _ c.fill_within-answer.result c.read_rule.result answer c.read_rule.ensures c.in_default-Err.is-1
          c.print_refusal-printed.ensures;
    }
