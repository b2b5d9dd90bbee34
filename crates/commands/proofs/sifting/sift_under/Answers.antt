-- The calls are on the table that filling leaves; after a refusal there are none.
use Rattle.std.proofs.Common.{length, sym, subst, arith}
use Rattle.reading.proofs.Basics.ByteLaws.{slice_bytes}
use Rattle.synthesis.specs.Monitor.{mark, most}
use Rattle.synthesis.specs.Building.{synthesis_of}
use Rattle.synthesis.specs.Table.{WellFormedTable}
use Rattle.synthesis.proofs.Tables.WellFormedTables.{well_formed_weaken}
use Rattle.synthesis.proofs.Tables.SynthesisOutcomes.{filling_within_lem}
use Rattle.synthesis.proofs.Tables.Built.{counted_well_formed}
use Rattle.running.specs.Calls.{no_calls, none}
use Rattle.commands.specs.Printing.{program_limit}
use Rattle.commands.proofs.SiftingLaws.{ends_calls_under_rule}
use Rattle.commands.proofs.sifting.sift_under.Goals as goal

pub sift_all-state-requires : goal.sift_all-state-requires
sift_all-state-requires g c =
    let x = c.args in
    let filled = c.fill_within-answer.ensures in
    let n = c.in-Ok.count in
    subst (WellFormedTable most mark n) (sym filled.table_after)
    (well_formed_weaken most (omega arith)
    (counted_well_formed program_limit mark x.file.now x.table.now n (sym (rw c.in-Ok.is at filled.value))))

pub returns-in-Ok-clause-bytes : goal.returns-in-Ok-clause-bytes
returns-in-Ok-clause-bytes g c = slice_bytes c.args.file.now c.type_inv.file

pub returns-in-Ok-clause-sifts : goal.returns-in-Ok-clause-sifts
returns-in-Ok-clause-sifts g c =
    let x = c.args in
    let filled = c.fill_within-answer.ensures in
    let same = filling_within_lem program_limit x.file.now (length x.table.now) (omega arith) in
    let value = rw same at filled.value in
    let after = rw same at filled.table_after in
    let answer = rw c.in-Ok.is at value in
    record {
      answer = answer;
      state = ends_calls_under_rule (synthesis_of program_limit x.file.now) x.table.now c.in-Ok.count after (sym answer)
          c.sift_all-state.ensures;
    }

pub returns-in-Err-clause-bytes : goal.returns-in-Err-clause-bytes
returns-in-Err-clause-bytes g c = slice_bytes c.args.file.now c.type_inv.file

pub returns-in-Err-clause-sifts : goal.returns-in-Err-clause-sifts
returns-in-Err-clause-sifts g c =
    let x = c.args in
    let same = filling_within_lem program_limit x.file.now (length x.table.now) (omega arith) in
    record { answer = rw c.in-Err.is at rw same at c.fill_within-answer.ensures.value; state = (no_calls, none, c.start-state.ensures) }
