-- What `meets` answers is what judging answers with a table for as many rows as the limit allows, in which the rows of every rule that is taken fit.
use Prim.Native.Nat.{ℕ, ◌*◌, ◌≤◌}
use mathlib.Core.Path.{◌≡◌, refl}
use mathlib.Core.List.{List}
use native.Mathlib.Omega.{arith}
use lib.ListN.{length}
use Rattle.synthesis.specs.Monitor.{mark}
use Rattle.synthesis.specs.Building.{synthesis_of, filling_of, counted_of, table_left}
use Rattle.synthesis.proofs.Tables.SynthesisOutcomes.{fills_as_counted}
use Rattle.synthesis.proofs.Tables.Equations.{answers_count}
use Rattle.synthesis.proofs.Tables.Built.{fills_when_counted, zero_rows, zero_rows_lem}
use Rattle.models.specs.Judging.{judging_of, JudgedAs}
use Rattle.models.proofs.Judgments.JudgingOrder.{judging_within_lem, judges_in_order}
use Rattle.models.proofs.Judgments.JudgingLaws.{judges_exactly}
use Rattle.commands.specs.Printing.{program_limit, JudgesFiles}
use Rattle.commands.specs.Promises.{MeetsExactly, JudgedTexts}
use Rattle.reading.specs.File.{Outcome, accepted, refused}
use Rattle.models.specs.declared.Judgment.{Judgment}

judged_with_room : (s f : List ℕ) (answer : Outcome Judgment) → JudgesFiles s f answer → (capacity : ℕ) → 256 * program_limit ≤ capacity
    → JudgedAs (judging_of program_limit s capacity f) answer
judged_with_room s f answer judges capacity h = rw (judging_within_lem program_limit s capacity h f) judges

pub meets_exactly : MeetsExactly
meets_exactly s f answer bytes judges =
    let table = zero_rows program_limit in
    let room : 256 * program_limit ≤ length table = omega (arith, zero_rows_lem program_limit) in
    let few : (n : ℕ) → counted_of (synthesis_of program_limit s) ≡ accepted n → 256 * n ≤ length table = λ n e. omega (arith, (answers_count program_limit s n e).few, room) in
    let judged = judged_with_room s f answer judges (length table) room in
    let order = judges_in_order program_limit s (length table) f answer judged in
    record {
      rule = order.rule;
      model = λ n counted. order.model n counted (few n counted);
      judged = λ r n y read counted model.
          judges_exactly program_limit mark s table r n (table_left program_limit mark s table)
          (fills_when_counted filling_of (synthesis_of program_limit s) program_limit mark s table r n (omega arith) bytes read counted (fills_as_counted program_limit s (length table))
          (few n counted)) f y answer model judged;
    }

pub judged_texts : JudgedTexts
judged_texts = record { meets = refl; breaks = refl; refused = λ number place. refl }
