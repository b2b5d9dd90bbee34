-- Each promise of this crate, by its theorem.
use Rattle.commands.specs.Promises.{Promises}
use Rattle.commands.proofs.Printing.{prints_answer, settled_by_buffer, judgment_settled_by_buffer}
use Rattle.commands.proofs.SiftingLaws.{sifts_by_rule, no_calls-refused, sift_hands_back}
use Rattle.commands.proofs.JudgingFiles.{meets_exactly, judged_texts}
use Rattle.commands.proofs.PageText.{preview_text}
use Rattle.commands.proofs.KeepingLimit.{programs_keep_128, few_lines, equations_hands_back}

pub promises : Promises
promises = record {
  programs_keep_128 = programs_keep_128;
  prints_answer = prints_answer;
  few_lines = few_lines;
  equations_hands_back = equations_hands_back;
  settled_by_buffer = settled_by_buffer;
  judgment_settled_by_buffer = judgment_settled_by_buffer;
  sifts_by_rule = sifts_by_rule;
  no_calls-refused = no_calls-refused;
  sift_hands_back = sift_hands_back;
  meets_exactly = meets_exactly;
  judged_texts = judged_texts;
  preview_text = preview_text;
}
