-- Each statement of this crate, by its theorem.
use Rattle.examples.specs.Promises.{Promises}
use Rattle.examples.proofs.PaperExamples.{paper_examples}
use Rattle.examples.proofs.NumberingExamples.{numbering_examples}
use Rattle.examples.proofs.NodeExamples.{node_examples}
use Rattle.examples.proofs.OverlapExample.{overlap_example}
use Rattle.examples.proofs.ReasonExamples.{reason_examples}
use Rattle.examples.proofs.ShortExamples.{short_examples}
use Rattle.examples.proofs.PoolModels.{model_examples}
use Rattle.examples.proofs.PatternMeaning.{pattern_meaning}
use Rattle.examples.proofs.RoundExample.{round_example}
use Rattle.examples.proofs.SlotExamples.{slot_examples}
use Rattle.examples.proofs.RefusalExamples.{refusal_examples}
use Rattle.examples.proofs.TableExamples.{table_examples}
use Rattle.examples.proofs.FamilyExamples.{family_examples}
use Rattle.examples.proofs.PreviewExamples.{preview_examples}
use Rattle.examples.proofs.EmptyExamples.{empty_examples}
use Rattle.examples.proofs.DutyExamples.{duty_examples}
use Rattle.examples.proofs.DutyJoinExamples.{duty_join_examples}
use Rattle.examples.proofs.MatchingExamples.{matching_examples}

pub promises : Promises
promises = record {
  paper_examples = paper_examples;
  numbering_examples = numbering_examples;
  node_examples = node_examples;
  overlap_example = overlap_example;
  reason_examples = reason_examples;
  short_examples = short_examples;
  model_examples = model_examples;
  pattern_meaning = pattern_meaning;
  round_example = round_example;
  slot_examples = slot_examples;
  refusal_examples = refusal_examples;
  table_examples = table_examples;
  family_examples = family_examples;
  preview_examples = preview_examples;
  empty_examples = empty_examples;
  duty_examples = duty_examples;
  duty_join_examples = duty_join_examples;
  matching_examples = matching_examples;
}
