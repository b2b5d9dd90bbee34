-- All statements of this crate. The theorem `promises` has this type, so that each of them has its proof.
use Rattle.std.specs.Prelude.{ℕ, List}
use Rattle.reading.specs.declared.Pattern.{Pattern}
use Rattle.examples.specs.Examples.{PaperExamples}
use Rattle.examples.specs.NumberingExamples.{NumberingExamples}
use Rattle.examples.specs.NodeExamples.{NodeExamples}
use Rattle.examples.specs.OverlapExample.{OverlapExample}
use Rattle.examples.specs.ReasonExamples.{ReasonExamples}
use Rattle.examples.specs.ShortExamples.{ShortExamples}
use Rattle.examples.specs.ModelExamples.{ModelExamples}
use Rattle.examples.specs.PatternMeaning.{PatternMeaning}
use Rattle.examples.specs.RoundExample.{RoundExample}
use Rattle.examples.specs.SlotExamples.{SlotExamples}
use Rattle.examples.specs.RefusalExamples.{RefusalExamples}
use Rattle.examples.specs.TableExamples.{TableExamples}
use Rattle.examples.specs.FamilyExamples.{FamilyExamples}
use Rattle.examples.specs.PreviewExamples.{PreviewExamples}
use Rattle.examples.specs.EmptyExamples.{EmptyExamples}
use Rattle.examples.specs.DutyExamples.{DutyExamples}
use Rattle.examples.specs.DutyJoinExamples.{DutyJoinExamples}
use Rattle.examples.specs.MatchingExamples.{MatchingExamples}

pub record Promises : Type 1 where
  pub paper_examples : PaperExamples
  pub numbering_examples : NumberingExamples
  pub node_examples : NodeExamples
  pub overlap_example : OverlapExample
  pub reason_examples : ReasonExamples
  pub short_examples : ShortExamples
  pub model_examples : ModelExamples
  pub pattern_meaning : (ps : List Pattern) (i : ℕ) → PatternMeaning ps i
  pub round_example : RoundExample
  pub slot_examples : SlotExamples
  pub refusal_examples : RefusalExamples
  pub table_examples : TableExamples
  pub family_examples : FamilyExamples
  pub preview_examples : PreviewExamples
  pub empty_examples : EmptyExamples
  pub duty_examples : DutyExamples
  pub duty_join_examples : DutyJoinExamples
  pub matching_examples : MatchingExamples
