-- Each promise of this crate, by its theorem.
use Rattle.synthesis.specs.Promises.{Promises}
use Rattle.synthesis.proofs.Unfolding.Extension.{closed_under_extension}
use Rattle.synthesis.proofs.Unfolding.OpeningLaws.{opens_as_defined}
use Rattle.synthesis.proofs.Unfolding.AnsweringLaws.{answers_as_defined}
use Rattle.synthesis.proofs.Unfolding.EquationLaws.{tracks_violation}
use Rattle.synthesis.proofs.Tables.SynthesisOutcomes.{fills_as_counted}
use Rattle.synthesis.proofs.Tables.Equations.{answers_count, refuses_too_many, reaches_equations}
use Rattle.synthesis.proofs.Tables.Built.{refused_unchanged, fills_accepted, table_monitors, table_drops, refuses_violated_by_empty}
use Rattle.synthesis.proofs.Tables.Built.{built_well_formed, entries_answer, table_rest}
use Rattle.synthesis.proofs.Monitors.MonitorLaws.{monitors_drop}
use Rattle.synthesis.proofs.Unfolding.NodeSetLaws.{same_members_same_set}
use Rattle.synthesis.proofs.Numberings.FindingOrder.{numbered_as_found}
use Rattle.synthesis.proofs.Numberings.Numbering.{one_numbering}
use Rattle.synthesis.proofs.Tables.Rows.{hands_back_rows}
use Rattle.synthesis.proofs.Reasons.Alone.{violates_somewhere}
use Rattle.synthesis.proofs.Reasons.Explained.{reasons_exactly}
use Rattle.synthesis.proofs.Reasons.ByEquation.{reasons_by_equation}

pub promises : Promises
promises = record {
  closed_under_extension = closed_under_extension;
  opens_as_defined = opens_as_defined;
  answers_as_defined = answers_as_defined;
  tracks_violation = tracks_violation;
  answers_count = answers_count;
  fills_as_counted = fills_as_counted;
  refused_unchanged = refused_unchanged;
  fills_accepted = fills_accepted;
  table_monitors = table_monitors;
  monitors_drop = monitors_drop;
  table_drops = table_drops;
  refuses_violated_by_empty = refuses_violated_by_empty;
  refuses_too_many = refuses_too_many;
  reaches_equations = reaches_equations;
  same_members_same_set = same_members_same_set;
  numbered_as_found = numbered_as_found;
  one_numbering = one_numbering;
  built_well_formed = built_well_formed;
  entries_answer = entries_answer;
  table_rest = table_rest;
  hands_back_rows = hands_back_rows;
  violates_somewhere = violates_somewhere;
  reasons_exactly = reasons_exactly;
  reasons_by_equation = reasons_by_equation;
}
