-- Each promise of the rule page, by its theorem.
use Rattle.synthesis.specs.PreviewPromises.{PreviewPromises}
use Rattle.synthesis.proofs.Tables.Previews.{preview_counts, preview_fills_as_counted, preview_agrees, preview_fills_accepted}
use Rattle.synthesis.proofs.Tables.PreviewRefusals.{preview_refuses_too_many, preview_refuses, preview_refused_unchanged, desk_shows_more}

pub preview_promises : PreviewPromises
preview_promises = record {
  preview_counts = preview_counts;
  preview_fills_as_counted = preview_fills_as_counted;
  preview_agrees = preview_agrees;
  preview_fills_accepted = preview_fills_accepted;
  preview_refuses_too_many = preview_refuses_too_many;
  preview_refuses = preview_refuses;
  preview_refused_unchanged = preview_refused_unchanged;
  desk_shows_more = desk_shows_more;
}
