-- Each promise of patterns with nothing in them, by its theorem.
use Rattle.synthesis.specs.AlikePromises.{AlikePromises}
use Rattle.synthesis.proofs.EmptyPatterns.AlikeLaws.{violated_alike}
use Rattle.synthesis.proofs.EmptyPatterns.Differing.{differing_alike}
use Rattle.synthesis.proofs.EmptyPatterns.Places.{all_after_empty, no_place_after_empty}
use Rattle.synthesis.proofs.EmptyPatterns.Explaining.{explains_alike}
use Rattle.synthesis.proofs.EmptyPatterns.Tables.{no_reason_after_empty, monitors_alike, short_tables_alike}
use Rattle.synthesis.proofs.EmptyPatterns.SameTables.{tables_alike}
use Rattle.synthesis.proofs.EmptyPatterns.CountingAlike.{counted_alike}

pub alike_promises : AlikePromises
alike_promises = record {
  differing_alike = differing_alike;
  violated_alike = violated_alike;
  all_after_empty = all_after_empty;
  no_place_after_empty = no_place_after_empty;
  counted_alike = counted_alike;
  explains_alike = explains_alike;
  no_reason_after_empty = no_reason_after_empty;
  monitors_alike = monitors_alike;
  tables_alike = tables_alike;
  short_tables_alike = short_tables_alike;
}
