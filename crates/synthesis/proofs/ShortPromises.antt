-- Each promise of the short table, by its theorem.
use Rattle.synthesis.specs.ShortPromises.{ShortPromises}
use Rattle.synthesis.proofs.Tables.SynthesisOutcomes.{short_fills_as_counted}
use Rattle.synthesis.proofs.Quotients.ShortFillings.{short_refuses_alike, short_refused_unchanged, short_fills_accepted, short_of-rule, short_drops_alike}
use Rattle.synthesis.proofs.Quotients.ShortFillings.{short_monitors, short_drops, short_in_range, short_rest}
use Rattle.synthesis.proofs.Quotients.Minimal.{short_merges, short_is_minimal, shortest_monitor}
use Rattle.synthesis.proofs.Quotients.ShortOrder.{short_as_found}
use Rattle.synthesis.proofs.Quotients.OnlyTable.{short_is_only}

pub short_promises : ShortPromises
short_promises = record {
  short_refuses_alike = short_refuses_alike;
  short_fills_as_counted = short_fills_as_counted;
  short_refused_unchanged = short_refused_unchanged;
  short_fills_accepted = short_fills_accepted;
  short_of-rule = short_of-rule;
  short_drops_alike = short_drops_alike;
  short_merges = short_merges;
  short_monitors = short_monitors;
  short_drops = short_drops;
  short_is_minimal = short_is_minimal;
  shortest_monitor = shortest_monitor;
  short_as_found = short_as_found;
  short_is_only = short_is_only;
  short_in_range = short_in_range;
  short_rest = short_rest;
}
