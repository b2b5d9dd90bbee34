-- Each promise of this crate, by its theorem.
use Rattle.listing.specs.Promises.{Promises}
use Rattle.listing.proofs.AllLines.{lists_all, lists_rule}
use Rattle.listing.proofs.AllRuns.{groups, shows_answers}
use Rattle.listing.proofs.SameRows.{lists_by_rows, preview_listed, listed_alike}
use Rattle.listing.proofs.Decimals.{spells_decimal, pattern_listed}

pub promises : Promises
promises = record {
  lists_all = lists_all;
  lists_rule = lists_rule;
  groups = groups;
  shows_answers = shows_answers;
  lists_by_rows = lists_by_rows;
  preview_listed = preview_listed;
  listed_alike = listed_alike;
  pattern_listed = pattern_listed;
  spells_decimal = spells_decimal;
}
