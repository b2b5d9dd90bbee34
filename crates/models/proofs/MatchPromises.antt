-- Each promise of matching, by its theorem.
use Rattle.models.specs.MatchPromises.{MatchPromises}
use Rattle.models.proofs.Matchings.OneAnswer.{matches_exactly, answers_once, repeats_harmless}
use Rattle.models.proofs.Matchings.AfterYes.{matched_alike, models_judged_alike}
use Rattle.models.proofs.Matchings.GreatestLists.{some_list_matches}
use Rattle.models.proofs.Matchings.PairLists.{accepts_pairs, refuses_at_the_pair, pairs_settled, pairs_not_by_fewer}
use Rattle.models.proofs.Matchings.RefusalOrder.{refuses_pairs, refuses_by_number}

pub match_promises : MatchPromises
match_promises = record {
  matches_exactly = matches_exactly;
  answers_once = answers_once;
  repeats_harmless = repeats_harmless;
  matched_alike = matched_alike;
  models_judged_alike = models_judged_alike;
  some_list_matches = some_list_matches;
  accepts_pairs = accepts_pairs;
  refuses_at_the_pair = refuses_at_the_pair;
  refuses_pairs = refuses_pairs;
  refuses_by_number = refuses_by_number;
  pairs_settled = pairs_settled;
  pairs_not_by_fewer = pairs_not_by_fewer;
}
