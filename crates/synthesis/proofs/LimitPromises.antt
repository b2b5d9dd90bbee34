-- Each promise of two limits and two marks, by its theorem.
use Rattle.synthesis.specs.LimitPromises.{LimitPromises}
use Rattle.synthesis.proofs.Tables.Limits.{limits_agree}
use Rattle.synthesis.proofs.Quotients.TwoLimits.{old_rules_stay, fills_more, short_fills_more, rows_mean_the_same, short_rows_mean_the_same}

pub limit_promises : LimitPromises
limit_promises = record {
  limits_agree = limits_agree;
  old_rules_stay = old_rules_stay;
  fills_more = fills_more;
  short_fills_more = short_fills_more;
  rows_mean_the_same = rows_mean_the_same;
  short_rows_mean_the_same = short_rows_mean_the_same;
}
