-- The three demands hold, by the promises of the layers at the limit `most` and the mark `mark`.
use Prim.Native.Nat.{ℕ, min, ◌≤◌}
use mathlib.Core.Path.{◌≡◌, refl, sym, ◌∙◌}
use mathlib.Core.Logic.{inl, inr}
use mathlib.Core.List.{List}
use native.Mathlib.Omega.{arith}
use lib.ListN.{length}
use Rattle.reading.specs.Rule.{Rule, Bytes}
use Rattle.reading.proofs.Accepting.Accepted.{answers_accepted as rules-accepted}
use Rattle.reading.proofs.Refusing.FaultsRefused as rules
use Rattle.synthesis.specs.Monitor.{mark, most}
use Rattle.synthesis.specs.Building.{filling_of, short_filling_of, counted_of, Fills}
use Rattle.synthesis.specs.Promises.{SameAfterRows}
use Rattle.synthesis.proofs.Tables.Equations.{file_well_formed, answers_count, counted_equations, reaches_equations}
use Rattle.synthesis.proofs.Tables.Built as tables
use Rattle.synthesis.proofs.Tables.SynthesisOutcomes.{fills_as_counted, short_fills_as_counted}
use Rattle.synthesis.proofs.Tables.Previews.{preview_counts, preview_fills_as_counted, preview_agrees, preview_fills_accepted}
use Rattle.synthesis.proofs.Tables.PreviewRefusals.{preview_refused_unchanged}
use Rattle.synthesis.proofs.Quotients.ShortFillings.{short_refuses_alike, short_refused_unchanged, short_counted_rest}
use Rattle.synthesis.proofs.Quotients.TwoLimits.{old_rules_stay, fills_more}
use Rattle.synthesis.proofs.Quotients.Minimal.{shortest_monitor}
use Rattle.synthesis.proofs.Reasons.Alone.{violates_somewhere}
use Rattle.synthesis.proofs.Reasons.Explained.{reasons_exactly}
use Rattle.running.specs.Running.{result_of}
use Rattle.running.specs.Calls.{Call, History, Calls, OnTable, OnTableOrRefused}
use Rattle.running.specs.Promises.{NotUnfit}
use Rattle.running.proofs.Refusals.{runs_on_tables}
use Rattle.running.proofs.BuiltTables.{never_unfit, short_never_unfit}
use Rattle.running.proofs.Leaving as leaving
use Rattle.running.proofs.DemandTwo.{drops_exactly, short_drops_exactly}
use Rattle.running.proofs.Reasons.{reasons_of_runs, short_reasons_of_runs}
use Rattle.running.proofs.ComingAndGoing.{comes, goes}
use Rattle.running.proofs.DutyCalls.{duty_refused_unchanged, duty_rest_unchanged}
use Rattle.running.proofs.SpellDays.{duty_drops_exactly, on_duty-never_unfit, spells_safe}
use Rattle.running.proofs.JoinedDays.{joins_as_one}
use Rattle.models.specs.Phone.{model_of}
use Rattle.models.proofs.Phones.PhoneCodes.{phone_codes}
use Rattle.models.proofs.Files.Encoding.{accepts_phones, encode_bytes, answers_accepted, phone_within_limits}
use Rattle.models.proofs.Files.FileFaults as models
use Rattle.models.proofs.Judgments.Accepting.{accepts_exactly, short_accepts_exactly, fills_exactly, short_fills_exactly}
use Rattle.models.proofs.Judgments.Accepting.{preview_accepts_exactly, preview_fills_exactly}
use Rattle.models.proofs.Judgments.JudgingLaws as judging
use Rattle.models.proofs.Matchings.OneAnswer.{matches_exactly, repeats_harmless}
use Rattle.models.proofs.Matchings.PairLists.{accepts_pairs}
use Rattle.models.proofs.Matchings.AfterYes.{matched_alike, models_judged_alike}
use Rattle.models.proofs.Matchings.GreatestLists.{some_list_matches}
use Rattle.models.proofs.Judgments.TablesEnforce.{tables_enforce, short_tables_enforce, short_bisimilar}
use Rattle.demands.specs.Outcomes.{filling_within, table_filled_within, preview_counting, preview_filling, preview_table_filled}
use Rattle.demands.specs.Outcomes.{short_counting, short_filling, short_table_filled, running}
use Rattle.demands.specs.Refusals.{DeskRefused, PageRefused, RunRefused, short_buffer, unfit}
use Rattle.demands.specs.Demands.{DemandOne, DemandTwo, DemandTwoWithin, DemandTwoShort, DemandTwoPreview, DemandTwoDuty, DemandThree, DemandMatching}
use Rattle.demands.proofs.Refused.{count_refused, count_refused_within, count_short_refused, fill_refused, fill_refused_within}
use Rattle.demands.proofs.RefusedOnPage.{count_preview_refused}
use Rattle.demands.proofs.RefusedReasons.{explain_refused}
use Rattle.demands.proofs.UnfitTables.{unfit_not_fit}
use Rattle.demands.proofs.RefusedCalls.{run_refused, run_fit, judge_refused}
use Rattle.demands.proofs.RefusedMatches.{match_first_refused, match_second_refused, match_pairs_refused}
use Rattle.demands.proofs.RefusedOnDuty.{come_refused, go_refused, check_refused, duty_run_refused}
use Rattle.reading.specs.File.{accepted}

-- ---- demand 1

-- what the page fills is what the desk fills
preview_rest : (s table : List ℕ) (n : ℕ) → counted_of (preview_filling s table) ≡ accepted n → SameAfterRows n table (preview_table_filled s table)
preview_rest s table n e =
    let counted : counted_of (preview_counting s) ≡ accepted n = rw (← (preview_fills_as_counted s (length table)).same n e) e in
    let agrees = preview_agrees s n counted in
    rw (agrees.table table) (tables.counted_rest most mark s table n (sym (agrees.answer (length table)) ∙ e))

pub demand_one : DemandOne
demand_one = record {
  numbers = record { most_equations = refl; most_on_page = refl; dropped_entry = refl; most_pairs_lem = refl };
  refuses = record {
    read_rule = rules.refuses_at_the_fault;
    count = count_refused;
    explain = λ s kept scan bytes. explain_refused s bytes kept scan;
    fill = fill_refused_within most;
    count_within = λ limit. count_refused_within (min limit most);
    fill_within = λ limit. fill_refused_within (min limit most);
    count_preview = count_preview_refused;
    fill_preview = λ s table bytes.
        fill_refused (PageRefused s) (preview_counting s) (preview_filling s table) (length table) (count_preview_refused s bytes)
        (preview_fills_as_counted s (length table));
    count_short = count_short_refused;
    fill_short = λ s table bytes.
        fill_refused (DeskRefused s) (short_counting s) (short_filling s table) (length table) (count_short_refused s bytes) (short_fills_as_counted most s (length table));
    run = run_refused;
    come_on = come_refused;
    go_off = go_refused;
    check_on_duty = check_refused;
    run_on_duty = duty_run_refused;
    read_model = models.refuses_at_the_fault;
    judge = judge_refused most;
    judge_within = λ limit. judge_refused (min limit most);
    match_first = match_first_refused;
    match_second = match_second_refused;
    match_pairs = match_pairs_refused;
  };
  unchanged = record {
    fill = tables.refused_unchanged most mark;
    fill_within = λ limit. tables.refused_unchanged (min limit most) mark;
    fill_preview = preview_refused_unchanged;
    fill_short = short_refused_unchanged most mark;
    run = leaving.refused_unchanged most mark;
    come_on = λ d x. (comes most mark d x.number x.tables x.base x.count).refused;
    go_off = λ d number. (goes d number).refused;
    run_on_duty = λ d c. duty_refused_unchanged most mark c.tables d c.scans c.output c.verdicts;
    judge = λ s table f answer judged number place. (judging.refused_unchanged most mark s f table answer judged).refused;
    judge_within = λ limit s table f answer judged number place. (judging.refused_unchanged (min limit most) mark s f table answer judged).refused;
  };
  rest = record {
    fill = tables.counted_rest most mark;
    fill_within = λ limit. tables.counted_rest (min limit most) mark;
    fill_preview = preview_rest;
    fill_short = short_counted_rest most mark;
    run = leaving.rest_unchanged most mark;
    run_on_duty = λ d c. duty_rest_unchanged most mark c.tables d c.scans c.output c.verdicts;
    judge = λ s table f answer judged. (judging.refused_unchanged most mark s f table answer judged).judged;
    judge_within = λ limit s table f answer judged. (judging.refused_unchanged (min limit most) mark s f table answer judged).judged;
  };
}

-- ---- demand 2

-- a call with room for its scans on a table that is never unfit
module _ (n : ℕ) (table : List ℕ) (fit : NotUnfit most mark n table) (h : History) (calls : Calls most mark (OnTableOrRefused most mark table n) h) (c : Call)
    (on : OnTable table n c) (room : length c.scans ≤ length c.output) (room' : length c.scans ≤ length c.verdicts) where
  call_unrefused : (number place : ℕ) → RunRefused h.state c number place → ⊥
  call_unrefused number place (short_buffer (inl short)) = omega arith
  call_unrefused number place (short_buffer (inr short)) = omega arith
  call_unrefused number place (unfit a a' bad) =
      fit h calls c on
      ((runs_on_tables most mark c.table c.count h.state c.scans (length c.output) (length c.verdicts)).unfit.1
      (a, a', unfit_not_fit bad))

  call_taken : (result_of h.state (running h.state c)).checked ≡ accepted tt
  call_taken = run_fit h.state c call_unrefused

pub demand_two : DemandTwo
demand_two = record {
  drops = drops_exactly most mark;
  takes = λ s table r n left b. call_taken n left (never_unfit most mark s table r n left b);
  explains = reasons_exactly most;
  places = λ s bytes r read. violates_somewhere r (file_well_formed s bytes r read);
  explains_runs = reasons_of_runs most mark;
  reads_rule = rules-accepted;
  reads_model = answers_accepted;
  models = λ f y. (
    λ (bytes, read). (accepts_phones f bytes y).0 read,
    λ (w, is). (rw is (encode_bytes y w.well_formed), (accepts_phones f (rw is (encode_bytes y w.well_formed)) y).1 (w, is)),
  );
  fills = λ s table r n left. tables.fills_by_iff filling_of most mark s table r n left (omega arith);
  accepts = accepts_exactly most;
  counts = λ s bytes r n read e. (counted_equations most s r n read e, reaches_equations most s bytes r n read e);
  as_counted = λ s table. fills_as_counted most s (length table);
  with_room = λ s table. fills_exactly most s (length table);
  judges = judging.judges_exactly most mark;
}

-- what is filled within a limit is filled under `most`
filled_within : (limit : ℕ) (s table : List ℕ) (n : ℕ) → Bytes s → counted_of (filling_within limit s table) ≡ accepted n
    → (r : Rule) × Fills (min limit most) mark s table r n (table_filled_within limit s table)
filled_within limit s table n bytes e = tables.fills_accepted (min limit most) mark s table n (omega arith) bytes e

pub demand_two_within : DemandTwoWithin
demand_two_within = record {
  accepts = λ limit. accepts_exactly (min limit most);
  counts = λ limit s n.
      let stays = (old_rules_stay (min limit most) most s (omega arith)).counted n in (
        λ e. let (counted, few) = stays.0 e in (counted, omega (arith, few)),
        λ (e, few). stays.1 (e, omega (arith, few, (answers_count most s n e).few)),
      );
  as_counted = λ limit s table. fills_as_counted (min limit most) s (length table);
  with_room = λ limit s table. fills_exactly (min limit most) s (length table);
  fills = λ limit s table n bytes e.
      let (r, fills) = filled_within limit s table n bytes e in
      (r, fills_more (min limit most) most mark s table r n (table_filled_within limit s table) (omega arith) (omega arith) fills);
  judges = λ limit s table n bytes e f y answer read judged.
      let (r, fills) = filled_within limit s table n bytes e in
      (r, fills.read, judging.judges_exactly (min limit most) mark s table r n (table_filled_within limit s table) fills f y answer read judged);
}

pub demand_two_short : DemandTwoShort
demand_two_short = record {
  drops = short_drops_exactly most mark;
  takes = λ s table r n left b. call_taken n left (short_never_unfit most mark s table r n left b);
  explains_runs = short_reasons_of_runs most mark;
  fills = λ s table r n left. tables.fills_by_iff short_filling_of most mark s table r n left (omega arith);
  accepts = short_accepts_exactly most;
  counts = short_refuses_alike most;
  shortest = λ s bytes r n read counted.
      let table = tables.zero_rows n in
      shortest_monitor most mark s table r n (short_table_filled s table)
      (tables.fills_when_counted short_filling_of (short_counting s) most mark s table r n (omega arith) bytes read counted
      (short_fills_as_counted most s (length table)) (omega (arith, tables.zero_rows_lem n)));
  as_counted = λ s table. short_fills_as_counted most s (length table);
  with_room = λ s table. short_fills_exactly most s (length table);
}

pub demand_two_preview : DemandTwoPreview
demand_two_preview = record {
  accepts = preview_accepts_exactly;
  counts = preview_counts;
  agrees = preview_agrees;
  fills = preview_fills_accepted;
  as_counted = λ s table. preview_fills_as_counted s (length table);
  with_room = λ s table. preview_fills_exactly s (length table);
}

pub demand_two_duty : DemandTwoDuty
demand_two_duty = record {
  drops = duty_drops_exactly most mark;
  never_unfit = on_duty-never_unfit most mark;
  safe = spells_safe most mark;
  joins = joins_as_one most mark;
}

-- ---- demand 3

pub demand_three : DemandThree
demand_three = record {
  enforces = tables_enforce most mark;
  short_enforces = short_tables_enforce most mark;
  short_bisimilar = λ s table r n long b table' m short b' f y bytes read.
      short_bisimilar most mark s table r n long b table' m short b' (model_of y) (phone_codes y (phone_within_limits f y bytes read).well_formed);
}

-- ---- pairs from the simulator

pub demand_matching : DemandMatching
demand_matching = record {
  exactly = matches_exactly;
  accepts = accepts_pairs;
  repeats = repeats_harmless;
  alike = matched_alike;
  judged_alike = models_judged_alike;
  some_list = some_list_matches;
}
