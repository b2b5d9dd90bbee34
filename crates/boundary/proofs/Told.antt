-- An answer can be read back from what a C program gets, as no refusal has the number 0. So what is got tells it.
use Prim.Native.Nat.{ℕ, zero, suc, ◌-◌, ◌≤◌, ◌<◌}
use mathlib.Core.Path.{◌≡◌, refl, sym, ◌∙◌, ap}
use mathlib.Core.Logic.{◌↔◌, inl, inr}
use mathlib.Core.Bool.{true, false}
use native.Mathlib.Omega.{arith}
use Rattle.reading.specs.File.{Outcome, accepted, refused}
use Rattle.synthesis.specs.Monitor.{mark, most}
use Rattle.synthesis.specs.Building.{Synthesis, counted_of}
use Rattle.synthesis.specs.Reason.{lowest_reason, explanation_of, reason_of}
use Rattle.running.specs.Running.{result_of}
use Rattle.running.proofs.RunCases.{run_cases}
use Rattle.models.specs.Judging.{RuleAndModel, JudgedAs}
use Rattle.models.specs.Pairs.{paper_answer, MatchAnswer, said, refused_first, refused_second, refused_pairs}
use Rattle.boundary.specs.declared.MatchResult.{MatchResult}
use Rattle.boundary.specs.Results.{Result, counted_result, kept_value, reason_result, judged_result, matched_result, checked_number, state_of}
use Rattle.boundary.specs.Promises.{CountTold, TellsCounts, TellsReason, TellsJudgment, TellsMatch, TellsRun}
use Rattle.boundary.proofs.Refusals.{Numbered, synthesis_numbered, short_numbered, filling_numbered, short_filling-numbered}
use Rattle.boundary.proofs.Refusals.{judging_numbered, matching_numbered, explanation_numbered, preview_numbered, preview_filling-numbered}
use Rattle.boundary.proofs.KeptValue.{kept_is_no_node}
use Rattle.std.specs.Prelude.{Option, Some, None}
use Rattle.models.specs.declared.Judgment.{Judgment}
use Rattle.models.specs.declared.Judgment.TheVariants.{Meets, Breaks}

-- answers that can be read back have the same result only where they are the same
told_apart : {A R : Type 0} (result : A → R) (back : R → A) {x y : A} → back (result x) ≡ x → back (result y) ≡ y → (result x ≡ result y) ↔ (x ≡ y)
told_apart result back h k = (λ e. sym h ∙ (ap back e ∙ k), λ e. ap result e)

-- one thing for 0, and another for each number from 1 on
abbrev or_else : {A : Type 0} → (number : ℕ) → (none some : A) → A
or_else zero none some = none
or_else (suc n) none some = some

from_1 : {A : Type 0} (none some : A) (number : ℕ) → 1 ≤ number → or_else number none some ≡ some
from_1 none some zero h = absurd (omega (arith, h))
from_1 none some (suc n) h = refl

-- what a value says beside the number 0, and a refusal beside any other
module _ {A : Type 0} (said : (value : ℕ) → A) (refusal : (number place : ℕ) → A) where
  abbrev read_back : Result → A
  read_back r = or_else r.number (said r.value) (refusal r.number r.value)

  refusal_back : (number place : ℕ) → 1 ≤ number → read_back (record { number = number; value = place }) ≡ refusal number place
  refusal_back number place = from_1 (said place) (refusal number place) number

-- ---- counting and filling

abbrev count_back : Result → Outcome ℕ
count_back = read_back accepted refused

count_back_lem : (o : Outcome Synthesis) → Numbered o → count_back (counted_result (counted_of o)) ≡ counted_of o
count_back_lem (accepted y) numbered = refl
count_back_lem (refused number place) numbered = refusal_back accepted refused number place (numbered number place refl)

count_told : (o : Outcome Synthesis) → Numbered o → CountTold o
count_told o numbered = record {
  counted = λ n. told_apart counted_result count_back (count_back_lem o numbered) refl;
  refused = λ number place some. told_apart counted_result count_back (count_back_lem o numbered)
      (refusal_back accepted refused number place some);
}

pub tells_counts : TellsCounts
tells_counts s capacity bytes = record {
  counting = count_told _ (synthesis_numbered most s bytes);
  filling = count_told _ (filling_numbered most s bytes capacity);
  preview_counting_lem = count_told _ (preview_numbered s bytes);
  preview_filling_lem = count_told _ (preview_filling-numbered s bytes capacity);
  short_counting_lem = count_told _ (short_numbered most s bytes);
  short_filling_lem = count_told _ (short_filling-numbered most s bytes capacity);
}

-- ---- explaining

abbrev said_reason : (value : ℕ) → Outcome (Option ℕ)
said_reason value = or_else (kept_value - value) (accepted None) (accepted (Some value))

abbrev reason_back : Result → Outcome (Option ℕ)
reason_back = read_back said_reason refused

node_back : (m : ℕ) → m < kept_value → reason_back (reason_result (accepted (Some m))) ≡ accepted (Some m)
node_back m inside = from_1 (accepted None) (accepted (Some m)) (kept_value - m) (omega (arith, inside))

reason_back_lem : (o : Outcome ℕ) → Numbered o → ((m : ℕ) → reason_of o ≡ accepted (Some m) → m < kept_value)
    → reason_back (reason_result (reason_of o)) ≡ reason_of o
reason_back_lem (accepted set) numbered inside = on (lowest_reason set) inside
  where
    on : (node : Option ℕ) → ((m : ℕ) → accepted node ≡ accepted (Some m) → m < kept_value)
        → reason_back (reason_result (accepted node)) ≡ accepted node
    on None inside = refl
    on (Some k) inside = node_back k (inside k refl)
reason_back_lem (refused number place) numbered inside = refusal_back said_reason refused number place (numbered number place refl)

pub tells_reason : TellsReason
tells_reason s kept scan bytes =
    let back = reason_back_lem (explanation_of most s kept scan) (explanation_numbered most s bytes kept scan) (λ m. kept_is_no_node s kept scan m bytes) in
    record {
      kept = told_apart reason_result reason_back back refl;
      node = λ m inside. told_apart reason_result reason_back back (node_back m inside);
      refused = λ number place some. told_apart reason_result reason_back back (refusal_back said_reason refused number place some);
    }

-- ---- judging

abbrev said_judgment : (value : ℕ) → Outcome Judgment
said_judgment value = or_else value (accepted Breaks) (accepted Meets)

abbrev judged_back : Result → Outcome Judgment
judged_back = read_back said_judgment refused

judged_back_lem : (o : Outcome RuleAndModel) → Numbered o → (answer : Outcome Judgment) → JudgedAs o answer → judged_back (judged_result answer) ≡ answer
judged_back_lem (accepted x) numbered answer (inl (is, _)) = rw is
judged_back_lem (accepted x) numbered answer (inr (is, _)) = rw is
judged_back_lem (refused number place) numbered answer is = rw is (refusal_back said_judgment refused number place (numbered number place refl))

pub tells_judgment : TellsJudgment
tells_judgment s f capacity answer bytes model judged =
    let back = judged_back_lem _ (judging_numbered most s bytes capacity f model) answer judged in
    record {
      meets = told_apart judged_result judged_back back refl;
      breaks = told_apart judged_result judged_back back refl;
      refused = λ number place some. told_apart judged_result judged_back back (refusal_back said_judgment refused number place some);
    }

-- ---- matching

abbrev said_matched : (value : ℕ) → MatchAnswer
said_matched value = or_else value (said false) (said true)

-- the refusal of an input
abbrev refusal_of : (input number place : ℕ) → MatchAnswer
refusal_of input number place =
    or_else (input - 1) (refused_first number place)
    (or_else (input - 2) (refused_second number place) (refused_pairs number place))

abbrev matched_back : MatchResult → MatchAnswer
matched_back r = read_back said_matched (refusal_of r.input) (record { number = r.number; value = r.value })

input_back : (input number place : ℕ) → 1 ≤ number
    → matched_back (record { number = number; value = place; input = input }) ≡ refusal_of input number place
input_back input = refusal_back said_matched (refusal_of input)

matched_back_lem : (answer : MatchAnswer) → Numbered (paper_answer answer) → matched_back (matched_result answer) ≡ answer
matched_back_lem (said true) numbered = refl
matched_back_lem (said false) numbered = refl
matched_back_lem (refused_first number place) numbered = input_back 1 number place (numbered number place refl)
matched_back_lem (refused_second number place) numbered = input_back 2 number place (numbered number place refl)
matched_back_lem (refused_pairs number place) numbered = input_back 3 number place (numbered number place refl)

pub tells_match : TellsMatch
tells_match f g l answer first second matched =
    let back = matched_back_lem answer (matching_numbered f g l first second answer matched) in
    record {
      yes = told_apart matched_result matched_back back refl;
      no = told_apart matched_result matched_back back refl;
      first_refused = λ number place some. told_apart matched_result matched_back back (input_back 1 number place some);
      second_refused = λ number place some. told_apart matched_result matched_back back (input_back 2 number place some);
      pairs_refused = λ number place some. told_apart matched_result matched_back back (input_back 3 number place some);
    }

-- ---- a run

abbrev checked_back : ℕ → Outcome Unit
checked_back number = or_else number (accepted tt) (refused number 0)

pub tells_run : TellsRun
tells_run table count first scans output verdicts number equation kept dropped is =
    let back =
    run_cases most mark table count (state_of first) scans output verdicts
    (λ o. checked_back (checked_number (result_of (state_of first) o).checked) ≡ (result_of (state_of first) o).checked)
    (λ r. refl) (λ r f. refl) (λ r f. refl) in
    record {
      fit = rw is.number_is (told_apart checked_number checked_back back refl);
      refused = λ k some. rw is.number_is (told_apart checked_number checked_back back (from_1 (accepted tt) (refused k 0) k some));
      rest = rw (is.equation_is, is.kept_is, is.dropped_is);
    }
