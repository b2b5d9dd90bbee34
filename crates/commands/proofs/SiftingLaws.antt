-- The calls that `sift` makes: one more on the same well-formed table isn't refused, since calls on it are one run that stays inside it; and under an
-- accepted rule they sift by it, as all calls on a filled table do: what the programs' limit accepts the library's accepts.
use Prim.Native.Nat.{ℕ, ◌≤◌}
use mathlib.Core.Path.{◌≡◌, refl, ap, ◌∙◌}
use mathlib.Core.Logic.{inl}
use mathlib.Core.List.{List}
use native.Mathlib.Omega.{arith}
use lib.ListN.{length, replicate, length-replicate}
use Rattle.reading.specs.Rule.{Bytes}
use Rattle.reading.specs.File.{Outcome, accepted}
use Rattle.synthesis.specs.Monitor.{mark, most}
use Rattle.synthesis.specs.Table.{WellFormedTable}
use Rattle.synthesis.specs.Building.{Synthesis, synthesis_of, counted_of, table_after}
use Rattle.running.specs.Running.{run_of, result_of}
use Rattle.running.specs.Calls.{Call, History, with_call, Calls, none, call, OnTableOrRefused}
use Rattle.running.specs.declared.State.{State}
use Rattle.running.proofs.Refusals.{runs_on_tables}
use Rattle.running.proofs.Histories.{calls_weaken, one_run}
use Rattle.running.proofs.DemandTwo.{drops_exactly}
use Rattle.synthesis.proofs.Quotients.TwoLimits.{fills_more}
use Rattle.commands.specs.Printing.{program_limit}
use Rattle.commands.specs.Sifting.{EndsCalls, FitOn, EndsCallsOn, UnderRule}
use Rattle.commands.specs.Promises.{SiftsByRule, NoCallsRefused, SiftHandsBack}
use Rattle.commands.proofs.ProgramTables.{any_table}

-- ---- calls on one table

-- fit calls on a table are calls on it
fit_calls_on_table : (table : List ℕ) (count : ℕ) (h : History) → Calls most mark (FitOn table count) h
    → Calls most mark (OnTableOrRefused most mark table count) h
fit_calls_on_table table count = calls_weaken most mark (λ h c may. inl may.on)

-- Fit calls, and one more on the same well-formed table, with room for its scans: it isn't refused.
pub ends_calls_next : {table : List ℕ} {count : ℕ} {s s' : State} (scans : List ℕ) (room : ℕ) → WellFormedTable most mark count table
    → EndsCallsOn table count s → length scans ≤ room → Bytes scans
    → s' ≡ (result_of s (run_of most mark table count s scans room room)).state → EndsCallsOn table count s'
ends_calls_next {table} {count} scans room wf (h, calls, same) fits bytes e =
    let blank : List ℕ = replicate room 0 in
    let long : length blank ≡ room = length-replicate room 0 in
    let c : Call = record { table = table; count = count; scans = scans; output = blank; verdicts = blank } in
    let inside = (one_run most mark count table wf h (fit_calls_on_table table count h calls)).inside in
    let follows = (runs_on_tables most mark table count h.state scans (length blank) (length blank)).follows (omega arith) (omega arith) wf inside in (
      with_call most mark h c,
      call h c calls bytes (record { on = record { same_rows = refl; same_count = refl }; fit = rw follows }),
      rw (← long) at e ∙ ap (λ (s : State). (result_of s (run_of most mark table count s scans (length blank) (length blank))).state) same,
    )

-- ---- calls under a rule

-- calls on the table that filling leaves, with its count, are those that `sift` makes under the rule
pub ends_calls_under_rule : (outcome : Outcome Synthesis) (table : List ℕ) (n : ℕ) {t : List ℕ} {s : State} → t ≡ table_after mark outcome table
    → counted_of outcome ≡ accepted n → EndsCallsOn t n s → EndsCalls (UnderRule outcome table) s
ends_calls_under_rule outcome table n same e (h, calls, ends) =
    (h, calls_weaken most mark (λ h c may. record { count = n; answered = e; fit_on = rw (← same) may }) h calls, ends)

pub sifts_by_rule : SiftsByRule
sifts_by_rule s table r n bytes read counted h calls =
    let left = table_after mark (synthesis_of program_limit s) table in
    let (table', within) = any_table program_limit mark s r n (omega arith) bytes read counted table in
    let fills = fills_more program_limit most mark s table' r n left (omega arith) (omega arith) within in
    drops_exactly most mark s table' r n left fills h
    (calls_weaken most mark
    (λ h c under.
    let k : under.count ≡ n = cc under.answered in
    inl (record { same_rows = rw (← k) under.fit_on.on.same_rows; same_count = under.fit_on.on.same_count ∙ k })) h calls)

pub no_calls-refused : NoCallsRefused
no_calls-refused s table number place e h none = refl
no_calls-refused s table number place e h (call before c calls bytes under) =
    let k = under.answered in let z : ◌≡◌ {A = ℕ} 0 1 = cc in absurd (omega arith)

pub sift_hands_back : SiftHandsBack
sift_hands_back s table x bytes sifts = record {
  answer = sifts.answer;
  state = λ r n read counted. let (h, calls, ends) = sifts.state in (h, sifts_by_rule s table r n bytes read counted h calls, ends);
}
