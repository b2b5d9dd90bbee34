-- What running and judging refuse: as for filling, a refusal is that of one of the checks, in their order.
use Prim.Native.Nat.{ℕ}
use mathlib.Core.Path.{◌≡◌, refl, ap}
use mathlib.Core.Logic.{inl, inr}
use mathlib.Core.Bool.{not}
use mathlib.Core.List.{List}
use native.Mathlib.Omega.{arith}
use lib.ListN.{length}
use Rattle.reading.specs.Rule.{Bytes}
use Rattle.reading.specs.File.{Outcome, accepted, refused}
use Rattle.reading.proofs.Basics.Outcomes.{refuse_refused, never_refused, and_then-refused}
use Rattle.synthesis.specs.Monitor.{mark, most}
use Rattle.synthesis.specs.Building.{Synthesis, synthesis_of, filling_of, counted_of}
use Rattle.synthesis.proofs.Tables.SynthesisOutcomes.{filling_by_count, filling_accepted, fills_as_counted, counted_accepts, counted_refuses}
use Rattle.running.specs.Running.{has_room, fits, Run, run_of, checked_of, result_of}
use Rattle.running.specs.Calls.{Call}
use Rattle.running.specs.Promises.{RunsOn}
use Rattle.running.specs.declared.State.{State}
use Rattle.running.proofs.Refusals.{runs_on_tables}
use Rattle.models.specs.Phone.{phone_of}
use Rattle.models.specs.Judging.{RuleAndModel, judging_of, JudgedAs}
use Rattle.models.proofs.Files.FileFaults.{model_refused, refuses_at_the_fault}
use Rattle.demands.specs.Outcomes.{running, RefusedIff}
use Rattle.demands.specs.Refusals.{CountRefused, RunRefused, short_buffer, unfit, JudgeRefused, in_filling, in_model}
use Rattle.demands.proofs.Refused.{fill_refused_within}
use Rattle.demands.proofs.UnfitTables.{unfit_not_fit, not_fit_unfit}
use Rattle.models.specs.declared.Judgment.{Judgment}

-- ---- running

result_checked : (s : State) (o : Outcome Run) → (result_of s o).checked ≡ checked_of o
result_checked s (accepted y) = refl
result_checked s (refused number place) = refl

checked_refuses : (o : Outcome Run) (number place : ℕ) → checked_of o ≡ refused number place → o ≡ refused number place
checked_refuses (accepted y) number place e = let z : ◌≡◌ {A = ℕ} 0 1 = cc in absurd (omega arith)
checked_refuses (refused m at) number place e = cc

module _ (s : State) (c : Call) where
  run_on_table : RunsOn most mark c.table c.count s c.scans (length c.output) (length c.verdicts)
  run_on_table = runs_on_tables most mark c.table c.count s c.scans (length c.output) (length c.verdicts)

  run_refusal_clause : (number place : ℕ) → checked_of (running s c) ≡ refused number place → RunRefused s c number place
  unfolding run_of
  run_refusal_clause number place e =
      refuse_refused (RunRefused s c) (not (has_room c.scans (length c.output) (length c.verdicts))) 15 0 _
      (checked_refuses (running s c) number place e)
      (λ t. short_buffer (run_on_table.short.0 (rw t)))
      (λ f e'.
      refuse_refused (RunRefused s c) (not (fits most mark c.table c.count s)) 16 0 _ e'
      (λ t. let (room, room', bad) = run_on_table.unfit.0 (rw (f, t)) in unfit room room' (not_fit_unfit c.table c.count s bad))
      (λ f' e''. absurd (never_refused e'')))

  run_clause_refuses : {number place : ℕ} → RunRefused s c number place → checked_of (running s c) ≡ refused number place
  run_clause_refuses (short_buffer short) = run_on_table.short.1 short
  run_clause_refuses (unfit room room' bad) = run_on_table.unfit.1 (room, room', unfit_not_fit bad)

  pub run_refused : RefusedIff (result_of s (running s c)).checked refused (RunRefused s c)
  run_refused number place = rw (result_checked s (running s c)) (run_refusal_clause number place, run_clause_refuses)

  -- where no clause holds, the run isn't refused
  pub run_fit : ((number place : ℕ) → RunRefused s c number place → ⊥) → (result_of s (running s c)).checked ≡ accepted tt
  run_fit none = on (running s c) refl
    where
      on : (o : Outcome Run) → running s c ≡ o → (result_of s o).checked ≡ accepted tt
      on (accepted y) e = refl
      on (refused number place) e = absurd (none number place (run_refusal_clause number place (ap checked_of e)))

-- ---- judging

judged_refuses : (o : Outcome RuleAndModel) (number place : ℕ) → JudgedAs o (refused number place) → o ≡ refused number place
judged_refuses (accepted x) number place (inl (e, sat)) = let z : ◌≡◌ {A = ℕ} 0 1 = cc in absurd (omega arith)
judged_refuses (accepted x) number place (inr (e, sat)) = let z : ◌≡◌ {A = ℕ} 0 1 = cc in absurd (omega arith)
judged_refuses (refused m at) number place e = cc

-- a refusal is the only answer to its outcome
refusal_only_answer : (o : Outcome RuleAndModel) (answer : Outcome Judgment) (number place : ℕ) → JudgedAs o answer → JudgedAs o (refused number place)
    → answer ≡ refused number place
refusal_only_answer o answer number place judged refuses = rw (judged_refuses o number place refuses) at judged

module _ (limit : ℕ) (s table f : List ℕ) (bytes : Bytes s) (bytes' : Bytes f) where
  abbrev counts : Outcome Synthesis
  counts = synthesis_of limit s

  abbrev fills : Outcome Synthesis
  fills = filling_of limit s (length table)

  abbrev judges : Outcome RuleAndModel
  judges = judging_of limit s (length table) f

  judge_refusal_clause : (number place : ℕ) → JudgedAs judges (refused number place)
      → JudgeRefused (CountRefused limit 9 s) (counted_of counts) (length table) f number place
  unfolding judging_of
  judge_refusal_clause number place judged =
      and_then-refused fills _ (judged_refuses judges number place judged)
      (λ e. in_filling ((fill_refused_within limit s table bytes number place).0 (ap counted_of e)))
      (λ y filled e.
      let (counted, room) = filling_accepted {counting = counts} (length table) (filling_by_count limit s (length table)) y filled in
      and_then-refused (phone_of f) _ e
      (λ e'.
      in_model (length y.equations) (ap counted_of counted) room
      ((refuses_at_the_fault f bytes' number place).0 ((model_refused (phone_of f) number place).0 e')))
      (λ p read e'. absurd (never_refused e')))

  judge_clause_refuses : {number place : ℕ} → JudgeRefused (CountRefused limit 9 s) (counted_of counts) (length table) f number place
      → JudgedAs judges (refused number place)
  unfolding judging_of
  judge_clause_refuses {number} {place} (in_filling b) = rw (counted_refuses fills number place ((fill_refused_within limit s table bytes number place).1 b))
  judge_clause_refuses {number} {place} (in_model n e room fault) =
      let (y, filled, long) = counted_accepts fills n ((fills_as_counted limit s (length table)).enough n e room) in
      let read = (model_refused (phone_of f) number place).1 ((refuses_at_the_fault f bytes' number place).1 fault) in
      rw (filled, read)

  pub judge_refused : (answer : Outcome Judgment) → JudgedAs judges answer
      → RefusedIff answer refused (JudgeRefused (CountRefused limit 9 s) (counted_of counts) (length table) f)
  judge_refused answer judged number place = (
    λ e. judge_refusal_clause number place (rw e at judged),
    λ h. refusal_only_answer judges answer number place judged (judge_clause_refuses h),
  )
