-- What a caller has after any number of calls: induction over them. A refused call changes nothing, and any other is a run that goes on where the
-- last one ended, so calls on one table are one run over all their scans.
use Prim.Native.Nat.{ℕ, ◌*◌, ◌<◌}
use mathlib.Core.Path.{◌≡◌, refl, sym, ◌∙◌, ap, subst}
use mathlib.Core.Logic.{inl, inr}
use mathlib.Core.List.{List, ◌++◌, append-nil}
use lib.ListN.{length, take, drop}
use lib.Seq.{take-append_seam, take_at}
use Rattle.reading.specs.Rule.{Bytes}
use Rattle.reading.specs.File.{accepted, refused}
use Rattle.reading.proofs.Basics.ByteLaws.{bytes_append}
use Rattle.reading.proofs.Basics.Outcomes.{never_accepted}
use Rattle.synthesis.specs.Monitor.{kept, verdicts, ended}
use Rattle.synthesis.specs.Table.{WellFormedTable}
use Rattle.synthesis.proofs.Monitors.Renaming.{Renames, renamed_runs}
use Rattle.synthesis.proofs.Monitors.Runs.{kept_append, verdicts_append, ended_append, verdicts_length}
use Rattle.running.specs.Running.{start, answer_in, Run, run_from}
use Rattle.running.specs.Calls.{Call, History, no_calls, outcome_of, with_outcome, with_call, Calls, none, call, OnTable, OnTableOrRefused}
use Rattle.running.specs.declared.State.{State}
use Rattle.running.proofs.RunCases.{run_cases}
use Rattle.running.proofs.Tables.{next_inside, ends_inside, same_answer-in}

-- ---- one more call

-- what the caller has after a run over the call's scans
abbrev pub with_run : (mark : ℕ) → History → Call → History
with_run mark h c = record {
  state = ended (answer_in mark c.table) h.state c.scans;
  scans = h.scans ++ c.scans;
  kept = h.kept ++ kept (answer_in mark c.table) h.state c.scans;
  verdicts = h.verdicts ++ verdicts (answer_in mark c.table) h.state c.scans;
}

with_refused : (h : History) (c : Call) (number place : ℕ) → with_outcome h c (refused number place) ≡ h
with_refused h c number place = rw (append-nil h.scans, append-nil h.kept, append-nil h.verdicts)

with_fit : (mark : ℕ) (h : History) (c : Call) → with_outcome h c (accepted (run_from mark c.table h.state c.scans)) ≡ with_run mark h c
with_fit mark h c =
    let F = answer_in mark c.table in
    let k = kept F h.state c.scans in
    let v = verdicts F h.state c.scans in
    rw (
      take-append_seam k (drop (length k) c.output),
      take_at v (drop (length v) c.verdicts) (length c.scans) (verdicts_length F h.state c.scans),
    )

-- What holds before the first call, and after each run that may be made, holds after any number of calls.
pub calls_induction : (limit mark : ℕ) (May : History → Call → Type 0) (P : History → Type 0) → P no_calls
    → ((h : History) (c : Call) → P h → Bytes c.scans → May h c
    → outcome_of limit mark h.state c ≡ accepted (run_from mark c.table h.state c.scans) → P (with_run mark h c))
    → (h : History) → Calls limit mark May h → P h
calls_induction limit mark May P first more h none = first
calls_induction limit mark May P first more h (call before c calls bytes may) =
    call_step (calls_induction limit mark May P first more before calls)
  where
    call_step : P before → P (with_call limit mark before c)
    call_step p =
        run_cases limit mark c.table c.count before.state c.scans (length c.output) (length c.verdicts)
        (λ o. outcome_of limit mark before.state c ≡ o → P (with_outcome before c o))
        (λ r e. subst P (sym (with_refused before c 15 0)) p)
        (λ r f e. subst P (sym (with_refused before c 16 0)) p)
        (λ r f e. subst P (sym (with_fit mark before c)) (more before c p bytes may e))
        refl

-- calls that may be made under one condition may be under a weaker one
pub calls_weaken : (limit mark : ℕ) {May May' : History → Call → Type 0} → ((h : History) (c : Call) → May h c → May' h c)
    → (h : History) → Calls limit mark May h → Calls limit mark May' h
calls_weaken limit mark weaker h none = none
calls_weaken limit mark weaker h (call before c calls bytes may) =
    call before c (calls_weaken limit mark weaker before calls) bytes (weaker before c may)

-- ---- calls on one table

-- They are one run from the start over all their scans, and end in an equation of the table.
pub record OneRun (mark : ℕ) (table : List ℕ) (count : ℕ) (h : History) : Type 0 where
  pub bytes : Bytes h.scans
  pub state : h.state ≡ ended (answer_in mark table) start h.scans
  pub kept : h.kept ≡ kept (answer_in mark table) start h.scans
  pub verdicts : h.verdicts ≡ verdicts (answer_in mark table) start h.scans
  pub inside : h.state.equation < count

module _ (limit mark count : ℕ) (table : List ℕ) (wf : WellFormedTable limit mark count table) where
  -- The states of a run on the table go by the same names on any other with these rows.
  same_rows_rename : (t : List ℕ) → take (256 * count) t ≡ take (256 * count) table
      → Renames 256 (λ s. s.equation < count) (answer_in mark table) (answer_in mark t) (λ s. s)
  same_rows_rename t same = record {
    invariant = λ s s' c inside b q. next_inside limit mark count table wf s s' c inside q;
    drops = λ s c inside b q. same_answer-in wf t same s c inside ∙ q;
    follows = λ s s' c inside b q. same_answer-in wf t same s c inside ∙ q;
  }

  one_run_next : (h : History) (c : Call) → OneRun mark table count h → Bytes c.scans → OnTable table count c
      → OneRun mark table count (with_run mark h c)
  one_run_next h c before bytes on =
      let F = answer_in mark table in
      let w = c.scans in
      let run =
      renamed_runs 256 (λ s. s.equation < count) F (answer_in mark c.table) (λ s. s) (same_rows_rename c.table on.same_rows) h.state w
      before.inside bytes in
      rw (run.keeps, run.judges, run.ends)
      (record {
        bytes = bytes_append h.scans w before.bytes bytes;
        state = ap (λ (s : State). ended F s w) before.state ∙ sym (ended_append F start h.scans w);
        kept = rw (kept_append F start h.scans w, ← before.state, ← before.kept);
        verdicts = rw (verdicts_append F start h.scans w, ← before.state, ← before.verdicts);
        inside = ends_inside limit mark count table wf h.state w before.inside;
      })

  pub one_run : (h : History) → Calls limit mark (OnTableOrRefused limit mark table count) h → OneRun mark table count h
  one_run =
      calls_induction limit mark (OnTableOrRefused limit mark table count) (OneRun mark table count)
      (record { bytes = tt; state = refl; kept = refl; verdicts = refl; inside = wf.some })
      (λ h c before bytes may e. one_run_next h c before bytes (accepted_on_table h c may e))
    where
      accepted_on_table : (h : History) (c : Call) {y : Run} → OnTableOrRefused limit mark table count h c → outcome_of limit mark h.state c ≡ accepted y
          → OnTable table count c
      accepted_on_table h c (inl on) e = on
      accepted_on_table h c (inr refusal) e = absurd (never_accepted (sym refusal.2 ∙ e))
