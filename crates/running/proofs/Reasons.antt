-- What `explain` says of the scans of a run goes with their verdicts: what was kept doesn't violate the rule, so 17 is never said, and a node is said
-- exactly of what would violate it.
use Prim.Native.Nat.{ℕ, ◌<◌}
use mathlib.Core.Path.{◌≡◌, sym, ◌∙◌, ap, subst}
use mathlib.Core.Logic.{◌↔◌, ◌⊎◌, inl, inr}
use mathlib.Core.List.{List, [], ◌∷◌, ◌++◌}
use native.Mathlib.Omega.{arith}
use lib.ListN.{length, get_or, take, drop, take-append-drop, length-take}
use Rattle.reading.specs.Rule.{Rule, Bytes}
use Rattle.reading.specs.File.{accepted, rule_of, Outcome, refused}
use Rattle.synthesis.specs.Violation.{ViolatesRule}
use Rattle.synthesis.specs.Monitor.{ended, lookup}
use Rattle.synthesis.specs.Building.{synthesis_of, counted_of}
use Rattle.synthesis.specs.ReasonPromises.{Placed, Explained}
use Rattle.synthesis.proofs.Tables.Equations.{file_well_formed}
use Rattle.synthesis.proofs.Monitors.Runs.{kept_all, ended_kept}
use Rattle.synthesis.proofs.Monitors.Renaming.{renamed_runs}
use Rattle.synthesis.proofs.Tables.Built.{built_well_formed, fills_counted}
use Rattle.synthesis.proofs.Quotients.ShortTables.{short_fills_counted}
use Rattle.synthesis.proofs.Reasons.Fronts.{extended, first_violates}
use Rattle.synthesis.proofs.Reasons.Alone.{violates_somewhere}
use Rattle.synthesis.proofs.Reasons.Explained.{reasons_exactly}
use Rattle.synthesis.proofs.Reasons.ByEquation.{reasons_by_equation}
use Rattle.running.specs.Running.{start, moved, answer_in}
use Rattle.running.specs.Calls.{History, with_verdict, kept_before}
use Rattle.running.specs.declared.State.{State}
use Rattle.running.specs.Promises.{Sifted, reason_after, Reasoned, ReasonsOfRuns, ShortReasonsOfRuns, ReasonsByState}
use Rattle.running.proofs.WithVerdicts.{with_append}
use Rattle.running.proofs.Histories.{OneRun, one_run}
use Rattle.running.proofs.DemandTwo.{state_renames, drops_exactly, short_drops_exactly}
use Rattle.std.specs.Prelude.{Option, Some, None}

-- ---- what was kept

module _ {r : Rule} {h : History} (sifted : Sifted r h) where
  -- what was kept of the first i is a front of all that was kept
  kept_front : (i : ℕ) → kept_before h i ++ with_verdict 0 (drop i h.verdicts) (drop i h.scans) ≡ h.kept
  kept_front i =
      sym (with_append 0 (take i h.verdicts) (take i h.scans) (drop i h.verdicts) (drop i h.scans) same_length)
      ∙ rw (take-append-drop i h.verdicts, take-append-drop i h.scans) (sym sifted.kept)
    where
      same_length : length (take i h.verdicts) ≡ length (take i h.scans)
      same_length = length-take i h.verdicts ∙ rw sifted.one_each (sym (length-take i h.scans))

  kept_before-safe : (i : ℕ) → ViolatesRule r (kept_before h i) → ⊥
  kept_before-safe i v =
      sifted.safe (subst (ViolatesRule r) (kept_front i) (extended r (kept_before h i) _ v))

-- ---- what is said of a scan after a list that doesn't violate the rule

-- no reason, or a node
abbrev KeptOrNode : Outcome (Option ℕ) → Type 0
KeptOrNode reason = (reason ≡ accepted None) ⊎ ((m : ℕ) × (reason ≡ accepted (Some m)))

module _ {r : Rule} {w : List ℕ} {c : ℕ} {reason : Outcome (Option ℕ)} (explained : Explained r w c reason) (safe : ViolatesRule r w → ⊥) where
  kept_or_node : KeptOrNode reason
  kept_or_node = on explained.only
    where
      on : (reason ≡ accepted None) ⊎ (((m : ℕ) × (reason ≡ accepted (Some m))) ⊎ ((i : ℕ) × (reason ≡ refused 17 i))) → KeptOrNode reason
      on (inl q) = inl q
      on (inr (inl q)) = inr q
      on (inr (inr (i, q))) = absurd (safe (first_violates r w i ((explained.unfit i).0 q)))

  said_fit : (number place : ℕ) → reason ≡ refused number place → ⊥
  said_fit number place e = on kept_or_node
    where
      on : KeptOrNode reason → ⊥
      on (inl q) = let z : ◌≡◌ {A = ℕ} 0 1 = cc in omega arith
      on (inr (m, q)) = let z : ◌≡◌ {A = ℕ} 0 1 = cc in omega arith

  node_iff_violated : Placed r → ((m : ℕ) × (reason ≡ accepted (Some m))) ↔ ViolatesRule r (w ++ (c ∷ []))
  node_iff_violated placed = (λ (m, q). (placed.somewhere (w ++ (c ∷ []))).1 (m, ((explained.node m).0 q).1.holds), λ v. on v kept_or_node)
    where
      on : ViolatesRule r (w ++ (c ∷ [])) → KeptOrNode reason → (m : ℕ) × (reason ≡ accepted (Some m))
      on v (inl q) = absurd (explained.kept.0 q v)
      on v (inr q) = q

-- ---- the promise

-- a verdict that isn't 1 is 0
verdict_zero : {v : ℕ} {A : Type 0} → (v ≡ 0) ⊎ (v ≡ 1) → (v ≡ 1) ↔ A → (v ≡ 0) ↔ (A → ⊥)
verdict_zero (inl q) iff = (λ e a. omega (arith, q, iff.1 a), λ none. q)
verdict_zero (inr q) iff = (λ e. absurd (omega (arith, q, e)), λ none. absurd (none (iff.0 q)))

-- after calls that sift by the rule of a file that is counted
sifted_reasoned : {limit : ℕ} {s : List ℕ} {r : Rule} {n : ℕ} → Bytes s → rule_of s ≡ accepted r → counted_of (synthesis_of limit s) ≡ accepted n
    → (h : History) → Sifted r h → Reasoned limit s h
sifted_reasoned {limit} {s} {r} {n} bytes read counted h sifted = record {
  dropped = λ i inside.
      let verdict = sifted.drops i inside in
      let node = node_iff_violated (explained i (get_or h.scans i 0)) (kept_before-safe sifted i) placed in
      (λ e. node.1 (verdict.0 e), λ q. verdict.1 (node.0 q));
  kept = λ i inside.
      let verdict = verdict_zero (sifted.kept_or_dropped i inside) (sifted.drops i inside) in
      let said = (explained i (get_or h.scans i 0)).kept in
      (λ e. said.1 (verdict.0 e), λ q. verdict.1 (said.0 q));
  fit = λ i c. said_fit (explained i c) (kept_before-safe sifted i);
}
  where
    placed : Placed r
    placed = violates_somewhere r (file_well_formed s bytes r read)

    explained : (i c : ℕ) → Explained r (kept_before h i) c (reason_after limit s h i c)
    explained i c = (reasons_exactly limit s bytes (kept_before h i) c).explained r n read counted

pub reasons_of_runs : ReasonsOfRuns
reasons_of_runs limit mark s table r n left b h calls =
    sifted_reasoned b.bytes b.read (fills_counted b) h (drops_exactly limit mark s table r n left b h calls)

pub short_reasons_of_runs : ShortReasonsOfRuns
short_reasons_of_runs limit mark s table r n left b h calls =
    sifted_reasoned b.bytes b.read (short_fills_counted b) h (short_drops_exactly limit mark s table r n left b h calls)

-- ---- another list to the same equation

-- the run over what was kept ends in the state that the caller has
kept_ends : (mark : ℕ) (table : List ℕ) (count : ℕ) (h : History) → OneRun mark table count h → Bytes h.kept
    → ended (lookup 256 mark table) 0 h.kept ≡ h.state.equation
kept_ends mark table count h run bytes =
    let named =
    (renamed_runs 256 (λ e. Unit) (lookup 256 mark table) (answer_in mark table) (moved start) (state_renames mark table) 0 h.kept tt bytes).ends in
    let same : ended (answer_in mark table) start h.kept ≡ h.state = rw (run.kept, run.state) (ended_kept (answer_in mark table) start h.scans) in
    ap (λ (s : State). s.equation) (sym named ∙ same)

pub reasons_by_state : ReasonsByState
reasons_by_state limit mark s table r n left b h calls w bytes safe same =
    let run = one_run limit mark n left (built_well_formed limit mark s table r n left b) h calls in
    let kept-bytes : Bytes h.kept = rw run.kept (kept_all (answer_in mark left) (λ b. b < 256) start h.scans run.bytes) in
    reasons_by_equation limit mark s table r n left b w h.kept bytes kept-bytes safe (drops_exactly limit mark s table r n left b h calls).safe
    (same ∙ sym (kept_ends mark left n h run kept-bytes))
