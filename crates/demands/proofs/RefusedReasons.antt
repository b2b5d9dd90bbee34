-- What explaining refuses: what counting refuses, and else 17, as its promise has it.
use Prim.Native.Nat.{ℕ}
use mathlib.Core.Path.{◌≡◌, refl, sym, ◌∙◌, ap}
use mathlib.Core.Logic.{◌⊎◌, inl, inr}
use mathlib.Core.List.{List}
use lib.ListN.{length}
use Rattle.reading.specs.Rule.{Bytes}
use Rattle.reading.specs.File.{Outcome, accepted, refused}
use Rattle.reading.proofs.Accepting.Accepted.{accepts_encodings}
use Rattle.reading.proofs.Basics.Outcomes.{never_refused, refused_same}
use Rattle.synthesis.specs.Monitor.{most}
use Rattle.synthesis.specs.Building.{Synthesis, counted_of}
use Rattle.synthesis.specs.Reason.{reason_of}
use Rattle.synthesis.specs.ReasonPromises.{Reasons, Explained}
use Rattle.synthesis.proofs.Reasons.Explained.{reasons_exactly}
use Rattle.models.specs.Promises.{Acceptable}
use Rattle.models.proofs.Judgments.Accepting.{counted_acceptable, acceptable_counted}
use Rattle.demands.specs.Outcomes.{counting, explaining, RefusedIff}
use Rattle.demands.specs.Refusals.{ExplainRefused, in_counting, violating_scan}
use Rattle.demands.proofs.Refused.{count_refused}
use Rattle.std.specs.Prelude.{Option, Some, None}

module _ (s : List ℕ) (bytes : Bytes s) (kept : List ℕ) (scan : ℕ) where
  abbrev reason : Outcome (Option ℕ)
  reason = reason_of (explaining s kept scan)

  reasons : Reasons most s kept scan
  reasons = reasons_exactly most s bytes kept scan

  explained : (a : Acceptable most s) → Explained a.rule kept scan reason
  explained a =
      let (n, counted) = acceptable_counted most s bytes a in
      reasons.explained a.rule n ((accepts_encodings s bytes a.rule).1 (a.within_limits, a.encoded)) counted

  -- a rule that is accepted: the only refusal is 17
  violating_clause : (a : Acceptable most s) (number place : ℕ) → reason ≡ refused number place → ExplainRefused s kept number place
  violating_clause a number place e = on (explained a).only
    where
      on : (reason ≡ accepted None) ⊎ (((m : ℕ) × (reason ≡ accepted (Some m))) ⊎ ((i : ℕ) × (reason ≡ refused 17 i))) → ExplainRefused s kept number place
      on (inl q) = absurd (never_refused (sym q ∙ e))
      on (inr (inl (m, q))) = absurd (never_refused (sym q ∙ e))
      on (inr (inr (i, q))) =
          let (number_is, place_is) = refused_same (sym q ∙ e) in
          rw (← number_is, ← place_is) (violating_scan a i (((explained a).unfit i).0 q))

  refusal_clause : (number place : ℕ) → reason ≡ refused number place → ExplainRefused s kept number place
  refusal_clause number place e = on (counting s) refl
    where
      on : (o : Outcome Synthesis) → counting s ≡ o → ExplainRefused s kept number place
      on (accepted y) q = violating_clause (counted_acceptable most s bytes (length y.equations) (ap counted_of q)) number place e
      on (refused number' place') q =
          let (number_is, place_is) = refused_same (sym (reasons.refused number' place' (ap counted_of q)) ∙ e) in
          rw (← number_is, ← place_is) (in_counting ((count_refused s bytes number' place').0 (ap counted_of q)))

  clause_refuses : {number place : ℕ} → ExplainRefused s kept number place → reason ≡ refused number place
  clause_refuses {number} {place} (in_counting clause) = reasons.refused number place ((count_refused s bytes number place).1 clause)
  clause_refuses (violating_scan a i first) = ((explained a).unfit i).1 first

  pub explain_refused : RefusedIff reason refused (ExplainRefused s kept)
  explain_refused number place = (refusal_clause number place, clause_refuses)
