-- What is explained of files with alike rules goes by violation, but for the number of a node: so both say that a scan is kept, or neither does; 17 stands at
-- the same scan; and the refusals of counting are the same.
use Prim.Native.Nat.{ℕ}
use mathlib.Core.Path.{◌≡◌, refl, sym, ◌∙◌}
use mathlib.Core.Logic.{◌⊎◌, inl, inr}
use mathlib.Core.List.{List}
use native.Mathlib.Omega.{arith}
use Rattle.reading.specs.Rule.{Rule}
use Rattle.synthesis.specs.Alike.{RulesAlike}
use Rattle.synthesis.specs.Building.{synthesis_of, counted_of}
use Rattle.synthesis.specs.Reason.{FirstViolated, explanation_of, reason_of}
use Rattle.synthesis.specs.ReasonPromises.{Explained}
use Rattle.synthesis.specs.AlikePromises.{ExplainedAlike, ExplainsAlike}
use Rattle.synthesis.proofs.Reasons.Explained.{reasons_exactly}
use Rattle.synthesis.proofs.EmptyPatterns.AlikeLaws.{alike_back, violated_alike}
use Rattle.synthesis.proofs.EmptyPatterns.SameTables.{long_counted_alike}
use Rattle.reading.specs.File.{Outcome, accepted, refused}
use Rattle.std.specs.Prelude.{Option, Some, None}

-- ---- from one rule to the other

module _ (r r' : Rule) (alike : RulesAlike r r') (w : List ℕ) (c : ℕ) (reason reason' : Outcome (Option ℕ)) (one : Explained r w c reason)
    (other : Explained r' w c reason') where
  kept_too : reason ≡ accepted None → reason' ≡ accepted None
  kept_too e = other.kept.1 (λ v. one.kept.0 e ((violated_alike r r' alike _).1 v))

  first_violated_too : (i : ℕ) → FirstViolated r w i → FirstViolated r' w i
  first_violated_too i v = record {
    inside = v.inside;
    before = λ x. v.before ((violated_alike r r' alike _).1 x);
    violated = (violated_alike r r' alike _).0 v.violated;
  }

  -- a refusal that isn't of counting is 17
  refused_too : (number place : ℕ) → reason ≡ refused number place → reason' ≡ refused number place
  refused_too number place e = on one.only
    where
      on : (reason ≡ accepted None) ⊎ (((m : ℕ) × (reason ≡ accepted (Some m))) ⊎ ((i : ℕ) × (reason ≡ refused 17 i))) → reason' ≡ refused number place
      on (inl k) = let z : ◌≡◌ {A = ℕ} 0 1 = cc in absurd (omega arith)
      on (inr (inl (m, k))) = let z : ◌≡◌ {A = ℕ} 0 1 = cc in absurd (omega arith)
      on (inr (inr (i, k))) = (other.unfit i).1 (first_violated_too i ((one.unfit i).0 k)) ∙ sym k ∙ e

-- ---- both ways

pub explains_alike : ExplainsAlike
explains_alike limit s s' bytes bytes' r r' read read' alike w c =
    on (counted_of (synthesis_of limit s)) refl (sym (long_counted_alike limit s s' bytes bytes' r r' read read' alike))
  where
    said : Outcome (Option ℕ)
    said = reason_of (explanation_of limit s w c)

    said' : Outcome (Option ℕ)
    said' = reason_of (explanation_of limit s' w c)

    on : (counted : Outcome ℕ) → counted_of (synthesis_of limit s) ≡ counted → counted_of (synthesis_of limit s') ≡ counted_of (synthesis_of limit s)
        → ExplainedAlike said said'
    on (accepted n) q same =
        let one = (reasons_exactly limit s bytes w c).explained r n read q in
        let other = (reasons_exactly limit s' bytes' w c).explained r' n read' (same ∙ q) in
        record {
          kept = (kept_too r r' alike w c said said' one other, kept_too r' r (alike_back alike) w c said' said other one);
          refused = λ number place. (
            refused_too r r' alike w c said said' one other number place,
            refused_too r' r (alike_back alike) w c said' said other one number place,
          );
        }
    on (refused number place) q same =
        let one = (reasons_exactly limit s bytes w c).refused number place q in
        let other = (reasons_exactly limit s' bytes' w c).refused number place (same ∙ q) in
        let is_same : said ≡ said' = one ∙ sym other in
        record { kept = (λ e. sym is_same ∙ e, λ e. is_same ∙ e); refused = λ n p. (λ e. sym is_same ∙ e, λ e. is_same ∙ e) }
