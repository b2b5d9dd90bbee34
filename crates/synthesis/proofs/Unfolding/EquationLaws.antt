-- A code takes an equation to the next, and the lists that violate the one to the lists that violate the other: both go by the nodes that the members
-- lead to.
use Prim.Native.Nat.{ℕ}
use mathlib.Core.Logic.{◌↔◌, ◌⊎◌, inl, inr}
use mathlib.Core.Bool.{Bool}
use mathlib.Core.List.{List, [], ◌∷◌}
use lib.ListN.{length}
use Rattle.reading.specs.Rule.{WellFormed, Rule}
use Rattle.reading.specs.Nodes.{whole, after}
use Rattle.synthesis.specs.Violation.{covered_by, by_falsity, by_code, ViolatesRule}
use Rattle.synthesis.specs.Monitor.{Answer, dropped, next}
use Rattle.synthesis.specs.NodeSet.{Has}
use Rattle.synthesis.specs.Opening.{IsFalsity, OpensToFalsity, Leads, leads, Answers, ViolatesEquation}
use Rattle.synthesis.specs.Answering.{first_of, answer_of}
use Rattle.synthesis.specs.Promises.{ViolatesNext, Tracks, TracksViolation}
use Rattle.synthesis.proofs.Unfolding.AnsweringLaws.{answers_as_defined}
use Rattle.synthesis.proofs.Unfolding.ViolationLaws.{ViolatesNode, violates_node, opens_violates, Ends, at_falsity, at_necessity, violates_opens}

abbrev covered : Rule → ℕ → ℕ → Bool
covered r = covered_by r.patterns

-- ---- nodes that members lead to

-- A list violates a node of an equation: the node is ff, or the list violates the equation.
ends_cases : {A : Type 0} {m : ℕ} {w : List ℕ} (r : Rule) (e : ℕ) → Has e m → (IsFalsity r.formula m → A) → (ViolatesEquation r e w → A)
    → Ends (covered r) r.formula m w → A
ends_cases r e h ff other (at_falsity f) = ff f
ends_cases {m = m} r e h ff other (at_necessity {p} {ms} {f} n v) = other (m, p, ms, f, h, n, v)

-- Under c, a member of e leads to a node that a list violates.
lead_violates : {e c m : ℕ} {w : List ℕ} (r : Rule) → Leads r e c m → ViolatesNode (covered r) r.formula m w
    → ViolatesEquation r e (c ∷ w)
lead_violates r (leads {n} {p} {ms = ms} {f} member node h o) v =
    (n, p, ms, f, member, node, by_code h (opens_violates (covered r) r.formula o v ms f (after node)))

module _ (r : Rule) (wf : WellFormed (length r.patterns) [] r.formula) where
  violates_lead : {e c : ℕ} {w : List ℕ} → ViolatesEquation r e (c ∷ w) → (m : ℕ) × Leads r e c m × Ends (covered r) r.formula m w
  violates_lead (n, p, ms, f, member, node, by_code h v) =
      let o = violates_opens (covered r) r.formula (length r.patterns) wf (after node) v in
      (o.0, leads member node h o.1, o.2)

  -- ---- the answer to a code, and the first equation

  answers_track : (e c : ℕ) (w : List ℕ) (a : Answer ℕ) → Answers r e c a → ViolatesEquation r e (c ∷ w) ↔ ViolatesNext r a w
  answers_track e c w dropped (m, l, f) = (λ v. tt, λ v. lead_violates r l (violates_node (covered r) r.formula f.1 by_falsity))
  answers_track e c w (next e') (clean, members) = (violated_next, next_violated)
    where
      violated_next : ViolatesEquation r e (c ∷ w) → ViolatesEquation r e' w
      violated_next v =
          let l = violates_lead v in
          ends_cases r e' ((members l.0).1 l.1) (λ f. absurd (clean l.0 l.1 f)) (λ v. v) l.2

      next_violated : ViolatesEquation r e' w → ViolatesEquation r e (c ∷ w)
      next_violated (n, p, ms, f, member, node, v) = lead_violates r ((members n).0 member) (violates_node (covered r) r.formula node v)

  empty_list_violates_none : (e : ℕ) → ViolatesEquation r e [] → ⊥
  empty_list_violates_none e (n, p, ms, f, member, node, v) = elim v [ ]

  rule_violated_iff : (w : List ℕ) → ViolatesRule r w ↔ (OpensToFalsity r.formula 0 ⊎ ViolatesEquation r (first_of r) w)
  rule_violated_iff w = (rule_violated_opens, opens_rule_violated)
    where
      rule_violated_opens : ViolatesRule r w → OpensToFalsity r.formula 0 ⊎ ViolatesEquation r (first_of r) w
      rule_violated_opens v =
          let o = violates_opens (covered r) r.formula (length r.patterns) wf whole v in
          ends_cases r (first_of r) (((answers_as_defined r wf).first o.0).1 o.1) (λ f. inl (o.0, o.1, f)) (λ v. inr v) o.2

      opens_rule_violated : OpensToFalsity r.formula 0 ⊎ ViolatesEquation r (first_of r) w → ViolatesRule r w
      opens_rule_violated (inl (m, o, f)) = opens_violates (covered r) r.formula o (violates_node (covered r) r.formula f.1 by_falsity) _ _ whole
      opens_rule_violated (inr (n, p, ms, f, member, node, v)) =
          let o = ((answers_as_defined r wf).first n).0 member in
          opens_violates (covered r) r.formula o (violates_node (covered r) r.formula node v) _ _ whole

  rule_tracked : Tracks r
  rule_tracked = record {
    step = λ e c w. answers_track e c w (answer_of r e c) ((answers_as_defined r wf).answers e c);
    end = empty_list_violates_none;
    start = rule_violated_iff;
  }

pub tracks_violation : TracksViolation
tracks_violation = rule_tracked
