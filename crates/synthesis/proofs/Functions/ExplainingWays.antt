-- What is answered of a scan: a law for each way out of the code, from what the plan is. What the arrays of the plan's graph say is what the rule's
-- equations say.
use Prim.Native.Nat.{ℕ, ◌<◌}
use mathlib.Core.Path.{◌≡◌, sym, ◌∙◌, ap}
use mathlib.Core.List.{List}
use lib.Bits.{bit_and}
use Rattle.reading.specs.Rule.{Bytes}
use Rattle.reading.specs.File.{Outcome, accepted, refused}
use Rattle.synthesis.specs.Monitor.{most}
use Rattle.synthesis.specs.NodeSet.{intersection}
use Rattle.synthesis.specs.Answering.{first_of, answer_of}
use Rattle.synthesis.specs.Building.{synthesis_of}
use Rattle.synthesis.specs.Arrays.{reached_by, answer_by, Found}
use Rattle.synthesis.specs.Reason.{lowest_reason, opened_falsities, followed, explanation_of, reason_of}
use Rattle.synthesis.specs.Plans.{Planned}
use Rattle.synthesis.specs.declared.Plan.{Plan}
use Rattle.synthesis.proofs.Reasons.Following.{followed_cong}
use Rattle.synthesis.proofs.Functions.GraphLaws.{graph_answers, graph_opens}

module _ (s w : List ℕ) (c : ℕ) where
  -- the rule is refused
  pub refused_reason : {number place : ℕ} → synthesis_of most s ≡ refused number place → refused number place ≡ reason_of (explanation_of most s w c)
  unfolding explanation_of
  refused_reason e = rw e

  module _ (bytes : Bytes w) (p : Plan) {found : Found} (d : Planned (synthesis_of most s) found p) where
    -- where the scans lead
    abbrev leads : Outcome ℕ
    leads = followed (answer_of d.synthesis.rule) (first_of d.synthesis.rule) 0 w

    leads_is : followed (answer_by p.graph) p.graph.first 0 w ≡ leads
    leads_is =
        let graph = d.fills.graph_is in
        followed_cong 256 _ _ (graph_answers p.graph graph) w bytes p.graph.first 0
        ∙ ap (λ (e : ℕ). followed (answer_of d.synthesis.rule) e 0 w) graph.first_is

    -- one of the scans is dropped
    pub dropped_reason : {number place : ℕ} → refused number place ≡ followed (answer_by p.graph) p.graph.first 0 w
        → refused number place ≡ reason_of (explanation_of most s w c)
    unfolding explanation_of
    dropped_reason is = let to = sym (is ∙ leads_is) in rw (d.is, to)

    -- none is, and they lead to the equation e
    pub kept_reason : (e : ℕ) → accepted e ≡ followed (answer_by p.graph) p.graph.first 0 w → c < 256 → (set : ℕ) → set ≡ reached_by p.graph e c
        → accepted (lowest_reason (bit_and set p.graph.falsities)) ≡ reason_of (explanation_of most s w c)
    unfolding explanation_of
    kept_reason e is code set reached =
        let to = sym (is ∙ leads_is) in
        let opened : intersection set p.graph.falsities ≡ opened_falsities d.synthesis.rule e c =
        ap (λ (x : ℕ). intersection x p.graph.falsities) reached ∙ graph_opens p.graph d.fills.graph_is e c code in
        rw (d.is, to, opened)
