-- A graph has what the definitions say of its rule, and so its answers are the rule's: two sets are the same where they have the same members, and
-- for both these are what the members of an equation lead to.
use Prim.Native.Nat.{ℕ, ◌<◌}
use mathlib.Core.Path.{◌≡◌, sym, ap, subst}
use mathlib.Core.Logic.{◌↔◌}
use mathlib.Core.List.{List, []}
use native.Mathlib.Omega.{arith}
use lib.ListN.{get_or, replicate}
use Rattle.reading.specs.Rule.{Rule}
use Rattle.reading.specs.Nodes.{whole}
use Rattle.reading.specs.declared.NumberedRule.{NumberedRule}
use Rattle.reading.proofs.Numbering.NumberedLaws.{repeated_at}
use Rattle.synthesis.specs.Violation.{covered_by}
use Rattle.synthesis.specs.NodeSet.{Has, intersection}
use Rattle.synthesis.specs.Answering.{falsities, reached, first_of, answer_from, answer_of}
use Rattle.synthesis.specs.Reason.{opened_falsities}
use Rattle.synthesis.specs.Arrays.{IsNumbered, IsOpening, IsGraph, reached_by, answer_by}
use Rattle.synthesis.specs.declared.graph.Graph.{Graph}
use Rattle.synthesis.proofs.Unfolding.NodeSetLaws.{same_members_same_set, has_common}
use Rattle.synthesis.proofs.Unfolding.NodeWise.{reached_has}
use Rattle.synthesis.proofs.Functions.Gathering.{gathered_has}

pub first_opened : {r : Rule} {n : NumberedRule} {e : ℕ} → IsNumbered r n → (size : ℕ) → IsOpening n (replicate size 0) 0 e → e ≡ first_of r
unfolding first_of
first_opened {r} num size o = o.is r num (λ j h. repeated_at 0 size j) [] r.formula whole

-- ---- the answer of the equation e to the code c

module _ {r : Rule} (g : Graph) (is : IsGraph r g) (e c : ℕ) (code : c < 256) where
  -- the members that wait for the code
  abbrev live : ℕ
  live = intersection e (get_or g.enabled c 0)

  -- what the members lead to
  abbrev led : ℕ
  led = reached (covered_by r.patterns) e c 0 [] r.formula

  gathered_reached : (m : ℕ) → Has (reached_by g e c) m ↔ Has led m
  gathered_reached m = (gathered_in_reached, reached_in_gathered)
    where
      gathered_in_reached : Has (reached_by g e c) m → Has led m
      gathered_in_reached h =
          let (n, shared, opened) = (gathered_has g.after live m).0 h in
          let (member, enabled) = (has_common e (get_or g.enabled c 0) n).0 shared in
          let (p, ms, f, node, covers) = (is.enabled_is.is c n code).0 enabled in
          (reached_has (covered_by r.patterns) r.formula e c m).1
          (n, p, ms, f, node, member, covers, subst (λ s. Has s m) (is.after_is.is n p ms f node) opened)

      reached_in_gathered : Has led m → Has (reached_by g e c) m
      reached_in_gathered h =
          let (n, p, ms, f, node, member, covers, opened) = (reached_has (covered_by r.patterns) r.formula e c m).0 h in
          (gathered_has g.after live m).1 (
            n,
            (has_common e (get_or g.enabled c 0) n).1 (member, (is.enabled_is.is c n code).1 (p, ms, f, node, covers)),
            subst (λ s. Has s m) (sym (is.after_is.is n p ms f node)) opened,
          )

  graph_reaches : reached_by g e c ≡ led
  graph_reaches = same_members_same_set _ _ gathered_reached

  -- What the arrays of a graph answer is what the rule's equations answer.
  pub graph_answers : answer_by g e c ≡ answer_of r e c
  unfolding answer_by answer_of
  graph_answers = rw is.falsities_are (ap (answer_from (falsities 0 r.formula)) graph_reaches)

  -- The ff nodes among what they reach are those that the members open.
  pub graph_opens : intersection (reached_by g e c) g.falsities ≡ opened_falsities r e c
  unfolding opened_falsities
  graph_opens = rw (is.falsities_are, graph_reaches)
