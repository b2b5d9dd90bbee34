-- A plan is that of the synthesis of a rule file: a law for each way out of the code, by which check refuses.
use Prim.Native.Nat.{ℕ, ◌≤◌, ◌<◌}
use mathlib.Core.Path.{◌≡◌, refl, ◌∙◌, ap}
use mathlib.Core.Bool.{false, not}
use mathlib.Core.List.{List}
use native.Mathlib.Omega.{arith}
use lib.Dec.{eqb}
use lib.Bits.{bit_and}
use lib.ListN.{length}
use borrow.Author.Tests.{ne_eqb, eq-eqb}
use Rattle.reading.specs.Rule.{Rule, Bytes}
use Rattle.reading.specs.File.{Outcome, accepted, refused, rule_of}
use Rattle.reading.specs.Numbered.{reading_of}
use Rattle.reading.specs.declared.NumberedRule.{NumberedRule}
use Rattle.reading.proofs.Basics.Outcomes.{accepted_is, never_accepted, never_refused}
use Rattle.reading.proofs.Accepting.Accepted.{accepts_encodings}
use Rattle.reading.proofs.Numbering.Listings.{size_positive}
use Rattle.synthesis.specs.Monitor.{most}
use Rattle.synthesis.specs.NodeSet.{empty_set, intersection}
use Rattle.synthesis.specs.Answering.{answer_of, unsatisfiable}
use Rattle.synthesis.specs.Search.{found}
use Rattle.synthesis.specs.Building.{with_equations, equations_of, synthesis_of}
use Rattle.synthesis.specs.Arrays.{IsNumbered, SomeNumbered, IsGraph, answer_by, Found}
use Rattle.synthesis.specs.Plans.{Planned}
use Rattle.synthesis.specs.declared.graph.Graph.{Graph}
use Rattle.synthesis.proofs.Numberings.Finding.{found_cong}
use Rattle.synthesis.proofs.Tables.SynthesisOutcomes.{accepts_with_equations, refuses_eight, refuses_nine}
use Rattle.synthesis.proofs.Functions.GraphLaws.{graph_answers}

-- ---- a file that couldn't be read

pub unread : (limit : ℕ) (s : List ℕ) {number place : ℕ} → refused number place ≡ reading_of (rule_of s) → synthesis_of limit s ≡ refused number place
unfolding synthesis_of
unread limit s {number} {place} e = rw (on (rule_of s) e)
  where
    on : (o : Outcome Rule) → refused number place ≡ reading_of o → o ≡ refused number place
    on (accepted r) e = absurd (never_accepted e)
    on (refused number' place') e = cc

-- ---- a file that is a rule

-- what was read
pub record Read (s : List ℕ) (n : NumberedRule) : Type 0 where
  pub rule : Rule
  pub is : rule_of s ≡ accepted rule
  pub numbers : IsNumbered rule n

pub read : (s : List ℕ) → Bytes s → (n : NumberedRule) → accepted n ≡ reading_of (rule_of s) → Read s n
read s bytes n e = on (rule_of s) refl e
  where
    on : (o : Outcome Rule) → rule_of s ≡ o → accepted n ≡ reading_of o → Read s n
    on (accepted r) q e = record {
      rule = r;
      is = q;
      numbers = record { within_limits = ((accepts_encodings s bytes r).0 q).0; is = accepted_is e };
    }
    on (refused number place) q e = absurd (never_refused e)

module _ {s : List ℕ} {n : NumberedRule} (d : Read s n) where
  pub read_some : SomeNumbered n 0
  read_some = record { rule = d.rule; is_numbered = d.numbers; below = size_positive d.rule.formula }

  module _ {g : Graph} (is : (r : Rule) → IsNumbered r n → IsGraph r g) (limit : ℕ) where
    graph : IsGraph d.rule g
    graph = is d.rule d.numbers

    -- ---- refusal 8

    unsatisfiable_test : unsatisfiable d.rule ≡ not (eqb (intersection g.first g.falsities) empty_set)
    unfolding unsatisfiable
    unsatisfiable_test = rw (graph.first_is, graph.falsities_are)

    pub unsatisfiable_refused : (bit_and g.first g.falsities ≡ 0 → ⊥) → synthesis_of limit s ≡ refused 8 0
    unsatisfiable_refused h =
        refuses_eight limit s d.rule d.is (rw (unsatisfiable_test, ne_eqb (intersection g.first g.falsities) empty_set h))

    -- ---- refusal 9

    module _ (calm : bit_and g.first g.falsities ≡ 0) where
      satisfiable_test : unsatisfiable d.rule ≡ false
      satisfiable_test = rw (unsatisfiable_test, eq-eqb (intersection g.first g.falsities) empty_set calm)

      -- what the search over the graph finds is what the definition finds
      equations_found : found 256 (answer_by g) limit g.first ≡ equations_of limit d.rule
      unfolding equations_of
      equations_found =
          found_cong 256 (answer_by g) (answer_of d.rule) (graph_answers g graph) limit g.first
          ∙ ap (found 256 (answer_of d.rule) limit) graph.first_is

      pub many_refused : limit < length (found 256 (answer_by g) limit g.first) → synthesis_of limit s ≡ refused 9 0
      many_refused h = refuses_nine limit s d.rule d.is satisfiable_test (rw equations_found at h)

      -- ---- the plan

      pub planned : {f : Found} {count : ℕ} → f ≡ record { limit = limit; equations = found 256 (answer_by g) limit g.first } → count ≡ length f.equations
          → count ≤ f.limit → f.limit ≤ most → Planned (synthesis_of limit s) f (record { graph = g; count = count })
      planned {f} {count} is counted few small =
          let same = ap (λ (x : Found). x.equations) is ∙ equations_found in
          let long : length f.equations ≡ length (equations_of limit d.rule) = ap length same in
          let at_limit : f.limit ≡ limit = ap (λ (x : Found). x.limit) is in
          record {
            synthesis = with_equations limit d.rule;
            is = accepts_with_equations limit s d.rule d.is satisfiable_test (omega (arith, counted, few));
            fills = record { graph_is = graph; answer_is = refl; found_is = same; count_is = counted ∙ long; few = omega (arith, counted, few, small) };
          }
