-- What a numbered rule says of the nodes of its rule, of which `reading` proves it, and where the parts of a node stand.
use Prim.Native.Nat.{ℕ, suc, ◌+◌, ◌<◌}
use mathlib.Core.Path.{◌≡◌, ap, ◌∙◌}
use mathlib.Core.Bool.{Bool, true, false, false≢true}
use mathlib.Core.List.{List, map}
use native.Mathlib.Numerals.{add-one}
use native.Mathlib.Omega.{arith}
use lib.ListN.{length, get_or}
use Rattle.reading.specs.Rule.{Formula, size, Rule}
use Rattle.reading.specs.Nodes.{EnclosingMax, Node, Resolves, is_truth, is_falsity, is_both, is_necessity, is_max, is_variable}
use Rattle.reading.specs.Numbered.{node_of, number_of}
use Rattle.reading.specs.declared.Node.{Node as NumberedNode}
use Rattle.reading.specs.declared.Node.TheVariants.{Truth, Falsity, Both, Necessity, Max, Variable}
use Rattle.reading.specs.declared.NumberedRule.{NumberedRule}
use Rattle.reading.proofs.Numbering.NodeLaws.{Numbers, node_fits, node_exists}
use Rattle.reading.proofs.Numbering.Listings.{size_positive}
use Rattle.reading.proofs.Numbering.NumberedLaws.{node_at_lem}
use Rattle.reading.proofs.Numbering.NumberedLaws as reading
use Rattle.synthesis.specs.Arrays.{IsNumbered, SomeNumbered}

pub node_below : {root : Formula} {k : ℕ} {ms : List EnclosingMax} {f : Formula} → Node root k ms f → k < size root
node_below {f = f} node = omega (arith, node_fits node, size_positive f)

-- ---- a node of a known rule

module _ {r : Rule} {n : NumberedRule} (num : IsNumbered r n) where
  pub nnodes_is : n.nnodes ≡ size r.formula
  nnodes_is = ap (λ (x : NumberedRule). x.nnodes) num.is

  module _ {k : ℕ} {ms : List EnclosingMax} {f : Formula} (node : Node r.formula k ms f) where
    pub node_is : get_or n.nodes k Truth ≡ node_of k (map number_of ms) f
    node_is = ap (λ (x : NumberedRule). get_or x.nodes k Truth) num.is ∙ node_at_lem r node

    -- what the node says
    pub node_resolves : {x : NumberedNode} → get_or n.nodes k Truth ≡ x → Resolves r.formula k ms x f
    node_resolves q = rw (← q, num.is) (reading.node_resolves r (length r.patterns) num.within_limits.well_formed.formula node)

-- ---- a node of some rule

-- the nodes that have a part right after them: "both", necessity and max
abbrev pub part_follows : NumberedNode → Bool
part_follows Truth = false
part_follows Falsity = false
part_follows (Both m) = true
part_follows (Necessity p) = true
part_follows Max = true
part_follows (Variable m) = false

module _ {n : NumberedRule} {k : ℕ} (some : SomeNumbered n k) where
  pub some_below_64 : k < 64
  some_below_64 = omega (arith, some.below, some.is_numbered.within_limits.few_nodes)

  pub some_other : {j : ℕ} → j < n.nnodes → SomeNumbered n j
  some_other h = record { rule = some.rule; is_numbered = some.is_numbered; below = omega (arith, h, nnodes_is some.is_numbered) }

  pub some_node : Numbers some.rule.formula k
  some_node = node_exists some.rule.formula k some.below

  pub some_resolves : {x : NumberedNode} → get_or n.nodes k Truth ≡ x → Resolves some.rule.formula k some_node.0 x some_node.1
  some_resolves q = node_resolves some.is_numbered some_node.2 q

  some_part : {j : ℕ} {ms : List EnclosingMax} {f : Formula} → Node some.rule.formula j ms f → SomeNumbered n j
  some_part node = record { rule = some.rule; is_numbered = some.is_numbered; below = node_below node }

  pub some_next : {x : NumberedNode} → get_or n.nodes k Truth ≡ x → part_follows x ≡ true → SomeNumbered n (k + 1)
  some_next q t = on (some_resolves q) t
    where
      on : {ms : List EnclosingMax} {f : Formula} {x : NumberedNode} → Resolves some.rule.formula k ms x f → part_follows x ≡ true
          → SomeNumbered n (k + 1)
      on is_truth t = absurd (false≢true t)
      on is_falsity t = absurd (false≢true t)
      on (is_both a b) t = rw (add-one k) (some_part a)
      on (is_necessity a) t = rw (add-one k) (some_part a)
      on (is_max a) t = rw (add-one k) (some_part a)
      on (is_variable e a b) t = absurd (false≢true t)

  pub some_second : {m : ℕ} → get_or n.nodes k Truth ≡ Both m → SomeNumbered n m × (k < m)
  some_second {m} q = on some_node.2 (some_resolves q)
    where
      on : {ms : List EnclosingMax} {f : Formula} → Node some.rule.formula k ms f → Resolves some.rule.formula k ms (Both m) f
          → SomeNumbered n m × (k < m)
      on node (is_both {f = f} a b) =
          let second : m ≡ k + suc (size f) = cc (q, node_is some.is_numbered node) in
          (some_part b, omega (arith, second))

  pub some_variable : {m : ℕ} → get_or n.nodes k Truth ≡ Variable m → m < 64
  some_variable {m} q = omega (arith, on (some_resolves q), some_below_64)
    where
      on : {ms : List EnclosingMax} {f : Formula} → Resolves some.rule.formula k ms (Variable m) f → m < k
      on (is_variable e a b) = b
