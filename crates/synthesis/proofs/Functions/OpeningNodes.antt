-- Opening a node by its number: a law for each node, each from what opening gives for the node's parts.
use Prim.Native.Nat.{ℕ, suc, ◌+◌, ◌<◌}
use mathlib.Core.Path.{◌≡◌, refl, ap}
use mathlib.Core.List.{List, ◌∷◌}
use native.Mathlib.Numerals.{add-one}
use native.Mathlib.Omega.{arith}
use lib.Bits.{bit_or}
use lib.ListN.{length, get_or}
use Rattle.reading.specs.Rule.{Formula, size, Rule}
use Rattle.reading.specs.Nodes.{EnclosingMax, no_max, Node, Resolves, is_truth, is_falsity, is_both, is_necessity, is_max, is_variable}
use Rattle.reading.specs.Numbered.{number_of}
use Rattle.reading.specs.declared.Node.{Node as NumberedNode}
use Rattle.reading.specs.declared.Node.TheVariants.{Truth, Falsity, Both, Necessity, Max, Variable}
use Rattle.reading.specs.declared.NumberedRule.{NumberedRule}
use Rattle.reading.proofs.Numbering.NodeLaws.{variable_bound}
use Rattle.reading.proofs.Basics.ListLaws.{mapped_at}
use Rattle.synthesis.specs.Answering.{opening}
use Rattle.synthesis.specs.Arrays.{IsNumbered, ZeroFrom, IsOpening, listed_around}
use Rattle.synthesis.proofs.Unfolding.NodeSetLaws.{shifted_one, shl_one}
use Rattle.synthesis.proofs.Functions.NumberedNodes.{node_is, node_resolves}

-- Where node k is x, e is what opening it gives.
abbrev OpensAs : (n : NumberedRule) (opened : List ℕ) (k : ℕ) → NumberedNode → (e : ℕ) → Type 0
OpensAs n opened k x e =
    (r : Rule) → IsNumbered r n → ZeroFrom k opened → (ms : List EnclosingMax) (f : Formula) → Node r.formula k ms f → Resolves r.formula k ms x f
    → e ≡ opening k (listed_around opened ms) f

module _ {n : NumberedRule} {opened : List ℕ} {k : ℕ} where
  opening_as : {x : NumberedNode} {e : ℕ} → get_or n.nodes k Truth ≡ x → OpensAs n opened k x e → IsOpening n opened k e
  opening_as q opens = record { is = λ r num z ms f node. opens r num z ms f node (node_resolves num node q) }

  pub opening_truth : get_or n.nodes k Truth ≡ Truth → IsOpening n opened k 0
  opening_truth q = opening_as q on
    where
      on : OpensAs n opened k Truth 0
      on r num z ms f node is_truth = refl

  pub opening_falsity : k < 64 → get_or n.nodes k Truth ≡ Falsity → IsOpening n opened k (shifted_one k)
  opening_falsity h q = opening_as q on
    where
      on : OpensAs n opened k Falsity (shifted_one k)
      on r num z ms f node is_falsity = shl_one k h

  pub opening_necessity : {p : ℕ} → k < 64 → get_or n.nodes k Truth ≡ Necessity p → IsOpening n opened k (shifted_one k)
  opening_necessity {p} h q = opening_as q on
    where
      on : OpensAs n opened k (Necessity p) (shifted_one k)
      on r num z ms f node (is_necessity a) = shl_one k h

  pub opening_both : {m e₁ e₂ : ℕ} → get_or n.nodes k Truth ≡ Both m → IsOpening n opened (k + 1) e₁ → IsOpening n opened m e₂
      → IsOpening n opened k (bit_or e₁ e₂)
  opening_both {m} {e₁} {e₂} q one other = opening_as q on
    where
      on : OpensAs n opened k (Both m) (bit_or e₁ e₂)
      on r num z ms _ node (is_both {f = f} {g = g} a b) =
          let second : m ≡ k + suc (size f) = cc (q, node_is num node) in
          let first = one.is r num (λ j h. z j (omega arith)) ms f (rw (add-one k) a) in
          let last = other.is r num (λ j h. z j (omega arith)) ms g b in
          rw (first, last, second, add-one k)

  pub opening_max : {e : ℕ} → get_or n.nodes k Truth ≡ Max → IsOpening n opened (k + 1) e → IsOpening n opened k e
  opening_max {e} q inner = opening_as q on
    where
      on : OpensAs n opened k Max e
      on r num z ms _ node (is_max {f = f} a) =
          let is = inner.is r num (λ j h. z j (omega arith)) (record { number = k; body = f } ∷ ms) f (rw (add-one k) a) in
          rw (is, add-one k, z k (omega arith))

  pub opening_variable : {m : ℕ} → get_or n.nodes k Truth ≡ Variable m → IsOpening n opened k (get_or opened m 0)
  opening_variable {m} q = opening_as q on
    where
      on : OpensAs n opened k (Variable m) (get_or opened m 0)
      on r num z ms _ node (is_variable {d = d} is a before) =
          let bound = variable_bound (length r.patterns) num.within_limits.well_formed.formula node in
          rw (mapped_at (λ (m : EnclosingMax). get_or opened m.number 0) ms d no_max 0 bound, ap number_of is)
