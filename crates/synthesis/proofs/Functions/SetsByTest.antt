-- Sets that are made by a test of one node after the other: with the next node where the test holds of it, the set has what it should have for one
-- node more.
use Prim.Native.Nat.{ℕ, ◌+◌, ◌≤◌, ◌<◌}
use mathlib.Core.Path.{◌≡◌, refl, sym, ◌∙◌}
use mathlib.Core.Logic.{◌↔◌, ◌⊎◌, inl, inr, ⊎_elim}
use mathlib.Core.Bool.{Bool, true, false, false≢true}
use mathlib.Core.List.{List}
use native.Mathlib.Omega.{arith}
use lib.Bits.{bit_or}
use lib.ListN.{get_or, take}
use lib.Seq.{get_or-take}
use borrow.Author.Count.{below_more}
use Rattle.reading.specs.Rule.{Formula, size, Rule}
use Rattle.reading.specs.Nodes.{EnclosingMax, Node, Resolves, is_falsity}
use Rattle.reading.specs.declared.Node.TheVariants.{Truth, Falsity}
use Rattle.reading.specs.declared.NumberedRule.{NumberedRule}
use Rattle.reading.proofs.Numbering.NodeLaws.{node_exists}
use Rattle.synthesis.specs.NodeSet.{Has, empty_set, singleton}
use Rattle.synthesis.specs.Opening.{IsFalsity}
use Rattle.synthesis.specs.Answering.{falsities}
use Rattle.synthesis.specs.Arrays.{IsNumbered, with_node}
use Rattle.synthesis.proofs.Unfolding.NodeSetLaws.{has_none, shifted_one, shl_one, same_members_same_set}
use Rattle.synthesis.proofs.Unfolding.MemberLaws.{has_singleton_iff, union_iff}
use Rattle.synthesis.proofs.Unfolding.NodeWise.{falsities_has}
use Rattle.synthesis.proofs.Functions.NumberedNodes.{node_below, nnodes_is, node_is, node_resolves}

-- where the test holds, the code puts in a shifted one
pub with_node-is : (e k : ℕ) (b : Bool) → k < 64 → b ≡ true → bit_or e (shifted_one k) ≡ with_node e k b
with_node-is e k b h t = rw (t, shl_one k h)

pub with_node-has : (e k : ℕ) (b : Bool) (j : ℕ) → Has (with_node e k b) j ↔ (Has e j ⊎ ((k ≡ j) × (b ≡ true)))
with_node-has e k true j =
    let alone = has_singleton_iff k j in
    union_iff e (singleton k) j (λ h. h, λ h. h) (λ h. (alone.0 h, refl), λ h. alone.1 h.0)
with_node-has e k false j = (λ h. inl h, ⊎_elim (λ h. h) (λ h. absurd (false≢true h.1)))

-- One more number is tested: what holds of the members below k holds of those below k + 1.
pub with_node-next : (P : ℕ → Type 0) (e k : ℕ) (b : Bool) → ((b ≡ true) ↔ P k) → ((j : ℕ) → Has e j ↔ ((j < k) × P j))
    → (j : ℕ) → Has (with_node e k b) j ↔ ((j < k + 1) × P j)
with_node-next P e k b test h j = (λ x. inserted_below ((with_node-has e k b j).0 x), λ x. (with_node-has e k b j).1 (below_inserted j x.0 x.1))
  where
    inserted_below : Has e j ⊎ ((k ≡ j) × (b ≡ true)) → (j < k + 1) × P j
    inserted_below (inl x) = let r = (h j).0 x in (omega (arith, r.0), r.1)
    inserted_below (inr x) = (omega (arith, x.0), rw (← x.0) (test.0 x.1))

    below_inserted : (j : ℕ) → j < k + 1 → P j → Has e j ⊎ ((k ≡ j) × (b ≡ true))
    below_inserted = below_more (λ j. P j → Has e j ⊎ ((k ≡ j) × (b ≡ true))) k (λ j l p. inl ((h j).1 (l, p))) (λ p. inr (refl, test.1 p))

-- at first there are none
pub empty_below_zero : (P : ℕ → Type 0) (j : ℕ) → Has empty_set j ↔ ((j < 0) × P j)
empty_below_zero P j = (λ h. absurd (has_none j h), λ h. absurd (omega (arith, h.0)))

-- ---- the ff nodes

-- The set has the ff nodes below k.
pub record FalsitiesBelow (r : Rule) (k e : ℕ) : Type 0 where
  pub is : (j : ℕ) → Has e j ↔ ((j < k) × IsFalsity r.formula j)

pub falsities_none : (r : Rule) → FalsitiesBelow r 0 empty_set
falsities_none r = record { is = empty_below_zero (IsFalsity r.formula) }

-- the next node is ff where what stands at its number is
pub falsities_next : {r : Rule} {n : NumberedRule} {k e e' : ℕ} (num : IsNumbered r n) (b : Bool) → k < n.nnodes → e' ≡ with_node e k b
    → ((b ≡ true) ↔ (get_or (take n.nnodes n.nodes) k Truth ≡ Falsity)) → FalsitiesBelow r k e → FalsitiesBelow r (k + 1) e'
falsities_next {r} {n} {k} {e} num b h q test below = record {
  is = rw q (with_node-next (IsFalsity r.formula) e k b (λ t. falsity_there (test.0 t), λ x. test.1 (there ∙ node_is num x.1)) below.is);
}
  where
    there : get_or (take n.nnodes n.nodes) k Truth ≡ get_or n.nodes k Truth
    there = get_or-take n.nnodes n.nodes k Truth h

    falsity_there : get_or (take n.nnodes n.nodes) k Truth ≡ Falsity → IsFalsity r.formula k
    falsity_there is =
        let node = node_exists r.formula k (omega (arith, h, nnodes_is num)) in
        on node.2 (node_resolves num node.2 (sym there ∙ is))
      where
        on : {ms : List EnclosingMax} {f : Formula} → Node r.formula k ms f → Resolves r.formula k ms Falsity f → IsFalsity r.formula k
        on {ms} node is_falsity = (ms, node)

pub falsities_all : {r : Rule} {k e : ℕ} → size r.formula ≤ k → FalsitiesBelow r k e → e ≡ falsities 0 r.formula
falsities_all {r} {k} {e} few h = same_members_same_set e (falsities 0 r.formula) (λ j. (
  λ x. (falsities_has r.formula j).1 ((h.is j).0 x).1,
  λ x. let y = (falsities_has r.formula j).0 x in (h.is j).1 (omega (arith, few, node_below y.1), y),
))
