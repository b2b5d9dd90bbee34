-- Opening the maxes of a rule and the formulas after its necessities, one node after the other: what the arrays have for the nodes so far stays as it
-- is, and the next node is opened by them.
use Prim.Native.Nat.{ℕ, suc, ◌+◌, ◌≤◌, ◌<◌}
use mathlib.Core.Path.{◌≡◌, refl, sym, ◌∙◌, ap₂}
use mathlib.Core.List.{List, ◌∷◌}
use native.Mathlib.Numerals.{add-one}
use native.Mathlib.Omega.{arith}
use lib.ListN.{length, get_or, set, replicate}
use lib.Seq.{get_or-set_same, get_or-set_other}
use borrow.Author.Count.{below_more}
use Rattle.reading.specs.Rule.{Formula, necessity, max, size, Rule}
use Rattle.reading.specs.Nodes.{EnclosingMax, Node, whole, first, second, after, body}
use Rattle.reading.specs.declared.Node.TheVariants.{Truth, Necessity, Max}
use Rattle.reading.specs.declared.NumberedRule.{NumberedRule}
use Rattle.reading.proofs.Numbering.NumberedLaws.{repeated_at}
use Rattle.synthesis.specs.Answering.{opening, opens_around}
use Rattle.synthesis.specs.Arrays.{IsNumbered, IsOpening, listed_around, Linked, AfterAll}
use Rattle.synthesis.proofs.Functions.NumberedNodes.{node_below, node_is}

-- the array has what opening the maxes around a node gives
listed_around-is : {r : Rule} {k : ℕ} {opened afters : List ℕ} → Linked r k opened afters → {j : ℕ} {ms : List EnclosingMax} {f : Formula}
    → Node r.formula j ms f → j ≤ k → listed_around opened ms ≡ opens_around ms
listed_around-is l whole h = refl
listed_around-is l (first n) h = listed_around-is l n (omega arith)
listed_around-is l (second n) h = listed_around-is l n (omega arith)
listed_around-is l (after n) h = listed_around-is l n (omega arith)
listed_around-is l (body {k = j} {ms = ms} {f = f} n) h = ap₂ ◌∷◌ (l.opened_is j ms f (omega arith) n) (listed_around-is l n (omega arith))

-- ---- one node more

-- what the arrays have at node j
abbrev OpenedAt : Rule → (opened : List ℕ) → ℕ → Type 0
OpenedAt r opened j =
    (ms : List EnclosingMax) (f : Formula) → Node r.formula j ms (max f) → get_or opened j 0 ≡ opening j (opens_around ms) (max f)

abbrev AfterAt : Rule → (afters : List ℕ) → ℕ → Type 0
AfterAt r afters j =
    (p : ℕ) (ms : List EnclosingMax) (f : Formula) → Node r.formula j ms (necessity p f)
    → get_or afters j 0 ≡ opening (suc j) (opens_around ms) f

-- Node k is linked, where the arrays stay as they were at all others.
linked_next : {r : Rule} {k : ℕ} {opened afters opened' afters' : List ℕ} → Linked r k opened afters
    → ((j : ℕ) → (j ≡ k → ⊥) → get_or opened' j 0 ≡ get_or opened j 0) → ((j : ℕ) → (j ≡ k → ⊥) → get_or afters' j 0 ≡ get_or afters j 0)
    → OpenedAt r opened' k → AfterAt r afters' k → Linked r (k + 1) opened' afters'
linked_next {r} {k} {opened' = opened'} {afters'} l same-opened same_after at-max at_necessity = record {
  opened_is = λ j ms f h. below_more (OpenedAt r opened') k
      (λ j h ms f n. same-opened j (λ q. omega (arith, q)) ∙ l.opened_is j ms f h n) at-max j h ms f;
  unopened = λ j h. same-opened j (λ q. omega (arith, q)) ∙ l.unopened j (omega arith);
  after_is = λ j p ms f h. below_more (AfterAt r afters') k
      (λ j h p ms f n. same_after j (λ q. omega (arith, q)) ∙ l.after_is j p ms f h n) at_necessity j h p ms f;
}

module _ {r : Rule} {n : NumberedRule} {k : ℕ} {opened afters : List ℕ} (num : IsNumbered r n) (l : Linked r k opened afters) where
  pub linked_max : {e : ℕ} → k < length opened → get_or n.nodes k Truth ≡ Max → IsOpening n opened (k + 1) e → Linked r (k + 1) (set opened k e) afters
  linked_max {e} h q o =
      linked_next l (λ j d. get_or-set_other opened k j e 0 d) (λ j d. refl) max_opened (λ p ms f node. cc (q, node_is num node))
    where
      max_opened : OpenedAt r (set opened k e) k
      max_opened ms f node =
          let x = o.is r num (λ j h. l.unopened j (omega arith)) (record { number = k; body = f } ∷ ms) f (rw (add-one k) (body node)) in
          get_or-set_same opened k e 0 h ∙ rw (add-one k, l.unopened k (omega arith), listed_around-is l node (omega arith)) at x

  pub linked_necessity : {p e : ℕ} → k < length afters → get_or n.nodes k Truth ≡ Necessity p → IsOpening n opened (k + 1) e
      → Linked r (k + 1) opened (set afters k e)
  linked_necessity {e = e} h q o =
      linked_next l (λ j d. refl) (λ j d. get_or-set_other afters k j e 0 d) (λ ms f node. cc (q, node_is num node)) necessity_after
    where
      necessity_after : AfterAt r (set afters k e) k
      necessity_after p ms f node =
          let x = o.is r num (λ j h. l.unopened j (omega arith)) ms f (rw (add-one k) (after node)) in
          get_or-set_same afters k e 0 h ∙ rw (add-one k, listed_around-is l node (omega arith)) at x

  pub linked_other : (get_or n.nodes k Truth ≡ Max → ⊥) → ((p : ℕ) → get_or n.nodes k Truth ≡ Necessity p → ⊥) → Linked r (k + 1) opened afters
  linked_other a b =
      linked_next l (λ j d. refl) (λ j d. refl) (λ ms f node. absurd (a (node_is num node))) (λ p ms f node. absurd (b p (node_is num node)))

-- ---- from the first node to the last

pub linked_none : (r : Rule) (n : ℕ) (afters : List ℕ) → Linked r 0 (replicate n 0) afters
linked_none r n afters = record {
  opened_is = λ j ms f h x. absurd (omega arith);
  unopened = λ j h. repeated_at 0 n j;
  after_is = λ j p ms f h x. absurd (omega arith);
}

pub linked_all : {r : Rule} {k : ℕ} {opened afters : List ℕ} → size r.formula ≤ k → Linked r k opened afters → AfterAll r afters
linked_all h l = record { is = λ j p ms f n. l.after_is j p ms f (omega (arith, node_below n)) n }
