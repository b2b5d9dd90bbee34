-- Which nodes a code enables, one node after the other: a necessity is enabled by the codes that its pattern covers, and no other node by any.
use Prim.Native.Nat.{ℕ, ◌+◌, ◌≤◌, ◌<◌}
use mathlib.Core.Path.{◌≡◌, sym, ◌∙◌, ap}
use mathlib.Core.Logic.{◌↔◌}
use mathlib.Core.Bool.{true}
use mathlib.Core.List.{List}
use native.Mathlib.Omega.{arith}
use lib.ListN.{length, get_or, replicate}
use borrow.Author.Count.{below_more}
use Rattle.reading.specs.Pattern.{covers}
use Rattle.reading.specs.Rule.{Formula, size, Rule}
use Rattle.reading.specs.Nodes.{EnclosingMax, Node, Resolves, is_necessity}
use Rattle.reading.specs.Numbered.{no_pattern, none_listed}
use Rattle.reading.specs.declared.Pattern.{Pattern}
use Rattle.reading.specs.declared.Listed.{Listed}
use Rattle.reading.specs.declared.Node.TheVariants.{Truth, Necessity}
use Rattle.reading.specs.declared.NumberedRule.{NumberedRule}
use Rattle.reading.proofs.Numbering.NodeLaws.{node_exists, well_formed_at}
use Rattle.reading.proofs.Numbering.NumberedLaws.{repeated_at, pattern_at_lem}
use Rattle.synthesis.specs.Arrays.{IsNumbered, SomeNumbered, IsEnabled, EnabledBelow, Enabled, AddedToCodes}
use Rattle.synthesis.proofs.Functions.SetsByTest.{with_node-next, empty_below_zero}
use Rattle.synthesis.proofs.Functions.NumberedNodes.{node_below, node_is, node_resolves, some_node, some_resolves}

-- the pattern of a necessity is one of the 32
pub pattern_below_32 : {n : NumberedRule} {k p : ℕ} (some : SomeNumbered n k) → get_or n.nodes k Truth ≡ Necessity p → p < 32
pattern_below_32 {k = k} {p} some q = on (some_node some).2 (some_resolves some q)
  where
    on : {ms : List EnclosingMax} {f : Formula} → Node some.rule.formula k ms f → Resolves some.rule.formula k ms (Necessity p) f → p < 32
    on node (is_necessity rest) =
        let w = some.is_numbered.within_limits in
        omega (arith, (well_formed_at (length some.rule.patterns) w.well_formed.formula node).0, w.few_patterns)

-- ---- one node more

module _ {r : Rule} {n : NumberedRule} {k : ℕ} {enabled : List ℕ} (num : IsNumbered r n) (w : EnabledBelow r k enabled) where
  -- a necessity is enabled by the codes that its pattern covers
  module _ {p : ℕ} (h : k < size r.formula) (q : get_or n.nodes k Truth ≡ Necessity p) where
    abbrev own_pattern : Pattern
    own_pattern = (get_or n.patterns p none_listed).pattern

    own_pattern_is : own_pattern ≡ get_or r.patterns p no_pattern
    own_pattern_is =
        ap (λ (x : NumberedRule). (get_or x.patterns p none_listed).pattern) num.is ∙ ap (λ (x : Listed). x.pattern) (pattern_at_lem r p)

    own_pattern_covers : (c : ℕ) → (covers own_pattern c ≡ true) ↔ IsEnabled r c k
    own_pattern_covers c = (λ t. let node = node_exists r.formula k h in covers_enabled t node.2 (node_resolves num node.2 q), enabled_covers)
      where
        covers_enabled : covers own_pattern c ≡ true → {ms : List EnclosingMax} {f : Formula} → Node r.formula k ms f
            → Resolves r.formula k ms (Necessity p) f → IsEnabled r c k
        covers_enabled t {ms} node (is_necessity {f = f} rest) = (p, ms, f, node, ap (λ (x : Pattern). covers x c) (sym own_pattern_is) ∙ t)

        enabled_covers : IsEnabled r c k → covers own_pattern c ≡ true
        enabled_covers (p', ms, f, node, t) =
            let same : p ≡ p' = cc (q, node_is num node) in
            ap (λ (x : Pattern). covers x c) own_pattern_is ∙ ap (λ (i : ℕ). covers (get_or r.patterns i no_pattern) c) same ∙ t

    pub enabled_necessity : {enabled' : List ℕ} → AddedToCodes own_pattern k enabled enabled' → EnabledBelow r (k + 1) enabled'
    enabled_necessity m = record {
      is = λ c j l. rw (m.is c l) (with_node-next (IsEnabled r c) (get_or enabled c 0) k (covers own_pattern c) (own_pattern_covers c) (λ i. w.is c i l) j);
    }

  -- another node is enabled by none
  pub enabled_other : ((p : ℕ) → get_or n.nodes k Truth ≡ Necessity p → ⊥) → EnabledBelow r (k + 1) enabled
  enabled_other d = record {
    is = λ c j l. (
      λ x. let y = (w.is c j l).0 x in (omega (arith, y.0), y.1),
      λ x. (w.is c j l).1 (enabled_below c j x.0 x.1, x.1),
    );
  }
    where
      enabled_below : (c j : ℕ) → j < k + 1 → IsEnabled r c j → j < k
      enabled_below c = below_more (λ j. IsEnabled r c j → j < k) k (λ j l x. l) (λ x. absurd (d x.0 (node_is num x.3)))

-- ---- from the first node to the last

pub enabled_none : (r : Rule) (n : ℕ) → EnabledBelow r 0 (replicate n 0)
enabled_none r n = record { is = λ c j l. rw (repeated_at {A = ℕ} 0 n c) (empty_below_zero (IsEnabled r c) j) }

pub enabled_all : {r : Rule} {k : ℕ} {enabled : List ℕ} → size r.formula ≤ k → EnabledBelow r k enabled → Enabled r enabled
enabled_all h w = record { is = λ c j l. (λ x. ((w.is c j l).0 x).1, λ x. (w.is c j l).1 (omega (arith, node_below x.3), x)) }
