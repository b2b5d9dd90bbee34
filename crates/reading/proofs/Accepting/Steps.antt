-- Reading a formula, one node at a time: each node takes one of those left, so the depth of the definition is never used up.
use mathlib.Core.Path.{◌≡◌, refl, ap}
use mathlib.Core.Bool.{false}
use mathlib.Core.List.{List, ◌∷◌}
use Prim.Native.Nat.{ℕ, zero, suc, ◌+◌, ◌-◌, ◌<◌}
use native.Mathlib.Omega.{arith}
use Rattle.reading.specs.Rule.{Formula, both, Guards, guarded}
use Rattle.reading.specs.File.{Outcome, and_then, NodeRecord, node_at, Parsed, under, parts_by, formula_at, formula_of}
use Rattle.reading.proofs.Basics.Outcomes.{and_then-agree, and_then-agree_both}
use Rattle.reading.proofs.Accepting.NodeBytes.{bare_truth, bare_falsity, bare_both, bare_max, NodeStands, bare, of_necessity, of_variable, node_accepts}
use Rattle.reading.proofs.Accepting.Sound.{FormulaStands, Reader, Sound, formula_at-sound}

-- ---- readers that agree

-- Readers that agree where P holds of a place and the nodes left give a node the same parts, if P holds where its parts begin and
-- goes on to hold after a formula.
module _ (s : List ℕ) (n : ℕ) (P : (at left : ℕ) → Type 0)
    (after : (at left : ℕ) (g : Guards) (f : Parsed) → P at left → FormulaStands s n at left g f → P f.next f.left)
    (read read' : Reader) (sound : Sound s n read) (agree : (at left : ℕ) (g : Guards) → P at left → read at left g ≡ read' at left g)
    (at left : ℕ) (g : Guards) where
  part_same : (make : Formula → Formula) (next : ℕ) (g' : Guards) → P next left
      → and_then (read next left g') (under make) ≡ and_then (read' next left g') (under make)
  part_same make next g' h = ap (λ (o : Outcome Parsed). and_then o (under make)) (agree next left g' h)

  pub parts_same : {r : NodeRecord} → NodeStands s n at g r → P r.next left
      → parts_by read r.symbol r.next left g ≡ parts_by read' r.symbol r.next left g
  parts_same (bare bare_truth b) h = refl
  parts_same (bare bare_falsity b) h = refl
  parts_same (bare bare_both b) h =
      and_then-agree_both (read (at + 1) left g) (read' (at + 1) left g) _ _ (agree (at + 1) left g h) (λ f e.
      ap (λ (o : Outcome Parsed). and_then o (under (both f.formula)))
      (agree f.next f.left g (after (at + 1) left g f h (sound (at + 1) left g f e))))
  parts_same (of_necessity p b a) h = part_same _ (at + 2) (guarded g) h
  parts_same (bare bare_max b) h = part_same _ (at + 1) (false ∷ g) h
  parts_same (of_variable bound guarded b a) h = refl

-- ---- any depth will do

-- fewer than `bound` nodes are left
abbrev Below : (bound at left : ℕ) → Type 0
Below bound at left = left < bound

module _ (s : List ℕ) (n : ℕ) where
  below_after : (bound at left : ℕ) (g : Guards) (f : Parsed) → Below bound at left → FormulaStands s n at left g f → Below bound f.next f.left
  below_after bound at left g f h stands = omega (arith, stands.nodes)

  -- two readers of a formula's parts, one to a depth and one that agrees with it on fewer nodes
  node_then_same : (depth : ℕ) (read : Reader) (at left : ℕ) (g : Guards)
      → ((at l : ℕ) (g : Guards) → l < left → formula_at depth s n at l g ≡ read at l g)
      → and_then (node_at s n at left g) (λ r. parts_by (formula_at depth s n) r.symbol r.next (left - 1) g)
      ≡ and_then (node_at s n at left g) (λ r. parts_by read r.symbol r.next (left - 1) g)
  node_then_same depth read at left g agree =
      and_then-agree (node_at s n at left g) _ _ (λ r e.
      let node = (node_accepts s n at left g r).0 e in
      parts_same s n (Below left) (below_after left) (formula_at depth s n) read (formula_at-sound depth s n) agree at (left - 1) g
      node.1 (omega (arith, node.0)))

  formula_at-depth : (depth depth' at left : ℕ) (g : Guards) → left < depth → left < depth' → formula_at depth s n at left g ≡ formula_at depth' s n at left g
  unfolding formula_at
  formula_at-depth zero depth' at left g h h' = absurd (omega arith)
  formula_at-depth (suc depth) zero at left g h h' = absurd (omega arith)
  formula_at-depth (suc depth) (suc depth') at left g h h' =
      node_then_same depth (formula_at depth' s n) at left g (λ at' l g' lt. formula_at-depth depth depth' at' l g' (omega arith) (omega arith))

  -- a formula is a node, then its parts, whatever the depth
  pub formula_step : (at left : ℕ) (g : Guards)
      → formula_of s n at left g ≡ and_then (node_at s n at left g) (λ r. parts_by (formula_of s n) r.symbol r.next (left - 1) g)
  unfolding formula_of formula_at
  formula_step at left g = node_then_same left (formula_of s n) at left g (λ at' l g' lt. formula_at-depth left (suc l) at' l g' lt (omega arith))

  pub formula_sound : Sound s n (formula_of s n)
  unfolding formula_of
  formula_sound at left g f e = formula_at-sound (suc left) s n at left g f e
