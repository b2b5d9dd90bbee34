-- The nodes of a formula: each number below its size names one, the maxes around a node are nodes before it, and all is well formed
-- inside them.
use mathlib.Core.Path.{◌≡◌, refl, ap, subst, ◌∙◌}
use mathlib.Core.Bool.{Bool, true, false}
use mathlib.Core.List.{List, []}
use Prim.Native.Nat.{ℕ, zero, suc, ◌+◌, ◌-◌, ◌≤◌, ◌<◌}
use native.Mathlib.Omega.{arith}
use lib.ListN.{length, get_or, drop, length-map}
use lib.Dec.{ltb}
use borrow.Author.Tests.{ltb-true, ltb-false}
use Rattle.reading.specs.Rule.{Formula, truth, falsity, both, necessity, max, variable, size, WellFormed}
use Rattle.reading.specs.Nodes.{EnclosingMax, no_max, Node, whole, first, second, after, body, guards_at}

-- the nodes of a node's formula are nodes of the whole
pub node_fits : {root : Formula} {k : ℕ} {ms : List EnclosingMax} {f : Formula} → Node root k ms f → k + size f ≤ size root
node_fits whole = omega arith
node_fits (first n) = omega (arith, node_fits n)
node_fits (second n) = omega (arith, node_fits n)
node_fits (after n) = omega (arith, node_fits n)
node_fits (body n) = omega (arith, node_fits n)

-- ---- every number names a node

-- a node with a number, whatever its maxes and its formula
abbrev pub Numbers : (root : Formula) → ℕ → Type 0
Numbers root k = (ms : List EnclosingMax) × (f : Formula) × Node root k ms f

numbers_at : (root : Formula) {j k : ℕ} → j ≡ k → Numbers root j → Numbers root k
numbers_at root e h = subst (Numbers root) e h

-- the first node of a formula is its own, and the others are those of its parts
node_or_part : {root : Formula} {k : ℕ} {ms : List EnclosingMax} {f : Formula} → Node root k ms f
    → ((i : ℕ) → suc i < size f → Numbers root (suc k + i)) → (i : ℕ) → i < size f → Numbers root (k + i)
node_or_part {root} {ms = ms} {f = f} n part zero h = numbers_at root (omega arith) (ms, f, n)
node_or_part {root} n part (suc i) h = numbers_at root (omega arith) (part i h)

-- the nodes of two formulas of sizes a and b, one after the other
part_or_part : (root : Formula) (k a b : ℕ) → ((i : ℕ) → i < a → Numbers root (suc k + i)) → ((i : ℕ) → i < b → Numbers root (k + suc a + i))
    → (i : ℕ) → suc i < suc (a + b) → Numbers root (suc k + i)
part_or_part root k a b one other i h = on (ltb i a) refl
  where
    on : (t : Bool) → ltb i a ≡ t → Numbers root (suc k + i)
    on true e = one i (ltb-true i a e)
    on false e =
        let past : a ≤ i = ltb-false i a e in
        numbers_at root (omega arith) (other (i - a) (omega arith))

-- node i of the formula of node k is node k + i of the whole
node_below : {root : Formula} (f : Formula) {k : ℕ} {ms : List EnclosingMax} → Node root k ms f → (i : ℕ) → i < size f → Numbers root (k + i)
node_below truth n = node_or_part n (λ i h. absurd (omega arith))
node_below falsity n = node_or_part n (λ i h. absurd (omega arith))
node_below {root} (both f g) {k} n = node_or_part n (part_or_part root k (size f) (size g) (node_below f (first n)) (node_below g (second n)))
node_below (necessity p f) n = node_or_part n (λ i h. node_below f (after n) i (omega arith))
node_below (max f) n = node_or_part n (λ i h. node_below f (body n) i (omega arith))
node_below (variable d) n = node_or_part n (λ i h. absurd (omega arith))

pub node_exists : (root : Formula) (k : ℕ) → k < size root → Numbers root k
node_exists root k h = numbers_at root (omega arith) (node_below root whole k h)

-- ---- the maxes around a node

-- max d of those around node k is a node before k, with the body and inside the maxes that the list says
pub record Around (root : Formula) (k : ℕ) (ms : List EnclosingMax) (d : ℕ) : Type 0 where
  pub node : Node root (get_or ms d no_max).number (drop (suc d) ms) (max (get_or ms d no_max).body)
  pub before : (get_or ms d no_max).number < k

around_later : {root : Formula} {k k' : ℕ} {ms : List EnclosingMax} {d : ℕ} → k < k' → Around root k ms d → Around root k' ms d
around_later h a = record { node = a.node; before = omega arith }

pub max_around : {root : Formula} {k : ℕ} {ms : List EnclosingMax} {f : Formula} → Node root k ms f → (d : ℕ) → d < length ms → Around root k ms d
max_around whole d h = absurd (omega arith)
max_around (first n) d h = around_later (omega arith) (max_around n d h)
max_around (second n) d h = around_later (omega arith) (max_around n d h)
max_around (after n) d h = around_later (omega arith) (max_around n d h)
max_around (body n) zero h = record { node = n; before = omega arith }
max_around (body {k} {ms} {f} n) (suc d) h =
    let a : Around _ k ms d = max_around n d (omega arith) in
    record { node = a.node; before = omega arith }

-- ---- well-formedness where a node stands

pub guards_around : {root : Formula} {k : ℕ} {ms : List EnclosingMax} {f : Formula} (node : Node root k ms f) → length (guards_at node) ≡ length ms
guards_around whole = refl
guards_around (first n) = guards_around n
guards_around (second n) = guards_around n
guards_around (after n) = length-map (guards_at n) (λ b. true) ∙ guards_around n
guards_around (body n) = ap suc (guards_around n)

pub well_formed_at : {root : Formula} {k : ℕ} {ms : List EnclosingMax} {f : Formula} (n : ℕ) → WellFormed n [] root → (node : Node root k ms f)
    → WellFormed n (guards_at node) f
well_formed_at n w whole = w
well_formed_at n w (first m) = (well_formed_at n w m).0
well_formed_at n w (second m) = (well_formed_at n w m).1
well_formed_at n w (after m) = (well_formed_at n w m).1
well_formed_at n w (body m) = well_formed_at n w m

pub variable_bound : {root : Formula} {k : ℕ} {ms : List EnclosingMax} {d : ℕ} (n : ℕ) → WellFormed n [] root
    → Node root k ms (variable d) → d < length ms
variable_bound n w m = rw (guards_around m) at (well_formed_at n w m).0
