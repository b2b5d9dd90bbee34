-- A list with one element for each node of a formula, in reading order, has the element of a node at the node's number. So a number
-- names one node only.
use mathlib.Core.Path.{◌≡◌, refl, sym, ap, ◌∙◌}
use mathlib.Core.List.{List, [], map, map-id}
use Prim.Native.Nat.{ℕ, suc, ◌+◌, ◌<◌}
use native.Mathlib.Omega.{arith}
use lib.ListN.{length, get_or, length-append, get_or-append}
use lib.Seq.{get_or-append-add}
use Rattle.reading.specs.Rule.{Formula, truth, falsity, both, necessity, max, variable, size}
use Rattle.reading.specs.Nodes.{EnclosingMax, Node, whole, first, second, after, body, preorder}

-- ---- a list with an element for each node

pub size_positive : (f : Formula) → 0 < size f
size_positive truth = omega arith
size_positive falsity = omega arith
size_positive (both f g) = omega arith
size_positive (necessity p f) = omega arith
size_positive (max f) = omega arith
size_positive (variable d) = omega arith

module _ {M A : Type 0} (keep : EnclosingMax → M) (own : ℕ → List M → Formula → A) where
  abbrev listed : ℕ → List M → Formula → List A
  listed = preorder keep own

  pub listed_size : (k : ℕ) (ms : List M) (f : Formula) → length (listed k ms f) ≡ size f
  listed_size k ms truth = refl
  listed_size k ms falsity = refl
  listed_size k ms (both f g) =
      ap suc (length-append (listed (suc k) ms f) (listed (k + suc (size f)) ms g)
      ∙ rw (listed_size (suc k) ms f, listed_size (k + suc (size f)) ms g))
  listed_size k ms (necessity p f) = ap suc (listed_size (suc k) ms f)
  listed_size k ms (max f) = ap suc (listed_size (suc k) _ f)
  listed_size k ms (variable d) = refl

  module _ (root : Formula) (x : A) where
    -- what the list of the whole has at a place
    abbrev at : ℕ → A
    at i = get_or (listed 0 [] root) i x

    -- the list of the whole has, from a node's number on, the list of the node
    listed_from : {k : ℕ} {ms : List EnclosingMax} {f : Formula} → Node root k ms f → (i : ℕ) → i < size f
        → at (k + i) ≡ get_or (listed k (map keep ms) f) i x
    listed_from whole i h = ap at (omega arith)
    listed_from (first {k} {ms} {f} {g} n) i h =
        ap at (omega arith) ∙ listed_from n (suc i) (omega arith) ∙ get_or-append (listed (suc k) (map keep ms) f) _ x i (rw listed_size h)
    listed_from (second {k} {ms} {f} {g} n) i h =
        let front : List A = listed (suc k) (map keep ms) f in
        let shift : length front + i ≡ size f + i = rw listed_size in
        ap at (omega arith) ∙ listed_from n (suc (size f + i)) (omega arith) ∙ rw (← shift) (get_or-append-add front _ i x)
    listed_from (after n) i h = ap at (omega arith) ∙ listed_from n (suc i) (omega arith)
    listed_from (body n) i h = ap at (omega arith) ∙ listed_from n (suc i) (omega arith)

    listed_first : (k : ℕ) (ms : List M) (f : Formula) → get_or (listed k ms f) 0 x ≡ own k ms f
    listed_first k ms truth = refl
    listed_first k ms falsity = refl
    listed_first k ms (both f g) = refl
    listed_first k ms (necessity p f) = refl
    listed_first k ms (max f) = refl
    listed_first k ms (variable d) = refl

    pub listed_at : {k : ℕ} {ms : List EnclosingMax} {f : Formula} → Node root k ms f → at k ≡ own k (map keep ms) f
    listed_at {k} {ms} {f} n = ap at (omega arith) ∙ listed_from n 0 (size_positive f) ∙ listed_first k (map keep ms) f

-- ---- a number names one node only

-- a node by its maxes and its formula
abbrev named : ℕ → List EnclosingMax → Formula → List EnclosingMax × Formula
named k ms f = (ms, f)

-- the list of the nodes so named has a node at its number
named_at : {root : Formula} {k : ℕ} {ms : List EnclosingMax} {f : Formula} → Node root k ms f
    → get_or (preorder (λ (m : EnclosingMax). m) named 0 [] root) k (named 0 [] truth) ≡ named k ms f
named_at {root} {ms = ms} n = rw map-id at (listed_at (λ (m : EnclosingMax). m) named root (named 0 [] truth) n)

pub node_unique : {root : Formula} {k : ℕ} {ms ms' : List EnclosingMax} {f f' : Formula} → Node root k ms f → Node root k ms' f'
    → (ms ≡ ms') × (f ≡ f')
node_unique {root} {k} {ms} {ms'} {f} {f'} n n' =
    let e : ◌≡◌ {A = List EnclosingMax × Formula} (ms, f) (ms', f') = sym (named_at n) ∙ named_at n' in
    (ap (λ (p : List EnclosingMax × Formula). p.0) e, ap (λ (p : List EnclosingMax × Formula). p.1) e)
