-- The arrays of a numbered rule: by a node's number the node, and by a pattern's number the pattern with its extent. Each array is a list with an
-- element for each node or pattern, filled up; so an index in the list finds the list's element.
use mathlib.Core.Path.{◌≡◌, refl, ◌∙◌}
use mathlib.Core.List.{List, [], ◌∷◌, ◌++◌, map}
use Prim.Native.Nat.{ℕ, zero, suc, ◌-◌, ◌≤◌}
use native.Mathlib.Omega.{arith}
use lib.ListN.{length, get_or, replicate, length-append, length-replicate, get_or-map}
use Rattle.reading.specs.Rule.{Formula, truth, falsity, both, necessity, max, variable, symbol_of, size, WellFormed, Rule, kind_byte}
use Rattle.reading.specs.Numbered.{node_of, number_of, nodes, node_kind, node_argument, argument, padded, listed, no_pattern, none_listed, numbered}
use Rattle.reading.specs.Promises.{NumbersNodes, NumbersPatterns}
use Rattle.reading.specs.Nodes.{EnclosingMax, no_max, Node, first, second, after, body}
use Rattle.reading.specs.declared.Node.TheVariants.{Truth}
use Rattle.reading.specs.Nodes.{Resolves, is_truth, is_falsity, is_both, is_necessity, is_max, is_variable}
use Rattle.reading.proofs.Measures.Extents.{no_extent_lem}
use Rattle.reading.proofs.Numbering.NodeLaws.{node_exists, node_fits, Around, max_around, guards_around, well_formed_at, variable_bound}
use Rattle.reading.proofs.Numbering.Listings.{listed_size, listed_at, node_unique}

-- ---- filling up

module _ {A : Type 0} (x : A) where
  pub repeated_at : (n i : ℕ) → get_or (replicate n x) i x ≡ x
  repeated_at zero i = refl
  repeated_at (suc n) zero = refl
  repeated_at (suc n) (suc i) = repeated_at n i

  filled_at : (l : List A) (n i : ℕ) → get_or (l ++ replicate n x) i x ≡ get_or l i x
  filled_at [] n i = repeated_at n i
  filled_at (y ∷ l) n zero = refl
  filled_at (y ∷ l) n (suc i) = filled_at l n i

  pub padded_at : (n : ℕ) (l : List A) (i : ℕ) → get_or (padded n x l) i x ≡ get_or l i x
  padded_at n l i = filled_at l (n - length l) i

  pub padded_long : (n : ℕ) (l : List A) → length l ≤ n → length (padded n x l) ≡ n
  padded_long n l h = length-append l (replicate (n - length l) x) ∙ rw (length-replicate (n - length l) x) (omega arith)

-- ---- nodes

pub nodes_size : (k : ℕ) (ms : List ℕ) (f : Formula) → length (nodes k ms f) ≡ size f
nodes_size = listed_size number_of node_of

own_kind : (k : ℕ) (ms : List ℕ) (f : Formula) → node_kind (node_of k ms f) ≡ kind_byte (symbol_of f)
own_kind k ms truth = refl
own_kind k ms falsity = refl
own_kind k ms (both f g) = refl
own_kind k ms (necessity p f) = refl
own_kind k ms (max f) = refl
own_kind k ms (variable d) = refl

own_argument : (k : ℕ) (ms : List ℕ) (f : Formula) → node_argument (node_of k ms f) ≡ argument k ms f
own_argument k ms truth = refl
own_argument k ms falsity = refl
own_argument k ms (both f g) = refl
own_argument k ms (necessity p f) = refl
own_argument k ms (max f) = refl
own_argument k ms (variable d) = refl

module _ (r : Rule) {k : ℕ} {ms : List EnclosingMax} where
  pub node_at_lem : {f : Formula} → Node r.formula k ms f → get_or (numbered r).nodes k Truth ≡ node_of k (map number_of ms) f
  node_at_lem n = padded_at Truth 64 (nodes 0 [] r.formula) k ∙ listed_at number_of node_of r.formula Truth n

  pub kind_at : {f : Formula} → Node r.formula k ms f → node_kind (get_or (numbered r).nodes k Truth) ≡ kind_byte (symbol_of f)
  kind_at {f} n = rw (node_at_lem n) (own_kind k (map number_of ms) f)

  pub argument_at : {f : Formula} → Node r.formula k ms f
      → node_argument (get_or (numbered r).nodes k Truth) ≡ argument k (map number_of ms) f
  argument_at {f} n = rw (node_at_lem n) (own_argument k (map number_of ms) f)

  own_resolves : (f : Formula) (n : ℕ) → WellFormed n [] r.formula → Node r.formula k ms f
      → Resolves r.formula k ms (node_of k (map number_of ms) f) f
  own_resolves truth n w m = is_truth
  own_resolves falsity n w m = is_falsity
  own_resolves (both f g) n w m = is_both (first m) (second m)
  own_resolves (necessity p f) n w m = is_necessity (after m)
  own_resolves (max f) n w m = is_max (body m)
  own_resolves (variable d) n w m =
      let a : Around r.formula k ms d = max_around m d (variable_bound n w m) in
      rw (get_or-map number_of ms d no_max) (is_variable refl a.node a.before)

  pub node_resolves : {f : Formula} (n : ℕ) → WellFormed n [] r.formula → Node r.formula k ms f
      → Resolves r.formula k ms (get_or (numbered r).nodes k Truth) f
  node_resolves {f} n w m = rw (node_at_lem m) (own_resolves f n w m)

-- ---- patterns

pub pattern_at_lem : (r : Rule) (i : ℕ) → get_or (numbered r).patterns i none_listed ≡ listed (get_or r.patterns i no_pattern)
pattern_at_lem r i =
    padded_at none_listed 32 (map listed r.patterns) i
    ∙ rw (← no_extent_lem no_pattern refl) (get_or-map listed r.patterns i no_pattern)

-- ---- the promises

pub numbers_nodes : (r : Rule) → NumbersNodes r
numbers_nodes r = record {
  counted = refl;
  exists = node_exists r.formula;
  unique = node_unique;
  fits = node_fits;
  node_is = node_at_lem r;
  kind_is = kind_at r;
  argument_is = argument_at r;
  well_formed = λ n w node. (well_formed_at n w node, guards_around node);
  resolves = node_resolves r;
}

pub numbers_patterns : (r : Rule) → NumbersPatterns r
numbers_patterns r = record { counted = refl; pattern = pattern_at_lem r }
