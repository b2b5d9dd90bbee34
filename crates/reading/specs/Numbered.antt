-- What the reader hands up: a rule's patterns and nodes by number, in arrays of fixed length.
use Rattle.std.specs.Prelude.{ℕ, suc, ◌+◌, ◌-◌, List, [], ◌++◌, map, length, get_or, replicate, None}
use Rattle.reading.specs.Pattern.{extent_of}
use Rattle.reading.specs.Rule.{Formula, truth, falsity, both, necessity, max, variable, size, Rule}
use Rattle.reading.specs.Rule.{truth_kind, falsity_kind, both_kind, necessity_kind, max_kind, variable_kind}
use Rattle.reading.specs.File.{Outcome, accepted, refused}
use Rattle.reading.specs.Nodes.{EnclosingMax, preorder}
use Rattle.reading.specs.declared.Pattern.{Pattern}
use Rattle.reading.specs.declared.Extent.{Extent}
use Rattle.reading.specs.declared.Listed.{Listed}
use Rattle.reading.specs.declared.Node.{Node}
use Rattle.reading.specs.declared.Node.TheVariants.{Truth, Falsity, Both, Necessity, Max, Variable}
use Rattle.reading.specs.declared.NumberedRule.{NumberedRule}

-- ---- nodes

-- Node k inside the max nodes ms, innermost first: with the node of the second part of a "both", the pattern of a necessity, and the max node of
-- a variable.
abbrev pub node_of : (k : ℕ) (ms : List ℕ) → Formula → Node
node_of k ms truth = Truth
node_of k ms falsity = Falsity
node_of k ms (both f g) = Both (k + suc (size f))
node_of k ms (necessity p f) = Necessity p
node_of k ms (max f) = Max
node_of k ms (variable d) = Variable (get_or ms d 0)

abbrev pub number_of : EnclosingMax → ℕ
number_of m = m.number

-- the nodes of a formula that begins at node k
abbrev pub nodes : ℕ → List ℕ → Formula → List Node
nodes = preorder number_of node_of

-- the byte of a node's kind
abbrev pub node_kind : Node → ℕ
node_kind Truth = truth_kind
node_kind Falsity = falsity_kind
node_kind (Both m) = both_kind
node_kind (Necessity p) = necessity_kind
node_kind Max = max_kind
node_kind (Variable m) = variable_kind

-- the number that a node has with it, 0 where there is none
abbrev pub node_argument : Node → ℕ
node_argument Truth = 0
node_argument Falsity = 0
node_argument (Both m) = m
node_argument (Necessity p) = p
node_argument Max = 0
node_argument (Variable m) = m

-- The same number by the formula, of node k inside the max nodes ms, innermost first: the node of the second part of a "both", the pattern of a
-- necessity, the max node of a variable, and else 0.
abbrev pub argument : ℕ → List ℕ → Formula → ℕ
argument k ms truth = 0
argument k ms falsity = 0
argument k ms (both f g) = k + suc (size f)
argument k ms (necessity p f) = p
argument k ms (max f) = 0
argument k ms (variable d) = get_or ms d 0

-- ---- patterns

-- a pattern with its extent
abbrev pub listed : Pattern → Listed
listed p = record { pattern = p; extent = extent_of p }

-- what fills up the patterns of a rule: a pattern of no kind, and its extent
abbrev pub no_pattern : Pattern
no_pattern = record { mask = 0; first = 0; last = 0 }

abbrev pub no_extent : Extent
no_extent = record { lowest = None; count = 0 }

abbrev pub none_listed : Listed
none_listed = record { pattern = no_pattern; extent = no_extent }

-- ---- rules

-- a list filled up to n elements
abbrev pub padded : {A : Type 0} → ℕ → A → List A → List A
padded n x l = l ++ replicate (n - length l) x

abbrev pub numbered : Rule → NumberedRule
numbered r = record {
  patterns = padded 32 none_listed (map listed r.patterns);
  npatterns = length r.patterns;
  nodes = padded 64 Truth (nodes 0 [] r.formula);
  nnodes = size r.formula;
}

-- the rule of each outcome by number
abbrev pub reading_of : Outcome Rule → Outcome NumberedRule
reading_of (accepted r) = accepted (numbered r)
reading_of (refused number place) = refused number place
