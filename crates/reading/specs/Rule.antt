-- sHML formulas: tt, ff, "both", "after each code of a pattern" (necessity), max, and the variable of an enclosing max. Rules, which of them are
-- well formed, and their encoding as the bytes of a file. In the field "both" is conjunction, a necessity the box modality, max the greatest fixed point,
-- and a code an action.
use Rattle.std.specs.Prelude.{ℕ, suc, ◌+◌, ◌<◌, ◌≤◌, ◌≡◌, Bool, true, false, List, ◌∷◌, map, [], ◌++◌, length, get_or}
use Rattle.reading.specs.Pattern.{WellFormedPattern}
use Rattle.reading.specs.declared.Pattern.{Pattern}

-- ---- formulas

-- A pattern is meant by its number. A variable is meant by the number of max nodes between it and its own, 0 the innermost.
pub data Formula : Type 0 where
  truth falsity : Formula
  both : Formula → Formula → Formula
  necessity : (pattern : ℕ) → Formula → Formula
  max : Formula → Formula
  variable : (depth : ℕ) → Formula

-- how many nodes a formula has
abbrev pub size : Formula → ℕ
size truth = 1
size falsity = 1
size (both f g) = suc (size f + size g)
size (necessity p f) = suc (size f)
size (max f) = suc (size f)
size (variable d) = 1

-- A node without its parts, which is what its record says: the symbol, and the pattern number or the depth.
pub data Symbol : Type 0 where
  Truth Falsity Both Max : Symbol
  Necessity Variable : ℕ → Symbol

abbrev pub symbol_of : Formula → Symbol
symbol_of truth = Truth
symbol_of falsity = Falsity
symbol_of (both f g) = Both
symbol_of (necessity p f) = Necessity p
symbol_of (max f) = Max
symbol_of (variable d) = Variable d

-- Of each max around a formula, innermost first: whether a necessity stands between the two.
abbrev pub Guards : Type 0
Guards = List Bool

-- below a necessity every max around is guarded
abbrev pub guarded : Guards → Guards
guarded g = map (λ b. true) g

-- Well formed after so many patterns, inside such maxes: pattern numbers are in range, each variable is bound, and a necessity stands
-- between it and its max.
abbrev pub WellFormed : (patterns : ℕ) → Guards → Formula → Type 0
WellFormed n g truth = Unit
WellFormed n g falsity = Unit
WellFormed n g (both f f') = WellFormed n g f × WellFormed n g f'
WellFormed n g (necessity p f) = (p < n) × WellFormed n (guarded g) f
WellFormed n g (max f) = WellFormed n (false ∷ g) f
WellFormed n g (variable d) = (d < length g) × (get_or g d false ≡ true)

-- ---- rules

pub record Rule : Type 0 where
  pub patterns : List Pattern
  pub formula : Formula

-- a property of each element
abbrev pub All : {A : Type 0} → (A → Type 0) → List A → Type 0
All P [] = Unit
All P (x ∷ xs) = P x × All P xs

-- well formed, with any number of patterns and nodes
pub record WellFormedRule (r : Rule) : Type 0 where
  pub patterns : All WellFormedPattern r.patterns
  pub formula : WellFormed (length r.patterns) [] r.formula

-- well formed, and within 32 patterns and 64 nodes
pub record RuleWithinLimits (r : Rule) : Type 0 where
  pub well_formed : WellFormedRule r
  pub few_patterns : length r.patterns ≤ 32
  pub few_nodes : size r.formula ≤ 64

-- ---- records and their bytes

-- The byte with which a record begins is its kind.
abbrev pub pattern_kind : ℕ
pattern_kind = 1

abbrev pub truth_kind : ℕ
truth_kind = 2

abbrev pub falsity_kind : ℕ
falsity_kind = 3

abbrev pub both_kind : ℕ
both_kind = 4

abbrev pub necessity_kind : ℕ
necessity_kind = 5

abbrev pub max_kind : ℕ
max_kind = 6

abbrev pub variable_kind : ℕ
variable_kind = 7

abbrev pub pattern_bytes : Pattern → List ℕ
pattern_bytes p = pattern_kind ∷ p.mask ∷ p.first ∷ p.last ∷ []

abbrev pub kind_byte : Symbol → ℕ
kind_byte Truth = truth_kind
kind_byte Falsity = falsity_kind
kind_byte Both = both_kind
kind_byte (Necessity p) = necessity_kind
kind_byte Max = max_kind
kind_byte (Variable d) = variable_kind

-- after the kind: the body of a necessity, which is its pattern, or of a variable, its depth
abbrev pub body_bytes : Symbol → List ℕ
body_bytes Truth = []
body_bytes Falsity = []
body_bytes Both = []
body_bytes (Necessity p) = p ∷ []
body_bytes Max = []
body_bytes (Variable d) = d ∷ []

abbrev pub node_bytes : Symbol → List ℕ
node_bytes x = kind_byte x ∷ body_bytes x

-- ---- a rule's bytes

-- the bytes of each element, one after the other
abbrev pub encode_each : {A : Type 0} → (A → List ℕ) → List A → List ℕ
encode_each bytes [] = []
encode_each bytes (x ∷ xs) = bytes x ++ encode_each bytes xs

-- patterns first
abbrev pub encode_patterns : List Pattern → List ℕ
encode_patterns = encode_each pattern_bytes

-- then the formula in prefix order: a node's record, then its parts
abbrev pub encode_formula : Formula → List ℕ
encode_formula truth = node_bytes Truth
encode_formula falsity = node_bytes Falsity
encode_formula (both f g) = node_bytes Both ++ (encode_formula f ++ encode_formula g)
encode_formula (necessity p f) = node_bytes (Necessity p) ++ encode_formula f
encode_formula (max f) = node_bytes Max ++ encode_formula f
encode_formula (variable d) = node_bytes (Variable d)

abbrev pub encode : Rule → List ℕ
encode r = encode_patterns r.patterns ++ encode_formula r.formula

-- a file is a list of bytes
abbrev pub Bytes : List ℕ → Type 0
Bytes = All (λ b. b < 256)
