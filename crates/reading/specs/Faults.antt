-- Why a rule file is refused, and where, without the steps of a reader: a clause for each way in which a file can go wrong. A front of the file
-- begins a rule when the encoding of some well-formed rule, with any number of patterns and nodes, begins with it.
use Rattle.std.specs.Prelude.{ℕ, suc, ◌+◌, ◌≤◌, ◌<◌, ◌≡◌, ◌⊎◌, List, [], ◌∷◌, ◌++◌, length, get_or, take}
use Rattle.reading.specs.Pattern.{WellFormedPattern}
use Rattle.reading.specs.Rule.{Formula, truth, falsity, both, necessity, max, variable, WellFormed, Rule, All, WellFormedRule, encode}
use Rattle.reading.specs.Rule.{Symbol, pattern_kind, truth_kind, necessity_kind, variable_kind, pattern_bytes, node_bytes, encode_each}
use Rattle.reading.specs.declared.Pattern.{Pattern}

-- ---- whole records

-- a pattern, or a node without its parts
pub data Record : Type 0 where
  pattern : Pattern → Record
  node : Symbol → Record

abbrev pub record_bytes : Record → List ℕ
record_bytes (pattern p) = pattern_bytes p
record_bytes (node x) = node_bytes x

abbrev pub records_bytes : List Record → List ℕ
records_bytes = encode_each record_bytes

-- how many of the records are patterns, and how many nodes
abbrev pub patterns_in : List Record → ℕ
patterns_in [] = 0
patterns_in (pattern p ∷ xs) = suc (patterns_in xs)
patterns_in (node x ∷ xs) = patterns_in xs

abbrev pub nodes_in : List Record → ℕ
nodes_in [] = 0
nodes_in (pattern p ∷ xs) = nodes_in xs
nodes_in (node x ∷ xs) = suc (nodes_in xs)

-- ---- fronts of rules

-- Well formed if guards aren't asked for, after so many patterns and inside so many maxes: pattern numbers are in range, and each variable is bound.
abbrev pub Bound : (patterns maxes : ℕ) → Formula → Type 0
Bound n k truth = Unit
Bound n k falsity = Unit
Bound n k (both f g) = Bound n k f × Bound n k g
Bound n k (necessity p f) = (p < n) × Bound n k f
Bound n k (max f) = Bound n (suc k) f
Bound n k (variable d) = d < k

-- the bytes are a front of the encoding of a rule with such a formula
pub record Begins (Fit : (patterns : ℕ) → Formula → Type 0) (s : List ℕ) : Type 0 where
  pub rule : Rule
  pub patterns : All WellFormedPattern rule.patterns
  pub formula : Fit (length rule.patterns) rule.formula
  pub rest : List ℕ
  pub front : s ++ rest ≡ encode rule

abbrev pub BeginsRule : List ℕ → Type 0
BeginsRule = Begins (λ n. WellFormed n [])

-- the same if guards aren't asked for
abbrev pub BeginsBound : List ℕ → Type 0
BeginsBound = Begins (λ n. Bound n 0)

abbrev pub IsRule : List ℕ → Type 0
IsRule s = (r : Rule) × WellFormedRule r × (s ≡ encode r)

-- The bytes of the file before `at` are whole records that begin a rule: so many patterns and so many nodes, within the limits.
pub record Front (s : List ℕ) (at patterns nodes : ℕ) : Type 0 where
  pub inside : at ≤ length s
  pub records : List Record
  pub are : take at s ≡ records_bytes records
  pub patterns_are : patterns_in records ≡ patterns
  pub nodes_are : nodes_in records ≡ nodes
  pub few_patterns : patterns ≤ 32
  pub few_nodes : nodes ≤ 64
  pub begins : BeginsRule (take at s)

-- the same, and they aren't a whole rule yet
pub record Unfinished (s : List ℕ) (at patterns nodes : ℕ) : Type 0 where
  pub front : Front s at patterns nodes
  pub unfinished : IsRule (take at s) → ⊥

-- ---- the clauses

-- at this place the file has a byte, and such a one
abbrev pub KindAt : List ℕ → (at : ℕ) → (Is : ℕ → Type 0) → Type 0
KindAt s at Is = (at < length s) × Is (get_or s at 0)

abbrev pub IsPattern : ℕ → Type 0
IsPattern k = k ≡ pattern_kind

abbrev pub NoKind : ℕ → Type 0
NoKind k = (k ≡ 0) ⊎ (variable_kind < k)

abbrev pub IsNode : ℕ → Type 0
IsNode k = (truth_kind ≤ k) × (k ≤ variable_kind)

abbrev pub HasBody : ℕ → Type 0
HasBody k = (k ≡ necessity_kind) ⊎ (k ≡ variable_kind)

abbrev pub IsVariable : ℕ → Type 0
IsVariable k = k ≡ variable_kind

-- Refused with this number at this place. n and m count the patterns and the nodes before it.
pub data Fault (s : List ℕ) : (number place : ℕ) → Type 0 where
  -- 1: the file ends where a record is due, or inside one that may come next
  file_ended : {n m : ℕ} → Unfinished s (length s) n m → Fault s 1 (length s)
  pattern_cut : {at n : ℕ} → Unfinished s at n 0 → KindAt s at IsPattern → n < 32 → length s < at + 4 → Fault s 1 (length s)
  node_cut : {at n m : ℕ} → Unfinished s at n m → KindAt s at HasBody → m < 64 → length s < at + 2 → Fault s 1 (length s)
  -- 2: a kind that isn't 1 to 7
  no_kind : {at n m : ℕ} → Unfinished s at n m → KindAt s at NoKind → Fault s 2 at
  -- 3: something after a whole rule, or a pattern once the formula has begun
  after_rule : {at n m : ℕ} → Front s at n m → IsRule (take at s) → at < length s → Fault s 3 at
  late_pattern : {at n m : ℕ} → Unfinished s at n m → KindAt s at IsPattern → 0 < m → Fault s 3 at
  -- 4: a 33rd pattern or a 65th node
  pattern_33 : {at : ℕ} → Unfinished s at 32 0 → KindAt s at IsPattern → Fault s 4 at
  node_65 : {at n : ℕ} → Unfinished s at n 64 → KindAt s at IsNode → Fault s 4 at
  -- 5: a pattern with which no rule begins
  bad_pattern : {at n : ℕ} → Unfinished s at n 0 → KindAt s at IsPattern → n < 32 → at + 4 ≤ length s
      → (BeginsRule (take (at + 4) s) → ⊥) → Fault s 5 at
  -- 6: a necessity or a variable with which no rule begins, even if guards aren't asked for
  names_nothing : {at n m : ℕ} → Unfinished s at n m → KindAt s at HasBody → m < 64 → at + 2 ≤ length s
      → (BeginsBound (take (at + 2) s) → ⊥) → Fault s 6 at
  -- 7: a variable with which no rule begins, but one if guards aren't asked for
  unguarded : {at n m : ℕ} → Unfinished s at n m → KindAt s at IsVariable → m < 64 → at + 2 ≤ length s
      → (BeginsRule (take (at + 2) s) → ⊥) → BeginsBound (take (at + 2) s) → Fault s 7 at
