-- What the bytes of a rule file say. The checks of each record stand in the order of the paper's table, a line each; where a list of records is full comes with
-- the list.
-- s is the file, `at` the place of a record, n the number of patterns, and g says which of the maxes around a node are guarded.
use Rattle.std.specs.Prelude.{ℕ, zero, suc, ◌+◌, ◌-◌, Bool, true, false, cond, ◌||◌, ◌&&◌, not, List, [], ◌∷◌, length, get_or, ltb, leb, eqb}
use Rattle.reading.specs.Rule.{Formula, truth, falsity, both, necessity, max, variable, Guards, guarded, Rule}
use Rattle.reading.specs.Rule.{Symbol, Truth, Falsity, Both, Max, Necessity, Variable}
use Rattle.reading.specs.Rule.{pattern_kind, truth_kind, falsity_kind, both_kind, necessity_kind, max_kind, variable_kind}
use Rattle.reading.specs.declared.Pattern.{Pattern}

-- ---- what checking some input gives

-- accepted with a value, or refused with the paper's number and place
pub data Outcome (A : Type 0) : Type 0 where
  accepted : A → Outcome A
  refused : (number place : ℕ) → Outcome A

-- refused where the condition holds
abbrev pub refuse : {A : Type 0} → Bool → (number place : ℕ) → Outcome A → Outcome A
refuse true number place rest = refused number place
refuse false number place rest = rest

abbrev pub and_then : {A B : Type 0} → Outcome A → (A → Outcome B) → Outcome B
and_then (accepted a) f = f a
and_then (refused number place) f = refused number place

-- one value for what is accepted, another for a refusal
abbrev pub by_case : {A R : Type 0} → (value : A → R) → (refusal : (number place : ℕ) → R) → Outcome A → R
by_case value refusal (accepted a) = value a
by_case value refusal (refused number place) = refusal number place

-- ---- a list of records

-- What a list of records needs to know of them: whether one more begins at a place, what the one there says, how many bytes it has, and the number
-- with which one too many is refused there.
pub record RecordFormat (A : Type 0) : Type 0 where
  pub more : (at : ℕ) → Bool
  pub one : (at : ℕ) → Outcome A
  pub width : A → ℕ
  pub too_many : (at : ℕ) → ℕ

-- some records, and the place after them
pub record Records (A : Type 0) : Type 0 where
  pub list : List A
  pub next : ℕ

abbrev pub with_record : {A : Type 0} → A → Records A → Outcome (Records A)
with_record x xs = accepted (record { list = x ∷ xs.list; next = xs.next })

-- The records from `at` on, of which `left` are left. Where none is left, one more is too many.
unfoldable pub records_at : {A : Type 0} → RecordFormat A → (left at : ℕ) → Outcome (Records A)
records_at r zero at =
    cond (r.more at)
    (refused (r.too_many at) at)
    (accepted (record { list = []; next = at }))
records_at r (suc left) at =
    cond (r.more at)
    (and_then (r.one at) (λ x. and_then (records_at r left (at + r.width x)) (with_record x)))
    (accepted (record { list = []; next = at }))

-- ---- the patterns

-- The pattern record at `at`. The first check of all, 4 where none of the 32 patterns is left, is that of `pattern_format`.
abbrev pub pattern_at : List ℕ → (at : ℕ) → Outcome Pattern
pattern_at s at =
    let mask = get_or s (at + 1) 0 in
    let first = get_or s (at + 2) 0 in
    let last = get_or s (at + 3) 0 in
    refuse (leb (length s) (at + 3)) 1 (length s)
    (refuse (ltb 31 first) 5 at
    (refuse (ltb 31 last) 5 at
    (accepted (record { mask = mask; first = first; last = last }))))

abbrev pub is_pattern : List ℕ → (at : ℕ) → Bool
is_pattern s at = ltb at (length s) && eqb (get_or s at 0) pattern_kind

abbrev pub pattern_format : List ℕ → RecordFormat Pattern
pattern_format s = record { more = is_pattern s; one = pattern_at s; width = λ p. 4; too_many = λ at. 4 }

-- The patterns from `at` on, with `left` of the 32 left.
abbrev pub patterns_at : (left : ℕ) → List ℕ → (at : ℕ) → Outcome (Records Pattern)
patterns_at left s at = records_at (pattern_format s) left at

-- ---- one node record

-- a symbol, and the place after its record
pub record NodeRecord : Type 0 where
  pub symbol : Symbol
  pub next : ℕ

-- a necessity
abbrev pub necessity_at : List ℕ → (n at : ℕ) → Outcome NodeRecord
necessity_at s n at =
    let pattern = get_or s (at + 1) 0 in
    refuse (leb (length s) (at + 1)) 1 (length s)
    (refuse (leb n pattern) 6 at
    (accepted (record { symbol = Necessity pattern; next = at + 2 })))

-- a variable
abbrev pub variable_at : List ℕ → Guards → (at : ℕ) → Outcome NodeRecord
variable_at s g at =
    let depth = get_or s (at + 1) 0 in
    refuse (leb (length s) (at + 1)) 1 (length s)
    (refuse (leb (length g) depth) 6 at
    (refuse (not (get_or g depth false)) 7 at
    (accepted (record { symbol = Variable depth; next = at + 2 }))))

-- a record without a body
abbrev pub bare_at : Symbol → (at : ℕ) → Outcome NodeRecord
bare_at x at = accepted (record { symbol = x; next = at + 1 })

-- The record due at `at` in a formula that isn't whole, with `left` of the 64 nodes left.
abbrev pub node_at : List ℕ → (n at left : ℕ) → Guards → Outcome NodeRecord
node_at s n at left g =
    let kind = get_or s at 0 in
    refuse (leb (length s) at) 1 (length s)
    (refuse (eqb kind 0 || ltb variable_kind kind) 2 at
    (refuse (eqb kind pattern_kind) 3 at
    (refuse (eqb left 0) 4 at
    (cond (eqb kind truth_kind) (bare_at Truth at)
    (cond (eqb kind falsity_kind) (bare_at Falsity at)
    (cond (eqb kind both_kind) (bare_at Both at)
    (cond (eqb kind necessity_kind) (necessity_at s n at)
    (cond (eqb kind max_kind) (bare_at Max at)
    (variable_at s g at)))))))))

-- ---- a formula: a node, then its parts

-- a formula, the place after it, and how many of the 64 nodes are then left
pub record Parsed : Type 0 where
  pub formula : Formula
  pub next : ℕ
  pub left : ℕ

abbrev pub parsed : Formula → (next left : ℕ) → Outcome Parsed
parsed f next left = accepted (record { formula = f; next = next; left = left })

-- a formula made of one that was read
abbrev pub under : (Formula → Formula) → Parsed → Outcome Parsed
under make f = parsed (make f.formula) f.next f.left

-- The formula of a symbol whose parts begin at `next`. A part is read by `read`: at a place, with so many nodes left, inside such maxes.
abbrev pub parts_by : (read : (at left : ℕ) → Guards → Outcome Parsed) → Symbol → (next left : ℕ) → Guards → Outcome Parsed
parts_by read Truth next left g = parsed truth next left
parts_by read Falsity next left g = parsed falsity next left
parts_by read Both next left g = and_then (read next left g) (λ f. and_then (read f.next f.left g) (under (both f.formula)))
parts_by read (Necessity p) next left g = and_then (read next left (guarded g)) (under (necessity p))
parts_by read Max next left g = and_then (read next left (false ∷ g)) (under max)
parts_by read (Variable d) next left g = parsed (variable d) next left

-- The formula at `at`. Each node takes one of those left, so that a depth over `left` is never used up.
unfoldable pub formula_at : (depth : ℕ) → List ℕ → (n at left : ℕ) → Guards → Outcome Parsed
formula_at zero s n at left g = refused 4 at
formula_at (suc depth) s n at left g = and_then (node_at s n at left g) (λ r. parts_by (formula_at depth s n) r.symbol r.next (left - 1) g)

unfoldable pub formula_of : List ℕ → (n at left : ℕ) → Guards → Outcome Parsed
formula_of s n at left g = formula_at (suc left) s n at left g

-- ---- the whole file

-- after the formula the file ends
abbrev pub end_of_file : List ℕ → List Pattern → Parsed → Outcome Rule
end_of_file s ps f = refuse (ltb f.next (length s)) 3 f.next (accepted (record { patterns = ps; formula = f.formula }))

unfoldable pub rule_of : List ℕ → Outcome Rule
rule_of s = and_then (patterns_at 32 s 0) (λ ps. and_then (formula_of s (length ps.list) ps.next 64 []) (end_of_file s ps.list))
