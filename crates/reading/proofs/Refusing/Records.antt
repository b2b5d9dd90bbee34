-- Whole records from their bytes. The kind of a record settles how long it is, so that bytes are whole records in one way only, and records whose bytes
-- begin those of others begin these. The records of a rule are its patterns, and then the symbols of its formula.
use mathlib.Core.Path.{◌≡◌, refl, sym, ap, ◌∙◌}
use mathlib.Core.Logic.{◌⊎◌, inl, inr}
use mathlib.Core.Bool.{cond}
use mathlib.Core.List.{List, [], ◌∷◌, ◌++◌, map, map-append, append_assoc}
use Prim.Native.Nat.{ℕ, suc, ◌≤◌}
use native.Mathlib.Omega.{arith}
use lib.Dec.{eqb}
use lib.ListN.{length, get_or, drop}
use Rattle.reading.specs.Rule.{Formula, truth, falsity, both, necessity, max, variable, Rule, encode_patterns, encode_formula, encode}
use Rattle.reading.specs.Rule.{Symbol, Truth, Falsity, Both, Max, Necessity, Variable}
use Rattle.reading.specs.Rule.{pattern_kind, truth_kind, falsity_kind, both_kind, necessity_kind, max_kind}
use Rattle.reading.specs.Faults.{Record, pattern, node, record_bytes, records_bytes, patterns_in, nodes_in}
use Rattle.reading.specs.declared.Pattern.{Pattern}
use Rattle.reading.proofs.Basics.EncodeLaws.{encode_each-append, encode_each-front, encode_each-same}
use Rattle.reading.proofs.Refusing.Contexts.{symbols}

-- ---- the first record

-- the record with which the bytes begin, and the rest of them
first_record : List ℕ → Record × List ℕ
first_record s =
    let k = get_or s 0 0 in
    cond (eqb k pattern_kind) (pattern (record { mask = get_or s 1 0; first = get_or s 2 0; last = get_or s 3 0 }), drop 4 s)
    (cond (eqb k truth_kind) (node Truth, drop 1 s)
    (cond (eqb k falsity_kind) (node Falsity, drop 1 s)
    (cond (eqb k both_kind) (node Both, drop 1 s)
    (cond (eqb k necessity_kind) (node (Necessity (get_or s 1 0)), drop 2 s)
    (cond (eqb k max_kind) (node Max, drop 1 s)
    (node (Variable (get_or s 1 0)), drop 2 s))))))

first_record_lem : (x : Record) (rest : List ℕ) → first_record (record_bytes x ++ rest) ≡ (x, rest)
unfolding first_record
first_record_lem (pattern p) rest = refl
first_record_lem (node Truth) rest = refl
first_record_lem (node Falsity) rest = refl
first_record_lem (node Both) rest = refl
first_record_lem (node Max) rest = refl
first_record_lem (node (Necessity p)) rest = refl
first_record_lem (node (Variable d)) rest = refl

pub record_bytes-some : (x : Record) → 1 ≤ length (record_bytes x)
record_bytes-some (pattern p) = omega arith
record_bytes-some (node Truth) = omega arith
record_bytes-some (node Falsity) = omega arith
record_bytes-some (node Both) = omega arith
record_bytes-some (node Max) = omega arith
record_bytes-some (node (Necessity p)) = omega arith
record_bytes-some (node (Variable d)) = omega arith

-- ---- lists of records

pub records_bytes-append : (xs ys : List Record) → records_bytes (xs ++ ys) ≡ records_bytes xs ++ records_bytes ys
records_bytes-append = encode_each-append record_bytes

record_told : (x y : Record) (p q : List ℕ) → record_bytes x ++ p ≡ record_bytes y ++ q → (x ≡ y) × (p ≡ q)
record_told x y p q e =
    let same : ◌≡◌ {A = Record × List ℕ} (x, p) (y, q) = sym (first_record_lem x p) ∙ (ap first_record e ∙ first_record_lem y q) in
    (ap (λ (z : Record × List ℕ). z.0) same, ap (λ (z : Record × List ℕ). z.1) same)

pub records_front : (xs ys : List Record) (rest : List ℕ) → records_bytes xs ++ rest ≡ records_bytes ys
    → (zs : List Record) × (ys ≡ xs ++ zs) × (rest ≡ records_bytes zs)
records_front = encode_each-front record_bytes record_bytes-some record_told

pub records_bytes-same : (xs ys : List Record) → records_bytes xs ≡ records_bytes ys → xs ≡ ys
records_bytes-same = encode_each-same record_bytes record_bytes-some record_told

-- ---- the records of a rule

abbrev pub records : List Pattern → List Symbol → List Record
records ps xs = map pattern ps ++ map node xs

pub pattern_bytes_lem : (ps : List Pattern) → records_bytes (map pattern ps) ≡ encode_patterns ps
pattern_bytes_lem [] = refl
pattern_bytes_lem (p ∷ ps) = ap (λ (l : List ℕ). record_bytes (pattern p) ++ l) (pattern_bytes_lem ps)

formula_bytes : (f : Formula) → records_bytes (map node (symbols f)) ≡ encode_formula f
formula_bytes truth = refl
formula_bytes falsity = refl
formula_bytes (both f g) =
    ap (λ (l : List ℕ). both_kind ∷ l)
    (ap records_bytes (map-append node (symbols f) (symbols g))
    ∙ (records_bytes-append (map node (symbols f)) (map node (symbols g)) ∙ rw (formula_bytes f, formula_bytes g)))
formula_bytes (necessity p f) = ap (λ (l : List ℕ). necessity_kind ∷ p ∷ l) (formula_bytes f)
formula_bytes (max f) = ap (λ (l : List ℕ). max_kind ∷ l) (formula_bytes f)
formula_bytes (variable d) = refl

pub rule_bytes : (r : Rule) → records_bytes (records r.patterns (symbols r.formula)) ≡ encode r
rule_bytes r =
    records_bytes-append (map pattern r.patterns) (map node (symbols r.formula)) ∙ rw (pattern_bytes_lem r.patterns, formula_bytes r.formula)

pub patterns_in_lem : (ps : List Pattern) (xs : List Symbol) → patterns_in (records ps xs) ≡ length ps
patterns_in_lem [] [] = refl
patterns_in_lem [] (x ∷ xs) = patterns_in_lem [] xs
patterns_in_lem (p ∷ ps) xs = ap suc (patterns_in_lem ps xs)

pub nodes_in_lem : (ps : List Pattern) (xs : List Symbol) → nodes_in (records ps xs) ≡ length xs
nodes_in_lem [] [] = refl
nodes_in_lem [] (x ∷ xs) = ap suc (nodes_in_lem [] xs)
nodes_in_lem (p ∷ ps) xs = nodes_in_lem ps xs

pub records_append_nodes : (ps : List Pattern) (xs ys : List Symbol) → records ps (xs ++ ys) ≡ records ps xs ++ map node ys
records_append_nodes ps xs ys =
    ap (λ (l : List Record). map pattern ps ++ l) (map-append node xs ys) ∙ sym (append_assoc (map pattern ps) (map node xs) (map node ys))

pub records_append_pattern : (ps : List Pattern) (p : Pattern) → records (ps ++ p ∷ []) [] ≡ records ps [] ++ pattern p ∷ []
records_append_pattern [] p = refl
records_append_pattern (q ∷ ps) p = ap (λ (l : List Record). pattern q ∷ l) (records_append_pattern ps p)

-- patterns and symbols follow from the records
pub records_same : (ps qs : List Pattern) (xs ys : List Symbol) → records ps xs ≡ records qs ys → (ps ≡ qs) × (xs ≡ ys)
records_same [] [] [] [] e = (refl, refl)
records_same [] [] [] (y ∷ ys) e = let z : ◌≡◌ {A = ℕ} 0 1 = cc in absurd (omega arith)
records_same [] [] (x ∷ xs) [] e = let z : ◌≡◌ {A = ℕ} 0 1 = cc in absurd (omega arith)
records_same [] [] (x ∷ xs) (y ∷ ys) e = let (p, q) = records_same [] [] xs ys cc in (refl, cc)
records_same [] (q ∷ qs) [] ys e = let z : ◌≡◌ {A = ℕ} 0 1 = cc in absurd (omega arith)
records_same [] (q ∷ qs) (x ∷ xs) ys e = let z : ◌≡◌ {A = ℕ} 0 1 = cc in absurd (omega arith)
records_same (p ∷ ps) [] xs [] e = let z : ◌≡◌ {A = ℕ} 0 1 = cc in absurd (omega arith)
records_same (p ∷ ps) [] xs (y ∷ ys) e = let z : ◌≡◌ {A = ℕ} 0 1 = cc in absurd (omega arith)
records_same (p ∷ ps) (q ∷ qs) xs ys e = let (r, same) = records_same ps qs xs ys cc in (cc, same)

-- A front of a rule's records has some of the patterns and no symbol, or all patterns and some of the symbols.
abbrev pub FrontOf : List Pattern → List Symbol → List Record → Type 0
FrontOf ps xs zs =
    ((qs : List Pattern) × (others : List Pattern) × (ps ≡ qs ++ others) × (zs ≡ records qs []))
    ⊎ ((ys : List Symbol) × (others : List Symbol) × (xs ≡ ys ++ others) × (zs ≡ records ps ys))

symbols_front : (xs : List Symbol) (zs rest : List Record) → map node xs ≡ zs ++ rest
    → (ys : List Symbol) × (others : List Symbol) × (xs ≡ ys ++ others) × (zs ≡ map node ys)
symbols_front xs [] rest e = ([], xs, refl, refl)
symbols_front [] (z ∷ zs) rest e = let z : ◌≡◌ {A = ℕ} 0 1 = cc in absurd (omega arith)
symbols_front (x ∷ xs) (z ∷ zs) rest e = let (ys, others, is, are) = symbols_front xs zs rest cc in (x ∷ ys, others, cc, cc)

pub front_shape : (ps : List Pattern) (xs : List Symbol) (zs rest : List Record) → records ps xs ≡ zs ++ rest → FrontOf ps xs zs
front_shape ps xs [] rest e = inl ([], ps, refl, refl)
front_shape [] xs (z ∷ zs) rest e = inr (symbols_front xs (z ∷ zs) rest e)
front_shape (p ∷ ps) xs (z ∷ zs) rest e = on (front_shape ps xs zs rest cc)
  where
    on : FrontOf ps xs zs → FrontOf (p ∷ ps) xs (z ∷ zs)
    on (inl (qs, others, is, are)) = inl (p ∷ qs, others, cc, cc)
    on (inr (ys, others, is, are)) = inr (ys, others, is, cc)
