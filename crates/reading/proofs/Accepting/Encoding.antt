-- The encoding of a well-formed rule is a list of bytes, at most 255 of them: four for each pattern, at most two for each node, and some node has no
-- body.
use mathlib.Core.Path.{◌≡◌, refl}
use mathlib.Core.Bool.{true, false}
use mathlib.Core.List.{List, [], ◌∷◌}
use Prim.Native.Nat.{ℕ, ◌+◌, ◌*◌, ◌≤◌, ◌<◌}
use native.Mathlib.Omega.{arith}
use lib.ListN.{length, length-append, length-map}
use Rattle.reading.specs.Pattern.{WellFormedPattern}
use Rattle.reading.specs.Rule.{Formula, truth, falsity, both, necessity, max, variable, size, Guards, guarded, WellFormed}
use Rattle.reading.specs.Rule.{Rule, RuleWithinLimits, pattern_bytes, encode_patterns, encode_formula, encode, Bytes}
use Rattle.reading.specs.declared.Pattern.{Pattern}
use Rattle.reading.proofs.Basics.ByteLaws.{bytes_append}
use Rattle.reading.proofs.Basics.EncodeLaws.{encode_each-bytes}

-- ---- bytes

pattern_is_bytes : (p : Pattern) → WellFormedPattern p → Bytes (pattern_bytes p)
pattern_is_bytes p w = (omega arith, (omega (arith, w.byte), (omega (arith, w.first_slot), (omega (arith, w.last_slot), tt))))

-- a variable's depth is below the maxes around it, each of which is a node
formula_is_bytes : (n : ℕ) → n ≤ 256 → (f : Formula) (g : Guards) → length g + size f ≤ 256 → WellFormed n g f → Bytes (encode_formula f)
formula_is_bytes n few truth g fits w = (omega arith, tt)
formula_is_bytes n few falsity g fits w = (omega arith, tt)
formula_is_bytes n few (both f f') g fits w = (
  omega arith,
  bytes_append (encode_formula f) (encode_formula f')
      (formula_is_bytes n few f g (omega arith) w.0) (formula_is_bytes n few f' g (omega arith) w.1),
)
formula_is_bytes n few (necessity p f) g fits w =
    let same : length (guarded g) ≡ length g = length-map g (λ b. true) in
    (omega arith, (omega (arith, w.0), formula_is_bytes n few f (guarded g) (omega arith) w.1))
formula_is_bytes n few (max f) g fits w = (omega arith, formula_is_bytes n few f (false ∷ g) (omega arith) w)
formula_is_bytes n few (variable d) g fits w = (omega arith, (omega (arith, w.0), tt))

pub encoding_is_bytes : (r : Rule) → RuleWithinLimits r → Bytes (encode r)
encoding_is_bytes r w =
    bytes_append (encode_patterns r.patterns) (encode_formula r.formula)
    (encode_each-bytes pattern_bytes WellFormedPattern pattern_is_bytes r.patterns w.well_formed.patterns)
    (formula_is_bytes (length r.patterns) (omega (arith, w.few_patterns)) r.formula [] (omega (arith, w.few_nodes)) w.well_formed.formula)

-- ---- length

length_patterns : (l : List Pattern) → length (encode_patterns l) ≡ 4 * length l
length_patterns [] = refl
length_patterns (p ∷ l) = omega (arith, length_patterns l)

pub length_formula : (f : Formula) → length (encode_formula f) ≤ 2 * size f
length_formula truth = omega arith
length_formula falsity = omega arith
length_formula (both f g) = omega (arith, length-append (encode_formula f) (encode_formula g), length_formula f, length_formula g)
length_formula (necessity p f) = omega (arith, length_formula f)
length_formula (max f) = omega (arith, length_formula f)
length_formula (variable d) = omega arith

-- a formula outside every max has a node without a body
length_closed : (f : Formula) (n : ℕ) → WellFormed n [] f → length (encode_formula f) < 2 * size f
length_closed truth n w = omega arith
length_closed falsity n w = omega arith
length_closed (both f g) n w = omega (arith, length-append (encode_formula f) (encode_formula g), length_formula f, length_formula g)
length_closed (necessity p f) n w = omega (arith, length_closed f n w.1)
length_closed (max f) n w = omega (arith, length_formula f)
length_closed (variable d) n w = omega (arith, w.0)

pub length_encoding : (r : Rule) → RuleWithinLimits r → length (encode r) ≤ 255
length_encoding r w =
    let closed = length_closed r.formula (length r.patterns) w.well_formed.formula in
    omega (
      arith,
      length-append (encode_patterns r.patterns) (encode_formula r.formula),
      length_patterns r.patterns,
      w.few_patterns,
      w.few_nodes,
    )
