-- A file is accepted as the rule r exactly where r is well formed and the file is its encoding: its patterns stand at the front, its formula after them,
-- and there the file ends.
use mathlib.Core.Path.{◌≡◌, refl, sym, ap, ◌∙◌, subst}
use mathlib.Core.Bool.{false}
use mathlib.Core.List.{List, [], ◌++◌, append-nil}
use Prim.Native.Nat.{ℕ, ◌+◌, ◌-◌, ◌≤◌}
use native.Mathlib.Omega.{arith}
use lib.ListN.{length, drop, length-append, drop_of_length-le}
use lib.Dec.{ltb}
use borrow.Author.Tests.{ltb-false, le-ltb}
use Rattle.reading.specs.Rule.{Formula, truth, falsity, both, necessity, max, variable, size, Truth, Falsity, Both, Max, Necessity, Variable}
use Rattle.reading.specs.Rule.{Rule, RuleWithinLimits, encode_patterns, encode_formula, encode, Bytes}
use Rattle.reading.specs.File.{Outcome, accepted, refused, is_pattern, patterns_at, Parsed, formula_of, end_of_file, rule_of}
use Rattle.reading.specs.Numbered.{numbered, reading_of}
use Rattle.reading.specs.Promises.{AcceptsEncodings, OneRule, AnswersAccepted}
use Rattle.reading.proofs.Basics.Outcomes.{accepted_is, never_accepted, and_then-accepted, and_then-accepts, refuse_accepted}
use Rattle.reading.proofs.Basics.Places.{first_byte, rest_after}
use Rattle.reading.proofs.Accepting.PatternBytes.{node_no_pattern, PatternsStand, patterns_accept}
use Rattle.reading.proofs.Accepting.Sound.{FormulaStands}
use Rattle.reading.proofs.Accepting.FormulaBytes.{formula_accepts}
use Rattle.reading.proofs.Accepting.Encoding.{encoding_is_bytes}

-- ---- what is accepted stands

rule_stands : (s : List ℕ) → Bytes s → (r : Rule) → rule_of s ≡ accepted r → RuleWithinLimits r × (s ≡ encode r)
unfolding rule_of
rule_stands s bytes r e =
    let head = and_then-accepted (patterns_at 32 s 0) _ e in
    let ps = head.0 in
    let body = and_then-accepted (formula_of s (length ps.list) ps.next 64 []) (end_of_file s ps.list) head.2 in
    let f = body.0 in
    let end = refuse_accepted (ltb f.next (length s)) 3 f.next _ body.2 in
    let patterns = (patterns_accept s bytes 0 32 ps).0 head.1 in
    let formula = (formula_accepts s (length ps.list) ps.next 64 [] f).0 body.1 in
    let bp = encode_patterns ps.list in
    let bf = encode_formula f.formula in
    let none : drop f.next s ≡ [] = drop_of_length-le s (ltb-false _ _ end.0) in
    subst (λ (x : Rule). RuleWithinLimits x × (s ≡ encode x)) (accepted_is end.1) (
      record {
        well_formed = record { patterns = patterns.well_formed; formula = formula.well_formed };
        few_patterns = patterns.few;
        few_nodes = omega (arith, formula.nodes);
      },
      patterns.bytes_are ∙ ap (λ (l : List ℕ). bp ++ l) (formula.bytes ∙ ap (λ (l : List ℕ). bf ++ l) none ∙ append-nil bf),
    )

-- ---- what stands is accepted

-- a formula does not begin as a pattern
formula_no_pattern : (f : Formula) (s : List ℕ) (at : ℕ) → drop at s ≡ encode_formula f ++ [] → is_pattern s at ≡ false
formula_no_pattern truth s at from = node_no_pattern s at Truth (first_byte s at from)
formula_no_pattern falsity s at from = node_no_pattern s at Falsity (first_byte s at from)
formula_no_pattern (both f g) s at from = node_no_pattern s at Both (first_byte s at from)
formula_no_pattern (necessity p f) s at from = node_no_pattern s at (Necessity p) (first_byte s at from)
formula_no_pattern (max f) s at from = node_no_pattern s at Max (first_byte s at from)
formula_no_pattern (variable d) s at from = node_no_pattern s at (Variable d) (first_byte s at from)

rule_read : (s : List ℕ) → Bytes s → (r : Rule) → RuleWithinLimits r → s ≡ encode r → rule_of s ≡ accepted r
unfolding rule_of
rule_read s bytes r w e =
    let bp = encode_patterns r.patterns in
    let bf = encode_formula r.formula in
    let next = 0 + length bp in
    let from : drop next s ≡ bf ++ [] = rest_after s 0 bp e ∙ sym (append-nil bf) in
    let none : drop (next + length bf) s ≡ [] = rest_after s next bf from in
    let patterns : PatternsStand s 0 32 (record { list = r.patterns; next = next }) = record {
      well_formed = w.well_formed.patterns;
      few = w.few_patterns;
      bytes_are = e ∙ ap (λ (l : List ℕ). bp ++ l) (sym (rest_after s 0 bp e));
      ends = refl;
      over = formula_no_pattern r.formula s next from;
    } in
    let n = length r.patterns in
    let f : Parsed = record { formula = r.formula; next = next + length bf; left = 64 - size r.formula } in
    let formula : FormulaStands s n next 64 [] f = record {
      well_formed = w.well_formed.formula;
      bytes = from ∙ ap (λ (l : List ℕ). bf ++ l) (sym none);
      ends = refl;
      nodes = omega (arith, w.few_nodes);
    } in
    let ends : length s ≤ next + length bf = omega (arith, ap length e, length-append bp bf) in
    and_then-accepts _ ((patterns_accept s bytes 0 32 _).1 patterns) (
    and_then-accepts _ ((formula_accepts s n next 64 [] f).1 formula) (rw (le-ltb (next + length bf) (length s) ends)))

-- ---- the promises

pub accepts_encodings : AcceptsEncodings
accepts_encodings s bytes r = (rule_stands s bytes r, λ h. rule_read s bytes r h.0 h.1)

pub one_rule : OneRule
one_rule r r' w w' e =
    let bytes = encoding_is_bytes r w in
    let read = (accepts_encodings (encode r) bytes r).1 (w, refl) in
    let read' = (accepts_encodings (encode r) bytes r').1 (w', e) in
    accepted_is (sym read ∙ read')

-- the encoding of a rule is read as that rule, by number
pub reading_of-encoding : (r : Rule) → RuleWithinLimits r → reading_of (rule_of (encode r)) ≡ accepted (numbered r)
reading_of-encoding r w = ap reading_of ((accepts_encodings (encode r) (encoding_is_bytes r w) r).1 (w, refl))

pub answers_accepted : AnswersAccepted
answers_accepted s bytes n = (on (rule_of s) refl, λ (r, w, is, rule). rw (is, rule) (reading_of-encoding r w))
  where
    on : (o : Outcome Rule) → rule_of s ≡ o → reading_of o ≡ accepted n → (r : Rule) × RuleWithinLimits r × (s ≡ encode r) × (n ≡ numbered r)
    on (accepted r) e a = let h = (accepts_encodings s bytes r).0 e in (r, h.0, h.1, sym (accepted_is a))
    on (refused number place) e a = absurd (never_accepted a)
