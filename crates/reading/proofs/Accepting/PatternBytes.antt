-- A pattern is accepted exactly where it is well formed and its bytes stand at its place; so are patterns, by the law of lists of records.
use mathlib.Core.Path.{◌≡◌, refl, sym, ◌∙◌, subst}
use mathlib.Core.Bool.{true, false, and-eq-true_iff, and-false}
use mathlib.Core.Logic.{◌↔◌}
use mathlib.Core.List.{List, ◌++◌}
use Prim.Native.Nat.{ℕ, ◌+◌, ◌<◌}
use native.Mathlib.Omega.{arith}
use lib.ListN.{length, get_or, drop}
use lib.Dec.{ltb, leb, eqb}
use borrow.Author.Tests.{ltb-true, ltb-false, leb-false, eqb-true, lt-ltb, ne_eqb}
use Rattle.reading.specs.Pattern.{WellFormedPattern}
use Rattle.reading.specs.Rule.{Bytes, Symbol, Truth, Falsity, Both, Max, Necessity, Variable, pattern_kind, pattern_bytes, kind_byte}
use Rattle.reading.specs.File.{accepted, Records, pattern_at, is_pattern, pattern_format, patterns_at}
use Rattle.reading.specs.declared.Pattern.{Pattern}
use Rattle.reading.proofs.Basics.ByteLaws.{byte_at}
use Rattle.reading.proofs.Basics.Outcomes.{accepted_is, refuse_accepted}
use Rattle.reading.proofs.Basics.Places.{Byte, from_byte, byte_of, first_byte}
use Rattle.reading.proofs.RecordLists.RecordsAccepted.{ReadsRecords, FindsRecords, RecordsStand, records_accept}
use Rattle.reading.proofs.Accepting.Checks.{pattern_accepted}

-- ---- one pattern

-- The body of a pattern stands after the kind at `at`.
pub record PatternStands (s : List ℕ) (at : ℕ) (p : Pattern) : Type 0 where
  pub well_formed : WellFormedPattern p
  pub mask : Byte s (at + 1) p.mask
  pub first : Byte s (at + 2) p.first
  pub last : Byte s (at + 3) p.last

module _ (s : List ℕ) (at : ℕ) (p : Pattern) where
  pattern_reads : PatternStands s at p → pattern_at s at ≡ accepted p
  pattern_reads h =
      let w = h.well_formed in
      let mask = h.mask.is in
      let first = h.first.is in
      let last = h.last.is in
      pattern_accepted s at h.last.inside (omega (arith, w.first_slot)) (omega (arith, w.last_slot))
      ∙ rw (mask, first, last)

  pub pattern_stands : get_or s (at + 1) 0 < 256 → pattern_at s at ≡ accepted p → PatternStands s at p
  pattern_stands mask e =
      let whole = refuse_accepted (leb (length s) (at + 3)) 1 (length s) _ e in
      let first = refuse_accepted (ltb 31 (get_or s (at + 2) 0)) 5 at _ whole.1 in
      let last = refuse_accepted (ltb 31 (get_or s (at + 3) 0)) 5 at _ first.1 in
      let inside : at + 3 < length s = leb-false _ _ whole.0 in
      subst (λ (x : Pattern). PatternStands s at x) (accepted_is last.1) (record {
        well_formed = record {
          byte = omega arith;
          first_slot = ltb-false _ _ first.0;
          last_slot = ltb-false _ _ last.0;
        };
        mask = record { inside = omega arith; is = refl };
        first = record { inside = omega arith; is = refl };
        last = record { inside = inside; is = refl };
      })

-- the bytes of a pattern, well formed or not
pub pattern_bytes_lem : (s : List ℕ) (at : ℕ) (p : Pattern) → Byte s at pattern_kind → Byte s (at + 1) p.mask → Byte s (at + 2) p.first
    → Byte s (at + 3) p.last → drop at s ≡ pattern_bytes p ++ drop (at + 4) s
pattern_bytes_lem s at p kind mask first last =
    from_byte (at + 1) kind refl
    ∙ rw (from_byte (at + 2) mask (omega arith), from_byte (at + 3) first (omega arith), from_byte (at + 4) last (omega arith))

-- ---- the patterns

kind_apart : (x : Symbol) → kind_byte x ≡ pattern_kind → ⊥
kind_apart Truth e = omega arith
kind_apart Falsity e = omega arith
kind_apart Both e = omega arith
kind_apart (Necessity p) e = omega arith
kind_apart Max e = omega arith
kind_apart (Variable d) e = omega arith

module _ (s : List ℕ) where
  pub pattern_kind_lem : (at : ℕ) → is_pattern s at ≡ true → Byte s at pattern_kind
  pattern_kind_lem at e =
      let both = (and-eq-true_iff (ltb at (length s)) (eqb (get_or s at 0) pattern_kind)).0 e in
      record { inside = ltb-true _ _ both.0; is = eqb-true _ _ both.1 }

  pub other_kind : (at : ℕ) → (get_or s at 0 ≡ pattern_kind → ⊥) → is_pattern s at ≡ false
  other_kind at other = rw (ne_eqb (get_or s at 0) pattern_kind other, and-false)

  pub node_no_pattern : (at : ℕ) (x : Symbol) → Byte s at (kind_byte x) → is_pattern s at ≡ false
  node_no_pattern at x b = other_kind at (λ e. kind_apart x (sym b.is ∙ e))

  pub reads_patterns : ReadsRecords s (pattern_format s) pattern_bytes WellFormedPattern
  reads_patterns = record {
    long = λ p. refl;
    reads = λ at p rest w from.
        let b : Byte s at pattern_kind = first_byte s at from in (
          rw (lt-ltb at (length s) b.inside, b.is),
          pattern_reads s at p (record {
            well_formed = w;
            mask = byte_of s at 1 (at + 1) from refl (omega arith);
            first = byte_of s at 2 (at + 2) from refl (omega arith);
            last = byte_of s at 3 (at + 3) from refl (omega arith);
          }),
        );
  }

  finds_patterns : Bytes s → FindsRecords s (pattern_format s) pattern_bytes WellFormedPattern
  finds_patterns bytes at p more one =
      let stands = pattern_stands s at p (byte_at s bytes (at + 1)) one in
      (stands.well_formed, pattern_bytes_lem s at p (pattern_kind_lem at more) stands.mask stands.first stands.last)

  -- Patterns stand from `at` on, no more than `left`, and none follows.
  abbrev pub PatternsStand : (at left : ℕ) → Records Pattern → Type 0
  PatternsStand = RecordsStand s (pattern_format s) pattern_bytes WellFormedPattern

  pub patterns_accept : Bytes s → (at left : ℕ) (ps : Records Pattern) → (patterns_at left s at ≡ accepted ps) ↔ PatternsStand at left ps
  patterns_accept bytes = records_accept s (pattern_format s) pattern_bytes WellFormedPattern reads_patterns (finds_patterns bytes)
