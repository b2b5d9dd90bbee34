-- The rows of the refusal table: where the checks before it pass and its own doesn't, the record is refused with its number. And what a record is where
-- every check passes.
use mathlib.Core.Path.{◌≡◌}
use mathlib.Core.Bool.{true, false}
use mathlib.Core.List.{List}
use Prim.Native.Nat.{ℕ, ◌+◌, ◌≤◌, ◌<◌}
use lib.ListN.{length, get_or}
use borrow.Author.Tests.{le-leb, lt-leb, le-ltb, lt-ltb, eq-eqb, ne_eqb}
use Rattle.reading.specs.Rule.{Guards, Necessity, Variable, pattern_kind, necessity_kind, variable_kind}
use Rattle.reading.specs.File.{accepted, refused, pattern_at, pattern_format, necessity_at, variable_at, node_at}
use Rattle.reading.specs.Representations.{record_at}
use Rattle.reading.specs.declared.Pattern.{Pattern}

-- ---- a pattern

module _ (s : List ℕ) (at left : ℕ) where
  pub no_pattern-left : left ≡ 0 → record_at (pattern_format s) left at ≡ refused 4 at
  no_pattern-left h = simp (eq-eqb _ _ h)

  pub pattern_cut : (left ≡ 0 → ⊥) → length s ≤ at + 3 → record_at (pattern_format s) left at ≡ refused 1 (length s)
  pattern_cut l h = simp (ne_eqb _ _ l, le-leb _ _ h)

-- the pattern of the three bytes after a kind
abbrev pub pattern_of_bytes : List ℕ → (at : ℕ) → Pattern
pattern_of_bytes s at = record { mask = get_or s (at + 1) 0; first = get_or s (at + 2) 0; last = get_or s (at + 3) 0 }

pub pattern_accepted : (s : List ℕ) (at : ℕ) → at + 3 < length s → get_or s (at + 2) 0 ≤ 31 → get_or s (at + 3) 0 ≤ 31
    → pattern_at s at ≡ accepted (pattern_of_bytes s at)
pattern_accepted s at b f t = simp (lt-leb _ _ b, le-ltb _ _ f, le-ltb _ _ t)

-- ---- a necessity

module _ (s : List ℕ) (n at : ℕ) where
  pub necessity_cut : length s ≤ at + 1 → necessity_at s n at ≡ refused 1 (length s)
  necessity_cut h = simp (le-leb _ _ h)

  module _ (b : at + 1 < length s) where
    pub no_such_pattern : n ≤ get_or s (at + 1) 0 → necessity_at s n at ≡ refused 6 at
    no_such_pattern h = simp (lt-leb _ _ b, le-leb _ _ h)

    pub necessity_accepted : get_or s (at + 1) 0 < n → necessity_at s n at ≡ accepted (record { symbol = Necessity (get_or s (at + 1) 0); next = at + 2 })
    necessity_accepted i = simp (lt-leb _ _ b, lt-leb _ _ i)

-- ---- a variable

module _ (s : List ℕ) (g : Guards) (at : ℕ) where
  pub variable_cut : length s ≤ at + 1 → variable_at s g at ≡ refused 1 (length s)
  variable_cut h = simp (le-leb _ _ h)

  module _ (b : at + 1 < length s) where
    pub no_such_max : length g ≤ get_or s (at + 1) 0 → variable_at s g at ≡ refused 6 at
    no_such_max h = simp (lt-leb _ _ b, le-leb _ _ h)

    module _ (i : get_or s (at + 1) 0 < length g) where
      pub not_guarded : get_or g (get_or s (at + 1) 0) false ≡ false → variable_at s g at ≡ refused 7 at
      not_guarded h = simp (lt-leb _ _ b, lt-leb _ _ i, h)

      pub variable_accepted : get_or g (get_or s (at + 1) 0) false ≡ true
          → variable_at s g at ≡ accepted (record { symbol = Variable (get_or s (at + 1) 0); next = at + 2 })
      variable_accepted h = simp (lt-leb _ _ b, lt-leb _ _ i, h)

-- ---- a node

module _ (s : List ℕ) (n at left : ℕ) (g : Guards) where
  pub file_ended : length s ≤ at → node_at s n at left g ≡ refused 1 (length s)
  file_ended h = simp (le-leb _ _ h)

  module _ (b : at < length s) where
    pub kind_zero : get_or s at 0 ≡ 0 → node_at s n at left g ≡ refused 2 at
    kind_zero h = simp (lt-leb _ _ b, h)

    module _ (z : get_or s at 0 ≡ 0 → ⊥) where
      pub kind_over : variable_kind < get_or s at 0 → node_at s n at left g ≡ refused 2 at
      kind_over h = simp (lt-leb _ _ b, ne_eqb _ _ z, lt-ltb _ _ h)

      module _ (t : get_or s at 0 ≤ variable_kind) where
        pub late_pattern : get_or s at 0 ≡ pattern_kind → node_at s n at left g ≡ refused 3 at
        late_pattern h = simp (lt-leb _ _ b, h)

        module _ (p : get_or s at 0 ≡ pattern_kind → ⊥) where
          pub no_node_left : left ≡ 0 → node_at s n at left g ≡ refused 4 at
          no_node_left h = simp (lt-leb _ _ b, ne_eqb _ _ z, le-ltb _ _ t, ne_eqb _ _ p, h)

          module _ (l : left ≡ 0 → ⊥) where
            pub node_necessity : get_or s at 0 ≡ necessity_kind → node_at s n at left g ≡ necessity_at s n at
            node_necessity h = simp (lt-leb _ _ b, h, ne_eqb _ _ l)

            pub node_variable : get_or s at 0 ≡ variable_kind → node_at s n at left g ≡ variable_at s g at
            node_variable h = simp (lt-leb _ _ b, h, ne_eqb _ _ l)
