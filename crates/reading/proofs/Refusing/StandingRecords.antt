-- Whole records from the bytes that stand at a place, one byte after the other.
use mathlib.Core.Path.{◌≡◌, refl, subst, ap, ◌∙◌}
use mathlib.Core.List.{List, ◌∷◌}
use Prim.Native.Nat.{ℕ, ◌+◌, ◌<◌}
use native.Mathlib.Omega.{arith}
use lib.ListN.{length, get_or, drop}
use Rattle.reading.specs.Rule.{Guards, Necessity, Variable, pattern_kind, necessity_kind, variable_kind}
use Rattle.reading.specs.File.{NodeRecord}
use Rattle.reading.specs.Faults.{pattern, node}
use Rattle.reading.specs.declared.Pattern.{Pattern}
use Rattle.reading.proofs.Basics.Places.{Byte, from_byte, from_place}
use Rattle.reading.proofs.Accepting.Checks.{pattern_of_bytes}
use Rattle.reading.proofs.Accepting.NodeBytes.{NodeStands, bare, of_necessity, of_variable, bare_truth, bare_falsity, bare_both, bare_max}
use Rattle.reading.proofs.Accepting.PatternBytes.{PatternStands, pattern_bytes_lem}
use Rattle.reading.proofs.Refusing.Contexts.{guards, Allows}
use Rattle.reading.proofs.Refusing.ReadTo.{Stands}

module _ (s : List ℕ) (at : ℕ) where
  -- a kind and a body
  with_body : {kind : ℕ} → Byte s at kind → at + 1 < length s → drop at s ≡ kind ∷ get_or s (at + 1) 0 ∷ drop (at + 2) s
  with_body {kind} b h = from_byte (at + 1) b refl ∙ ap (λ (l : List ℕ). kind ∷ l) (from_place s (at + 1) (at + 2) h (omega arith))

  pub necessity_record_stands : Byte s at necessity_kind → at + 1 < length s → Stands s at (at + 2) (node (Necessity (get_or s (at + 1) 0)))
  necessity_record_stands b h = record { bytes = with_body b h; ends = refl; inside = omega arith }

  pub variable_record_stands : Byte s at variable_kind → at + 1 < length s → Stands s at (at + 2) (node (Variable (get_or s (at + 1) 0)))
  variable_record_stands b h = record { bytes = with_body b h; ends = refl; inside = omega arith }

  pattern_record_stands : (p : Pattern) → Byte s at pattern_kind → Byte s (at + 1) p.mask → Byte s (at + 2) p.first → Byte s (at + 3) p.last
      → Stands s at (at + 4) (pattern p)
  pattern_record_stands p b mask first last =
      record { bytes = pattern_bytes_lem s at p b mask first last; ends = refl; inside = omega (arith, last.inside) }

  -- the pattern of the bytes there, well formed or not
  pub pattern_of_bytes_stands : Byte s at pattern_kind → at + 3 < length s → Stands s at (at + 4) (pattern (pattern_of_bytes s at))
  pattern_of_bytes_stands b whole =
      pattern_record_stands (pattern_of_bytes s at) b (record { inside = omega arith; is = refl }) (record { inside = omega arith; is = refl })
      (record { inside = whole; is = refl })

  pub pattern_stands_record : {p : Pattern} → Byte s at pattern_kind → PatternStands s at p → Stands s at (at + 4) (pattern p)
  pattern_stands_record {p} b h = pattern_record_stands p b h.mask h.first h.last

  pub node_stands_record : {n : ℕ} {g : Guards} {r : NodeRecord} → NodeStands s n at g r
      → Stands s at r.next (node r.symbol) × Allows guards n g r.symbol
  node_stands_record (bare bare_truth b) = (record { bytes = from_byte (at + 1) b refl; ends = refl; inside = omega (arith, b.inside) }, tt)
  node_stands_record (bare bare_falsity b) = (record { bytes = from_byte (at + 1) b refl; ends = refl; inside = omega (arith, b.inside) }, tt)
  node_stands_record (bare bare_both b) = (record { bytes = from_byte (at + 1) b refl; ends = refl; inside = omega (arith, b.inside) }, tt)
  node_stands_record (bare bare_max b) = (record { bytes = from_byte (at + 1) b refl; ends = refl; inside = omega (arith, b.inside) }, tt)
  node_stands_record (of_necessity h b a) = (subst (λ (p : ℕ). Stands s at (at + 2) (node (Necessity p))) a.is (necessity_record_stands b a.inside), h)
  node_stands_record (of_variable h k b a) = (subst (λ (d : ℕ). Stands s at (at + 2) (node (Variable d))) a.is (variable_record_stands b a.inside), (h, k))
