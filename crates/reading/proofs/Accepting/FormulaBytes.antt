-- A formula is accepted exactly where it is well formed, has no more nodes than are left, and its bytes stand at its place. That it is read there goes
-- over the formula; the other way is that reading is sound.
use mathlib.Core.Path.{◌≡◌, refl, sym, ◌∙◌}
use mathlib.Core.Logic.{◌↔◌}
use mathlib.Core.Bool.{false}
use mathlib.Core.List.{List, ◌∷◌, ◌++◌, append_assoc}
use Prim.Native.Nat.{ℕ, suc, ◌+◌, ◌-◌, ◌≤◌, ◌<◌}
use native.Mathlib.Omega.{arith}
use lib.ListN.{length, drop, length-append}
use Rattle.reading.specs.Rule.{Formula, truth, falsity, both, necessity, max, variable, size, Guards, guarded, WellFormed, encode_formula}
use Rattle.reading.specs.File.{accepted, NodeRecord, Parsed, parsed, parts_by, formula_of}
use Rattle.reading.proofs.Basics.Places.{byte_of, first_byte, rest_of, rest_after}
use Rattle.reading.proofs.Accepting.NodeBytes.{bare_truth, bare_falsity, bare_both, bare_max, NodeStands, bare, of_necessity, of_variable, node_accepts}
use Rattle.reading.proofs.Accepting.Sound.{FormulaStands}
use Rattle.reading.proofs.Accepting.Steps.{formula_step, formula_sound}

-- ---- what stands is read

module _ (s : List ℕ) (n : ℕ) where
  -- a formula that begins with the record r
  formula_of-node : (at left : ℕ) (g : Guards) {r : NodeRecord} → 0 < left → NodeStands s n at g r
      → formula_of s n at left g ≡ parts_by (formula_of s n) r.symbol r.next (left - 1) g
  formula_of-node at left g {r} pos stands =
      formula_step s n at left g ∙ rw ((node_accepts s n at left g r).1 (pos, stands))

  formula_read_lem : (f : Formula) (at left : ℕ) (g : Guards) (rest : List ℕ) → WellFormed n g f → size f ≤ left
      → drop at s ≡ encode_formula f ++ rest → formula_of s n at left g ≡ parsed f (at + length (encode_formula f)) (left - size f)
  formula_read_lem truth at left g rest w fits from =
      formula_of-node at left g fits (bare bare_truth (first_byte s at from))
  formula_read_lem falsity at left g rest w fits from =
      formula_of-node at left g fits (bare bare_falsity (first_byte s at from))
  formula_read_lem (both f f') at left g rest w fits from =
      let ef = encode_formula f in
      let eg = encode_formula f' in
      let parts : drop (at + 1) s ≡ ef ++ (eg ++ rest) = rest_of s at 1 (at + 1) from refl ∙ append_assoc ef eg rest in
      let next : at + 1 + length ef + length eg ≡ at + suc (length (ef ++ eg)) = omega (arith, length-append ef eg) in
      let nodes : left - 1 - size f - size f' ≡ left - suc (size f + size f') = omega arith in
      formula_of-node at left g (omega arith) (bare bare_both (first_byte s at from))
      ∙ rw (
        formula_read_lem f (at + 1) (left - 1) g (eg ++ rest) w.0 (omega arith) parts,
        formula_read_lem f' (at + 1 + length ef) (left - 1 - size f) g rest w.1 (omega arith) (rest_after s (at + 1) ef parts),
        next,
        nodes,
      )
  formula_read_lem (necessity p f) at left g rest w fits from =
      let next : at + 2 + length (encode_formula f) ≡ at + suc (suc (length (encode_formula f))) = omega arith in
      let nodes : left - 1 - size f ≡ left - suc (size f) = omega arith in
      let number = byte_of s at 1 (at + 1) from refl (omega arith) in
      formula_of-node at left g (omega arith) (of_necessity w.0 (first_byte s at from) number)
      ∙ rw (formula_read_lem f (at + 2) (left - 1) (guarded g) rest w.1 (omega arith) (rest_of s at 2 (at + 2) from refl), next, nodes)
  formula_read_lem (max f) at left g rest w fits from =
      let next : at + 1 + length (encode_formula f) ≡ at + suc (length (encode_formula f)) = omega arith in
      let nodes : left - 1 - size f ≡ left - suc (size f) = omega arith in
      formula_of-node at left g (omega arith) (bare bare_max (first_byte s at from))
      ∙ rw (formula_read_lem f (at + 1) (left - 1) (false ∷ g) rest w (omega arith) (rest_of s at 1 (at + 1) from refl), next, nodes)
  formula_read_lem (variable d) at left g rest w fits from =
      let depth = byte_of s at 1 (at + 1) from refl (omega arith) in
      formula_of-node at left g fits (of_variable w.0 w.1 (first_byte s at from) depth)

-- ---- both ways

pub formula_accepts : (s : List ℕ) (n at left : ℕ) (g : Guards) (f : Parsed)
    → (formula_of s n at left g ≡ accepted f) ↔ FormulaStands s n at left g f
formula_accepts s n at left g f = (formula_sound s n at left g f, read)
  where
    read : FormulaStands s n at left g f → formula_of s n at left g ≡ accepted f
    read h =
        let next : at + length (encode_formula f.formula) ≡ f.next = sym h.ends in
        let nodes : left - size f.formula ≡ f.left = omega (arith, h.nodes) in
        formula_read_lem s n f.formula at left g (drop f.next s) h.well_formed (omega (arith, h.nodes)) h.bytes ∙ rw (next, nodes)
