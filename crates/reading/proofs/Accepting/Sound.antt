-- A formula that is read, to whatever depth, is well formed, has no more nodes than are left, and its bytes stand at its place: so it is for its parts,
-- and then for the node before them.
use mathlib.Core.Path.{◌≡◌, refl, ◌∙◌, subst}
use mathlib.Core.Bool.{false}
use mathlib.Core.List.{List, ◌∷◌, ◌++◌, append_assoc}
use Prim.Native.Nat.{ℕ, zero, suc, ◌+◌, ◌-◌, ◌<◌}
use native.Mathlib.Omega.{arith}
use lib.ListN.{length, drop, length-append}
use Rattle.reading.specs.Rule.{size, Guards, guarded, WellFormed, encode_formula}
use Rattle.reading.specs.File.{Outcome, accepted, NodeRecord, node_at, Parsed, parts_by, formula_at}
use Rattle.reading.proofs.Basics.Outcomes.{accepted_is, never_accepted, and_then-accepted}
use Rattle.reading.proofs.Basics.Places.{from_byte}
use Rattle.reading.proofs.Accepting.NodeBytes.{bare_truth, bare_falsity, bare_both, bare_max, NodeStands, bare, of_necessity, of_variable, node_accepts}

-- ---- what is to be shown of a reader

-- The formula of f stands at `at` and fits, after n patterns, with `left` nodes left, inside maxes of which g says whether they are guarded.
pub record FormulaStands (s : List ℕ) (n at left : ℕ) (g : Guards) (f : Parsed) : Type 0 where
  pub well_formed : WellFormed n g f.formula
  pub bytes : drop at s ≡ encode_formula f.formula ++ drop f.next s
  pub ends : f.next ≡ at + length (encode_formula f.formula)
  pub nodes : size f.formula + f.left ≡ left

-- a formula is read at a place, with so many nodes left, inside such maxes
abbrev pub Reader : Type 0
Reader = (at left : ℕ) → Guards → Outcome Parsed

-- what it accepts stands there
abbrev pub Sound : List ℕ → ℕ → Reader → Type 0
Sound s n read = (at left : ℕ) (g : Guards) (f : Parsed) → read at left g ≡ accepted f → FormulaStands s n at left g f

-- ---- a node and its parts

module _ (s : List ℕ) (n : ℕ) (read : Reader) (sound : Sound s n read) (at left : ℕ) (g : Guards) (f : Parsed) where
  abbrev Whole : Parsed → Type 0
  Whole = FormulaStands s n at (suc left) g

  parts_stand : {r : NodeRecord} → NodeStands s n at g r → parts_by read r.symbol r.next left g ≡ accepted f → Whole f
  parts_stand (bare bare_truth b) e =
      subst Whole (accepted_is e) (record { well_formed = tt; bytes = from_byte (at + 1) b refl; ends = refl; nodes = omega arith })
  parts_stand (bare bare_falsity b) e =
      subst Whole (accepted_is e) (record { well_formed = tt; bytes = from_byte (at + 1) b refl; ends = refl; nodes = omega arith })
  parts_stand (bare bare_both b) e =
      let first = and_then-accepted (read (at + 1) left g) _ e in
      let a = first.0 in
      let second = and_then-accepted (read a.next a.left g) _ first.2 in
      let h = second.0 in
      let stands = sound (at + 1) left g a first.1 in
      let stands' = sound a.next a.left g h second.1 in
      subst Whole (accepted_is second.2) (record {
        well_formed = (stands.well_formed, stands'.well_formed);
        bytes = from_byte (at + 1) b refl ∙ rw (
          stands.bytes,
          stands'.bytes,
          append_assoc (encode_formula a.formula) (encode_formula h.formula) (drop h.next s),
        );
        ends = omega (arith, stands.ends, stands'.ends, length-append (encode_formula a.formula) (encode_formula h.formula));
        nodes = omega (arith, stands.nodes, stands'.nodes);
      })
  parts_stand (of_necessity p b a) e =
      let part = and_then-accepted (read (at + 2) left (guarded g)) _ e in
      let stands = sound (at + 2) left (guarded g) part.0 part.1 in
      subst Whole (accepted_is part.2) (record {
        well_formed = (p, stands.well_formed);
        bytes = from_byte (at + 1) b refl ∙ rw (from_byte (at + 2) a (omega arith), stands.bytes);
        ends = omega (arith, stands.ends);
        nodes = omega (arith, stands.nodes);
      })
  parts_stand (bare bare_max b) e =
      let part = and_then-accepted (read (at + 1) left (false ∷ g)) _ e in
      let stands = sound (at + 1) left (false ∷ g) part.0 part.1 in
      subst Whole (accepted_is part.2) (record {
        well_formed = stands.well_formed;
        bytes = from_byte (at + 1) b refl ∙ rw stands.bytes;
        ends = omega (arith, stands.ends);
        nodes = omega (arith, stands.nodes);
      })
  parts_stand (of_variable bound guarded b a) e =
      subst Whole (accepted_is e) (record {
        well_formed = (bound, guarded);
        bytes = from_byte (at + 1) b refl ∙ rw (from_byte (at + 2) a (omega arith));
        ends = refl;
        nodes = omega arith;
      })

-- ---- every depth

pub formula_at-sound : (depth : ℕ) (s : List ℕ) (n : ℕ) → Sound s n (formula_at depth s n)
unfolding formula_at
formula_at-sound zero s n at left g f e = absurd (never_accepted e)
formula_at-sound (suc depth) s n at left g f e =
    let node = and_then-accepted (node_at s n at left g) _ e in
    let stands = (node_accepts s n at left g node.0).0 node.1 in
    let pos : 0 < left = stands.0 in
    let whole : suc (left - 1) ≡ left = omega arith in
    subst (λ (l : ℕ). FormulaStands s n at l g f) whole
    (parts_stand s n (formula_at depth s n) (formula_at-sound depth s n) at (left - 1) g f stands.1 node.2)
