-- A node record is accepted exactly where a node is left and the record's bytes, within its limits, stand at its place: kind by kind, the checks that
-- the record passes say so.
use mathlib.Core.Path.{◌≡◌, refl, subst, ◌∙◌}
use mathlib.Core.Bool.{true, false, cond, not, ◌||◌}
use mathlib.Core.Logic.{◌↔◌}
use mathlib.Core.List.{List}
use Prim.Native.Nat.{ℕ, zero, suc, ◌+◌, ◌≤◌, ◌<◌}
use native.Mathlib.Omega.{arith}
use lib.ListN.{length, get_or}
use lib.Dec.{ltb, leb, eqb}
use borrow.Author.Tests.{ltb-false, leb-false, eqb-false, lt-leb, ne_eqb, not-false}
use Rattle.reading.specs.Rule.{Guards, Symbol, Truth, Falsity, Both, Necessity, Max, Variable, kind_byte}
use Rattle.reading.specs.Rule.{pattern_kind, truth_kind, falsity_kind, both_kind, necessity_kind, max_kind, variable_kind}
use Rattle.reading.specs.File.{Outcome, accepted, NodeRecord, necessity_at, variable_at, bare_at, node_at}
use Rattle.reading.proofs.Basics.Outcomes.{accepted_is, refuse_accepted, or_eq_false}
use Rattle.reading.proofs.Basics.Places.{Byte}
use Rattle.reading.proofs.Accepting.Checks.{necessity_accepted, variable_accepted}

-- ---- the kinds of nodes

-- the symbols without a body
pub data Bare : Symbol → Type 0 where
  bare_truth : Bare Truth
  bare_falsity : Bare Falsity
  bare_both : Bare Both
  bare_max : Bare Max

-- the kinds of nodes
pub data NodeKind : ℕ → Type 0 where
  bare_kind : {x : Symbol} → Bare x → NodeKind (kind_byte x)
  necessity_kind_lem : NodeKind necessity_kind
  variable_kind_lem : NodeKind variable_kind

-- a kind of a record that is no pattern
pub node_kind : (k : ℕ) → (k ≡ 0 → ⊥) → k ≤ variable_kind → (k ≡ pattern_kind → ⊥) → NodeKind k
node_kind zero some known node = absurd (some refl)
node_kind (suc zero) some known node = absurd (node refl)
node_kind (suc (suc zero)) some known node = bare_kind bare_truth
node_kind (suc (suc (suc zero))) some known node = bare_kind bare_falsity
node_kind (suc (suc (suc (suc zero)))) some known node = bare_kind bare_both
node_kind (suc (suc (suc (suc (suc zero))))) some known node = necessity_kind_lem
node_kind (suc (suc (suc (suc (suc (suc zero)))))) some known node = bare_kind bare_max
node_kind (suc (suc (suc (suc (suc (suc (suc zero))))))) some known node = variable_kind_lem
node_kind (suc (suc (suc (suc (suc (suc (suc (suc k)))))))) some known node = absurd (omega arith)

-- ---- where a record stands it is read

-- The record r stands at `at`, after n patterns, inside maxes of which g says whether they are guarded.
pub data NodeStands (s : List ℕ) (n at : ℕ) (g : Guards) : NodeRecord → Type 0 where
  bare : {x : Symbol} → Bare x → Byte s at (kind_byte x) → NodeStands s n at g (record { symbol = x; next = at + 1 })
  of_necessity : {p : ℕ} → p < n → Byte s at necessity_kind → Byte s (at + 1) p → NodeStands s n at g (record { symbol = Necessity p; next = at + 2 })
  of_variable : {d : ℕ} → d < length g → get_or g d false ≡ true → Byte s at variable_kind → Byte s (at + 1) d
      → NodeStands s n at g (record { symbol = Variable d; next = at + 2 })

module _ (s : List ℕ) (n at left : ℕ) (g : Guards) where
  -- what is left to check of a record of kind k once it is known to begin
  abbrev pub of_kind : ℕ → Outcome NodeRecord
  of_kind k =
      cond (eqb k truth_kind) (bare_at Truth at)
      (cond (eqb k falsity_kind) (bare_at Falsity at)
      (cond (eqb k both_kind) (bare_at Both at)
      (cond (eqb k necessity_kind) (necessity_at s n at)
      (cond (eqb k max_kind) (bare_at Max at)
      (variable_at s g at)))))

  node_of-kind : {k : ℕ} → 0 < left → Byte s at k → (eqb k 0 || ltb variable_kind k) ≡ false → eqb k pattern_kind ≡ false → node_at s n at left g ≡ of_kind k
  node_of-kind pos b known node = rw (lt-leb (length s) at b.inside, b.is, known, node, ne_eqb left 0 (λ z. omega arith))

  bare_read : {x : Symbol} → Bare x → Byte s at (kind_byte x) → 0 < left → node_at s n at left g ≡ bare_at x at
  bare_read bare_truth b pos = node_of-kind pos b refl refl
  bare_read bare_falsity b pos = node_of-kind pos b refl refl
  bare_read bare_both b pos = node_of-kind pos b refl refl
  bare_read bare_max b pos = node_of-kind pos b refl refl

  node_read_lem : {r : NodeRecord} → 0 < left → NodeStands s n at g r → node_at s n at left g ≡ accepted r
  node_read_lem pos (bare x b) = bare_read x b pos
  node_read_lem pos (of_necessity h b a) =
      node_of-kind pos b refl refl ∙ necessity_accepted s n at a.inside (rw a.is h) ∙ rw a.is
  node_read_lem pos (of_variable h guard b a) =
      node_of-kind pos b refl refl ∙ variable_accepted s g at a.inside (rw a.is h) (rw a.is guard) ∙ rw a.is

  -- ---- what is read stands

  module _ (r : NodeRecord) where
    stands_as : {x : NodeRecord} → NodeStands s n at g x → accepted x ≡ accepted r → NodeStands s n at g r
    stands_as stands e = subst (λ (x : NodeRecord). NodeStands s n at g x) (accepted_is e) stands

    necessity_stands : Byte s at necessity_kind → necessity_at s n at ≡ accepted r → NodeStands s n at g r
    necessity_stands b e =
        let whole = refuse_accepted (leb (length s) (at + 1)) 1 (length s) _ e in
        let known = refuse_accepted (leb n (get_or s (at + 1) 0)) 6 at _ whole.1 in
        stands_as (of_necessity (leb-false _ _ known.0) b (record { inside = leb-false _ _ whole.0; is = refl })) known.1

    variable_stands : Byte s at variable_kind → variable_at s g at ≡ accepted r → NodeStands s n at g r
    variable_stands b e =
        let whole = refuse_accepted (leb (length s) (at + 1)) 1 (length s) _ e in
        let known = refuse_accepted (leb (length g) (get_or s (at + 1) 0)) 6 at _ whole.1 in
        let guard = refuse_accepted (not (get_or g (get_or s (at + 1) 0) false)) 7 at _ known.1 in
        let depth : Byte s (at + 1) (get_or s (at + 1) 0) = record { inside = leb-false _ _ whole.0; is = refl } in
        stands_as (of_variable (leb-false _ _ known.0) (not-false _ guard.0) b depth) guard.1

    kind_stands : {k : ℕ} → NodeKind k → Byte s at k → of_kind k ≡ accepted r → NodeStands s n at g r
    kind_stands (bare_kind bare_truth) b e = stands_as (bare bare_truth b) e
    kind_stands (bare_kind bare_falsity) b e = stands_as (bare bare_falsity b) e
    kind_stands (bare_kind bare_both) b e = stands_as (bare bare_both b) e
    kind_stands (bare_kind bare_max) b e = stands_as (bare bare_max b) e
    kind_stands necessity_kind_lem b e = necessity_stands b e
    kind_stands variable_kind_lem b e = variable_stands b e

    node_stands : node_at s n at left g ≡ accepted r → (0 < left) × NodeStands s n at g r
    node_stands e =
        let begun = refuse_accepted (leb (length s) at) 1 (length s) _ e in
        let known = refuse_accepted (eqb (get_or s at 0) 0 || ltb variable_kind (get_or s at 0)) 2 at _ begun.1 in
        let node = refuse_accepted (eqb (get_or s at 0) pattern_kind) 3 at _ known.1 in
        let few = refuse_accepted (eqb left 0) 4 at _ node.1 in
        let range = or_eq_false (eqb (get_or s at 0) 0) (ltb variable_kind (get_or s at 0)) known.0 in
        let here : Byte s at (get_or s at 0) = record { inside = leb-false _ _ begun.0; is = refl } in (
          omega (arith, eqb-false left 0 few.0),
          kind_stands (node_kind (get_or s at 0) (eqb-false _ _ range.0) (ltb-false _ _ range.1) (eqb-false _ _ node.0)) here few.1,
        )

    pub node_accepts : (node_at s n at left g ≡ accepted r) ↔ ((0 < left) × NodeStands s n at g r)
    node_accepts = (node_stands, λ h. node_read_lem h.0 h.1)
