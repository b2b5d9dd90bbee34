-- The sets that are computed along a formula, node by node: its ff nodes, and what the members of an equation lead to. What a part of the formula
-- gives is in what the whole gives, by induction on the way to the part.
use Prim.Native.Nat.{ℕ, suc, ◌+◌}
use mathlib.Core.Path.{◌≡◌}
use mathlib.Core.Logic.{◌↔◌}
use mathlib.Core.Bool.{Bool, true, false, cond, ◌&&◌, and-eq-true_iff}
use mathlib.Core.List.{List, []}
use lib.Dec.{eqb}
use Rattle.reading.specs.Rule.{Formula, truth, falsity, both, necessity, max, variable, size}
use Rattle.reading.specs.Nodes.{EnclosingMax, Node, whole, first, second, after, body}
use Rattle.synthesis.specs.NodeSet.{Has, has, empty_set, singleton, intersection}
use Rattle.synthesis.specs.Opening.{IsFalsity}
use Rattle.synthesis.specs.Answering.{opening, opens_around, falsities, reached}
use Rattle.synthesis.proofs.Unfolding.NodeSetLaws.{has_none, has_singleton, singleton_has, has_true, true_has}
use Rattle.synthesis.proofs.Unfolding.MemberLaws.{cond_has, has_union_first, has_union_second, union_cases, no_common_member, common_member}

-- ---- the ff nodes

module _ (m : ℕ) {root : Formula} where
  singleton_falsity : {k : ℕ} {ms : List EnclosingMax} → Node root k ms falsity → Has (singleton k) m → IsFalsity root m
  singleton_falsity {k} {ms} n h = rw (← (singleton_has k m h)) (ms, n)

  falsities_sound : (f : Formula) {k : ℕ} {ms : List EnclosingMax} → Node root k ms f → Has (falsities k f) m → IsFalsity root m
  falsities_sound truth n h = absurd (has_none m h)
  falsities_sound falsity n h = singleton_falsity n h
  falsities_sound (both f g) {k} n h =
      union_cases (falsities (suc k) f) (falsities (k + suc (size f)) g) m (falsities_sound f (first n)) (falsities_sound g (second n)) h
  falsities_sound (necessity p f) n h = falsities_sound f (after n) h
  falsities_sound (max f) n h = falsities_sound f (body n) h
  falsities_sound (variable d) n h = absurd (has_none m h)

  -- the ff nodes of a node's formula are ff nodes of the whole
  falsities_inside : {k : ℕ} {ms : List EnclosingMax} {f : Formula} → Node root k ms f → Has (falsities k f) m → Has (falsities 0 root) m
  falsities_inside whole h = h
  falsities_inside (first {k} {f = f} {g} n) h = falsities_inside n (has_union_first (falsities (suc k) f) (falsities (k + suc (size f)) g) m h)
  falsities_inside (second {k} {f = f} {g} n) h = falsities_inside n (has_union_second (falsities (suc k) f) (falsities (k + suc (size f)) g) m h)
  falsities_inside (after n) h = falsities_inside n h
  falsities_inside (body n) h = falsities_inside n h

pub falsities_has : (root : Formula) (n : ℕ) → Has (falsities 0 root) n ↔ IsFalsity root n
falsities_has root n = (falsities_sound n root whole, λ h. falsities_inside n h.1 (has_singleton n))

-- a set without an ff node, and one with some
pub no_falsity : (root : Formula) (s : ℕ) → eqb (intersection s (falsities 0 root)) empty_set ≡ true → (m : ℕ) → Has s m → IsFalsity root m → ⊥
no_falsity root s h m p f = no_common_member s (falsities 0 root) h m p ((falsities_has root m).1 f)

pub some_falsity : (root : Formula) (s : ℕ) → eqb (intersection s (falsities 0 root)) empty_set ≡ false → (m : ℕ) × Has s m × IsFalsity root m
some_falsity root s h = let (m, p, q) = common_member s (falsities 0 root) h in (m, p, (falsities_has root m).0 q)

-- ---- what the members of an equation lead to

module _ (covered : ℕ → ℕ → Bool) (root : Formula) (e c m : ℕ) where
  -- m is among what opening the formula after a member of e gives, whose pattern covers c
  abbrev pub Reaches : Type 0
  Reaches =
      (n : ℕ) × (p : ℕ) × (ms : List EnclosingMax) × (f : Formula) × Node root n ms (necessity p f) × Has e n × (covered p c ≡ true)
      × Has (opening (suc n) (opens_around ms) f) m

  -- what the members in the formula of node k lead to, and what that node alone leads to where it is a necessity
  abbrev reached_inside : ℕ → List EnclosingMax → Formula → ℕ
  reached_inside k ms f = reached covered e c k (opens_around ms) f

  abbrev reached_by_node : ℕ → List EnclosingMax → ℕ → Formula → ℕ
  reached_by_node k ms p f = cond (has e k && covered p c) (opening (suc k) (opens_around ms) f) empty_set

  reached_by_node_sound : {k p : ℕ} {ms : List EnclosingMax} {f : Formula} → Node root k ms (necessity p f) → Has (reached_by_node k ms p f) m → Reaches
  reached_by_node_sound {k} {p} {ms} {f} n h =
      let t = cond_has (has e k && covered p c) (opening (suc k) (opens_around ms) f) m h in
      let b = (and-eq-true_iff (has e k) (covered p c)).0 t.0 in
      (k, p, ms, f, n, has_true e k b.0, b.1, t.1)

  reached_sound : (f : Formula) {k : ℕ} {ms : List EnclosingMax} → Node root k ms f → Has (reached_inside k ms f) m → Reaches
  reached_sound truth n h = absurd (has_none m h)
  reached_sound falsity n h = absurd (has_none m h)
  reached_sound (both f g) {k} {ms} n h =
      union_cases (reached_inside (suc k) ms f) (reached_inside (k + suc (size f)) ms g) m (reached_sound f (first n)) (reached_sound g (second n)) h
  reached_sound (necessity p f) {k} {ms} n h =
      union_cases (reached_by_node k ms p f) (reached_inside (suc k) ms f) m (reached_by_node_sound n) (reached_sound f (after n)) h
  reached_sound (max f) n h = reached_sound f (body n) h
  reached_sound (variable d) n h = absurd (has_none m h)

  reached_inside_lem : {k : ℕ} {ms : List EnclosingMax} {f : Formula} → Node root k ms f → Has (reached_inside k ms f) m → Has (reached_inside 0 [] root) m
  reached_inside_lem whole h = h
  reached_inside_lem (first {k} {ms} {f} {g} n) h = reached_inside_lem n (has_union_first (reached_inside (suc k) ms f) (reached_inside (k + suc (size f)) ms g) m h)
  reached_inside_lem (second {k} {ms} {f} {g} n) h = reached_inside_lem n (has_union_second (reached_inside (suc k) ms f) (reached_inside (k + suc (size f)) ms g) m h)
  reached_inside_lem (after {k} {ms} {p} {f} n) h = reached_inside_lem n (has_union_second (reached_by_node k ms p f) (reached_inside (suc k) ms f) m h)
  reached_inside_lem (body n) h = reached_inside_lem n h

  reached_complete : Reaches → Has (reached_inside 0 [] root) m
  reached_complete (n, p, ms, f, node, member, covers, opened) =
      reached_inside_lem node (has_union_first (reached_by_node n ms p f) (reached_inside (suc n) ms f) m (rw (true_has e n member, covers) opened))

  pub reached_has : Has (reached covered e c 0 [] root) m ↔ Reaches
  reached_has = (reached_sound root whole, reached_complete)
