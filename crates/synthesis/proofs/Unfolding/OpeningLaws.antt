-- What is computed as opening a node is what opening it gives, by induction on the formula. A variable comes only below a necessity, so by then what
-- its max opens to is known.
use Prim.Native.Nat.{ℕ, zero, suc, ◌+◌, ◌<◌}
use mathlib.Core.Path.{◌≡◌, refl}
use mathlib.Core.Logic.{◌↔◌, ◌⊎◌, inl, inr}
use mathlib.Core.Bool.{true, false, false≢true}
use mathlib.Core.List.{List, [], ◌∷◌}
use native.Mathlib.Omega.{arith}
use lib.ListN.{length, get_or}
use Rattle.reading.specs.Rule.{Formula, truth, falsity, both, necessity, max, variable, size, Guards, WellFormed}
use Rattle.reading.specs.Nodes.{EnclosingMax, no_max, Node, whole, first, second, after, body}
use Rattle.reading.proofs.Numbering.NodeLaws.{well_formed_at, variable_bound}
use Rattle.reading.proofs.Numbering.Listings.{node_unique}
use Rattle.synthesis.specs.NodeSet.{Has, empty_set}
use Rattle.synthesis.specs.Opening.{Opens, falsity_itself, necessity_itself, first_part, second_part, body_of-max, body_of-variable}
use Rattle.synthesis.specs.Answering.{opening, opens_around}
use Rattle.synthesis.specs.Promises.{OpensAsDefined}
use Rattle.synthesis.proofs.Unfolding.NodeSetLaws.{has_none}
use Rattle.synthesis.proofs.Unfolding.MemberLaws.{has_singleton_iff, union_iff}

-- A number has one formula and one list of maxes.
pub same_node : (P : List EnclosingMax → Formula → Type 0) {root : Formula} {k : ℕ} {ms ms' : List EnclosingMax} {f f' : Formula}
    → Node root k ms f → Node root k ms' f' → P ms f → P ms' f'
same_node P n n' h = let u = node_unique n n' in rw (← u.0, ← u.1) h

-- ---- opening by the formula of the node

module _ (root : Formula) where
  -- opening node k gives m, where node k is f, inside the maxes ms
  abbrev OpensBy : (k m : ℕ) → List EnclosingMax → Formula → Type 0
  OpensBy k m ms truth = ⊥
  OpensBy k m ms falsity = k ≡ m
  OpensBy k m ms (both f g) = Opens root (suc k) m ⊎ Opens root (k + suc (size f)) m
  OpensBy k m ms (necessity p f) = k ≡ m
  OpensBy k m ms (max f) = Opens root (suc k) m
  OpensBy k m ms (variable d) = (d < length ms) × Opens root (suc (get_or ms d no_max).number) m

  opens_by : {k m : ℕ} {ms : List EnclosingMax} {f : Formula} → Node root k ms f → Opens root k m → OpensBy k m ms f
  opens_by {k} {m} n (falsity_itself n') = same_node (OpensBy k m) n' n refl
  opens_by {k} {m} n (necessity_itself n') = same_node (OpensBy k m) n' n refl
  opens_by {k} {m} n (first_part n' o) = same_node (OpensBy k m) n' n (inl o)
  opens_by {k} {m} n (second_part n' o) = same_node (OpensBy k m) n' n (inr o)
  opens_by {k} {m} n (body_of-max n' o) = same_node (OpensBy k m) n' n o
  opens_by {k} {m} n (body_of-variable n' b o) = same_node (OpensBy k m) n' n (b, o)

  by_opens : {k : ℕ} {ms : List EnclosingMax} (m : ℕ) (f : Formula) → Node root k ms f → OpensBy k m ms f → Opens root k m
  by_opens m truth n h = absurd h
  by_opens m falsity n e = rw (← e) (falsity_itself n)
  by_opens m (both f g) n (inl o) = first_part n o
  by_opens m (both f g) n (inr o) = second_part n o
  by_opens m (necessity p f) n e = rw (← e) (necessity_itself n)
  by_opens m (max f) n o = body_of-max n o
  by_opens m (variable d) n h = body_of-variable n h.0 h.1

  -- what says so by the formula says so
  opens_by_iff : {A : Type 0} {k : ℕ} {ms : List EnclosingMax} (m : ℕ) (f : Formula) → Node root k ms f → A ↔ OpensBy k m ms f
      → A ↔ Opens root k m
  opens_by_iff m f n h = (λ a. by_opens m f n (h.0 a), λ o. h.1 (opens_by n o))

-- ---- opening, computed

-- The list `around` has what opening the body of each guarded max gives.
record Known (root : Formula) (g : Guards) (ms : List EnclosingMax) (around : List ℕ) : Type 0 where
  pub at : (d : ℕ) → d < length ms → get_or g d false ≡ true → (m : ℕ)
      → Has (get_or around d empty_set) m ↔ Opens root (suc (get_or ms d no_max).number) m

-- inside one more max, which isn't guarded yet
known_inside : {root : Formula} {g : Guards} {ms : List EnclosingMax} {around : List ℕ} (x : EnclosingMax) → Known root g ms around
    → Known root (false ∷ g) (x ∷ ms) (empty_set ∷ around)
known_inside {root} {g} {ms} {around} x known = record { at = at }
  where
    at : (d : ℕ) → d < suc (length ms) → get_or (false ∷ g) d false ≡ true → (m : ℕ)
        → Has (get_or (empty_set ∷ around) d empty_set) m ↔ Opens root (suc (get_or (x ∷ ms) d no_max).number) m
    at zero b e m = absurd (false≢true e)
    at (suc d) b e m = known.at d (omega arith) e m

module _ (patterns : ℕ) (root : Formula) (wf : WellFormed patterns [] root) where
  opening_opens : (f : Formula) {g : Guards} {k : ℕ} {ms : List EnclosingMax} {around : List ℕ} → WellFormed patterns g f → Node root k ms f
      → Known root g ms around → (m : ℕ) → Has (opening k around f) m ↔ Opens root k m
  opening_opens truth w n known m = opens_by_iff root m truth n (has_none m, λ h. absurd h)
  opening_opens falsity {k = k} w n known m = opens_by_iff root m falsity n (has_singleton_iff k m)
  opening_opens (both f g) {k = k} {around = around} w n known m =
      let one : ℕ = opening (suc k) around f in
      let other : ℕ = opening (k + suc (size f)) around g in
      opens_by_iff root m (both f g) n (union_iff one other m (opening_opens f w.0 (first n) known m) (opening_opens g w.1 (second n) known m))
  opening_opens (necessity p f) {k = k} w n known m = opens_by_iff root m (necessity p f) n (has_singleton_iff k m)
  opening_opens (max f) w n known m = opens_by_iff root m (max f) n (opening_opens f w (body n) (known_inside _ known) m)
  opening_opens (variable d) w n known m =
      let b = variable_bound patterns wf n in
      let h = known.at d b w.1 m in
      opens_by_iff root m (variable d) n (λ x. (b, h.0 x), λ o. h.1 o.1)

  -- Of the maxes around a node this is known, guarded or not.
  around_opened : {k : ℕ} {ms : List EnclosingMax} {f : Formula} → Node root k ms f → (d : ℕ) → d < length ms → (m : ℕ)
      → Has (get_or (opens_around ms) d empty_set) m ↔ Opens root (suc (get_or ms d no_max).number) m
  around_opened whole d b m = absurd (omega arith)
  around_opened (first n) d b m = around_opened n d b m
  around_opened (second n) d b m = around_opened n d b m
  around_opened (after n) d b m = around_opened n d b m
  around_opened (body {f = f} n) zero b m =
      opening_opens f (well_formed_at patterns wf n) (body n) (known_inside _ (record { at = λ d b e m. around_opened n d b m })) m
  around_opened (body n) (suc d) b m = around_opened n d (omega arith) m

pub opens_as_defined : OpensAsDefined
opens_as_defined patterns root wf k ms f n m =
    opening_opens patterns root wf f (well_formed_at patterns wf n) n (record { at = λ d b e m. around_opened patterns root wf n d b m }) m
