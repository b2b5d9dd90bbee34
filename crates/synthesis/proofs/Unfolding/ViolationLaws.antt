-- A list violates a node's formula exactly when it violates something that opening the node gives: opening follows the very steps by which the list
-- violates the formula, up to ff or a necessity.
use Prim.Native.Nat.{ℕ, zero, suc, ◌<◌}
use mathlib.Core.Path.{◌≡◌, refl, sym, ◌∙◌}
use mathlib.Core.Bool.{Bool}
use mathlib.Core.List.{List, [], ◌∷◌, map}
use native.Mathlib.Omega.{arith}
use lib.ListN.{length, get_or, drop}
use Rattle.reading.specs.Rule.{Formula, necessity, WellFormed}
use Rattle.reading.specs.Nodes.{EnclosingMax, no_max, Node, first, second, body}
use Rattle.reading.proofs.Numbering.NodeLaws.{max_around, variable_bound}
use Rattle.synthesis.specs.Violation.{Violates, by_falsity, by_first, by_second, by_code, by_body, by_variable}
use Rattle.synthesis.specs.Opening.{Opens, falsity_itself, necessity_itself, first_part, second_part, body_of-max, body_of-variable}
use Rattle.synthesis.specs.Opening.{IsFalsity, body_of}
use Rattle.synthesis.proofs.Unfolding.OpeningLaws.{same_node}

-- ---- the maxes around a node

-- formulas for the maxes around, from max d on
pub bodies_from : (of : EnclosingMax → Formula) (ms : List EnclosingMax) (d : ℕ) → d < length ms
    → drop d (map of ms) ≡ of (get_or ms d no_max) ∷ map of (drop (suc d) ms)
bodies_from of [] d b = absurd (omega arith)
bodies_from of (m ∷ ms) zero b = refl
bodies_from of (m ∷ ms) (suc d) b = bodies_from of ms d (omega arith)

-- Where the bodies around a node begin with f from max d on, f is the body of that max, with the maxes around it.
pub body_around : {root g f : Formula} {bodies outer : List Formula} {k d : ℕ} {ms : List EnclosingMax} → Node root k ms g → d < length ms
    → bodies ≡ map body_of ms → drop d bodies ≡ f ∷ outer
    → let x = get_or ms d no_max in Node root (suc x.number) (x ∷ drop (suc d) ms) f × (f ∷ outer ≡ map body_of (x ∷ drop (suc d) ms))
body_around {f = f} {outer = outer} {d = d} {ms} n b e q =
    let x : EnclosingMax = get_or ms d no_max in
    let same : f ∷ outer ≡ body_of x ∷ map body_of (drop (suc d) ms) = sym q ∙ rw e (bodies_from body_of ms d b) in
    let is_body : f ≡ body_of x = cc in
    (rw is_body (body (max_around n d b).node), same)

-- ---- violated nodes

module _ (covered : ℕ → ℕ → Bool) (root : Formula) where
  -- the list w violates the formula of node k
  abbrev pub ViolatesNode : ℕ → List ℕ → Type 0
  ViolatesNode k w = (ms : List EnclosingMax) (f : Formula) → Node root k ms f → Violates covered (map body_of ms) f w

  pub violates_node : {k : ℕ} {ms : List EnclosingMax} {f : Formula} {w : List ℕ} → Node root k ms f → Violates covered (map body_of ms) f w
      → ViolatesNode k w
  violates_node {w = w} n v ms' f' n' = same_node (λ ms f. Violates covered (map body_of ms) f w) n n' v

  -- ---- from what opening gives to the node

  pub opens_violates : {k m : ℕ} {w : List ℕ} → Opens root k m → ViolatesNode m w → ViolatesNode k w
  opens_violates (falsity_itself n) v = v
  opens_violates (necessity_itself n) v = v
  opens_violates (first_part n o) v = violates_node n (by_first (opens_violates o v _ _ (first n)))
  opens_violates (second_part n o) v = violates_node n (by_second (opens_violates o v _ _ (second n)))
  opens_violates (body_of-max n o) v = violates_node n (by_body (opens_violates o v _ _ (body n)))
  opens_violates (body_of-variable {d = d} {ms} n b o) v =
      violates_node n (by_variable (bodies_from body_of ms d b) (opens_violates o v _ _ (body (max_around n d b).node)))

  -- ---- from the node to what opening gives

  -- The list w violates node m, which is ff or a necessity.
  pub data Ends (m : ℕ) : List ℕ → Type 0 where
    at_falsity : {w : List ℕ} → IsFalsity root m → Ends m w
    at_necessity : {p : ℕ} {ms : List EnclosingMax} {f : Formula} {w : List ℕ} → Node root m ms (necessity p f)
        → Violates covered (map body_of ms) (necessity p f) w → Ends m w

  -- opening node k gives such a node
  abbrev pub OpensEnd : ℕ → List ℕ → Type 0
  OpensEnd k w = (m : ℕ) × Opens root k m × Ends m w

  opens_end_map : {k k' : ℕ} {w : List ℕ} → ((m : ℕ) → Opens root k' m → Opens root k m) → OpensEnd k' w → OpensEnd k w
  opens_end_map step (m, o, v) = (m, step m o, v)

  module _ (patterns : ℕ) (wf : WellFormed patterns [] root) where
    violates_opens_from : {bodies : List Formula} {k : ℕ} {ms : List EnclosingMax} {f : Formula} {w : List ℕ} → Violates covered bodies f w
        → Node root k ms f → bodies ≡ map body_of ms → OpensEnd k w
    violates_opens_from {k = k} {ms} by_falsity n e = (k, falsity_itself n, at_falsity (ms, n))
    violates_opens_from (by_first v) n e = opens_end_map (λ m o. first_part n o) (violates_opens_from v (first n) e)
    violates_opens_from (by_second v) n e = opens_end_map (λ m o. second_part n o) (violates_opens_from v (second n) e)
    violates_opens_from {k = k} (by_code h v) n e = (k, necessity_itself n, at_necessity n (by_code h (rw e at v)))
    violates_opens_from (by_body v) n e = opens_end_map (λ m o. body_of-max n o) (violates_opens_from v (body n) (rw e))
    violates_opens_from (by_variable q v) n e =
        let b = variable_bound patterns wf n in
        let (inside, same) = body_around n b e q in
        opens_end_map (λ m o. body_of-variable n b o) (violates_opens_from v inside same)

    pub violates_opens : {k : ℕ} {ms : List EnclosingMax} {f : Formula} {w : List ℕ} → Node root k ms f
        → Violates covered (map body_of ms) f w → OpensEnd k w
    violates_opens n v = violates_opens_from v n refl
