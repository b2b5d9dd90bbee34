-- A list violates a rule at m exactly when it violates the rule that has no ff but node m: of a derivation of either, only the last step, at ff, looks at
-- the number. `Thinned` has the formula of a node beside what becomes of it, so that a derivation over the thinned formula tells which clause applies.
use Prim.Native.Nat.{ℕ, suc, ◌+◌}
use mathlib.Core.Path.{◌≡◌, refl, sym, ◌∙◌}
use mathlib.Core.Bool.{Bool, true, false, cond}
use mathlib.Core.List.{List, [], ◌∷◌, map}
use lib.Dec.{eqb}
use lib.ListN.{length, get_or, drop}
use borrow.Author.Tests.{eqb-true, eq-eqb}
use Rattle.reading.specs.Rule.{Formula, truth, falsity, both, necessity, max, variable, size, WellFormed, Rule}
use Rattle.reading.specs.Nodes.{EnclosingMax, no_max, Node, whole, first, second, after, body}
use Rattle.reading.proofs.Numbering.NodeLaws.{max_around, variable_bound}
use Rattle.synthesis.specs.Violation.{covered_by, Violates, by_falsity, by_first, by_second, by_code, by_body, by_variable}
use Rattle.synthesis.specs.Reason.{ViolatesAt, at_falsity, in_first, in_second, after_code_lem, in_body, in_variable_lem, with_only}
use Rattle.synthesis.specs.ReasonPromises.{ViolatesSomewhere}
use Rattle.synthesis.proofs.Unfolding.OpeningLaws.{same_node}
use Rattle.synthesis.proofs.Unfolding.ViolationLaws.{bodies_from}
use Rattle.synthesis.proofs.Reasons.Places.{place_falsity, place_violates, violates_place}

-- the body of a max, thinned
abbrev body_with_only : ℕ → EnclosingMax → Formula
body_with_only m x = with_only m (suc x.number) x.body

-- ---- from a place

module _ (r : Rule) where
  abbrev root : Formula
  root = r.formula

  abbrev ViolatesThinned : (m k : ℕ) (ms : List EnclosingMax) (f : Formula) → List ℕ → Type 0
  ViolatesThinned m k ms f w = Violates (covered_by r.patterns) (map (body_with_only m) ms) (with_only m k f) w

  thinned_node : (m : ℕ) {k : ℕ} {ms : List EnclosingMax} {f : Formula} {w : List ℕ} → Node root k ms f → ViolatesThinned m k ms f w
      → (ms' : List EnclosingMax) (f' : Formula) → Node root k ms' f' → ViolatesThinned m k ms' f' w
  thinned_node m {k} {w = w} n v ms' f' n' = same_node (λ ms f. ViolatesThinned m k ms f w) n n' v

  pub place_alone : {m k : ℕ} {w : List ℕ} → ViolatesAt r k w m → (ms : List EnclosingMax) (f : Formula) → Node root k ms f → ViolatesThinned m k ms f w
  place_alone {k = k} (at_falsity n) = thinned_node k n (rw (eq-eqb k k refl) by_falsity)
  place_alone {m} (in_first n v) = thinned_node m n (by_first (place_alone v _ _ (first n)))
  place_alone {m} (in_second n v) = thinned_node m n (by_second (place_alone v _ _ (second n)))
  place_alone {m} (after_code_lem n h v) = thinned_node m n (by_code h (place_alone v _ _ (after n)))
  place_alone {m} (in_body n v) = thinned_node m n (by_body (place_alone v _ _ (body n)))
  place_alone {m} (in_variable_lem {d = d} {ms} n b v) =
      thinned_node m n (by_variable (bodies_from (body_with_only m) ms d b) (place_alone v _ _ (body (max_around n d b).node)))

-- ---- to a place

-- the formula of node k, and that formula thinned
data Thinned (m k : ℕ) : Formula → Formula → Type 0 where
  same_truth : Thinned m k truth truth
  kept_falsity : k ≡ m → Thinned m k falsity falsity
  lost_falsity : Thinned m k falsity truth
  thin_both : {f g : Formula} → Thinned m k (both f g) (both (with_only m (suc k) f) (with_only m (k + suc (size f)) g))
  thin_necessity : {p : ℕ} {f : Formula} → Thinned m k (necessity p f) (necessity p (with_only m (suc k) f))
  thin_max : {f : Formula} → Thinned m k (max f) (max (with_only m (suc k) f))
  same_variable : {d : ℕ} → Thinned m k (variable d) (variable d)

thinned : (m k : ℕ) (f : Formula) → Thinned m k f (with_only m k f)
thinned m k truth = same_truth
thinned m k falsity = on (eqb k m) refl
  where
    on : (b : Bool) → eqb k m ≡ b → Thinned m k falsity (cond b falsity truth)
    on true q = kept_falsity (eqb-true k m q)
    on false q = lost_falsity
thinned m k (both f g) = thin_both
thinned m k (necessity p f) = thin_necessity
thinned m k (max f) = thin_max
thinned m k (variable d) = same_variable

module _ (r : Rule) (wf : WellFormed (length r.patterns) [] r.formula) (m : ℕ) where
  alone_place : {bodies : List Formula} {h : Formula} {w : List ℕ} → Violates (covered_by r.patterns) bodies h w
      → {k : ℕ} {ms : List EnclosingMax} {f : Formula} → Node r.formula k ms f → Thinned m k f h → bodies ≡ map (body_with_only m) ms → ViolatesAt r k w m
  alone_place by_falsity n (kept_falsity q) e = rw (← q) (at_falsity n)
  alone_place (by_first v) n thin_both e = in_first n (alone_place v (first n) (thinned m _ _) e)
  alone_place (by_second v) n thin_both e = in_second n (alone_place v (second n) (thinned m _ _) e)
  alone_place (by_code h v) n thin_necessity e = after_code_lem n h (alone_place v (after n) (thinned m _ _) e)
  alone_place (by_body v) n thin_max e = in_body n (alone_place v (body n) (thinned m _ _) (rw e))
  alone_place (by_variable {outer = outer} {d} {f = g} q v) {ms = ms} n same_variable e =
      let b = variable_bound (length r.patterns) wf n in
      let x : EnclosingMax = get_or ms d no_max in
      let same : g ∷ outer ≡ body_with_only m x ∷ map (body_with_only m) (drop (suc d) ms) = sym q ∙ rw e (bodies_from (body_with_only m) ms d b) in
      let is_body : body_with_only m x ≡ g = cc in
      in_variable_lem n b (alone_place v (body (max_around n d b).node) (rw is_body at (thinned m (suc x.number) x.body)) same)

-- ---- the promise

pub violates_somewhere : ViolatesSomewhere
violates_somewhere r wf = record {
  somewhere = λ w. (λ v. violates_place r wf v whole refl, λ (m, a). place_violates r a _ _ whole);
  alone = λ w m. (λ v. place_alone r v [] r.formula whole, λ v. alone_place r wf m v whole (thinned m 0 r.formula) refl);
  at_falsities = λ k w m. place_falsity r;
}
