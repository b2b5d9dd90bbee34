-- A violation at some node is a violation, and each violation is one at some node, which is ff: the clauses of `ViolatesAt` are those of violation, each with
-- the number of the node, so that either derivation is read off the other.
use Prim.Native.Nat.{ℕ}
use mathlib.Core.Path.{◌≡◌}
use mathlib.Core.List.{List, [], map}
use lib.ListN.{length}
use Rattle.reading.specs.Rule.{Formula, WellFormed, Rule}
use Rattle.reading.specs.Nodes.{EnclosingMax, Node, first, second, after, body}
use Rattle.reading.proofs.Numbering.NodeLaws.{max_around, variable_bound}
use Rattle.synthesis.specs.Violation.{covered_by, Violates, by_falsity, by_first, by_second, by_code, by_body, by_variable}
use Rattle.synthesis.specs.Opening.{IsFalsity, body_of}
use Rattle.synthesis.specs.Reason.{ViolatesAt, at_falsity, in_first, in_second, after_code_lem, in_body, in_variable_lem}
use Rattle.synthesis.proofs.Unfolding.ViolationLaws.{bodies_from, body_around, ViolatesNode, violates_node}

module _ (r : Rule) where
  abbrev root : Formula
  root = r.formula

  pub place_falsity : {k m : ℕ} {w : List ℕ} → ViolatesAt r k w m → IsFalsity root m
  place_falsity (at_falsity {ms = ms} n) = (ms, n)
  place_falsity (in_first n v) = place_falsity v
  place_falsity (in_second n v) = place_falsity v
  place_falsity (after_code_lem n h v) = place_falsity v
  place_falsity (in_body n v) = place_falsity v
  place_falsity (in_variable_lem n b v) = place_falsity v

  -- without its place it is a violation
  pub place_violates : {k m : ℕ} {w : List ℕ} → ViolatesAt r k w m → ViolatesNode (covered_by r.patterns) root k w
  place_violates (at_falsity n) = violates_node _ root n by_falsity
  place_violates (in_first n v) = violates_node _ root n (by_first (place_violates v _ _ (first n)))
  place_violates (in_second n v) = violates_node _ root n (by_second (place_violates v _ _ (second n)))
  place_violates (after_code_lem n h v) = violates_node _ root n (by_code h (place_violates v _ _ (after n)))
  place_violates (in_body n v) = violates_node _ root n (by_body (place_violates v _ _ (body n)))
  place_violates (in_variable_lem {d = d} {ms} n b v) =
      violates_node _ root n (by_variable (bodies_from body_of ms d b) (place_violates v _ _ (body (max_around n d b).node)))

  module _ (wf : WellFormed (length r.patterns) [] root) where
    pub violates_place : {bodies : List Formula} {k : ℕ} {ms : List EnclosingMax} {f : Formula} {w : List ℕ}
        → Violates (covered_by r.patterns) bodies f w → Node root k ms f → bodies ≡ map body_of ms → (m : ℕ) × ViolatesAt r k w m
    violates_place {k = k} by_falsity n e = (k, at_falsity n)
    violates_place (by_first v) n e = let (m, a) = violates_place v (first n) e in (m, in_first n a)
    violates_place (by_second v) n e = let (m, a) = violates_place v (second n) e in (m, in_second n a)
    violates_place (by_code h v) n e = let (m, a) = violates_place v (after n) e in (m, after_code_lem n h a)
    violates_place (by_body v) n e = let (m, a) = violates_place v (body n) (rw e) in (m, in_body n a)
    violates_place (by_variable q v) n e =
        let b = variable_bound (length r.patterns) wf n in
        let (inside, same) = body_around n b e q in
        let (m, a) = violates_place v inside same in
        (m, in_variable_lem n b a)
