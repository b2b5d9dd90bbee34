-- Two limits on equations. Once there are no more equations than expansions, a further expansion finds nothing, so the equations that are within a limit
-- are those of every larger one. A smaller limit is therefore one more check after a larger one.
use Prim.Native.Nat.{ℕ, zero, suc, ◌+◌, ◌-◌, ◌≤◌}
use mathlib.Core.Path.{◌≡◌, refl, sym, ◌∙◌, ap}
use mathlib.Core.Bool.{Bool, true, false}
use mathlib.Core.List.{List}
use native.Mathlib.Decide.{dec_le}
use native.Mathlib.Omega.{arith}
use lib.Dec.{ltb}
use lib.ListN.{length}
use borrow.Author.Tests.{lt-ltb, le-ltb}
use Rattle.reading.specs.Rule.{Rule}
use Rattle.reading.specs.File.{Outcome, accepted, refused, refuse, and_then, rule_of}
use Rattle.reading.proofs.Basics.Outcomes.{never_refused, refuse_accepted, refuse_refused, and_then-refused, and_then-accepted}
use Rattle.synthesis.specs.Monitor.{Answer}
use Rattle.synthesis.specs.Answering.{first_of, answer_of, unsatisfiable}
use Rattle.synthesis.specs.Search.{found}
use Rattle.synthesis.specs.Building.{equations_of, Synthesis, with_equations, within_limit, synthesis_of_rule, synthesis_of}
use Rattle.synthesis.specs.LimitPromises.{AgreeOn, LimitsAgree}
use Rattle.synthesis.proofs.Numberings.Finding.{grows_length, expanded_grows, expanded_none}
use Rattle.synthesis.proofs.Tables.SynthesisOutcomes.{filling_by_count}

-- ---- more expansions

module _ (codes : ℕ) (answer : ℕ → ℕ → Answer ℕ) (first : ℕ) where
  -- find no fewer
  found_no_fewer : (expansions m : ℕ) → length (found codes answer expansions first) ≤ length (found codes answer (m + expansions) first)
  unfolding found
  found_no_fewer k zero = let z : 0 + k ≡ k = omega arith in rw z (omega arith)
  found_no_fewer k (suc m) =
      let z : suc m + k ≡ suc (m + k) = omega arith in
      let l = found codes answer (m + k) first in
      rw z (omega (arith, found_no_fewer k m, grows_length l _ (expanded_grows codes answer (m + k) l)))

  -- and no more, once there are no more equations than expansions
  pub found_more : (expansions m : ℕ) → length (found codes answer expansions first) ≤ expansions
      → found codes answer (m + expansions) first ≡ found codes answer expansions first
  unfolding found
  found_more k zero few = let z : 0 + k ≡ k = omega arith in rw z
  found_more k (suc m) few =
      let same = found_more k m few in
      let z : suc m + k ≡ suc (m + k) = omega arith in
      rw z (expanded_none codes answer (m + k) (found codes answer (m + k) first) (rw same (omega arith)) ∙ same)

-- ---- a rule

module _ (limit limit' : ℕ) (h : limit ≤ limit') (r : Rule) where
  equations_no_fewer : length (equations_of limit r) ≤ length (equations_of limit' r)
  unfolding equations_of
  equations_no_fewer =
      let z : limit' ≡ limit' - limit + limit = omega arith in
      rw z (found_no_fewer 256 (answer_of r) (first_of r) limit (limit' - limit))

  pub equations_more : length (equations_of limit r) ≤ limit → equations_of limit' r ≡ equations_of limit r
  unfolding equations_of
  equations_more few =
      let z : limit' ≡ limit' - limit + limit = omega arith in
      ap (λ (k : ℕ). found 256 (answer_of r) k (first_of r)) z ∙ found_more 256 (answer_of r) (first_of r) limit (limit' - limit) few

  -- the equations under the smaller limit, by those under the larger
  rule_by_limit : synthesis_of_rule limit r ≡ and_then (synthesis_of_rule limit' r) (within_limit limit)
  rule_by_limit = on (unsatisfiable r) (dec_le (length (equations_of limit r)) limit) (dec_le (length (equations_of limit' r)) limit')
    where
      on : (b : Bool) → Dec (length (equations_of limit r) ≤ limit) → Dec (length (equations_of limit' r) ≤ limit')
          → refuse b 8 0 (within_limit limit (with_equations limit r)) ≡ and_then (refuse b 8 0 (within_limit limit' (with_equations limit' r))) (within_limit limit)
      on true d d' = refl
      on false (yes few) d' =
          rw (equations_more few, le-ltb limit' (length (equations_of limit r)) (omega (arith, few)))
      on false (no over) (yes few) =
          rw (
            le-ltb limit' (length (equations_of limit' r)) few,
            lt-ltb limit (length (equations_of limit r)) (omega (arith, over)),
            lt-ltb limit (length (equations_of limit' r)) (omega (arith, over, equations_no_fewer)),
          )
      on false (no over) (no more) =
          rw (lt-ltb limit (length (equations_of limit r)) (omega (arith, over)), lt-ltb limit' (length (equations_of limit' r)) (omega (arith, more)))

-- ---- a file

module _ (limit limit' : ℕ) (s : List ℕ) (h : limit ≤ limit') where
  by_limit : synthesis_of limit s ≡ and_then (synthesis_of limit' s) (within_limit limit)
  unfolding synthesis_of
  by_limit = on (rule_of s)
    where
      on : (o : Outcome Rule) → and_then o (synthesis_of_rule limit) ≡ and_then (and_then o (synthesis_of_rule limit')) (within_limit limit)
      on (accepted r) = rule_by_limit limit limit' h r
      on (refused number place) = refl

  accepts : (y : Synthesis) → synthesis_of limit s ≡ accepted y → synthesis_of limit' s ≡ accepted y
  accepts y e =
      let (z, is, within) = and_then-accepted (synthesis_of limit' s) (within_limit limit) (sym by_limit ∙ e) in
      is ∙ (refuse_accepted (ltb limit (length z.equations)) 9 0 (accepted z) within).1

  -- what isn't accepted is refused by the larger limit, or else with 9
  others : (number place : ℕ) → (number ≡ 9 → ⊥) → synthesis_of limit s ≡ refused number place → synthesis_of limit' s ≡ refused number place
  others number place other e =
      and_then-refused (synthesis_of limit' s) (within_limit limit) (sym by_limit ∙ e) (λ is. is) λ y is within.
      refuse_refused (λ k p. k ≡ number → synthesis_of limit' s ≡ refused number place) (ltb limit (length y.equations)) 9 0 (accepted y) within
      (λ t is-nine. absurd (other (sym is-nine))) (λ f e'. absurd (never_refused e')) refl

  agree_on : AgreeOn limit limit' s
  agree_on = record {
    by_limit = by_limit;
    accepts = accepts;
    others = others;
    refuses = λ number place e. rw (by_limit, e);
    fills = λ y e capacity. rw (filling_by_count limit s capacity, filling_by_count limit' s capacity, e, accepts y e);
  }

pub limits_agree : LimitsAgree
limits_agree = agree_on
