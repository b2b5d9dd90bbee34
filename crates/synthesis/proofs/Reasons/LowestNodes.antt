-- What is said of a scan in an equation: the set that is computed has the ff nodes that the scan opens, so where it is empty there is none, and else its
-- least member is the lowest of them.
use Prim.Native.Nat.{ℕ, ◌≤◌, ◌<◌}
use mathlib.Core.Path.{◌≡◌, refl, sym, ◌∙◌}
use mathlib.Core.Logic.{◌↔◌}
use mathlib.Core.Bool.{Bool, true, false, cond, true≢false}
use mathlib.Core.List.{[]}
use native.Mathlib.Decide.{dec_le}
use native.Mathlib.Omega.{arith}
use lib.Dec.{eqb}
use borrow.Author.Tests.{eqb-true, eqb-false}
use Rattle.reading.specs.Pattern.{least}
use Rattle.reading.specs.Rule.{Rule, RuleWithinLimits}
use Rattle.reading.proofs.Measures.Counting.{least_holds, least_below}
use Rattle.reading.proofs.Numbering.NodeLaws.{node_fits}
use Rattle.synthesis.specs.Violation.{covered_by}
use Rattle.synthesis.specs.NodeSet.{Has, has, empty_set}
use Rattle.synthesis.specs.Answering.{falsities, reached}
use Rattle.synthesis.specs.Reason.{Least, OpensFalsity, LowestOpened, lowest_reason, opened_falsities}
use Rattle.synthesis.proofs.Unfolding.NodeSetLaws.{has_none, has_common, has_true, true_has, nonempty_member}
use Rattle.synthesis.proofs.Unfolding.NodeWise.{falsities_has}
use Rattle.synthesis.proofs.Unfolding.AnsweringLaws.{reached_leads}
use Rattle.std.specs.Prelude.{Option, Some, None}

-- ---- the least member of a set

lowest_member : (n set : ℕ) → ((m : ℕ) → Has set m → m < n) → (m : ℕ) → Has set m → Least (Has set) (least n (has set))
lowest_member n set small m h = record { holds = has_true set low (least_holds n (has set) (omega (arith, below m h, small m h))); lowest = below }
  where
    low : ℕ
    low = least n (has set)

    below : (k : ℕ) → Has set k → low ≤ k
    below k h = on (dec_le low k)
      where
        on : Dec (low ≤ k) → low ≤ k
        on (yes le) = le
        on (no over) = absurd (true≢false (sym (true_has set k h) ∙ least_below n (has set) k (omega arith)))

pub least_map : {P Q : ℕ → Type 0} → ((n : ℕ) → P n ↔ Q n) → {m : ℕ} → Least P m → Least Q m
least_map iff {m} l = record { holds = (iff m).0 l.holds; lowest = λ n q. l.lowest n ((iff n).1 q) }

pub least_unique : {P : ℕ → Type 0} {m n : ℕ} → Least P m → Least P n → m ≡ n
least_unique {m = m} {n} a b = omega (arith, a.lowest n b.holds, b.lowest m a.holds)

-- ---- the ff nodes that a scan opens

module _ (r : Rule) (within : RuleWithinLimits r) where
  opened_has : (e c m : ℕ) → Has (opened_falsities r e c) m ↔ OpensFalsity r e c m
  unfolding opened_falsities
  opened_has e c m =
      let common = has_common (reached (covered_by r.patterns) e c 0 [] r.formula) (falsities 0 r.formula) m in
      let led = reached_leads r within.well_formed.formula e c m in
      let ffs = falsities_has r.formula m in
      (λ h. (led.0 (common.0 h).0, ffs.0 (common.0 h).1), λ (l, f). common.1 (led.1 l, ffs.1 f))

  opened_below : (e c m : ℕ) → Has (opened_falsities r e c) m → m < 64
  opened_below e c m h = omega (arith, node_fits ((opened_has e c m).0 h).1.1, within.few_nodes)

  -- What holds where nothing is opened, and for the lowest node where something is, holds of what is said.
  pub said_of_opened : (e c : ℕ) (P : Option ℕ → Type 0) → (((m : ℕ) → OpensFalsity r e c m → ⊥) → P None)
      → ((m : ℕ) → LowestOpened r e c m → P (Some m)) → P (lowest_reason (opened_falsities r e c))
  said_of_opened e c P none some = on (eqb (opened_falsities r e c) empty_set) refl
    where
      set : ℕ
      set = opened_falsities r e c

      on : (b : Bool) → eqb set empty_set ≡ b → P (cond b None (Some (least 64 (has set))))
      on true q = none (λ m o. has_none m (rw (eqb-true set empty_set q) at ((opened_has e c m).1 o)))
      on false q =
          let (m, h) = nonempty_member set (omega (arith, eqb-false set empty_set q)) in
          some (least 64 (has set)) (least_map (opened_has e c) (lowest_member 64 set (opened_below e c) m h))
