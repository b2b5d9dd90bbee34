-- No place of a violation stands after an empty pattern. A list that violates a rule at m violates the rule that has no ff but node m. If m stands after an
-- empty pattern, that rule is alike to one without any ff, and no list violates such a one.
use Prim.Native.Nat.{ℕ, zero, suc, ◌+◌, ◌≤◌, ◌<◌}
use mathlib.Core.Path.{◌≡◌, refl, subst}
use mathlib.Core.Bool.{Bool}
use mathlib.Core.List.{List, [], ◌∷◌}
use native.Mathlib.Omega.{arith}
use lib.ListN.{drop}
use borrow.Author.Tests.{ne_eqb}
use Rattle.reading.specs.Rule.{Formula, truth, falsity, both, necessity, max, variable, size, All}
use Rattle.reading.specs.Nodes.{EnclosingMax, Node, whole, first, second, after, body}
use Rattle.synthesis.specs.Violation.{covered_by, Violates, by_falsity, by_first, by_second, by_code, by_body, by_variable}
use Rattle.synthesis.specs.Alike.{AlikeButAfterEmpty, same_both, same_necessity, same_max, after_empty}
use Rattle.synthesis.specs.Reason.{with_only}
use Rattle.synthesis.specs.AlikePromises.{AllAfterEmpty, NoPlaceAfterEmpty}
use Rattle.synthesis.proofs.Reasons.Alone.{place_alone}
use Rattle.synthesis.proofs.EmptyPatterns.AlikeLaws.{alike_same, formulas_violated_alike}

-- ---- formulas without ff

abbrev Quiet : Formula → Type 0
Quiet truth = Unit
Quiet falsity = ⊥
Quiet (both f g) = Quiet f × Quiet g
Quiet (necessity p f) = Quiet f
Quiet (max f) = Quiet f
Quiet (variable d) = Unit

all_drop : (d : ℕ) (fs : List Formula) → All Quiet fs → All Quiet (drop d fs)
all_drop zero fs all = all
all_drop (suc d) [] all = tt
all_drop (suc d) (f ∷ fs) all = all_drop d fs all.1

quiet_safe : {covered : (pattern code : ℕ) → Bool} {bodies : List Formula} {f : Formula} {w : List ℕ} → Violates covered bodies f w
    → Quiet f → All Quiet bodies → ⊥
quiet_safe by_falsity q all = q
quiet_safe (by_first v) q all = quiet_safe v q.0 all
quiet_safe (by_second v) q all = quiet_safe v q.1 all
quiet_safe (by_code h v) q all = quiet_safe v q all
quiet_safe (by_body v) q all = quiet_safe v q (q, all)
quiet_safe {bodies = bodies} (by_variable {d = d} e v) q all =
    let outer = subst (All Quiet) e (all_drop d bodies all) in
    quiet_safe v outer.0 outer

-- a formula with no ff but node m, where m isn't one of its nodes
quiet_outside : (m k : ℕ) (f : Formula) → ((i : ℕ) → i < size f → k + i ≡ m → ⊥) → Quiet (with_only m k f)
quiet_outside m k truth out = tt
quiet_outside m k falsity out = rw (ne_eqb k m (λ e. out 0 (omega arith) (omega arith))) tt
quiet_outside m k (both f g) out = (
  quiet_outside m (suc k) f (λ i h e. out (suc i) (omega arith) (omega arith)),
  quiet_outside m (k + suc (size f)) g (λ i h e. out (suc (size f) + i) (omega arith) (omega arith)),
)
quiet_outside m k (necessity p f) out = quiet_outside m (suc k) f (λ i h e. out (suc i) (omega arith) (omega arith))
quiet_outside m k (max f) out = quiet_outside m (suc k) f (λ i h e. out (suc i) (omega arith) (omega arith))
quiet_outside m k (variable d) out = tt

-- ---- from the empty pattern up to the whole formula

module _ (covered : (pattern code : ℕ) → Bool) (root : Formula) (m : ℕ) where
  -- the formula of node k, with no ff but node m, is alike to one without ff
  abbrev Silenced : (k : ℕ) → Formula → Type 0
  Silenced k f = (f' : Formula) × Quiet f' × AlikeButAfterEmpty covered covered (with_only m k f) f'

  silenced_around : {k : ℕ} {ms : List EnclosingMax} {f : Formula} → Node root k ms f → k ≤ m → m < k + size f → Silenced k f → Silenced 0 root
  silenced_around whole low high s = s
  silenced_around (first {k} {f = f} {g} n) low high (f', q, a) =
      let rest = with_only m (k + suc (size f)) g in
      silenced_around n (omega arith) (omega arith)
      (both f' rest, (q, quiet_outside m (k + suc (size f)) g (λ i h e. omega arith)), same_both a (alike_same covered rest))
  silenced_around (second {k} {f = f} {g} n) low high (g', q, a) =
      let rest = with_only m (suc k) f in
      silenced_around n (omega arith) (omega arith)
      (both rest g', (quiet_outside m (suc k) f (λ i h e. omega arith), q), same_both (alike_same covered rest) a)
  silenced_around (after {p = p} n) low high (f', q, a) =
      silenced_around n (omega arith) (omega arith) (necessity p f', q, same_necessity {p = p} {p' = p} (λ c. refl) a)
  silenced_around (body n) low high (f', q, a) = silenced_around n (omega arith) (omega arith) (max f', q, same_max a)

pub no_place_after_empty : NoPlaceAfterEmpty
no_place_after_empty r w m v e =
    let covered = covered_by r.patterns in
    let there = necessity e.pattern truth in
    let (quiet, q, a) = silenced_around covered r.formula m e.node (omega (arith, e.after)) (omega (arith, e.inside))
    (there, tt, after_empty e.empty e.empty) in
    quiet_safe ((formulas_violated_alike a w).0 (place_alone r v [] r.formula whole)) q tt

pub all_after_empty : AllAfterEmpty
all_after_empty r k p ms f node none j h = record {
  k = k;
  ms = ms;
  pattern = p;
  formula = f;
  node = node;
  empty = none;
  after = omega arith;
  inside = omega arith;
}
