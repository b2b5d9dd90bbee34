-- The equations of a rule monitor it, unless opening node 0 gives ff: then the empty list violates the rule. A list violates an equation exactly when
-- the run from it suppresses something, by induction on the list.
use Prim.Native.Nat.{ℕ}
use mathlib.Core.Path.{◌≡◌, refl, sym, ◌∙◌}
use mathlib.Core.Logic.{◌↔◌, ◌⊎◌, inl, inr, ⊎_elim}
use mathlib.Core.Bool.{Bool, true, false, not, true≢false, false≢true}
use mathlib.Core.List.{List, []}
use lib.Dec.{eqb}
use lib.ListN.{length}
use Rattle.reading.specs.Rule.{WellFormed, Rule}
use Rattle.synthesis.specs.Violation.{ViolatesRule}
use Rattle.synthesis.specs.Monitor.{Suppresses, now, later, Monitors}
use Rattle.synthesis.specs.NodeSet.{Has, empty_set, intersection}
use Rattle.synthesis.specs.Opening.{Opens, OpensToFalsity, ViolatesEquation}
use Rattle.synthesis.specs.Answering.{falsities, first_of, answer_of, unsatisfiable}
use Rattle.synthesis.proofs.Unfolding.NodeWise.{no_falsity, some_falsity}
use Rattle.synthesis.proofs.Unfolding.AnsweringLaws.{answers_as_defined}
use Rattle.synthesis.proofs.Unfolding.EquationLaws.{tracks_violation}
use Rattle.synthesis.proofs.Monitors.Runs.{run_induction}

-- ---- unsatisfiable rules

module _ (r : Rule) (wf : WellFormed (length r.patterns) [] r.formula) where
  pub unsatisfiable_opens : (unsatisfiable r ≡ true) ↔ OpensToFalsity r.formula 0
  unfolding unsatisfiable
  unsatisfiable_opens = on (eqb (intersection (first_of r) (falsities 0 r.formula)) empty_set) refl
    where
      first_opens : (m : ℕ) → Has (first_of r) m ↔ Opens r.formula 0 m
      first_opens = (answers_as_defined r wf).first

      on : (b : Bool) → eqb (intersection (first_of r) (falsities 0 r.formula)) empty_set ≡ b → (not b ≡ true) ↔ OpensToFalsity r.formula 0
      on true e = (λ h. absurd (false≢true h), λ (m, o, f). absurd (no_falsity r.formula (first_of r) e m ((first_opens m).1 o) f))
      on false e = let (m, p, f) = some_falsity r.formula (first_of r) e in (λ h. (m, (first_opens m).0 p, f), λ o. refl)

  rule_violated_iff : (w : List ℕ) → ViolatesRule r w ↔ (OpensToFalsity r.formula 0 ⊎ ViolatesEquation r (first_of r) w)
  rule_violated_iff = (tracks_violation r wf).start

  pub unsatisfiable_iff : (unsatisfiable r ≡ true) ↔ ViolatesRule r []
  unsatisfiable_iff = (
    λ h. (rule_violated_iff []).1 (inl (unsatisfiable_opens.0 h)),
    λ v. ⊎_elim unsatisfiable_opens.1 (λ e. absurd ((tracks_violation r wf).end (first_of r) e)) ((rule_violated_iff []).0 v),
  )

  -- ---- a list violates an equation where the run from it suppresses something

  violates_suppresses : (e : ℕ) (w : List ℕ) → ViolatesEquation r e w → Suppresses (answer_of r) e w
  violates_suppresses =
      run_induction (answer_of r) (λ e w. ViolatesEquation r e w → Suppresses (answer_of r) e w)
      (λ e v. absurd ((tracks_violation r wf).end e v))
      (λ e c w q h v. now q)
      (λ e e' c w q h v. later q (h (rw q at (((tracks_violation r wf).step e c w).0 v))))

  suppresses_violates : {e : ℕ} {w : List ℕ} → Suppresses (answer_of r) e w → ViolatesEquation r e w
  suppresses_violates (now {e} {c} {w} q) = ((tracks_violation r wf).step e c w).1 (rw q tt)
  suppresses_violates (later {e} {c = c} {w} q l) = ((tracks_violation r wf).step e c w).1 (rw q (suppresses_violates l))

  -- ---- satisfiable rules

  pub violated_iff_suppressed : unsatisfiable r ≡ false → (w : List ℕ) → ViolatesRule r w ↔ Suppresses (answer_of r) (first_of r) w
  violated_iff_suppressed h w = (
    λ v. ⊎_elim (λ o. absurd (true≢false (sym (unsatisfiable_opens.1 o) ∙ h))) (violates_suppresses (first_of r) w) ((rule_violated_iff w).0 v),
    λ l. (rule_violated_iff w).1 (inr (suppresses_violates l)),
  )

  pub rule_monitors : unsatisfiable r ≡ false → Monitors r (answer_of r) (first_of r)
  rule_monitors h w bytes = violated_iff_suppressed h w
