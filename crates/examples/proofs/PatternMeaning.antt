-- A code by itself violates the rule exactly where the pattern covers it, and `covers_means` says that in words. What is dropped first is what violates the
-- rule by itself; a phone whose only step scans the code satisfies the rule exactly where that step doesn't count.
use Prim.Native.Nat.{ℕ, ◌<◌}
use mathlib.Core.Path.{◌≡◌}
use mathlib.Core.Logic.{◌↔◌}
use mathlib.Core.Bool.{true}
use mathlib.Core.List.{List, [], ◌∷◌}
use native.Mathlib.Omega.{arith}
use lib.ListN.{length, get_or}
use borrow.Author.Tests.{ne_eqb}
use Rattle.reading.specs.Numbered.{no_pattern}
use Rattle.reading.specs.declared.Pattern.{Pattern}
use Rattle.reading.proofs.Measures.Extents.{covers_means}
use Rattle.synthesis.specs.Monitor.{mark, most}
use Rattle.synthesis.specs.Violation.{covered_by, ViolatesRule, by_falsity, by_code}
use Rattle.synthesis.specs.Building.{Fills}
use Rattle.running.specs.Calls.{History, Calls, OnTableOrRefused, with_verdict}
use Rattle.running.proofs.DemandTwo.{drops_exactly}
use Rattle.enforcement.specs.Model.{Label, code, stay, Satisfies}
use Rattle.models.specs.Phone.{label_of, StepIn, model_of}
use Rattle.examples.specs.PatternMeaning.{never, CoveredIn, repeating_phone, PatternMeaning}
use Rattle.examples.proofs.PhoneSteps.{step_at_lem, every_step}

module _ (ps : List Pattern) (i : ℕ) where
  means : (c : ℕ) → (covered_by ps i c ≡ true) ↔ CoveredIn ps i c
  means = covers_means (get_or ps i no_pattern)

  violates : (c : ℕ) → ViolatesRule (never ps i) (c ∷ []) ↔ CoveredIn ps i c
  violates c = (forth, λ h. by_code ((means c).1 h) by_falsity)
    where
      forth : ViolatesRule (never ps i) (c ∷ []) → CoveredIn ps i c
      forth (by_code q x) = (means c).0 q

  drops : (s table : List ℕ) (n : ℕ) (left : List ℕ) → Fills most mark s table (never ps i) n left
      → (h : History) → Calls most mark (OnTableOrRefused most mark left n) h → 0 < length h.scans
      → (get_or h.verdicts 0 0 ≡ 1) ↔ CoveredIn ps i (get_or h.scans 0 0)
  unfolding with_verdict
  drops s table n left b h calls some =
      let first = (drops_exactly most mark s table (never ps i) n left b h calls).drops 0 some in
      let alone = violates (get_or h.scans 0 0) in
      (λ e. alone.0 (first.0 e), λ c. first.1 (alone.1 c))

  -- ---- a phone that scans a code

  module _ (c : ℕ) (byte : c < 256) where
    is_code : label_of c ≡ code c
    is_code = rw (ne_eqb c 256 (λ e. omega arith))

    only_step : {s t : ℕ} {a : Label} → StepIn (repeating_phone c).steps s a t → a ≡ code c
    only_step = every_step (λ s a t. a ≡ code c) (repeating_phone c).steps (is_code, tt)

    satisfies : Satisfies (model_of (repeating_phone c)) (never ps i) ↔ (CoveredIn ps i c → ⊥)
    satisfies = (broken, λ uncovered c' t q x. let e = only_step x.step in let same : c' ≡ c = cc in absurd (uncovered ((means c).0 (rw same at q))))
      where
        broken : Satisfies (model_of (repeating_phone c)) (never ps i) → CoveredIn ps i c → ⊥
        broken sat h = (sat c 0 ((means c).1 h) (record {
          before = 0;
          after = 0;
          silent_before = stay;
          step = rw is_code at (step_at_lem (repeating_phone c).steps 0 (omega arith));
          silent_after = stay;
        })).lower

pub pattern_meaning : (ps : List Pattern) (i : ℕ) → PatternMeaning ps i
pattern_meaning ps i = record { violates = violates ps i; drops = drops ps i; satisfies = satisfies ps i }
