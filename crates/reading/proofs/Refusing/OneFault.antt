-- An outcome is one value: where each refusal is due to the clauses with its number and place, no two clauses differ in these.
use mathlib.Core.Path.{◌≡◌, refl, sym, ◌∙◌}
use mathlib.Core.Logic.{◌↔◌}
use Prim.Native.Nat.{ℕ}
use Rattle.reading.specs.File.{Outcome, accepted, refused}
use Rattle.reading.specs.Promises.{OneFault}
use Rattle.reading.proofs.Basics.Outcomes.{never_accepted, never_refused, refused_same}

pub one_fault : {A : Type 0} {Holds : (number place : ℕ) → Type 0} (said : Outcome A)
    → ((number place : ℕ) → (said ≡ refused number place) ↔ Holds number place) → OneFault said Holds
one_fault (accepted a) exactly = record {
  one = λ {number} {place} fault other. absurd (never_refused ((exactly number place).1 fault));
  none = (λ (x, e) number place fault. never_refused ((exactly number place).1 fault), λ h. (a, refl));
}
one_fault (refused m at) exactly = record {
  one = λ {number} {place} {number'} {place'} fault other. refused_same (sym ((exactly number place).1 fault) ∙ (exactly number' place').1 other);
  none = (λ (x, e). absurd (never_accepted e), λ h. absurd (h m at ((exactly m at).0 refl)));
}
