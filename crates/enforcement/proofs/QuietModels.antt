-- A model whose steps are all silent satisfies exactly the rules that the empty list doesn't violate: it has no other trace.
use Prim.Native.Nat.{ℕ}
use mathlib.Core.Path.{◌≡◌, refl}
use mathlib.Core.Logic.{◌↔◌}
use mathlib.Core.List.{List, []}
use Rattle.reading.specs.Rule.{Rule}
use Rattle.synthesis.specs.Violation.{ViolatesRule}
use Rattle.enforcement.specs.Model.{Label, silent, code, Model, Walk, stay, silent_first, code_first, Satisfies}
use Rattle.enforcement.proofs.SatisfactionLaws.{satisfies_safe}

-- what any model satisfies
pub empty_safe : (m : Model) (r : Rule) → Satisfies m r → ViolatesRule r [] → ⊥
empty_safe m r sat = (satisfies_safe m r).0 sat [] m.start stay

abbrev pub Quiet : Label → Type 0
Quiet silent = Unit
Quiet (code c) = ⊥

module _ (m : Model) (quiet : (s t : m.State) (a : Label) → m.Step s a t → Quiet a) where
  quiet_trace : {s t : m.State} {w : List ℕ} → Walk m s w t → w ≡ []
  quiet_trace stay = refl
  quiet_trace (silent_first h k) = quiet_trace k
  quiet_trace (code_first {s} {t} {c = c} h k) = absurd (quiet s t (code c) h)

  pub quiet_satisfies : (r : Rule) → Satisfies m r ↔ (ViolatesRule r [] → ⊥)
  quiet_satisfies r = (empty_safe m r, λ fine. (satisfies_safe m r).1 (λ w t k v. fine (rw (quiet_trace k) at v)))
