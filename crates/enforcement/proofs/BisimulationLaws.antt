-- Bisimilar models have the same traces, and so satisfy the same rules: a walk of one is followed in the other, step by step.
use Prim.Native.Nat.{ℕ}
use mathlib.Core.List.{List}
use Rattle.reading.specs.Rule.{Rule}
use Rattle.enforcement.specs.Model.{silent, code, Model, Walk, stay, silent_first, code_first, Satisfies, Bisimulation, Bisimilar}
use Rattle.enforcement.specs.Promises.{BisimilarAlike}
use Rattle.enforcement.proofs.SatisfactionLaws.{satisfies_safe}

module _ (m n : Model) where
  bisimilar_walk : {R : m.State → n.State → Type 0} {s s' : m.State} {w : List ℕ} (t : n.State) → Bisimulation m n R → R s t
      → Walk m s w s' → (t' : n.State) × Walk n t w t'
  bisimilar_walk t b x stay = (t, stay)
  bisimilar_walk t b x (silent_first {s} {t = s'} h k) =
      let (u, j, y) = b.forth s s' t silent x h in
      let (t', l) = bisimilar_walk u b y k in
      (t', silent_first j l)
  bisimilar_walk t b x (code_first {s} {t = s'} {c = c} h k) =
      let (u, j, y) = b.forth s s' t (code c) x h in
      let (t', l) = bisimilar_walk u b y k in
      (t', code_first j l)

  bisimilar_sym : Bisimilar m n → Bisimilar n m
  bisimilar_sym (R, b, x) =
      (λ t s. R s t, record { forth = λ t t' s a. b.back s t t' a; back = λ t s s' a. b.forth s s' t a }, x)

  bisimilar_satisfies : Bisimilar m n → (r : Rule) → Satisfies n r → Satisfies m r
  bisimilar_satisfies (R, b, x) r sat =
      (satisfies_safe m r).1 (λ w s k v. let (t, j) = bisimilar_walk n.start b x k in (satisfies_safe n r).0 sat w t j v)

pub bisimilar_alike : BisimilarAlike
bisimilar_alike m n b r = (bisimilar_satisfies n m (bisimilar_sym m n b) r, bisimilar_satisfies m n b r)
