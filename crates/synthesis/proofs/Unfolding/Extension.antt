-- A list that goes on from one that violates a formula violates it: by the same steps, which never look at the end of the list.
use Prim.Native.Nat.{ℕ}
use mathlib.Core.Bool.{Bool}
use mathlib.Core.List.{List, ◌++◌}
use Rattle.reading.specs.Rule.{Formula}
use Rattle.synthesis.specs.Violation.{Violates, by_falsity, by_first, by_second, by_code, by_body, by_variable}
use Rattle.synthesis.specs.Promises.{ClosedUnderExtension}

violates_extension : {covered : ℕ → ℕ → Bool} {bodies : List Formula} {f : Formula} {w : List ℕ} (v : List ℕ) → Violates covered bodies f w
    → Violates covered bodies f (w ++ v)
violates_extension v by_falsity = by_falsity
violates_extension v (by_first h) = by_first (violates_extension v h)
violates_extension v (by_second h) = by_second (violates_extension v h)
violates_extension v (by_code p h) = by_code p (violates_extension v h)
violates_extension v (by_body h) = by_body (violates_extension v h)
violates_extension v (by_variable q h) = by_variable q (violates_extension v h)

pub closed_under_extension : ClosedUnderExtension
closed_under_extension covered bodies f w v h = violates_extension v h
