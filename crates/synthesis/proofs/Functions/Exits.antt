-- What the exit of a `?` returns.
use mathlib.Core.Path.{◌≡◌}
use Rattle.std.specs.Prelude.{Result, MatchResult, IsErrAnd}
use Rattle.std.proofs.lemmas.Result.{err_from_is_err_and}
use Rattle.reading.specs.declared.refusals.Refusal.{Refusal}

-- it passes the refusal up
pub passed : {T : Type 0} (P : T → Type 0) (Q : Refusal → Type 0) (result : Result T Refusal) (r : Refusal) → IsErrAnd result (λ r'. r' ≡ r) → Q r
    → MatchResult result P Q
passed P Q result r is q = let p = err_from_is_err_and result is in rw (p.1, p.2) q
