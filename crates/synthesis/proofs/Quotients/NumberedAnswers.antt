-- The answers of a synthesis by numbers: its equations renamed to their indices.
use Prim.Native.Nat.{ℕ, ◌<◌}
use mathlib.Core.Path.{◌≡◌, refl}
use native.Mathlib.Omega.{arith}
use lib.ListN.{length, get_or}
use Rattle.synthesis.specs.Monitor.{Answer, dropped, next, cases}
use Rattle.synthesis.specs.Search.{index_of}
use Rattle.synthesis.specs.Building.{Synthesis, numbered_answer}
use Rattle.synthesis.proofs.Monitors.Renaming.{Renames}
use Rattle.synthesis.proofs.Numberings.Indices.{Member, index_is}
use Rattle.synthesis.proofs.Numberings.Finding.{ClosedUnder}
use Rattle.synthesis.proofs.Quotients.Settled.{Inside}

module _ (y : Synthesis) (closed : ClosedUnder 256 y.answer y.equations) where
  pub numbered_inside : Inside 256 (numbered_answer y) (length y.equations)
  numbered_inside k c j h b q = on (y.answer (get_or y.equations k 0) c) refl q
    where
      on : (a : Answer ℕ) → y.answer (get_or y.equations k 0) c ≡ a → cases a dropped (λ e. next (index_of e y.equations)) ≡ next j
          → j < length y.equations
      on dropped p q = absurd (let z : ◌≡◌ {A = ℕ} 0 1 = cc in omega arith)
      on (next e) p q = let z : index_of e y.equations ≡ j = cc in omega (arith, closed k c e h b p)

  pub numbered_renames : Renames 256 (λ e. Member e y.equations) y.answer (numbered_answer y) (λ e. index_of e y.equations)
  numbered_renames = record {
    invariant = λ e e' c m b q. closed (index_of e y.equations) c e' m b (rw (index_is e y.equations m) q);
    drops = λ e c m b q. rw (index_is e y.equations m, q);
    follows = λ e e' c m b q. rw (index_is e y.equations m, q);
  }
