-- Following scans from an equation: either all are kept, and they lead to the equation in which the run ends, or the first that is dropped is the last of
-- the shortest front of which something is dropped. By induction on the scans.
use Prim.Native.Nat.{ℕ, suc, ◌+◌, ◌<◌}
use mathlib.Core.Path.{◌≡◌, refl}
use mathlib.Core.List.{List, [], ◌∷◌}
use native.Mathlib.Omega.{arith}
use lib.ListN.{length, take}
use Rattle.reading.specs.Rule.{All}
use Rattle.reading.specs.File.{accepted, refused}
use Rattle.synthesis.specs.Monitor.{Answer, dropped, next, cases, ended, Suppresses, now, later}
use Rattle.synthesis.specs.Reason.{followed}
use Rattle.synthesis.proofs.Monitors.MonitorLaws.{suppresses_nothing, suppresses_rest}

module _ (answer : ℕ → ℕ → Answer ℕ) where
  -- the two ways, with i scans before these
  pub data Follows (e i : ℕ) (w : List ℕ) : Type 0 where
    all_kept : (Suppresses answer e w → ⊥) → followed answer e i w ≡ accepted (ended answer e w) → Follows e i w
    first_dropped : (j : ℕ) → j < length w → (Suppresses answer e (take j w) → ⊥) → Suppresses answer e (take (suc j) w)
        → followed answer e i w ≡ refused 17 (i + j) → Follows e i w

  pub follows : (w : List ℕ) (e i : ℕ) → Follows e i w
  follows [] e i = all_kept (suppresses_nothing answer) refl
  follows (c ∷ w) e i = on (answer e c) refl (λ e'. follows w e' (suc i))
    where
      on : (a : Answer ℕ) → answer e c ≡ a → ((e' : ℕ) → Follows e' (suc i) w) → Follows e i (c ∷ w)
      on dropped q rest =
          let here : i + 0 ≡ i = omega arith in
          first_dropped 0 (omega arith) (suppresses_nothing answer) (now q) (rw (q, here))
      on (next e') q rest = more (rest e')
        where
          more : Follows e' (suc i) w → Follows e i (c ∷ w)
          more (all_kept none o) = all_kept (λ s. none (suppresses_rest answer q s)) (rw q o)
          more (first_dropped j h none s o) =
              let place : i + suc j ≡ suc i + j = omega arith in
              first_dropped (suc j) (omega arith) (λ x. none (suppresses_rest answer q x)) (later q s) (rw (q, place) o)

-- answers that agree on codes lead to the same
pub followed_cong : (codes : ℕ) (answer answer' : ℕ → ℕ → Answer ℕ) → ((e c : ℕ) → c < codes → answer e c ≡ answer' e c) → (w : List ℕ)
    → All (λ c. c < codes) w → (e i : ℕ) → followed answer e i w ≡ followed answer' e i w
followed_cong codes answer answer' agree [] all e i = refl
followed_cong codes answer answer' agree (c ∷ w) (code, all) e i =
    rw (agree e c code) (on (answer' e c) (λ e'. followed_cong codes answer answer' agree w all e' (suc i)))
  where
    on : (a : Answer ℕ) → ((e' : ℕ) → followed answer e' (suc i) w ≡ followed answer' e' (suc i) w)
        → cases a (refused 17 i) (λ e'. followed answer e' (suc i) w) ≡ cases a (refused 17 i) (λ e'. followed answer' e' (suc i) w)
    on dropped same = refl
    on (next e') same = same e'
