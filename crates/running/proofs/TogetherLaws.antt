-- One scan under all rules on duty: some rule would drop it where the test says so, and else each rule goes on by its own answer.
use Prim.Native.Nat.{ℕ}
use mathlib.Core.Path.{◌≡◌, refl, sym, ◌∙◌}
use mathlib.Core.Logic.{◌↔◌}
use mathlib.Core.Bool.{Bool, true, false, true≢false, false≢true}
use mathlib.Core.List.{List, map}
use native.Mathlib.Omega.{arith}
use Rattle.synthesis.specs.Joined.{Some}
use Rattle.synthesis.specs.Monitor.{Answer, dropped, next, cases}
use Rattle.running.specs.Duty.{own_answer, would_drop, some_drops, moved_to, moved_by, together}
use Rattle.running.specs.declared.OnDuty.{OnDuty}
use Rattle.running.proofs.ListTests.{any_some}

module _ (mark : ℕ) (tables : List ℕ) (c : ℕ) where
  -- a rule's own answer is dropped
  abbrev pub OwnDrop : OnDuty → Type 0
  OwnDrop d = own_answer mark tables c d ≡ dropped

  would_drop_lem : (d : OnDuty) → (would_drop mark tables c d ≡ true) ↔ OwnDrop d
  would_drop_lem d = on (own_answer mark tables c d)
    where
      on : (a : Answer ℕ) → (cases a true (λ e. false) ≡ true) ↔ (a ≡ dropped)
      on dropped = (λ e. refl, λ e. refl)
      on (next k) = (λ e. absurd (false≢true e), λ e. absurd (let o : ◌≡◌ {A = ℕ} 0 1 = cc in omega arith))

  pub some_drops_lem : (ds : List OnDuty) → (some_drops mark tables ds c ≡ true) ↔ Some OwnDrop ds
  some_drops_lem = any_some (would_drop mark tables c) OwnDrop would_drop_lem

  pub together_drops : (ds : List OnDuty) → (together mark tables ds c ≡ dropped) ↔ Some OwnDrop ds
  together_drops ds = on (some_drops mark tables ds c) refl
    where
      on : (b : Bool) → some_drops mark tables ds c ≡ b → (together mark tables ds c ≡ dropped) ↔ Some OwnDrop ds
      on true q = (λ e. (some_drops_lem ds).0 q, λ s. rw q)
      on false q = (
        λ e. absurd (let z : together mark tables ds c ≡ next (map (moved_by mark tables c) ds) = rw q in let o : ◌≡◌ {A = ℕ} 0 1 = cc in omega arith),
        λ s. absurd (true≢false (sym ((some_drops_lem ds).1 s) ∙ q)),
      )

  -- where none is dropped, all go on
  pub together_moves : (ds : List OnDuty) → (Some OwnDrop ds → ⊥) → together mark tables ds c ≡ next (map (moved_by mark tables c) ds)
  together_moves ds none = on (some_drops mark tables ds c) refl
    where
      on : (b : Bool) → some_drops mark tables ds c ≡ b → together mark tables ds c ≡ next (map (moved_by mark tables c) ds)
      on true q = absurd (none ((some_drops_lem ds).0 q))
      on false q = rw q

  -- where all go on, none is dropped
  pub together_next : (ds ds' : List OnDuty) → together mark tables ds c ≡ next ds'
      → (Some OwnDrop ds → ⊥) × (ds' ≡ map (moved_by mark tables c) ds)
  together_next ds ds' q = (none, cc (together_moves ds none))
    where
      none : Some OwnDrop ds → ⊥
      none s = let z : ◌≡◌ {A = ℕ} 0 1 = cc ((together_drops ds).1 s) in omega arith

  -- where a rule goes by a scan that it keeps
  pub moved_by_lem : (d : OnDuty) (e : ℕ) → own_answer mark tables c d ≡ next e → moved_by mark tables c d ≡ moved_to d e
  moved_by_lem d e q = rw q
