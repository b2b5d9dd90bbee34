-- The rules on duty are one monitor: it suppresses something of exactly the lists of which the monitor of one of them does, by induction on the list.
-- So in their first equations they are a monitor of the rule that joins theirs, which exactly the lists violate that violate one of the rules.
use Prim.Native.Nat.{ℕ}
use mathlib.Core.Path.{◌≡◌, refl}
use mathlib.Core.Logic.{◌↔◌, inl, inr, ⊎_elim, ⊎_map}
use mathlib.Core.List.{List, [], ◌∷◌, map}
use native.Mathlib.Omega.{arith}
use lib.ListN.{drop}
use Rattle.reading.specs.Rule.{Rule, Bytes}
use Rattle.synthesis.specs.Violation.{ViolatesRule}
use Rattle.synthesis.specs.Joined.{Some}
use Rattle.synthesis.specs.Monitor.{Answer, dropped, next, Suppresses, now, later, lookup}
use Rattle.synthesis.proofs.Monitors.MonitorLaws.{suppresses_nothing, suppresses_rest}
use Rattle.synthesis.proofs.Joins.JoinLaws.{join_violates}
use Rattle.running.specs.Duty.{own_answer, moved_by, together}
use Rattle.running.specs.SpellPromises.{Serves, none, one, DutyMonitors}
use Rattle.running.specs.declared.OnDuty.{OnDuty}
use Rattle.running.proofs.TogetherLaws.{OwnDrop, together_drops, together_moves, moved_by_lem}

never : {E : Type 0} {a : Answer E} {e : E} → a ≡ next e → a ≡ dropped → ⊥
never p q = let z : ◌≡◌ {A = ℕ} 0 1 = cc in omega arith

-- ---- what they suppress

module _ (mark : ℕ) (tables : List ℕ) where
  -- the monitor of one rule, from where the rule stands, suppresses something of the list
  abbrev OwnSuppresses : List ℕ → OnDuty → Type 0
  OwnSuppresses w d = Suppresses (lookup 256 mark (drop d.base tables)) d.equation w

  none_of_nothing : (ds : List OnDuty) → Some (OwnSuppresses []) ds → ⊥
  none_of_nothing [] s = s
  none_of_nothing (d ∷ ds) s = ⊎_elim (suppresses_nothing (lookup 256 mark (drop d.base tables))) (none_of_nothing ds) s

  -- by a code that all keep, each goes on to what its own monitor does with the rest
  own_rest : (c : ℕ) (w : List ℕ) (d : OnDuty) → (OwnDrop mark tables c d → ⊥) → OwnSuppresses w (moved_by mark tables c d) ↔ OwnSuppresses (c ∷ w) d
  own_rest c w d keeps = on (own_answer mark tables c d) refl
    where
      on : (a : Answer ℕ) → own_answer mark tables c d ≡ a → OwnSuppresses w (moved_by mark tables c d) ↔ OwnSuppresses (c ∷ w) d
      on dropped q = absurd (keeps q)
      on (next e) q = rw (moved_by_lem mark tables c d e q) (later q, suppresses_rest (lookup 256 mark (drop d.base tables)) q)

  some_rest : (c : ℕ) (w : List ℕ) (ds : List OnDuty) → (Some (OwnDrop mark tables c) ds → ⊥)
      → Some (OwnSuppresses w) (map (moved_by mark tables c) ds) ↔ Some (OwnSuppresses (c ∷ w)) ds
  some_rest c w [] keep = (λ s. s, λ s. s)
  some_rest c w (d ∷ ds) keep =
      let first = own_rest c w d (λ q. keep (inl q)) in
      let rest = some_rest c w ds (λ s. keep (inr s)) in
      (⊎_map first.0 rest.0, ⊎_map first.1 rest.1)

  some_now : (c : ℕ) (w : List ℕ) (ds : List OnDuty) → Some (OwnDrop mark tables c) ds → Some (OwnSuppresses (c ∷ w)) ds
  some_now c w [] s = s
  some_now c w (d ∷ ds) s = ⊎_map now (some_now c w ds) s

  pub together_suppresses : (w : List ℕ) (ds : List OnDuty) → Suppresses (together mark tables) ds w ↔ Some (OwnSuppresses w) ds
  together_suppresses [] ds = (λ l. absurd (suppresses_nothing (together mark tables) l), λ s. absurd (none_of_nothing ds s))
  together_suppresses (c ∷ w) ds = on (together mark tables ds c) refl (together_suppresses w (map (moved_by mark tables c) ds))
    where
      on : (a : Answer (List OnDuty)) → together mark tables ds c ≡ a
          → Suppresses (together mark tables) (map (moved_by mark tables c) ds) w ↔ Some (OwnSuppresses w) (map (moved_by mark tables c) ds)
          → Suppresses (together mark tables) ds (c ∷ w) ↔ Some (OwnSuppresses (c ∷ w)) ds
      on dropped q ih = (λ l. some_now c w ds ((together_drops mark tables c ds).0 q), λ s. now q)
      on (next ds') q ih =
          let keep : Some (OwnDrop mark tables c) ds → ⊥ = λ s. never q ((together_drops mark tables c ds).1 s) in
          let goes = together_moves mark tables c ds keep in
          let rest = some_rest c w ds keep in
          (λ l. rest.0 (ih.0 (suppresses_rest (together mark tables) goes l)), λ s. later goes (ih.1 (rest.1 s)))

-- ---- the join

module _ (mark : ℕ) (tables : List ℕ) (w : List ℕ) (bytes : Bytes w) where
  -- a rule is violated where the rule on duty suppresses something
  serves_some : (ds : List OnDuty) (rs : List Rule) → Serves mark tables ds rs → Some (λ r. ViolatesRule r w) rs ↔ Some (OwnSuppresses mark tables w) ds
  serves_some ds rs none = (λ s. s, λ s. s)
  serves_some ds rs (one {d = d} {r = r} {ds = others} {rs = theirs} first monitors rest) =
      let own : ViolatesRule r w ↔ OwnSuppresses mark tables w d = rw first (monitors w bytes) in
      let ih = serves_some others theirs rest in
      (⊎_map own.0 ih.0, ⊎_map own.1 ih.1)

pub duty_monitors : DutyMonitors
duty_monitors mark tables ds r rs well serves w bytes =
    let joins = join_violates r rs well w in
    let rules = serves_some mark tables w bytes ds (r ∷ rs) serves in
    let all = together_suppresses mark tables w ds in
    (λ v. all.1 (rules.0 (joins.0 v)), λ l. joins.1 (rules.1 (all.0 l)))
