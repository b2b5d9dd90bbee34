-- A monitor whose equations are those of another under new names. The two suppress, keep and end alike, by induction on the run.
use Prim.Native.Nat.{ℕ, ◌<◌}
use mathlib.Core.Path.{◌≡◌, refl, ap}
use mathlib.Core.Logic.{◌↔◌}
use mathlib.Core.List.{List, [], ◌∷◌}
use native.Mathlib.Omega.{arith}
use Rattle.reading.specs.Rule.{Rule, All}
use Rattle.synthesis.specs.Monitor.{Answer, dropped, next, kept, verdicts, ended, Suppresses, now, later, Monitors}
use Rattle.synthesis.proofs.Monitors.Runs.{run_induction}
use Rattle.synthesis.proofs.Monitors.MonitorLaws.{suppresses_nothing, suppresses_rest}

-- ---- runs under new names

-- Of one monitor, the equations e with `Ok e` are renamed by f to those of another, and answer each code alike. Several may get one name.
pub record Renames {E F : Type 0} (codes : ℕ) (Ok : E → Type 0) (answer : E → ℕ → Answer E) (answer' : F → ℕ → Answer F) (f : E → F)
    : Type 0 where
  pub invariant : (e e' : E) (c : ℕ) → Ok e → c < codes → answer e c ≡ next e' → Ok e'
  pub drops : (e : E) (c : ℕ) → Ok e → c < codes → answer e c ≡ dropped → answer' (f e) c ≡ dropped
  pub follows : (e e' : E) (c : ℕ) → Ok e → c < codes → answer e c ≡ next e' → answer' (f e) c ≡ next (f e')

module _ {E F : Type 0} (codes : ℕ) (Ok : E → Type 0) (answer : E → ℕ → Answer E) (answer' : F → ℕ → Answer F) (f : E → F)
    (renames : Renames codes Ok answer answer' f) where
  -- where a new name leads, its equation leads to one with that name
  pub renamed_from : (e : E) (c : ℕ) (n : F) → Ok e → c < codes → answer' (f e) c ≡ next n → (e' : E) × (answer e c ≡ next e') × (f e' ≡ n)
  renamed_from e c n ok b q = on (answer e c) refl
    where
      on : (a : Answer E) → answer e c ≡ a → (e' : E) × (answer e c ≡ next e') × (f e' ≡ n)
      on dropped p = let z : ◌≡◌ {A = ℕ} 0 1 = cc (renames.drops e c ok b p) in absurd (omega arith)
      on (next e') p = (e', p, cc (renames.follows e e' c ok b p))

  -- What holds of every run of equations that are renamed, from the answers of both monitors to each code.
  renamed_induction : (P : E → List ℕ → Type 0) → ((e : E) → Ok e → P e [])
      → ((e : E) (c : ℕ) (w : List ℕ) → answer e c ≡ dropped → answer' (f e) c ≡ dropped → P e w → P e (c ∷ w))
      → ((e e' : E) (c : ℕ) (w : List ℕ) → answer e c ≡ next e' → answer' (f e) c ≡ next (f e') → P e' w → P e (c ∷ w))
      → (e : E) (w : List ℕ) → Ok e → All (λ c. c < codes) w → P e w
  renamed_induction P none dropping keeping =
      run_induction answer (λ e w. Ok e → All (λ c. c < codes) w → P e w) (λ e ok all. none e ok)
      (λ e c w q h ok all. dropping e c w q (renames.drops e c ok all.0 q) (h ok all.1))
      (λ e e' c w q h ok all. keeping e e' c w q (renames.follows e e' c ok all.0 q) (h (renames.invariant e e' c ok all.0 q) all.1))

  pub renamed_suppresses : (e : E) (w : List ℕ) → Ok e → All (λ c. c < codes) w → Suppresses answer e w ↔ Suppresses answer' (f e) w
  renamed_suppresses =
      renamed_induction (λ e w. Suppresses answer e w ↔ Suppresses answer' (f e) w)
      (λ e ok. (λ l. absurd (suppresses_nothing answer l), λ l. absurd (suppresses_nothing answer' l)))
      (λ e c w q q' h. (λ l. now q', λ l. now q))
      (λ e e' c w q q' h. (λ l. later q' (h.0 (suppresses_rest answer q l)), λ l. later q (h.1 (suppresses_rest answer' q' l))))

  pub record Alike (e : E) (w : List ℕ) : Type 0 where
    pub keeps : kept answer' (f e) w ≡ kept answer e w
    pub judges : verdicts answer' (f e) w ≡ verdicts answer e w
    pub ends : ended answer' (f e) w ≡ f (ended answer e w)
    pub stays : Ok (ended answer e w)

  pub renamed_runs : (e : E) (w : List ℕ) → Ok e → All (λ c. c < codes) w → Alike e w
  renamed_runs =
      renamed_induction Alike (λ e ok. record { keeps = refl; judges = refl; ends = refl; stays = ok })
      (λ e c w q q' h. record {
        keeps = rw (q, q') h.keeps;
        judges = rw (q, q') (ap (λ (l : List ℕ). 1 ∷ l) h.judges);
        ends = rw (q, q') h.ends;
        stays = rw q h.stays;
      })
      (λ e e' c w q q' h. record {
        keeps = rw (q, q') (ap (λ (l : List ℕ). c ∷ l) h.keeps);
        judges = rw (q, q') (ap (λ (l : List ℕ). 0 ∷ l) h.judges);
        ends = rw (q, q') h.ends;
        stays = rw q h.stays;
      })

-- ---- twice under new names

pub renames_twice : {E F G : Type 0} (codes : ℕ) (Ok : E → Type 0) (Ok' : F → Type 0) (answer : E → ℕ → Answer E) (answer' : F → ℕ → Answer F)
    (answer'' : G → ℕ → Answer G) (f : E → F) (g : F → G) → Renames codes Ok answer answer' f → Renames codes Ok' answer' answer'' g
    → ((e : E) → Ok e → Ok' (f e)) → Renames codes Ok answer answer'' (λ e. g (f e))
renames_twice codes Ok Ok' answer answer' answer'' f g once again ok = record {
  invariant = once.invariant;
  drops = λ e c h b q. again.drops (f e) c (ok e h) b (once.drops e c h b q);
  follows = λ e e' c h b q. again.follows (f e) (f e') c (ok e h) b (once.follows e e' c h b q);
}

-- ---- monitors of a rule

-- a monitor of a rule is one under new names too
pub renamed_monitors : {E F : Type 0} (r : Rule) (Ok : E → Type 0) (answer : E → ℕ → Answer E) (answer' : F → ℕ → Answer F) (f : E → F)
    → Renames 256 Ok answer answer' f → (first : E) → Ok first → Monitors r answer first → Monitors r answer' (f first)
renamed_monitors r Ok answer answer' f renames first ok monitors w bytes =
    let rule = monitors w bytes in
    let name = renamed_suppresses 256 Ok answer answer' f renames first w ok bytes in
    (λ h. name.0 (rule.0 h), λ l. rule.1 (name.1 l))
