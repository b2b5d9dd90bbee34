-- Laws of the runs of a monitor, all by induction on the list of codes, with a case for a first code that is dropped and one for a first code that is
-- kept.
use Prim.Native.Nat.{ℕ, suc}
use mathlib.Core.Path.{◌≡◌, refl, ◌∙◌, ap}
use mathlib.Core.List.{List, [], ◌∷◌, ◌++◌, append-nil}
use lib.ListN.{length}
use Rattle.reading.specs.Rule.{All}
use Rattle.synthesis.specs.Monitor.{Answer, dropped, next, kept, verdicts, ended}

-- ---- induction over runs

module _ {E : Type 0} (answer : E → ℕ → Answer E) where
  -- What holds of every run: of one over no codes, and from the run over the rest, where the first code is dropped and where it is kept.
  pub run_induction : (P : E → List ℕ → Type 0) → ((e : E) → P e [])
      → ((e : E) (c : ℕ) (w : List ℕ) → answer e c ≡ dropped → P e w → P e (c ∷ w))
      → ((e e' : E) (c : ℕ) (w : List ℕ) → answer e c ≡ next e' → P e' w → P e (c ∷ w)) → (e : E) (w : List ℕ) → P e w
  run_induction P none drops keeps e [] = none e
  run_induction P none drops keeps e (c ∷ w) =
      on (answer e c) refl (run_induction P none drops keeps e w) (λ e'. run_induction P none drops keeps e' w)
    where
      on : (a : Answer E) → answer e c ≡ a → P e w → ((e' : E) → P e' w) → P e (c ∷ w)
      on dropped q h k = drops e c w q h
      on (next e') q h k = keeps e e' c w q (k e')

  -- ---- one list and then another

  record Joined (e : E) (w v : List ℕ) : Type 0 where
    keeps : kept answer e (w ++ v) ≡ kept answer e w ++ kept answer (ended answer e w) v
    judges : verdicts answer e (w ++ v) ≡ verdicts answer e w ++ verdicts answer (ended answer e w) v
    ends : ended answer e (w ++ v) ≡ ended answer (ended answer e w) v

  joined : (e : E) (w v : List ℕ) → Joined e w v
  joined e w v =
      run_induction (λ e w. Joined e w v) (λ e. record { keeps = refl; judges = refl; ends = refl })
      (λ e c w q h. record {
        keeps = rw q h.keeps;
        judges = rw q (ap (λ (l : List ℕ). 1 ∷ l) h.judges);
        ends = rw q h.ends;
      })
      (λ e e' c w q h. record {
        keeps = rw q (ap (λ (l : List ℕ). c ∷ l) h.keeps);
        judges = rw q (ap (λ (l : List ℕ). 0 ∷ l) h.judges);
        ends = rw q h.ends;
      }) e w

  pub kept_append : (e : E) (w v : List ℕ) → kept answer e (w ++ v) ≡ kept answer e w ++ kept answer (ended answer e w) v
  kept_append e w v = (joined e w v).keeps

  pub verdicts_append : (e : E) (w v : List ℕ) → verdicts answer e (w ++ v) ≡ verdicts answer e w ++ verdicts answer (ended answer e w) v
  verdicts_append e w v = (joined e w v).judges

  pub ended_append : (e : E) (w v : List ℕ) → ended answer e (w ++ v) ≡ ended answer (ended answer e w) v
  ended_append e w v = (joined e w v).ends

  -- ---- one more code

  -- a code that is kept goes last
  pub kept_last : (e : E) (w : List ℕ) (c : ℕ) {e' : E} → answer (ended answer e w) c ≡ next e'
      → kept answer e (w ++ (c ∷ [])) ≡ kept answer e w ++ (c ∷ [])
  kept_last e w c q = kept_append e w (c ∷ []) ∙ rw q

  pub ended_last : (e : E) (w : List ℕ) (c : ℕ) {e' : E} → answer (ended answer e w) c ≡ next e' → ended answer e (w ++ (c ∷ [])) ≡ e'
  ended_last e w c q = ended_append e w (c ∷ []) ∙ rw q

  pub verdicts_last : (e : E) (w : List ℕ) (c : ℕ) {e' : E} → answer (ended answer e w) c ≡ next e'
      → verdicts answer e (w ++ (c ∷ [])) ≡ verdicts answer e w ++ (0 ∷ [])
  verdicts_last e w c q = verdicts_append e w (c ∷ []) ∙ rw q

  -- one that is dropped adds a verdict and nothing else
  pub kept_drop : (e : E) (w : List ℕ) (c : ℕ) → answer (ended answer e w) c ≡ dropped → kept answer e (w ++ (c ∷ [])) ≡ kept answer e w
  kept_drop e w c q = kept_append e w (c ∷ []) ∙ rw q (append-nil (kept answer e w))

  pub ended_drop : (e : E) (w : List ℕ) (c : ℕ) → answer (ended answer e w) c ≡ dropped → ended answer e (w ++ (c ∷ [])) ≡ ended answer e w
  ended_drop e w c q = ended_append e w (c ∷ []) ∙ rw q

  pub verdicts_drop : (e : E) (w : List ℕ) (c : ℕ) → answer (ended answer e w) c ≡ dropped
      → verdicts answer e (w ++ (c ∷ [])) ≡ verdicts answer e w ++ (1 ∷ [])
  verdicts_drop e w c q = verdicts_append e w (c ∷ []) ∙ rw q

  -- ---- a verdict for each code

  pub verdicts_length : (e : E) (w : List ℕ) → length (verdicts answer e w) ≡ length w
  verdicts_length =
      run_induction (λ e w. length (verdicts answer e w) ≡ length w) (λ e. refl)
      (λ e c w q h. rw q (ap suc h)) (λ e e' c w q h. rw q (ap suc h))

  -- ---- what was kept has the properties of all

  pub kept_all : (P : ℕ → Type 0) (e : E) (w : List ℕ) → All P w → All P (kept answer e w)
  kept_all P =
      run_induction (λ e w. All P w → All P (kept answer e w)) (λ e all. tt)
      (λ e c w q h all. rw q (h all.1)) (λ e e' c w q h all. rw q (all.0, h all.1))

  -- ---- the run over what was kept ends where the run does

  pub ended_kept : (e : E) (w : List ℕ) → ended answer e (kept answer e w) ≡ ended answer e w
  ended_kept =
      run_induction (λ e w. ended answer e (kept answer e w) ≡ ended answer e w) (λ e. refl)
      (λ e c w q h. rw q h) (λ e e' c w q h. rw q (rw q h))
