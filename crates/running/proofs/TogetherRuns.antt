-- Runs of all rules together: what one scan more does, by the answer to it; and that each rule stays the same but for its equation, and fit, by
-- induction over the run.
use Prim.Native.Nat.{ℕ, ◌<◌}
use mathlib.Core.Path.{◌≡◌, refl, ◌∙◌, ap}
use mathlib.Core.List.{List, [], ◌∷◌, map}
use native.Mathlib.Omega.{arith}
use lib.ListN.{length, get_or, length-map, replicate}
use Rattle.reading.proofs.Basics.ListLaws.{mapped_at}
use Rattle.synthesis.specs.Joined.{Some}
use Rattle.synthesis.specs.Monitor.{Answer, dropped, next, ended}
use Rattle.synthesis.proofs.Monitors.Runs.{run_induction, kept_last, ended_last, verdicts_last, kept_drop, ended_drop, verdicts_drop}
use Rattle.synthesis.proofs.Tables.WellFormedTables.{lookup_inside}
use Rattle.running.specs.Lists.{any}
use Rattle.running.specs.Running.{RunOver, run_by}
use Rattle.running.specs.Duty.{vacant, own_answer, moved_to, moved_by, together}
use Rattle.running.specs.DutyPromises.{EachMoves, KeepsTogether, FitRule}
use Rattle.running.specs.declared.OnDuty.{OnDuty}
use Rattle.running.proofs.TogetherLaws.{OwnDrop, together_drops, together_moves, together_next, moved_by_lem}
use Rattle.running.proofs.ListTests.{some_at}

-- ---- one scan more

module _ (mark : ℕ) (tables : List ℕ) where
  each_moves : (c : ℕ) (ds : List OnDuty) → (Some (OwnDrop mark tables c) ds → ⊥) → EachMoves mark tables c ds (map (moved_by mark tables c) ds)
  each_moves c ds none = record {
    same_length = length-map ds (moved_by mark tables c);
    moves = λ i h. on i h (own_answer mark tables c (get_or ds i vacant)) refl;
  }
    where
      on : (i : ℕ) → i < length ds → (a : Answer ℕ) → own_answer mark tables c (get_or ds i vacant) ≡ a
          → (e : ℕ)
          × (own_answer mark tables c (get_or ds i vacant) ≡ next e)
          × (get_or (map (moved_by mark tables c) ds) i vacant ≡ moved_to (get_or ds i vacant) e)
      on i h dropped q = absurd (none ((some_at (OwnDrop mark tables c) vacant ds).1 (i, h, q)))
      on i h (next e) q = (e, q, mapped_at (moved_by mark tables c) ds i vacant vacant h ∙ moved_by_lem mark tables c (get_or ds i vacant) e q)

  nobody : (w : List ℕ) → run_by (together mark tables) [] w ≡ record { state = []; kept = w; verdicts = replicate (length w) 0 }
  unfolding any
  nobody [] = refl
  nobody (c ∷ w) = ap (λ (y : RunOver (List OnDuty)). record { state = y.state; kept = c ∷ y.kept; verdicts = 0 ∷ y.verdicts }) (nobody w)

  pub keeps_together : KeepsTogether mark tables
  keeps_together = record {
    one_more = λ ds w c.
        let F = together mark tables in
        let before = ended F ds w in
        record {
          drops = λ s.
              let q = (together_drops mark tables c before).1 s in
              rw (ended_drop F ds w c q, kept_drop F ds w c q, verdicts_drop F ds w c q);
          keeps = λ none.
              let q = together_moves mark tables c before none in
              rw (ended_last F ds w c q, kept_last F ds w c q, verdicts_last F ds w c q) (each_moves c before none, refl);
        };
    nothing = λ ds. refl;
    nobody = nobody;
  }

  next_moves : (c : ℕ) (ds ds' : List OnDuty) → together mark tables ds c ≡ next ds' → EachMoves mark tables c ds ds'
  next_moves c ds ds' q = let (none, is) = together_next mark tables c ds ds' q in rw is (each_moves c ds none)

-- ---- what stays through a run

module _ (limit mark : ℕ) (tables : List ℕ) where
  -- the same rules, each in some equation, and fit if it was
  pub record Stay (ds ds' : List OnDuty) : Type 0 where
    pub same_length : length ds' ≡ length ds
    pub each : (i : ℕ) → i < length ds
        → (e : ℕ)
        × (get_or ds' i vacant ≡ moved_to (get_or ds i vacant) e)
        × (FitRule limit mark tables (get_or ds i vacant) → FitRule limit mark tables (get_or ds' i vacant))

  moved_fit : (x : OnDuty) (c e : ℕ) → own_answer mark tables c x ≡ next e → FitRule limit mark tables x → FitRule limit mark tables (moved_to x e)
  moved_fit x c e q fit = record { table = fit.table; equation = lookup_inside fit.table x.equation c e fit.equation q }

  stay_next : (c : ℕ) (ds ds' ds'' : List OnDuty) → EachMoves mark tables c ds ds' → Stay ds' ds'' → Stay ds ds''
  stay_next c ds ds' ds'' once rest = record {
    same_length = rest.same_length ∙ once.same_length;
    each = λ i h.
        let (e, q, is) = once.moves i h in
        let (e'', is'', fit) = rest.each i (omega (arith, once.same_length)) in
        (e'', is'' ∙ rw is, λ was. fit (rw is (moved_fit (get_or ds i vacant) c e q was)));
  }

  pub rules_stay : (ds : List OnDuty) (w : List ℕ) → Stay ds (ended (together mark tables) ds w)
  rules_stay =
      run_induction (together mark tables) (λ ds w. Stay ds (ended (together mark tables) ds w))
      (λ ds. record { same_length = refl; each = λ i h. ((get_or ds i vacant).equation, refl, λ fit. fit) }) (λ ds c w q h. rw q h)
      (λ ds ds' c w q h. rw q (stay_next c ds ds' (ended (together mark tables) ds' w) (next_moves mark tables c ds ds' q) h))
