-- What is known after each pair that was expanded, and what the two ends of the search say. Each pair seen is reachable; and once all are expanded,
-- those seen are closed under the model's steps, so that each reachable pair is seen.
use Prim.Native.Nat.{ℕ, ◌+◌, ◌*◌, ◌/◌, ◌%◌, ◌≤◌, ◌<◌}
use mathlib.Core.Path.{◌≡◌, refl, sym, ◌∙◌, ap, subst}
use mathlib.Core.Logic.{◌⊎◌, inl, inr}
use mathlib.Core.List.{List}
use Rattle.std.proofs.Common.{Some}
use Rattle.std.proofs.lemmas.Option.{none-some, same_Some}
use native.Mathlib.Decide.{dec_lt}
use native.Mathlib.Omega.{arith}
use lib.ListN.{get_or}
use Rattle.synthesis.specs.Monitor.{mark, most, dropped, next, lookup}
use Rattle.synthesis.specs.Table.{WellFormedTable}
use Rattle.enforcement.specs.Model.{Label}
use Rattle.models.specs.Phone.{no_step, label_of, StepIn}
use Rattle.models.specs.Exploring.{ReachablePair, begin, silently, keeping, NeverDrops, StepsWithinLimits, model_with}
use Rattle.models.specs.Exploring.{Seen, Enqueued, TakenPair, leads_to}
use Rattle.models.specs.Searching.{Outgoing, Successor, Followed, DroppedStep, Expands, ReachablePairNumber, Explored}
use Rattle.models.specs.declared.Step.{Step}
use Rattle.models.specs.declared.worklist.Worklist.{Worklist}
use Rattle.models.proofs.Pairs.Leading.{leads_inside, steps_silent, steps_by_code, reachable_step, dropped_step_refutes}
use Rattle.models.proofs.Pairs.WorklistLaws.{empty, empty_unseen}

module _ {steps : List Step} {table : List ℕ} (within : StepsWithinLimits steps) where
  -- an outgoing step of a pair is one of the model
  outgoing_step : {pair i : ℕ} → Outgoing steps table pair i
      → StepIn steps (pair % 64) (label_of (get_or steps i no_step).label) (get_or steps i no_step).to
  outgoing_step {i = i} out = record { index = i; inside = out.inside; from_is = out.from_is; label_is = refl; to_is = refl }

  -- ---- the successors of a pair

  module _ {pair p : ℕ} (h : Successor steps table pair p) where
    -- their state and their equation
    successor_is : (p % 64 ≡ (get_or steps h.step no_step).to) × (p / 64 ≡ h.leads.equation)
    successor_is = let state = (within.among h.step).to in (omega (arith, h.leads.is), omega (arith, h.leads.is))

    successor_inside : {count : ℕ} → WellFormedTable most mark count table → pair / 64 < count → p / 64 < count
    successor_inside wf inside =
        rw successor_is.1 (leads_inside table (pair / 64) (get_or steps h.step no_step).label wf inside h.leads.equation h.leads.kept)

    successor_reachable : ReachablePairNumber steps table pair → ReachablePairNumber steps table p
    successor_reachable reached =
        rw (successor_is.0, successor_is.1)
        (reachable_step table (pair / 64) (get_or steps h.step no_step).label (model_with steps) (pair % 64) _ reached
        (outgoing_step h.outgoing) h.leads.equation h.leads.kept)

  -- ---- the first pair seen

  pub explored_start : {w : Worklist} → Enqueued 0 empty w → Explored steps table w
  explored_start {w} enqueued = record {
    lists_seen = enqueued.extended.lists_seen;
    start_seen = enqueued.is_seen;
    inside = λ count wf p h. rw (seen_is_start p h) (omega (arith, wf.some));
    seen_reachable = λ p h. rw (seen_is_start p h) begin;
    expanded = λ k h. absurd (omega (arith, enqueued.extended.same_expanded));
  }
    where
      seen_is_start : (p : ℕ) → Seen w p → p ≡ 0
      seen_is_start p h = on (enqueued.extended.adds_only p h)
        where
          on : Seen empty p ⊎ (p ≡ 0) → p ≡ 0
          on (inl z) = absurd (empty_unseen p z)
          on (inr e) = e

  -- ---- one more pair expanded

  module _ {w w' : Worklist} {pair : ℕ} (explored : Explored steps table w) (taken : TakenPair w w' pair) where
    pair_seen : Seen w pair
    pair_seen = rw taken.first (explored.lists_seen.listed_seen w.expanded taken.more)

    pub pair_inside : {count : ℕ} → WellFormedTable most mark count table → pair / 64 < count
    pair_inside wf = explored.inside _ wf pair pair_seen

    -- a step of it is dropped
    pub ends_dropped : DroppedStep steps table pair → NeverDrops (lookup 256 mark table) 0 (model_with steps) → ⊥
    ends_dropped d =
        dropped_step_refutes table (pair / 64) (get_or steps d.step no_step).label (model_with steps) (pair % 64) (get_or steps d.step no_step).to
        (explored.seen_reachable pair pair_seen) (outgoing_step d.outgoing) d.is_dropped

    module _ {w'' : Worklist} (expands : Expands steps table pair w' w'' 0) where
      -- the worklist after taking is the one before, but for the count of pairs expanded
      seen_before : (p : ℕ) → Seen w' p → Seen w p
      seen_before p h = rw taken.taken at h

      seen_after : (p : ℕ) → Seen w p → Seen w' p
      seen_after p h = rw taken.taken h

      kept_seen : (p : ℕ) → Seen w p → Seen w'' p
      kept_seen p h = expands.extended.keeps_seen p (seen_after p h)

      kept_listed : (k : ℕ) → k < w.found → get_or w''.pairs k 0 ≡ get_or w.pairs k 0
      kept_listed k h =
          expands.extended.keeps_listed k (omega (arith, ap (λ (x : Worklist). x.found) taken.taken))
          ∙ ap (λ (x : Worklist). get_or x.pairs k 0) taken.taken

      count_is : w''.expanded ≡ w.expanded + 1
      count_is = expands.extended.same_expanded ∙ ap (λ (x : Worklist). x.expanded) taken.taken

      added_inside : (count : ℕ) → WellFormedTable most mark count table → (p : ℕ) → Seen w' p ⊎ Successor steps table pair p → p / 64 < count
      added_inside count wf p (inl h) = explored.inside count wf p (seen_before p h)
      added_inside count wf p (inr h) = successor_inside h wf (pair_inside wf)

      added_reachable : (p : ℕ) → Seen w' p ⊎ Successor steps table pair p → ReachablePairNumber steps table p
      added_reachable p (inl h) = explored.seen_reachable p (seen_before p h)
      added_reachable p (inr h) = successor_reachable h (explored.seen_reachable pair pair_seen)

      all_expanded : (k : ℕ) → k < w''.expanded → (i : ℕ) → Outgoing steps table (get_or w''.pairs k 0) i
          → Followed steps table (get_or w''.pairs k 0) w'' i
      all_expanded k h i out = on (dec_lt k w.expanded)
        where
          on : Dec (k < w.expanded) → Followed steps table (get_or w''.pairs k 0) w'' i
          on (yes a) =
              let same = kept_listed k (omega (arith, taken.more)) in
              let f = explored.expanded k a i (rw same at out) in
              rw same (record { target = f.target; leads = f.leads; is_seen = kept_seen f.target f.is_seen })
          on (no a) =
              let last : k ≡ w.expanded = omega (arith, count_is) in
              let same : get_or w''.pairs k 0 ≡ pair = kept_listed k (omega (arith, taken.more)) ∙ rw last (sym taken.first) in
              rw same (expands.followed i (omega arith) (rw same at out))

      pub explored_next : Explored steps table w''
      explored_next = record {
        lists_seen = expands.extended.lists_seen;
        start_seen = kept_seen 0 explored.start_seen;
        inside = λ count wf p h. added_inside count wf p (expands.extended.adds_only p h);
        seen_reachable = λ p h. added_reachable p (expands.extended.adds_only p h);
        expanded = all_expanded;
      }

  -- ---- the pairs seen, where all have been expanded

  module _ {w : Worklist} (explored : Explored steps table w) (all : w.found ≤ w.expanded) where
    seen_expanded : (p : ℕ) → Seen w p → (i : ℕ) → Outgoing steps table p i → Followed steps table p w i
    seen_expanded p h = let at = explored.lists_seen.seen_listed p h in rw at.2 at (explored.expanded at.0 (omega (arith, at.1)))

    -- what is known of a step from a pair seen
    record SeenTarget (e : ℕ) (a : Label) (t : ℕ) : Type 0 where
      label : ℕ
      label_is : label_of label ≡ a
      target : t < 64
      equation : ℕ
      kept : leads_to table e label ≡ Some equation
      is_seen : Seen w (64 * equation + t)

    step_target_seen : (s e : ℕ) → s < 64 → Seen w (64 * e + s) → (a : Label) (t : ℕ) → StepIn steps s a t → SeenTarget e a t
    step_target_seen s e h was-seen a t step =
        let pair = 64 * e + s in
        let state : pair % 64 ≡ s = omega arith in
        let number : pair / 64 ≡ e = omega arith in
        let f = seen_expanded pair was-seen step.index (record { inside = step.inside; from_is = step.from_is ∙ sym state }) in
        record {
          label = (get_or steps step.index no_step).label;
          label_is = step.label_is;
          target = omega (arith, (within.among step.index).to, step.to_is);
          equation = f.leads.equation;
          kept = subst (λ (n : ℕ). leads_to table n (get_or steps step.index no_step).label ≡ Some f.leads.equation) number f.leads.kept;
          is_seen = rw (← step.to_is, f.leads.is) f.is_seen;
        }

    reachable_seen : {s e : ℕ} → ReachablePair (lookup 256 mark table) 0 (model_with steps) s e → (s < 64) × Seen w (64 * e + s)
    reachable_seen begin = (omega arith, explored.start_seen)
    reachable_seen (silently {s} {t} {e} r step) =
        let h = reachable_seen r in
        let f = step_target_seen s e h.0 h.1 _ t step in
        let same = same_Some e f.equation (sym (steps_silent table e f.label f.label_is) ∙ f.kept) in
        (f.target, rw same f.is_seen)
    reachable_seen (keeping {s} {t} {e} {e'} {c} r step answer) =
        let h = reachable_seen r in
        let f = step_target_seen s e h.0 h.1 _ t step in
        let same = same_Some e' f.equation (sym (steps_by_code table e f.label c f.label_is (next e') answer) ∙ f.kept) in
        (f.target, rw same f.is_seen)

    -- no step is dropped
    pub ends_undropped : NeverDrops (lookup 256 mark table) 0 (model_with steps)
    ends_undropped s t e c r step answer =
        let h = reachable_seen r in
        let f = step_target_seen s e h.0 h.1 _ t step in
        none-some f.equation (sym (steps_by_code table e f.label c f.label_is dropped answer) ∙ f.kept)
