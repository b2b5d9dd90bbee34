-- Expanding a pair, one outgoing step after the other along the chain of its state: each step from there on has been followed.
use Prim.Native.Nat.{ℕ, ◌+◌, ◌*◌, ◌/◌, ◌%◌, ◌≤◌, ◌<◌}
use mathlib.Core.Path.{◌≡◌, refl, sym, ◌∙◌, ap}
use mathlib.Core.List.{List}
use Rattle.std.proofs.Common.{Option, Some, None}
use native.Mathlib.Decide.{dec_le, dec_lt}
use native.Mathlib.Omega.{arith}
use lib.ListN.{length, get_or}
use Rattle.models.specs.Phone.{no_step}
use Rattle.synthesis.specs.Monitor.{mark, most}
use Rattle.synthesis.specs.Table.{WellFormedTable}
use Rattle.models.specs.Exploring.{StepsWithinLimits, Chains, last_from, pair_limit, Enqueued}
use Rattle.models.specs.Searching.{Outgoing, equation_after, Followed, DroppedStep, Expands}
use Rattle.models.specs.declared.Step.{Step}
use Rattle.models.specs.declared.links.Links.{Links}
use Rattle.models.specs.declared.worklist.Worklist.{Worklist}
use Rattle.models.proofs.Pairs.Leading.{leads_inside}
use Rattle.models.proofs.Pairs.LinkLaws.{IsLast, last_from_none, last_from_some}
use Rattle.models.proofs.Pairs.WorklistLaws.{extended_trans}

-- how many steps the chain may still have that begins with this one
abbrev pub left_of : Option ℕ → ℕ
left_of None = 0
left_of (Some i) = i + 1

-- The pair has been expanded up to the n-th step, and the next one is the last before it from its state.
pub record ExpandedUpTo (steps : List Step) (table : List ℕ) (pair : ℕ) (w w' : Worklist) (next : Option ℕ) : Type 0 where
  pub n : ℕ
  pub few : n ≤ length steps
  pub next_is : next ≡ last_from steps (pair % 64) n
  pub expands : Expands steps table pair w w' n

module _ {steps : List Step} {table : List ℕ} {pair : ℕ} {w : Worklist} where
  module _ {w' : Worklist} {next : Option ℕ} (e : ExpandedUpTo steps table pair w w' next) where
    -- no step is left
    pub expanded_all : next ≡ None → Expands steps table pair w w' 0
    expanded_all none = record { extended = e.expands.extended; followed = λ i h out. on i out (dec_le e.n i) }
      where
        on : (i : ℕ) → Outgoing steps table pair i → Dec (e.n ≤ i) → Followed steps table pair w' i
        on i out (yes h) = e.expands.followed i h out
        on i out (no h) = absurd (last_from_none steps (pair % 64) e.n (sym e.next_is ∙ none) i (omega arith) out.from_is)

    module _ {i : ℕ} (some : next ≡ Some i) where
      pub next_last : IsLast steps (pair % 64) e.n i
      next_last = last_from_some steps (pair % 64) e.n i (sym e.next_is ∙ some)

      pub next_inside : i < length steps
      next_inside = omega (arith, next_last.inside, e.few)

      next_outgoing : Outgoing steps table pair i
      next_outgoing = record { inside = next_inside; from_is = next_last.from_is }

      pub next_dropped : equation_after steps table pair i ≡ None → DroppedStep steps table pair
      next_dropped none = record { step = i; outgoing = next_outgoing; is_dropped = none }

      -- its pair is one of those that there may be
      pub next_target : StepsWithinLimits steps → {count : ℕ} → WellFormedTable most mark count table → pair / 64 < count → {equation : ℕ}
          → Some equation ≡ equation_after steps table pair i → 64 * equation + (get_or steps i no_step).to < pair_limit
      next_target within wf inside kept =
          omega (arith, leads_inside table (pair / 64) (get_or steps i no_step).label wf inside _ (sym kept), wf.few, (within.among i).to)

      before_is : {l : Links} → Chains steps l → {next' : Option ℕ} → next' ≡ get_or l.earlier i None → next' ≡ last_from steps (pair % 64) i
      before_is chains is = is ∙ chains.earlier_is i next_inside ∙ ap (λ (s : ℕ). last_from steps s i) next_last.from_is

      pub next_smaller : {l : Links} → Chains steps l → {next' : Option ℕ} → next' ≡ get_or l.earlier i None → left_of next' < left_of next
      next_smaller chains {next'} is = rw some (on next' (before_is chains is))
        where
          on : (o : Option ℕ) → o ≡ last_from steps (pair % 64) i → left_of o < i + 1
          on None e = omega arith
          on (Some j) e = omega (arith, (last_from_some steps (pair % 64) i j (sym e)).inside)

      pub expanded_next : {l : Links} → Chains steps l → {equation : ℕ} → Some equation ≡ equation_after steps table pair i → {w'' : Worklist}
          → Enqueued (64 * equation + (get_or steps i no_step).to) w' w'' → {next' : Option ℕ} → next' ≡ get_or l.earlier i None
          → ExpandedUpTo steps table pair w w'' next'
      expanded_next {l} chains {equation} kept {w''} enqueued {next'} is = record {
        n = i;
        few = omega (arith, next_inside);
        next_is = before_is chains is;
        expands = record {
          extended = extended_trans _ _ e.expands.extended enqueued.extended
              (λ p h. record { step = i; outgoing = next_outgoing; leads = record { equation = equation; kept = sym kept; is = sym h } });
          followed = λ j h out. on j h out (dec_le e.n j) (dec_lt i j);
        };
      }
        where
          here : Followed steps table pair w'' i
          here = record { target = _; leads = record { equation = equation; kept = sym kept; is = refl }; is_seen = enqueued.is_seen }

          on : (j : ℕ) → i ≤ j → Outgoing steps table pair j → Dec (e.n ≤ j) → Dec (i < j) → Followed steps table pair w'' j
          on j h out (yes a) d =
              let f = e.expands.followed j a out in
              record { target = f.target; leads = f.leads; is_seen = enqueued.extended.keeps_seen f.target f.is_seen }
          on j h out (no a) (yes b) = absurd (next_last.none_after j b (omega arith) out.from_is)
          on j h out (no a) (no b) = let same : j ≡ i = omega arith in rw same here
