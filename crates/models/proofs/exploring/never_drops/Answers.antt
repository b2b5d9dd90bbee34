-- The invariant of the search holds once the start is seen, and its two ends say what is asked.
use Rattle.std.proofs.Common.{refl, arith}
use mathlib.Core.Bool.{false≢true}
use Rattle.models.proofs.Pairs.WorklistLaws.{empty_lists, taken_lists}
use Rattle.models.proofs.Pairs.Exploration.{explored_start, explored_next, ends_dropped, ends_undropped}
use Rattle.models.proofs.exploring.never_drops.Goals as goal

pub enqueue-requires : goal.enqueue-requires
enqueue-requires c = (empty_lists, omega arith)

pub loop-pair-init : goal.loop-pair-init
loop-pair-init c = explored_start c.requires.0 c.enqueue.ensures

pub has_dropped-requires-clause-listed : goal.has_dropped-requires-clause-listed
has_dropped-requires-clause-listed c = taken_lists c.loop-pair.invariant.lists_seen c.in-Some.ensures

pub returns-then-has_dropped : goal.returns-then-has_dropped
returns-then-has_dropped c = (
  λ e. absurd (false≢true e),
  λ never.
      absurd (ends_dropped c.requires.0 c.loop-pair.invariant c.in-Some.ensures (c.has_dropped.ensures.dropped c.if-has_dropped.true) never),
)

pub loop-pair-preserved : goal.loop-pair-preserved
loop-pair-preserved c =
    explored_next c.requires.0 c.loop-pair.invariant c.in-Some.ensures (c.has_dropped.ensures.kept c.if-has_dropped.false)

pub returns : goal.returns
returns c = (λ e. ends_undropped c.requires.0 c.loop-pair.invariant c.in_default.ensures, λ never. refl)
