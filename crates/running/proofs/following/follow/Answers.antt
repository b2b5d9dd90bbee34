-- One scan more.
use Rattle.synthesis.specs.Monitor.{mark}
use Rattle.running.proofs.Stepping.{after_next}
use Rattle.running.proofs.following.follow.Goals as goal

pub loop-i-preserved : goal.loop-i-preserved
loop-i-preserved c =
    after_next mark _ _ _ _ _ _ _ _ _ _ c.loop-i.invariant c.loop-i-test.true c.requires.1 c.requires.2
    _ c.entry-entry.ensures.upper_bound c.entry-entry.ensures.value
    c.select_unpredictable.ensures c.from.ensures c.select_unpredictable-from.ensures c.from-kept.ensures
