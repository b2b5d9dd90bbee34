-- At first the rules stand in their own equations. One scan more.
use Rattle.std.proofs.Common.{arith, rules}
use Rattle.synthesis.specs.Monitor.{mark}
use Rattle.running.specs.Duty.{vacant, on_duty, together}
use Rattle.running.proofs.Buffers.{filled_none}
use Rattle.running.proofs.PlaceLaws.{standing_own}
use Rattle.running.proofs.ServingSteps.{after_next}
use Rattle.running.proofs.serving.follow_all.Goals as goal

pub loop-i-init : goal.loop-i-init
loop-i-init c =
    let x = c.args in
    let d = x.roster.duty in
    let few = x.roster.few in
    record {
      stand = standing_own d.count d.rules c.map-equations.result (λ i h. let e = c.map-equations.ensures.items.at i vacant 0 (omega arith) in search rules);
      filled = filled_none (together mark x.tables.now) (on_duty d) x.output.now x.verdicts.now x.scans.now;
    }

pub loop-i-preserved : goal.loop-i-preserved
loop-i-preserved c =
    after_next mark _ _ _ _ _ _ _ _ _ _ _ c.loop-i.invariant c.loop-i-test.true c.requires.0 c.requires.1
    c.look-looked.result.drops c.look-looked.ensures.drops_value c.look-looked.ensures.equations_value
    c.select_unpredictable.ensures c.from.ensures c.from-kept.ensures
