-- At the start there are no calls, and each block is one more.
use Rattle.std.proofs.Common.{refl, ◌∙◌, take, length-take, arith}
use Rattle.running.specs.Calls.{no_calls, none}
use Rattle.commands.proofs.SiftingLaws.{ends_calls_next}
use Rattle.commands.proofs.sifting.sift_all.Goals as goal
use Rattle.commands.proofs.sifting.sift_all.Goals.{then-n-eq0-via-then-n-eq0, then-n-eq0-via-else-n-eq0+then-not-sift}

pub loop-init : goal.loop-init
loop-init g c = (refl, refl, (no_calls, none, c.start.ensures))

pub loop-preserved : goal.loop-preserved
loop-preserved g c =
    let s = c.sift.ensures in
    let (table, count, ends) = c.loop.invariant in
    let scans = length-take c.read-n.result c.read_once.new.buffer in (
      s.same_table ∙ table,
      s.same_count ∙ count,
      ends_calls_next (take c.read-n.result c.read_once.new.buffer) 65536 c.requires ends (omega arith) s.bytes (rw (table, count) at s.state_value),
    )

pub returns-then-n-eq0 : goal.returns-then-n-eq0
returns-then-n-eq0 g c =
    let (table, count, ends) = c.loop.invariant in
    let scans = length-take c.read-n.result c.read_once.new.buffer in
    elim c.then-n-eq0.branch [
      | then-n-eq0-via-then-n-eq0 w ↦ rw w.sifter-is ends
      | then-n-eq0-via-else-n-eq0+then-not-sift w ↦
          let s = w.sift.ensures in
          rw w.sifter-is
          (ends_calls_next (take c.read-n.result c.read_once.new.buffer) 65536 c.requires ends (omega arith) s.bytes (rw (table, count) at s.state_value))
    ]
