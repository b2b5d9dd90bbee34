use Rattle.std.proofs.Common.{◌<◌, ◌^◌, sym, ◌∙◌, arith}
use Rattle.synthesis.proofs.Unfolding.NodeSetLaws.{toggled_lt, without_lowest}
use Rattle.synthesis.proofs.Functions.Gathering.{gather_step, gather_none, has_lowest}
use Rattle.synthesis.proofs.graph.gather.Goals as goal

pub loop-rest-preserved : goal.loop-rest-preserved
loop-rest-preserved c =
    let l = c.loop-rest in
    let below : l.rest < 2 ^ 64 = omega arith in
    let member = has_lowest l.rest c.loop-rest-test.true below in
    let less = toggled_lt _ _ member in
    rw (without_lowest 64 _ (omega arith) below) (record {
      fewer = omega (arith, less);
      gathered_so_far = gather_step c.args.sets.now l.all l.rest _ member ∙ l.invariant.gathered_so_far;
    })

pub returns : goal.returns
returns c = sym (gather_none c.args.sets.now c.loop-rest.all) ∙ rw c.loop-rest-test.false at c.loop-rest.invariant.gathered_so_far
