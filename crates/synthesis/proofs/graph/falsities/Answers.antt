use Rattle.std.proofs.Common.{◌<◌, sym, ◌∙◌, refl, true≢false, length-take-le, arith}
use Rattle.synthesis.proofs.Functions.NumberedNodes.{nnodes_is}
use Rattle.synthesis.proofs.Functions.SetsByTest.{falsities_none, falsities_next, falsities_all}
use Rattle.synthesis.proofs.graph.falsities.Goals as goal
use Rattle.synthesis.proofs.graph.falsities.Goals.{in-Falsity, in_default}

pub loop-k-init : goal.loop-k-init
loop-k-init c r num = falsities_none r

pub loop-k-preserved : goal.loop-k-preserved
loop-k-preserved c r num =
    let inside : c.loop-k.k < c.args.rule.now.nnodes = omega (arith, length-take-le c.args.rule.now.nnodes c.args.rule.now.nodes) in
    falsities_next num c.match-matches.matches inside c.with_node-set.ensures
    (elim c.match-matches.branch [
      | in-Falsity w ↦ (λ t. w.in-Falsity.is, λ is. w.matches-is)
      | in_default w ↦ (λ t. absurd (true≢false (sym t ∙ w.matches-is)), λ is. absurd (w.in_default.not-Falsity is))
    ])
    (c.loop-k.invariant r num)

pub returns : goal.returns
returns c r num = falsities_all (omega (arith, nnodes_is num)) (c.loop-k.invariant r num)
