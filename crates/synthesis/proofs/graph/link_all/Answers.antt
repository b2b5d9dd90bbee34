use Rattle.std.proofs.Common.{arith}
use Rattle.synthesis.proofs.Functions.NumberedNodes.{nnodes_is, some_other}
use Rattle.synthesis.proofs.Functions.Linking.{linked_none, linked_all}
use Rattle.synthesis.proofs.graph.link_all.Goals as goal

pub loop-k-init : goal.loop-k-init
loop-k-init c r num = linked_none r 64 _

pub link-requires : goal.link-requires
link-requires c = some_other c.requires (omega arith)

pub returns : goal.returns
returns c r num = linked_all (omega (arith, nnodes_is num)) (c.loop-k.invariant r num)
