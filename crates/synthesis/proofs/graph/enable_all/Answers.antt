use Rattle.std.proofs.Common.{arith}
use Rattle.synthesis.proofs.Functions.NumberedNodes.{nnodes_is, some_other}
use Rattle.synthesis.proofs.Functions.EnabledLaws.{enabled_none, enabled_all}
use Rattle.synthesis.proofs.graph.enable_all.Goals as goal

pub loop-k-init : goal.loop-k-init
loop-k-init c r num = enabled_none r 256

pub enable-requires : goal.enable-requires
enable-requires c = some_other c.requires (omega arith)

pub returns : goal.returns
returns c r num = enabled_all (omega (arith, nnodes_is num)) (c.loop-k.invariant r num)
