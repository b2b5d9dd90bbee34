use Rattle.std.proofs.Common.{arith}
use Rattle.synthesis.proofs.Functions.NumberedNodes.{nnodes_is}
use Rattle.synthesis.proofs.Functions.EnabledLaws.{pattern_below_32, enabled_other, enabled_necessity}
use Rattle.synthesis.proofs.graph.enable.Goals as goal

pub bounds-rule-pattern : goal.bounds-rule-pattern
bounds-rule-pattern c = pattern_below_32 c.requires c.in-Necessity.is

pub returns-in-Necessity : goal.returns-in-Necessity
returns-in-Necessity c r num w =
    let some = c.requires in
    enabled_necessity num w (omega (arith, some.below, nnodes_is some.is_numbered, nnodes_is num)) c.in-Necessity.is c.add_to_codes.ensures

pub returns-in_default : goal.returns-in_default
returns-in_default c r num w = enabled_other num w c.in_default.not-Necessity
