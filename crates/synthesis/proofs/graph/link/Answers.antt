use Rattle.std.proofs.Common.{refl, arith}
use Rattle.synthesis.proofs.Functions.NumberedNodes.{some_below_64, some_next}
use Rattle.synthesis.proofs.Functions.Linking.{linked_max, linked_necessity, linked_other}
use Rattle.synthesis.proofs.graph.link.Goals as goal

pub opening-requires : goal.opening-requires
opening-requires c = some_next c.requires c.in-Max.is refl

pub returns-in-Max : goal.returns-in-Max
returns-in-Max c r num l = linked_max num l (omega (arith, some_below_64 c.requires)) c.in-Max.is c.opening.ensures

pub opening-requires-in-Necessity : goal.opening-requires-in-Necessity
opening-requires-in-Necessity c = some_next c.requires c.in-Necessity.is refl

pub returns-in-Necessity : goal.returns-in-Necessity
returns-in-Necessity c r num l =
    linked_necessity num l (omega (arith, some_below_64 c.requires)) c.in-Necessity.is c.opening-in-Necessity.ensures

pub returns-in_default : goal.returns-in_default
returns-in_default c r num l = linked_other num l c.in_default.not-Max c.in_default.not-Necessity
