-- The sets of the codes passed are done.
use Rattle.synthesis.proofs.Functions.AddingToCodes.{AddedToCodesBelow}
use Rattle.synthesis.proofs.graph.add_to_codes.Given as goal

abbrev pub invariant-loop-code : goal.invariant-loop-code
invariant-loop-code l = AddedToCodesBelow l.code l.p l.k l.initial.enabled l.enabled
