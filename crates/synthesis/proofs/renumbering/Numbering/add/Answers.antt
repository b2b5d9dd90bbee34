use Rattle.std.proofs.Common.{◌∙◌, arith}
use Rattle.synthesis.proofs.Functions.NumberingClasses.{numbered_new, numbered_old}
use Rattle.synthesis.proofs.renumbering.Numbering.add.Goals.{then-class-equation, else-class-equation}
use Rattle.synthesis.proofs.renumbering.Numbering.add.Goals as goal

pub returns-clause-numbered : goal.returns-clause-numbered
returns-clause-numbered c classes class again was = elim c.if-class-equation.branch [
  | then-class-equation w ↦
      rw (w.self-is, w.if-class-equation.true) (numbered_new classes _ _ _ _ was (omega arith) (class ∙ w.if-class-equation.true) (omega arith))
  | else-class-equation w ↦
      let other = w.if-class-equation.false in rw w.self-is (numbered_old classes _ _ _ _ was (omega arith) _ class again (omega arith))
]
