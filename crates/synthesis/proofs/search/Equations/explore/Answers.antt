use Rattle.std.proofs.Common.{◌+◌, ◌<◌, length, refl, sym, ◌∙◌, arith}
use Rattle.synthesis.specs.Search.{explored}
use Rattle.synthesis.specs.Arrays.{answer_by}
use Rattle.synthesis.proofs.Functions.Exits.{passed}
use Rattle.synthesis.proofs.Functions.FoundLaws.{explored_some, explored_none, explored_longer}
use Rattle.synthesis.proofs.search.Equations.explore.Goals as goal
use Rattle.synthesis.proofs.search.Equations.explore.Goals.{in-Some+in_ok-insert, in_default}

pub loop-code-init : goal.loop-code-init
unfolding explored
loop-code-init c = refl

pub returns-in_err-insert : goal.returns-in_err-insert
returns-in_err-insert c =
    let x = c.args in
    let k = c.loop-code.code in
    let l = x.self.now.equations in
    let answer = answer_by x.graph.now in
    let more = explored_some 256 answer x.e k l (sym c.in-Some.is ∙ c.answer.ensures) in
    let (refused, past) = c.in_err-insert.ensures in
    let over : x.self.now.limit < length (explored 256 answer x.e (k + 1) l) = rw more (rw c.loop-code.invariant at past) in
    passed _ _ _ _ c.from_residual.ensures.1 (refused, omega (arith, over, explored_longer 256 answer x.e (k + 1) 256 l (omega arith)))

pub loop-code-preserved : goal.loop-code-preserved
loop-code-preserved c =
    let x = c.args in
    let k = c.loop-code.code in
    let l = x.self.now.equations in
    let answer = answer_by x.graph.now in
    elim c.match-answer.branch [
      | in-Some+in_ok-insert w ↦
          w.self-is ∙ w.in_ok-insert.ensures
          ∙ rw (explored_some 256 answer x.e k l (sym w.in-Some.is ∙ c.answer.ensures), c.loop-code.invariant) refl
      | in_default w ↦ w.self-is ∙ rw (explored_none 256 answer x.e k l (sym w.in_default.is ∙ c.answer.ensures)) c.loop-code.invariant
    ]
