use Rattle.std.proofs.Common.{◌+◌, ◌<◌, length, refl, ◌∙◌, ap, add-one, arith}
use Rattle.synthesis.specs.Search.{found}
use Rattle.synthesis.specs.Arrays.{answer_by, Found}
use Rattle.synthesis.proofs.Functions.Exits.{passed}
use Rattle.synthesis.proofs.Functions.FoundLaws.{found_next, found_longer}
use Rattle.synthesis.proofs.search.search.Goals as goal

pub returns-in_err-insert : goal.returns-in_err-insert
unfolding found
returns-in_err-insert c =
    let x = c.args in
    let answer = answer_by x.graph.now in
    let (refused, past) = c.in_err-insert.ensures in
    let over : x.equations.now.limit < length (found 256 answer 0 x.graph.now.first) = rw c.requires at past in
    passed _ _ _ _ c.from_residual.ensures.1 (refused, omega (arith, over, found_longer 256 answer 0 x.equations.now.limit x.graph.now.first (omega arith)))

pub loop-k-init : goal.loop-k-init
unfolding found
loop-k-init c = rw (c.in_ok-insert.ensures, c.requires) refl

pub returns-in_err-expand : goal.returns-in_err-expand
returns-in_err-expand c =
    let x = c.args in
    let k = c.loop-k.k in
    let answer = answer_by x.graph.now in
    let (refused, past) = c.in_err-expand.ensures in
    let limit = ap (λ (f : Found). f.limit) c.in_ok-insert.ensures in
    let bound = ap (λ (f : Found). f.limit) c.equations.view_is in
    let over : c.insert.new.self.limit < length (found 256 answer (k + 1) x.graph.now.first) =
    rw (add-one k, found_next 256 answer k x.graph.now.first) (rw c.loop-k.invariant at past) in
    passed _ _ _ _ c.from_residual-in_err-expand.ensures.1
    (refused, omega (arith, over, limit, found_longer 256 answer (k + 1) x.equations.now.limit x.graph.now.first (omega (arith, limit, bound))))

pub loop-k-preserved : goal.loop-k-preserved
loop-k-preserved c =
    c.in_ok-expand.ensures
    ∙ rw (add-one c.loop-k.k, found_next 256 (answer_by c.args.graph.now) c.loop-k.k c.args.graph.now.first, c.loop-k.invariant) refl
