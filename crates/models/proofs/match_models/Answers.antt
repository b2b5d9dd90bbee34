-- Each return is a row of what matching answers.
use Rattle.std.proofs.lemmas.Result.{err_from_is_err_and}
use Rattle.reading.proofs.Basics.ByteLaws.{slice_bytes}
use Rattle.models.specs.declared.MatchError.TheVariants.{First, Second, Pairs}
use Rattle.models.proofs.Files.ReadModels.{read_steps}
use Rattle.models.proofs.Matchings.AnswerLaws.{mapped_ok, mapped_err, read_mapped, states_few}
use Rattle.models.proofs.Matchings.AnswerLaws.{answers_first, answers_second, answers_pairs, answers_said}
use Rattle.models.proofs.match_models.Goals as goal

pub returns-in_err-drawn : goal.returns-in_err-drawn
returns-in_err-drawn c =
    let p = err_from_is_err_and c.from_residual.result c.from_residual.ensures.1 in
    let (e, is, made) = mapped_err _ First c.in_err-drawn.ensures.cases in
    rw (p.1, p.2, made) (answers_first _ _ _ (rw is at c.read_model.ensures))

pub returns-in_err-simplified : goal.returns-in_err-simplified
returns-in_err-simplified c =
    let p = err_from_is_err_and c.from_residual-in_err-simplified.result c.from_residual-in_err-simplified.ensures.1 in
    let (e, is, made) = mapped_err _ Second c.in_err-simplified.ensures.cases in
    let one = read_mapped _ c.read_model.ensures (slice_bytes _ c.type_inv.first) c.in_ok-drawn.ensures.cases in
    rw (p.1, p.2, made) (answers_second _ _ _ one (rw is at c.read_model-2.ensures))

pub read_pairs-requires : goal.read_pairs-requires
read_pairs-requires c = (
  states_few (read_mapped _ c.read_model.ensures (slice_bytes _ c.type_inv.first) c.in_ok-drawn.ensures.cases),
  states_few (read_mapped _ c.read_model-2.ensures (slice_bytes _ c.type_inv.second) c.in_ok-simplified.ensures.cases),
)

pub returns-in_err-relation : goal.returns-in_err-relation
returns-in_err-relation c =
    let p = err_from_is_err_and c.from_residual-in_err-relation.result c.from_residual-in_err-relation.ensures.1 in
    let (e, is, made) = mapped_err _ Pairs c.in_err-relation.ensures.cases in
    let one = read_mapped _ c.read_model.ensures (slice_bytes _ c.type_inv.first) c.in_ok-drawn.ensures.cases in
    let other = read_mapped _ c.read_model-2.ensures (slice_bytes _ c.type_inv.second) c.in_ok-simplified.ensures.cases in
    rw (p.1, p.2, made) (answers_pairs _ _ _ one other e (rw is at c.read_pairs.ensures))

pub steps-requires : goal.steps-requires
steps-requires c = (read_mapped _ c.read_model.ensures (slice_bytes _ c.type_inv.first) c.in_ok-drawn.ensures.cases).has

pub steps-requires-2 : goal.steps-requires-2
steps-requires-2 c = (read_mapped _ c.read_model-2.ensures (slice_bytes _ c.type_inv.second) c.in_ok-simplified.ensures.cases).has

pub are_matched-requires : goal.are_matched-requires
are_matched-requires c =
    let one = read_mapped _ c.read_model.ensures (slice_bytes _ c.type_inv.first) c.in_ok-drawn.ensures.cases in
    let other = read_mapped _ c.read_model-2.ensures (slice_bytes _ c.type_inv.second) c.in_ok-simplified.ensures.cases in
    (read_steps one c.steps.ensures, read_steps other c.steps-2.ensures)

pub returns : goal.returns
returns c =
    let one = read_mapped _ c.read_model.ensures (slice_bytes _ c.type_inv.first) c.in_ok-drawn.ensures.cases in
    let other = read_mapped _ c.read_model-2.ensures (slice_bytes _ c.type_inv.second) c.in_ok-simplified.ensures.cases in
    answers_said _ _ _ one other (rw (mapped_ok _ c.in_ok-relation.ensures.cases) at c.read_pairs.ensures) c.steps.ensures c.steps-2.ensures _ c.are_matched.ensures
