-- The step that comes next is dropped, or its pair is on the worklist; and in the end all have been followed.
use Rattle.std.proofs.Common.{◌/◌, sym, ◌∙◌, arith}
use Rattle.synthesis.proofs.Tables.WellFormedTables.{well_formed_row}
use Rattle.models.proofs.Pairs.Expanding.{expanded_all, next_inside, next_target, next_dropped, next_smaller, expanded_next}
use Rattle.models.proofs.exploring.has_dropped.Goals as goal

pub offset_bounds-steps-i : goal.offset_bounds-steps-i
offset_bounds-steps-i c = omega (arith, next_inside c.loop-next.invariant c.in-Some.is, c.requires.steps.0.few)

pub bounds-steps-i : goal.bounds-steps-i
bounds-steps-i c = next_inside c.loop-next.invariant c.in-Some.is

pub equation_after-requires : goal.equation_after-requires
equation_after-requires c =
    (well_formed_row c.requires.pair.1 (c.args.pair / 64) c.requires.pair.2, (c.requires.steps.0.among c.in-Some.i).label)

pub returns-in_default-equation_after-clause-dropped : goal.returns-in_default-equation_after-clause-dropped
returns-in_default-equation_after-clause-dropped c _ =
    next_dropped c.loop-next.invariant c.in-Some.is (sym c.equation_after.ensures ∙ c.in_default-equation_after.is)

pub overflow_mul-after : goal.overflow_mul-after
overflow_mul-after c =
    omega (
      arith,
      next_target c.loop-next.invariant c.in-Some.is c.requires.steps.0 c.requires.pair.1 c.requires.pair.2 c.in-Some-equation_after.ensures,
    )

pub overflow_add-after : goal.overflow_add-after
overflow_add-after c =
    omega (
      arith,
      c.from.ensures,
      next_target c.loop-next.invariant c.in-Some.is c.requires.steps.0 c.requires.pair.1 c.requires.pair.2 c.in-Some-equation_after.ensures,
    )

pub enqueue-requires : goal.enqueue-requires
enqueue-requires c = (
  c.loop-next.invariant.expands.extended.lists_seen,
  omega (
    arith,
    c.from.ensures,
    next_target c.loop-next.invariant c.in-Some.is c.requires.steps.0 c.requires.pair.1 c.requires.pair.2 c.in-Some-equation_after.ensures,
  ),
)

pub before-next-requires : goal.before-next-requires
before-next-requires c = omega (arith, next_inside c.loop-next.invariant c.in-Some.is, c.requires.steps.0.few)

pub loop-next-smaller : goal.loop-next-smaller
loop-next-smaller c = next_smaller c.loop-next.invariant c.in-Some.is c.requires.steps.1 c.before-next.ensures

pub loop-next-preserved : goal.loop-next-preserved
loop-next-preserved c =
    expanded_next c.loop-next.invariant c.in-Some.is c.requires.steps.1 c.in-Some-equation_after.ensures
    (rw c.from.ensures at c.enqueue.ensures) c.before-next.ensures

pub returns-clause-kept : goal.returns-clause-kept
returns-clause-kept c _ = expanded_all c.loop-next.invariant c.in_default.is
