use Rattle.std.proofs.Common.{◌≡◌, ℕ, length, sym, ◌∙◌, ap, subst, add-one, arith}
use Rattle.std.proofs.lemmas.Bool.Decides.{Decides-eqb}
use Rattle.std.proofs.lemmas.Slice.Eq.{slice_eq-Decides}
use Rattle.synthesis.specs.Monitor.{mark, most, lookup}
use Rattle.synthesis.specs.Merging.{refined}
use Rattle.synthesis.specs.Table.{WellFormedTable}
use Rattle.synthesis.proofs.Functions.MergingRounds.{rounds_more, rounds_end}
use Rattle.synthesis.proofs.Quotients.Together.{rounds_first}
use Rattle.synthesis.proofs.Quotients.Refinement.{rounds_le}
use Rattle.synthesis.proofs.merging.merge.Goals as goal

pub loop-round-init : goal.loop-round-init
loop-round-init c = c.requires.2 ∙ sym (rounds_first 256 _ _)

pub refine-requires : goal.refine-requires
refine-requires c =
    let l = c.loop-round in
    let long = c.args.long.now in
    let count = length c.args.classes.now in
    let same : length l.classes ≡ count = omega arith in (
      record {
        well_formed = subst (λ (n : ℕ). WellFormedTable most mark n long) (sym same) c.requires.0;
        earlier = λ j h. rw l.invariant (rounds_le 256 (lookup 256 mark long) count l._round j (omega (arith, h, same)));
      },
      omega arith,
    )

pub returns-then-eq : goal.returns-then-eq
returns-then-eq c =
    let l = c.loop-round in
    let answer = lookup 256 mark c.args.long.now in
    let same : length l.classes ≡ length c.args.classes.now = omega arith in
    rounds_end 256 answer (length c.args.classes.now) l.classes l._round l.invariant _ (c.refine.ensures ∙ ap (refined 256 answer l.classes) same) (omega arith)
    ((slice_eq-Decides Decides-eqb _ _ _ c.eq.ensures).0 c.if-eq.true)

pub loop-round-preserved : goal.loop-round-preserved
loop-round-preserved c =
    let l = c.loop-round in
    let answer = lookup 256 mark c.args.long.now in
    let same : length l.classes ≡ length c.args.classes.now = omega arith in
    rw add-one
    (c.copy_from_slice.ensures.after
    ∙ rounds_more 256 answer (length c.args.classes.now) l.classes l._round l.invariant _ (c.refine.ensures ∙ ap (refined 256 answer l.classes) same))
