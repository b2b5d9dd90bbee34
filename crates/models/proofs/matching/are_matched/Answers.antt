-- The three parts are asked for one after the other.
use Rattle.std.proofs.Common.{sym, ◌∙◌, get_or}
use mathlib.Core.Bool.{false≢true}
use borrow.Author.Tests.{eqb-true}
use Rattle.reading.proofs.Measures.Bits.{bit_zero}
use Rattle.models.proofs.matching.are_matched.Goals as goal
use Rattle.models.proofs.matching.are_matched.Goals.{then-rows-eq1, else-rows-eq1}

pub returns-then-have_partners : goal.returns-then-have_partners
returns-then-have_partners c = elim c.if-rows-eq1.branch [
  | then-rows-eq1 w ↦ (
    λ e. record {
      starts = bit_zero (get_or c.args.rows.now 0 0) ∙ w.if-rows-eq1.true;
      forth = w.have_partners.ensures.0 (sym w.value-is ∙ c.if-have_partners.true);
      back = c.have_partners-then-have_partners.ensures.0 e;
    },
    λ by. c.have_partners-then-have_partners.ensures.1 by.back,
  )
  | else-rows-eq1 w ↦ absurd (w.if-rows-eq1.false (eqb-true _ _ (sym w.value-is ∙ c.if-have_partners.true)))
]

pub returns-else-have_partners : goal.returns-else-have_partners
returns-else-have_partners c = (
  λ e. absurd (false≢true (sym c.if-have_partners.false ∙ e)),
  λ by. elim c.if-rows-eq1.branch [
    | then-rows-eq1 w ↦ w.value-is ∙ w.have_partners.ensures.1 by.forth
    | else-rows-eq1 w ↦ absurd (w.if-rows-eq1.false (sym (bit_zero (get_or c.args.rows.now 0 0)) ∙ by.starts))
  ],
)
