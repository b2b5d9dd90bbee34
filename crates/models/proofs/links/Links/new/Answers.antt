-- One step more is chained.
use Rattle.std.proofs.Common.{refl, ◌∙◌, arith, length-set}
use Rattle.models.proofs.Pairs.LinkLaws.{chains_none, chains_next}
use Rattle.models.proofs.links.Links.new.Goals as goal

pub loop-i-init : goal.loop-i-init
loop-i-init c = record { last_length = refl; earlier_length = refl; chains = chains_none c.args.steps.now }

pub loop-i-preserved : goal.loop-i-preserved
loop-i-preserved c =
    let so_far = c.loop-i.invariant in
    record {
      last_length = length-set _ _ _ ∙ so_far.last_length;
      earlier_length = length-set _ _ _ ∙ so_far.earlier_length;
      chains =
          rw c.from-from.ensures
          (chains_next c.requires (omega (arith, c.loop-i-test.true, c.requires.few)) so_far.last_length so_far.earlier_length so_far.chains);
    }
