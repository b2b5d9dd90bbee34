-- The steps passed are chained.
use Rattle.std.proofs.Common.{◌≡◌, length}
use Rattle.models.specs.Exploring.{ChainsFirst}
use Rattle.models.proofs.links.Links.new.Given as goal

abbrev pub invariant-loop-i : goal.invariant-loop-i
invariant-loop-i l = record {
  last_length : length l.last ≡ 64;
  earlier_length : length l.earlier ≡ 512;
  chains : ChainsFirst l.steps l.i l.last l.earlier;
}
