use Rattle.std.proofs.Common.{◌<◌, get_or, ap, arith}
use Rattle.synthesis.proofs.Functions.ShortWays.{long_merges, merged_length, merged_classes}
use Rattle.synthesis.proofs.renumbering.Numbering.of_table.Goals as goal

pub merge-requires : goal.merge-requires
merge-requires c = long_merges c.requires

pub add-requires : goal.add-requires
add-requires c =
    let long = merged_length c.requires _ c.merge.ensures in
    let few = c.requires.few in
    (omega (arith, (merged_classes c.requires _ c.merge.ensures).le c.loop-class.class-index (omega arith)), omega arith)

pub loop-class-preserved : goal.loop-class-preserved
loop-class-preserved c =
    let classes = c.merge.new.classes in
    let k = c.loop-class.class-index in
    let all = c.loop-class.invariant.all in
    let inside : k < c.args.n = omega (arith, merged_length c.requires _ c.merge.ensures) in
    record {
      all = omega (arith, c.add.ensures.one_more);
      numbered = c.add.ensures.numbered _ (ap (λ i. get_or classes i 0) all) ((merged_classes c.requires _ c.merge.ensures).again k inside)
          c.loop-class.invariant.numbered;
    }
