use Rattle.std.proofs.Common.{◌≡◌, ℕ, List, length, get_or, refl, ap, ◌∙◌, arith}
use Rattle.synthesis.specs.Monitor.{mark, meaning}
use Rattle.synthesis.specs.Table.{entry_of, entries_of}
use Rattle.synthesis.specs.Merging.{up_to}
use Rattle.synthesis.specs.Numbering.{listed}
use Rattle.reading.proofs.Basics.ListLaws.{get_or-inside}
use Rattle.synthesis.proofs.Functions.FillingRows.{entries_next}
use Rattle.synthesis.proofs.renumbering.Numbering.fill_row.Goals as goal

pub loop-c-init : goal.loop-c-init
unfolding entries_of
loop-c-init c classes are = refl

pub loop-c-preserved : goal.loop-c-preserved
loop-c-preserved c classes are =
    let l = c.loop-c in
    let row = c.row-entry-items in
    let whole : length row.result.now ≡ 256 = ap length row.ensures ∙ c.requires.0.whole in
    let entry = get_or-inside row.result.now l.c 0 mark (omega (arith, whole)) ∙ ap (λ (xs : List ℕ). get_or xs l.c mark) row.ensures in
    entries_next mark _ (listed c.args.self.now) _ _ _ _ (l.invariant classes are) _ (omega (arith, whole))
    (c.renumbered.ensures classes are ∙ ap (λ (x : ℕ). entry_of mark (listed c.args.self.now) (up_to classes (meaning mark x))) entry)
