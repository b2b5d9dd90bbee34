-- The line at a position, by the kind of the position.
use Rattle.std.proofs.Common.{refl, arith, ◌-◌}
use Rattle.reading.specs.Numbered.{no_extent, none_listed}
use Rattle.reading.proofs.Basics.ListLaws.{mapped_at}
use Rattle.listing.specs.Positions.{extent_in, extents}
use Rattle.listing.proofs.LineLaws.{at_patterns, at_pattern, at_equations, at_row, gives, gives_line, listed}
use Rattle.listing.proofs.listing_line.Goals as goal

pub returns-then-at-eq0-clause-value : goal.returns-then-at-eq0-clause-value
returns-then-at-eq0-clause-value c =
    let n = c.min-n in
    let x = c.args in
    (listed x.rule x.table.now x.count x.at n.result n.ensures
    (gives (at_patterns n.result (extents x.rule) x.table.now x.count x.at c.if-at-eq0.true) (gives_line 1 1 refl c.counted-line.ensures))).0

pub returns-then-at-n-clause-value : goal.returns-then-at-n-clause-value
returns-then-at-n-clause-value c =
    let n = c.min-n in
    let x = c.args in
    (listed x.rule x.table.now x.count x.at n.result n.ensures
    (gives (at_pattern n.result (extents x.rule) x.table.now x.count x.at c.if-at-eq0.false c.if-at-n.true)
    (rw (mapped_at extent_in x.rule.patterns (x.at - 1) none_listed no_extent (omega arith)) (gives_line _ _ refl c.pattern-line.ensures)))).0

pub returns-then-at-n-2-clause-value : goal.returns-then-at-n-2-clause-value
returns-then-at-n-2-clause-value c =
    let n = c.min-n in
    let x = c.args in
    (listed x.rule x.table.now x.count x.at n.result n.ensures
    (gives (at_equations n.result (extents x.rule) x.table.now x.count x.at c.if-at-n-2.true)
    (gives_line _ _ refl c.counted-line-then-at-n-2.ensures))).0

pub returns-clause-value : goal.returns-clause-value
returns-clause-value c =
    let n = c.min-n in
    let x = c.args in
    (listed x.rule x.table.now x.count x.at n.result n.ensures
    (gives (at_row n.result (extents x.rule) x.table.now x.count x.at (omega arith)) c.row_line.ensures)).0
