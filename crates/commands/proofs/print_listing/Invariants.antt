-- The lines so far lead to the position of the next one.
use Rattle.std.proofs.Common.{◌≡◌}
use Rattle.commands.proofs.Leading.{Leads}
use Rattle.commands.proofs.print_listing.Given as goal

abbrev pub invariant-loop-line : goal.invariant-loop-line
invariant-loop-line g l =
    let next = l.line-iterator in
    (goal.iterator-loop-line g).can_next next × (goal.iterator-loop-line g).is_finite next
    × (next.rule ≡ l.fn.rule) × (next.table.now ≡ l.table) × (next.count ≡ l.count)
    × Leads next.rule next.table.now next.count l.lines next.at
