-- Each line that isn't empty leads to a later position.
use Rattle.std.proofs.Common.{refl, ◌∙◌, arith}
use Rattle.commands.proofs.Leading.{leads_none, leads_given}
use Rattle.commands.proofs.print_listing.Goals as goal

pub loop-line-init : goal.loop-line-init
loop-line-init g c = rw c.into_iter-line-iterator.ensures.into_iter_gives (tt, tt, refl, refl, refl, leads_none)

pub overflow_add-lines : goal.overflow_add-lines
overflow_add-lines g c =
    let given = rw c.in-Some.is at c.next.ensures.steps in
    let (can, ends, rule, table, count, leads) = c.loop-line.invariant in
    omega (arith, given.fits, (leads_given given leads).fewer)

pub loop-line-preserved : goal.loop-line-preserved
loop-line-preserved g c =
    let given = rw c.in-Some.is at c.next.ensures.steps in
    let (can, ends, rule, table, count, leads) = c.loop-line.invariant in
    (tt, tt, given.rule ∙ rule, given.table ∙ table, given.count ∙ count, leads_given given leads)

pub returns-then-not-print : goal.returns-then-not-print
returns-then-not-print g c =
    let (can, ends, rule, table, count, leads) = c.loop-line.invariant in
    rw (← rule, ← table, ← count) (record { at = c.loop-line.line-iterator.at; lead = leads.lead; ends = λ e. cc })

pub returns : goal.returns
returns g c =
    let ended = rw c.in-None.is at c.next.ensures.steps in
    let (can, ends, rule, table, count, leads) = c.loop-line.invariant in
    rw (← rule, ← table, ← count) (record { at = c.loop-line.line-iterator.at; lead = leads.lead; ends = λ e. ended.line })
