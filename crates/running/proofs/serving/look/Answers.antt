-- What the scan does in each of the four places is what it does.
use Rattle.std.proofs.Common.{◌≡◌, Bool, not, ◌||◌, arith}
use Rattle.synthesis.specs.Monitor.{mark}
use Rattle.running.specs.Duty.{moved_by, would_drop}
use Rattle.running.proofs.PlaceLaws.{four_any, four_chosen}
use Rattle.running.proofs.serving.look.Goals as goal

-- a place is without an equation exactly where its rule drops the scan
dropped_by : {r s x : Bool} → s ≡ not r → not s ≡ x → r ≡ x
dropped_by is e = grind arith

pub returns-clause-drops_value : goal.returns-clause-drops_value
returns-clause-drops_value c =
    let x = c.args in
    let d = x.roster.duty in
    four_any d.count x.roster.few d.rules x.equations (would_drop mark x.tables.now x.code)
    (dropped_by c.is_none.ensures c.look_in_place-a.ensures.drops_value) (dropped_by c.is_none-2.ensures c.look_in_place-b.ensures.drops_value)
    (dropped_by c.is_none-3.ensures c.look_in_place-c.ensures.drops_value) (dropped_by c.is_none-4.ensures c.look_in_place-d.ensures.drops_value)

pub returns-clause-equations_value : goal.returns-clause-equations_value
returns-clause-equations_value c =
    let x = c.args in
    let d = x.roster.duty in
    let l0 = c.unwrap_or in
    let l1 = c.unwrap_or-2 in
    let l2 = c.unwrap_or-3 in
    let l3 = c.unwrap_or-4 in
    four_chosen d.count x.roster.few d.rules x.equations (moved_by mark x.tables.now x.code)
    (((c.is_none.result || c.is_none-2.result) || c.is_none-3.result) || c.is_none-4.result)
    l0.result l1.result l2.result l3.result
    (rw l0.ensures c.look_in_place-a.ensures.equation_value) (rw l1.ensures c.look_in_place-b.ensures.equation_value)
    (rw l2.ensures c.look_in_place-c.ensures.equation_value) (rw l3.ensures c.look_in_place-d.ensures.equation_value)
    c.select_unpredictable.ensures c.select_unpredictable-2.ensures c.select_unpredictable-3.ensures c.select_unpredictable-4.ensures
