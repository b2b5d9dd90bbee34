use Rattle.std.proofs.Common.{refl, arith, ⊎_elim}
use Rattle.synthesis.proofs.Functions.NumberedNodes.{some_below_64, some_next, some_second, some_variable}
use Rattle.synthesis.proofs.Functions.OpeningNodes.{opening_truth, opening_falsity, opening_necessity, opening_both, opening_max, opening_variable}
use Rattle.synthesis.proofs.graph.+opening.Goals as goal

pub opening-requires : goal.opening-requires
opening-requires t c = (omega (arith, some_below_64 c.requires, c.decreases), some_next c.requires c.in-Both.is refl)

pub opening-requires-in-Both : goal.opening-requires-in-Both
opening-requires-in-Both t c =
    let (second, later) = some_second c.requires c.in-Both.is in
    (omega (arith, some_below_64 c.requires, later, c.decreases), second)

pub opening-requires-in-Max : goal.opening-requires-in-Max
opening-requires-in-Max t c = (omega (arith, some_below_64 c.requires, c.decreases), some_next c.requires c.in-Max.is refl)

pub bounds-opened-max : goal.bounds-opened-max
bounds-opened-max t c = some_variable c.requires c.in-Variable.is

pub returns-in-Truth : goal.returns-in-Truth
returns-in-Truth t c = opening_truth c.in-Truth.is

pub returns-in-Falsity : goal.returns-in-Falsity
returns-in-Falsity t c =
    let few = some_below_64 c.requires in
    ⊎_elim (opening_falsity few) (λ is. opening_necessity few is.1) c.in-Falsity.is

pub returns-in-Both : goal.returns-in-Both
returns-in-Both t c = opening_both c.in-Both.is c.opening.ensures c.opening-in-Both.ensures

pub returns-in-Max : goal.returns-in-Max
returns-in-Max t c = opening_max c.in-Max.is c.opening-in-Max.ensures

pub returns-in-Variable : goal.returns-in-Variable
returns-in-Variable t c = opening_variable c.in-Variable.is
