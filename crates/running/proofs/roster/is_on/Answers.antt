-- What `any` answers of the rules is the test of the definition.
use Rattle.std.proofs.Common.{eqb, rules, tests}
use Rattle.std.proofs.lemmas.Iterator.{YieldsList-from_slice}
use Rattle.std.proofs.lemmas.Iterator.Search.{any_from_yields_List}
use Rattle.running.specs.declared.OnDuty.{OnDuty}
use Rattle.running.proofs.ListTests.{any_is}
use Rattle.running.proofs.roster.is_on.Goals as goal

pub returns : goal.returns
returns c =
    let x = c.args in
    rw (any_is (λ d. eqb d.number x.number) x.rules.now)
    (any_from_yields_List (λ (d : OnDuty). eqb d.number x.number) _ _ _ c.any.ensures.ran (YieldsList-from_slice x.rules.now cc)
    (λ d b q k. search (rules, tests)))
