-- What `all` answers of the rules is the test of the definition.
use Rattle.std.proofs.Common.{rules, tests}
use Rattle.std.proofs.lemmas.Iterator.{YieldsList-from_slice}
use Rattle.std.proofs.lemmas.Iterator.Search.{all_from_yields_List}
use Rattle.synthesis.specs.Monitor.{mark, most}
use Rattle.running.specs.Duty.{fits_at}
use Rattle.running.proofs.ListTests.{all_is}
use Rattle.running.proofs.serving.all_fit.Goals as goal

pub returns : goal.returns
returns c =
    let x = c.args in
    rw (all_is (fits_at most mark x.tables.now) x.rules.now)
    (all_from_yields_List (fits_at most mark x.tables.now) _ _ _ c.all.ensures.ran (YieldsList-from_slice x.rules.now cc)
    (λ d b q k. search (rules, tests)))
