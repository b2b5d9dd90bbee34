-- The search finds the first other entry, which ends the run.
use Rattle.std.proofs.Common.{◌≡◌, ◌∙◌, drop, sym, rules, tests}
use Rattle.std.specs.List.{position}
use Rattle.std.proofs.lemmas.List.{take_rest}
use Rattle.std.proofs.lemmas.Iterator.{YieldsList-from_slice}
use Rattle.std.proofs.lemmas.Iterator.Search.{position_from_yields_List}
use Rattle.listing.proofs.RunLaws.{differs, ends_before, ends_row}
use Rattle.listing.proofs.run_end.Goals as goal

pub returns-in-Some : goal.returns-in-Some
returns-in-Some c =
    let row = c.args.row.now in
    let differs = differs row c.args.c c.requires in
    let found : c.position.result ≡ position differs (drop c.args.c row) =
    position_from_yields_List differs _ _ c.position.result c.position.ensures.ran
    (YieldsList-from_slice (drop c.args.c row) (c.iter.ensures.rest ∙ take_rest row c.args.c)) (λ x b q k. search (rules, tests))
    in
    ends_before row c.args.c c.requires (sym found ∙ c.in-Some.is)

pub returns-in-None : goal.returns-in-None
returns-in-None c =
    let row = c.args.row.now in
    let differs = differs row c.args.c c.requires in
    let found : c.position.result ≡ position differs (drop c.args.c row) =
    position_from_yields_List differs _ _ c.position.result c.position.ensures.ran
    (YieldsList-from_slice (drop c.args.c row) (c.iter.ensures.rest ∙ take_rest row c.args.c)) (λ x b q k. search (rules, tests))
    in
    ends_row row c.args.c c.requires (sym found ∙ c.in-None.is)
