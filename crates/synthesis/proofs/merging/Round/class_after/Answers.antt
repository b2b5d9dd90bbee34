use Rattle.std.proofs.Common.{◌≡◌, ℕ, true, false, ◌∙◌, rules, tests}
use Rattle.std.proofs.lemmas.Iterator.{serves_from_Range, first_from_Range}
use Rattle.synthesis.specs.Monitor.{mark, lookup}
use Rattle.synthesis.proofs.Functions.MergingRounds.{joins, class_found}
use Rattle.synthesis.proofs.merging.Round.class_after.Goals as goal

pub find-requires-clause-callable : goal.find-requires-clause-callable
find-requires-clause-callable c = serves_from_Range (λ x q k. search rules) (λ l low high. search rules)

pub returns-clause-value : goal.returns-clause-value
returns-clause-value c =
    let round = c.args.self.now in
    let answer = lookup 256 mark round.long.now in
    let asked = λ (l : ℕ). joins 256 answer round.classes.now c.args.k c.args.next.now c.requires.3 l in
    let found = first_from_Range _ c.find.new.self _ c.find.result (λ l. asked l ≡ true) (λ l. asked l ≡ false) c.find.ensures.ran
    (λ l q k. search (rules, tests)) (λ l q k. search (rules, tests)) in
    c.unwrap_or.ensures ∙ class_found 256 answer round.classes.now c.args.k c.args.next.now c.requires.3 c.requires.0.earlier c.requires.1 _ found
