use Rattle.synthesis.proofs.Functions.GraphLaws.{first_opened}
use Rattle.synthesis.proofs.graph.Graph.of_rule.Goals as goal

pub returns : goal.returns
returns c r num = record {
  first_is = first_opened num 64 c.opening.ensures;
  falsities_are = c.falsities.ensures r num;
  after_is = c.link_all.ensures r num;
  enabled_is = c.enable_all.ensures r num;
}
