-- The calls are all on the one table.
use Rattle.std.proofs.Common.{◌≡◌}
use Rattle.commands.specs.Sifting.{EndsCallsOn}
use Rattle.commands.proofs.sifting.sift_all.Given as goal

abbrev pub invariant-loop : goal.invariant-loop
invariant-loop g l =
    (l.sifter.table.now ≡ l.table) × (l.sifter.count ≡ l.count) × EndsCallsOn l.table l.count l.sifter.state
