-- What is handed back for a kept scan is no node: a node that is answered is one of the rule, and a rule has at most 64.
use Prim.Native.Nat.{ℕ, ◌<◌}
use mathlib.Core.Path.{◌≡◌, refl, sym, ◌∙◌, ap}
use native.Mathlib.Omega.{arith}
use lib.ListN.{length}
use Rattle.reading.specs.File.{Outcome, accepted, refused}
use Rattle.reading.proofs.Accepting.Accepted.{accepts_encodings}
use Rattle.synthesis.specs.Monitor.{most}
use Rattle.synthesis.specs.Building.{Synthesis, synthesis_of, counted_of}
use Rattle.synthesis.proofs.Tables.Equations.{answers_count}
use Rattle.synthesis.proofs.Reasons.Explained.{reasons_exactly}
use Rattle.boundary.specs.Results.{kept_value}
use Rattle.boundary.specs.Promises.{KeptIsNoNode}
use Rattle.std.specs.Prelude.{Some}

pub kept_is_no_node : KeptIsNoNode
kept_is_no_node s w c m bytes e = on (synthesis_of most s) refl
  where
    on : (o : Outcome Synthesis) → synthesis_of most s ≡ o → m < kept_value
    on (accepted y) q =
        let n = length y.equations in
        let counted = ap counted_of q in
        let counts = answers_count most s n counted in
        let within = ((accepts_encodings s bytes counts.rule).0 counts.is).0 in
        omega (arith, ((reasons_exactly most s bytes w c).explained counts.rule n counts.is counted).inside m e, within.few_nodes)
    on (refused number place) q =
        let same : refused number place ≡ accepted (Some m) = sym ((reasons_exactly most s bytes w c).refused number place (ap counted_of q)) ∙ e in
        let z : ◌≡◌ {A = ℕ} 0 1 = cc in
        absurd (omega arith)
