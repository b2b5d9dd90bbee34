-- Following scans one at a time.
use Prim.Native.Nat.{ℕ}
use mathlib.Core.List.{List}
use lib.ListN.{drop}
use Rattle.reading.specs.File.{Outcome}
use Rattle.synthesis.specs.Arrays.{answer_by}
use Rattle.synthesis.specs.Reason.{followed}
use Rattle.synthesis.specs.declared.graph.Graph.{Graph}

-- where the scans from the i-th on lead from e
abbrev pub followed_from : Graph → (scans : List ℕ) → (e i : ℕ) → Outcome ℕ
followed_from g scans e i = followed (answer_by g) e i (drop i scans)
