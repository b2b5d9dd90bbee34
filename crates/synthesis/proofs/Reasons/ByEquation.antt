-- Lists that lead to one equation give a scan one reason: what is said goes by the set to which they lead, and two sets with one number are the same.
use Prim.Native.Nat.{ℕ, suc}
use mathlib.Core.Path.{◌≡◌, sym, ◌∙◌, ap}
use mathlib.Core.List.{List}
use lib.ListN.{get_or, take}
use Rattle.reading.specs.Rule.{Rule, Bytes}
use Rattle.reading.specs.File.{accepted}
use Rattle.synthesis.specs.Violation.{ViolatesRule}
use Rattle.synthesis.specs.Monitor.{ended, Suppresses, lookup}
use Rattle.synthesis.specs.Answering.{first_of, answer_of}
use Rattle.synthesis.specs.Building.{equations_of, with_equations, Fills}
use Rattle.synthesis.specs.Reason.{opened_falsities, opened_after, explanation_of, reason_of}
use Rattle.synthesis.specs.ReasonPromises.{ReasonsByEquation}
use Rattle.synthesis.proofs.Monitors.RuleMonitor.{violated_iff_suppressed}
use Rattle.synthesis.proofs.Numberings.Indices.{index_is}
use Rattle.synthesis.proofs.Tables.Equations.{file_well_formed}
use Rattle.synthesis.proofs.Tables.Built.{RunsAs, built_runs, fills_outcome, fills_counted}
use Rattle.synthesis.proofs.Reasons.Fronts.{front_violates}
use Rattle.synthesis.proofs.Reasons.Following.{Follows, all_kept, first_dropped, follows}
use Rattle.synthesis.proofs.Reasons.Explained.{counted_satisfiable, counted_explanation}

module _ {limit mark : ℕ} {s table : List ℕ} {r : Rule} {n : ℕ} {left : List ℕ} (b : Fills limit mark s table r n left) where
  abbrev ended_in : List ℕ → ℕ
  ended_in w = ended (answer_of r) (first_of r) w

  -- a list that doesn't violate the rule is explained by the equation in which it ends
  safe_explanation : (w : List ℕ) → (ViolatesRule r w → ⊥) → (c : ℕ)
      → explanation_of limit s w c ≡ accepted (opened_falsities r (ended_in w) c)
  safe_explanation w safe c =
      counted_explanation limit s r n b.read (fills_counted b) w c ∙ on (follows (answer_of r) w (first_of r) 0)
    where
      violated : (v : List ℕ) → Suppresses (answer_of r) (first_of r) v → ViolatesRule r v
      violated v =
          (violated_iff_suppressed r (file_well_formed s b.bytes r b.read) (counted_satisfiable limit s r n b.read (fills_counted b)) v).1

      on : Follows (answer_of r) (first_of r) 0 w → opened_after r w c ≡ accepted (opened_falsities r (ended_in w) c)
      on (all_kept none o) = rw o
      on (first_dropped j h none dropped o) = absurd (safe (front_violates r w (suc j) (violated (take (suc j) w) dropped)))

  runs_as : (w : List ℕ) → Bytes w → RunsAs mark (with_equations limit r) left w
  runs_as w bytes = rw b.left_is (built_runs limit mark s table b.below w bytes (with_equations limit r) (fills_outcome b))

  -- the equation of the number in which a run over the table ends
  ended_at : (w : List ℕ) → Bytes w → get_or (equations_of limit r) (ended (lookup 256 mark left) 0 w) 0 ≡ ended_in w
  ended_at w bytes =
      let run = runs_as w bytes in
      rw run.ends (index_is (ended_in w) (equations_of limit r) run.found)

pub reasons_by_equation : ReasonsByEquation
reasons_by_equation limit mark s table r n left b w w' bytes bytes' safe safe' same c =
    let equal : ended_in b w ≡ ended_in b w' =
    sym (ended_at b w bytes) ∙ (ap (λ (k : ℕ). get_or (equations_of limit r) k 0) same ∙ ended_at b w' bytes') in
    ap reason_of
    (safe_explanation b w safe c
    ∙ (ap (λ (e : ℕ). accepted (opened_falsities r e c)) equal ∙ sym (safe_explanation b w' safe' c)))
