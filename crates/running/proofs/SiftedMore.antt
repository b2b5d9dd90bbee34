-- Demand 2 goes on from run to run: where it holds so far, and a run then drops exactly what would violate the rule after all that was kept, it holds with
-- the run. Each scan is one of those before, or one of the run's.
use Prim.Native.Nat.{ℕ, ◌+◌, ◌-◌, ◌<◌}
use mathlib.Core.Path.{◌≡◌, refl, subst}
use mathlib.Core.Logic.{◌↔◌, ◌⊎◌, inl}
use mathlib.Core.List.{List, [], ◌∷◌, ◌++◌}
use native.Mathlib.Decide.{dec_lt}
use native.Mathlib.Omega.{arith}
use lib.ListN.{length, get_or, take, length-append, get_or-append}
use lib.Seq.{take-append-le, take-append-add, get_or-append-add}
use Rattle.reading.specs.Rule.{Rule}
use Rattle.reading.proofs.Basics.AllLaws.{all-get_or}
use Rattle.synthesis.specs.Violation.{ViolatesRule}
use Rattle.synthesis.specs.Monitor.{Answer, kept, verdicts}
use Rattle.synthesis.proofs.Monitors.Runs.{verdicts_length}
use Rattle.synthesis.proofs.Monitors.Verdicts.{verdicts_range}
use Rattle.running.specs.Calls.{History, no_calls, with_verdict, kept_before}
use Rattle.running.specs.Promises.{Sifted}
use Rattle.running.proofs.WithVerdicts.{kept_with, with_append}

-- before the first run
pub sifted_none : (r : Rule) → (ViolatesRule r [] → ⊥) → Sifted r no_calls
unfolding with_verdict
sifted_none r safe = record {
  one_each = refl;
  kept_or_dropped = λ i b. absurd (omega arith);
  kept = refl;
  drops = λ i b. absurd (omega arith);
  safe = safe;
}

-- a history with the run of any monitor after it
abbrev pub with_run_of : {E : Type 0} → (answer : E → ℕ → Answer E) → E → History → (scans : List ℕ) → History
with_run_of answer e h w = record {
  state = h.state;
  scans = h.scans ++ w;
  kept = h.kept ++ kept answer e w;
  verdicts = h.verdicts ++ verdicts answer e w;
}

-- what demand 2 says of the scan at place i
abbrev Judged : Rule → History → (i : ℕ) → Type 0
Judged r h i =
    ((get_or h.verdicts i 0 ≡ 0) ⊎ (get_or h.verdicts i 0 ≡ 1))
    × ((get_or h.verdicts i 0 ≡ 1) ↔ ViolatesRule r (kept_before h i ++ (get_or h.scans i 0 ∷ [])))

module _ (r : Rule) (h : History) (sifted : Sifted r h) {E : Type 0} (answer : E → ℕ → Answer E) (e : E) (w : List ℕ)
    (drops : (i : ℕ) → i < length w → (get_or (verdicts answer e w) i 0 ≡ 1)
    ↔ ViolatesRule r ((h.kept ++ with_verdict 0 (take i (verdicts answer e w)) (take i w)) ++ (get_or w i 0 ∷ []))) where
  judged_before : (i : ℕ) → i < length h.scans → Judged r (with_run_of answer e h w) i
  judged_before i b =
      let v = verdicts answer e w in
      rw (
        get_or-append h.verdicts v 0 i (omega (arith, sifted.one_each)),
        get_or-append h.scans w 0 i b,
        take-append-le i h.verdicts v (omega (arith, sifted.one_each)),
        take-append-le i h.scans w (omega arith),
      )
      (sifted.kept_or_dropped i b, sifted.drops i b)

  judged_since : (j : ℕ) → j < length w → Judged r (with_run_of answer e h w) (length h.scans + j)
  judged_since j b =
      let v = verdicts answer e w in
      let verdict : get_or (h.verdicts ++ v) (length h.scans + j) 0 ≡ get_or v j 0 = rw (← sifted.one_each) (get_or-append-add h.verdicts v j 0) in
      let front : take (length h.scans + j) (h.verdicts ++ v) ≡ h.verdicts ++ take j v = rw (← sifted.one_each) (take-append-add h.verdicts v j) in
      rw (
        verdict,
        front,
        get_or-append-add h.scans w j 0,
        take-append-add h.scans w j,
        with_append 0 h.verdicts h.scans (take j v) (take j w) sifted.one_each,
        ← sifted.kept,
      )
      (all-get_or (λ x. (x ≡ 0) ⊎ (x ≡ 1)) v j 0 (verdicts_range answer e w) (inl refl), drops j b)

  judged : (i : ℕ) → i < length (h.scans ++ w) → Judged r (with_run_of answer e h w) i
  judged i b = on (dec_lt i (length h.scans))
    where
      on : Dec (i < length h.scans) → Judged r (with_run_of answer e h w) i
      on (yes k) = judged_before i k
      on (no k) =
          let is : length h.scans + (i - length h.scans) ≡ i = omega arith in
          subst (Judged r (with_run_of answer e h w)) is (judged_since (i - length h.scans) (omega (arith, length-append h.scans w)))

  pub sifted_more : (ViolatesRule r (h.kept ++ kept answer e w) → ⊥) → Sifted r (with_run_of answer e h w)
  sifted_more safe = record {
    one_each = simp length-append (omega (arith, sifted.one_each, verdicts_length answer e w));
    kept_or_dropped = λ i b. (judged i b).0;
    kept =
        rw (with_append 0 h.verdicts h.scans (verdicts answer e w) w sifted.one_each, ← sifted.kept, kept_with answer e w);
    drops = λ i b. (judged i b).1;
    safe = safe;
  }
