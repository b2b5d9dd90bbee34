-- The paper's model under the number-pool rule, which it breaks by a walk, and one that meets the rule by a set of states; with these, all model
-- examples.
use Prim.Native.Nat.{ℕ, ◌≤◌}
use mathlib.Core.Path.{◌≡◌, refl, sym, ◌∙◌}
use mathlib.Core.Bool.{false, true≢false}
use mathlib.Core.List.{List, [], ◌∷◌}
use native.Mathlib.Omega.{arith}
use lib.ListN.{length}
use Rattle.reading.specs.Pattern.{bit, covers}
use Rattle.reading.specs.Rule.{Formula, falsity, both, necessity, variable, Bytes}
use Rattle.reading.specs.File.{accepted, records_at}
use Rattle.synthesis.specs.Violation.{covered_by, ViolatesRule, by_falsity, by_first, by_code, by_body}
use Rattle.synthesis.specs.Monitor.{mark, most, lookup}
use Rattle.synthesis.specs.Building.{table_left}
use Rattle.enforcement.specs.Model.{Label, silent, code, Walk, stay, silent_first, code_first, Weak, StateSatisfies, Satisfies}
use Rattle.enforcement.specs.Model.{suppressing}
use Rattle.models.specs.Phone.{Phone, StepIn, model_of, states_of, phone_of}
use Rattle.enforcement.specs.Promises.{Enforces}
use Rattle.enforcement.proofs.SatisfactionLaws.{satisfies_safe}
use Rattle.enforcement.proofs.BisimulationLaws.{bisimilar_alike}
use Rattle.models.proofs.Judgments.TablesEnforce.{tables_enforce}
use Rattle.examples.specs.Examples.{pool_file, pool_rule}
use Rattle.examples.specs.ModelExamples.{behind, breaking_file, breaking_phone, Breaking}
use Rattle.examples.specs.ModelExamples.{meeting_file, meeting_phone, Meeting, ModelExamples}
use Rattle.examples.proofs.NumberPool.{number_pool, pool_fills, pool_table}
use Rattle.examples.proofs.ModelAnswers.{judges_met, judges_broken}
use Rattle.examples.proofs.PhoneSteps.{step_at_lem, every_step}
use Rattle.examples.proofs.DrawnModel.{drawn_bisimilar}
use Rattle.examples.proofs.Shortening.{shortening}
use Rattle.examples.proofs.Distinctions.{distinctions}

-- ---- any model file under the number-pool rule

module _ (f : List ℕ) (y : Phone) (read : phone_of f ≡ accepted y) where
  pool_enforces : Bytes f → (table : List ℕ) → 768 ≤ length table
      → Enforces pool_rule (suppressing (lookup 256 mark (table_left most mark pool_file table))) 0 (model_of y)
  pool_enforces bytes table room =
      (tables_enforce most mark pool_file table pool_rule 3 (table_left most mark pool_file table) (pool_fills table room) f y bytes read).0

-- ---- the paper's model breaks the rule

breaking_read : phone_of breaking_file ≡ accepted breaking_phone
unfolding phone_of states_of records_at
breaking_read = refl

-- number 5 is cancelled, and after a silent step issued
cancel_issue : ViolatesRule pool_rule (37 ∷ 5 ∷ [])
unfolding bit covers
cancel_issue = by_body (by_code refl (by_first (by_code refl by_falsity)))

breaking_walk : Walk (model_of breaking_phone) 0 (37 ∷ 5 ∷ []) 0
breaking_walk =
    let steps = breaking_phone.steps in
    code_first (step_at_lem steps 0 (omega arith)) (silent_first (step_at_lem steps 1 (omega arith)) (code_first (step_at_lem steps 2 (omega arith)) stay))

breaking_unsatisfied : Satisfies (model_of breaking_phone) pool_rule → ⊥
breaking_unsatisfied sat = (satisfies_safe (model_of breaking_phone) pool_rule).0 sat (37 ∷ 5 ∷ []) 0 breaking_walk cancel_issue

breaking : Breaking
breaking = record {
  file = breaking_read;
  unsatisfied = breaking_unsatisfied;
  judged = judges_broken pool_file pool_rule 3 number_pool.file breaking_file breaking_phone breaking_read breaking_unsatisfied;
  changed = λ table room alike. breaking_unsatisfied (
      (bisimilar_alike (model_of breaking_phone) (behind pool_file table (model_of breaking_phone)) alike pool_rule).1
      (pool_enforces breaking_file breaking_phone breaking_read (search arith) table room).satisfies);
  drawn = λ table room. drawn_bisimilar (table_left most mark pool_file table) (pool_table table room).rows;
}

-- ---- the other meets it

meeting_read : phone_of meeting_file ≡ accepted meeting_phone
unfolding phone_of states_of records_at
meeting_read = refl

-- its two steps
data MeetingStep : ℕ → Label → ℕ → Type 0 where
  cancels : MeetingStep 0 (code 37) 1
  syncs : MeetingStep 1 (code 128) 0

meeting_step : {s t : ℕ} {a : Label} → StepIn meeting_phone.steps s a t → MeetingStep s a t
meeting_step = every_step MeetingStep meeting_phone.steps (cancels, (syncs, tt))

-- none is silent
no_silent : {s t : ℕ} → MeetingStep s silent t → ⊥
no_silent x = elim x [ ]

silent_stays : {s t : ℕ} → Walk (model_of meeting_phone) s [] t → s ≡ t
silent_stays stay = refl
silent_stays (silent_first h k) = absurd (no_silent (meeting_step h))

weak_step : {s c t : ℕ} → Weak (model_of meeting_phone) s c t → MeetingStep s (code c) t
weak_step x = rw (silent_stays x.silent_before, ← silent_stays x.silent_after) (meeting_step x.step)

-- a step from state 1 is no issue of 5, and leads back to state 0
no_issue : {c t : ℕ} → MeetingStep 1 (code c) t → covered_by pool_rule.patterns 1 c ≡ false
unfolding bit covers
no_issue syncs = refl

leads_back : {c t : ℕ} → MeetingStep 1 (code c) t → t ≡ 0
leads_back syncs = refl

-- It meets the rule by a set that has state 0 alone.
abbrev Start : ℕ → Type 0
Start s = s ≡ 0

abbrev Holds : List (ℕ → Type 0) → Formula → ℕ → Type 1
Holds = StateSatisfies (model_of meeting_phone) (covered_by pool_rule.patterns)

after_first : {c t : ℕ} → MeetingStep 0 (code c) t → Holds (Start ∷ []) (both (necessity 1 falsity) (necessity 2 (variable 0))) t
after_first cancels = (
  λ c t q x. absurd (true≢false (sym q ∙ no_issue (weak_step x))),
  λ c t q x. record { lower = leads_back (weak_step x) },
)

meeting_satisfied : Satisfies (model_of meeting_phone) pool_rule
meeting_satisfied = (Start, λ s h c t q x. after_first (weak_step (rw h at x)), refl)

meeting : Meeting
meeting = record {
  file = meeting_read;
  satisfied = meeting_satisfied;
  judged = judges_met pool_file pool_rule 3 number_pool.file meeting_file meeting_phone meeting_read meeting_satisfied;
  unchanged = λ table room. (pool_enforces meeting_file meeting_phone meeting_read (search arith) table room).bisimilar meeting_satisfied;
}

pub model_examples : ModelExamples
model_examples = record { breaking = breaking; meeting = meeting; shortening = shortening; distinctions = distinctions }
