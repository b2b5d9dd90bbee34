-- A model file is refused with a number at a place exactly where a clause of `Fault` has it so: each check of the reader is the condition of a clause,
-- and reading comes to the place of every clause.
use mathlib.Core.Path.{◌≡◌, refl, sym, ap, ◌∙◌, subst}
use mathlib.Core.Logic.{◌↔◌, inl, inr}
use mathlib.Core.Bool.{Bool, true, false, cond, not}
use mathlib.Core.List.{List, []}
use Prim.Native.Nat.{ℕ, zero, suc, ◌+◌, ◌-◌, ◌≤◌, ◌<◌}
use native.Mathlib.Omega.{arith}
use lib.Dec.{eqb, ltb, leb}
use lib.ListN.{length, get_or, take}
use borrow.Author.Tests.{ltb-true, leb-true, leb-false, eqb-true, eqb-false, le-leb, lt-leb, lt-ltb, ne_eqb, not-true, not-false}
use Rattle.reading.specs.Faults.{KindAt}
use Rattle.reading.specs.Rule.{Bytes}
use Rattle.reading.specs.File.{Outcome, accepted, refused, refuse, and_then, records_at}
use Rattle.reading.specs.Representations.{record_at}
use Rattle.models.specs.Phone.{Phone, states_kind, is_step, states_of, among, ending_at, step_at, record_length, step_format, steps_at, phone_of}
use Rattle.models.specs.Judging.{model_reading_of}
use Rattle.models.specs.Faults.{ModelBefore, BeginsModel, IsCount, IsStep, after_step}
use Rattle.models.specs.Faults.{Fault, empty_file, count_cut, step_cut, not_count, bad_count, not_step, bad_step, step_513}
use Rattle.models.specs.Promises.{RefusesAtTheFault, HasOneFault}
use Rattle.models.specs.declared.Step.{Step}
use Rattle.reading.proofs.Basics.Outcomes.{never_refused, refused_same}
use Rattle.reading.proofs.RecordLists.RecordWays.{record_accepted, records_refused}
use Rattle.reading.proofs.Refusing.OneFault.{one_fault}
use Rattle.models.proofs.Files.StepLaws.{tested_step, tested_no_step, step_tested}
use Rattle.models.proofs.Files.RecordChecks as Checks
use Rattle.models.proofs.Files.StepBytes.{StepDue, step_due}
use Rattle.models.proofs.Files.Encoding.{states_stand}
use Rattle.models.proofs.Files.ModelFronts.{refused_after_model, model_with_step, model_begins, begins_among}

-- ---- every refusal is a fault

module _ (f : List ℕ) where
  -- a fault where the outcome is a refusal
  abbrev Faulty : {A : Type 0} → Outcome A → Type 0
  Faulty (accepted a) = Unit
  Faulty (refused number place) = Fault f number place

  module _ {A : Type 0} where
    refuse_faulty : (b : Bool) (number place : ℕ) (o : Outcome A) → (b ≡ true → Fault f number place) → (b ≡ false → Faulty o)
        → Faulty (refuse b number place o)
    refuse_faulty true number place o here later = here refl
    refuse_faulty false number place o here later = later refl

    and_then-faulty : {B : Type 0} (o : Outcome A) (g : A → Outcome B) → Faulty o → ((a : A) → o ≡ accepted a → Faulty (g a))
        → Faulty (and_then o g)
    and_then-faulty (accepted a) g here later = later a refl
    and_then-faulty (refused number place) g here later = here

    -- the file ends at `at`, or there is more
    records_faulty : (at : ℕ) (more : Outcome A) (none : A) → (at < length f → Faulty more)
        → Faulty (cond (ltb at (length f)) more (accepted none))
    records_faulty at more none later = on (ltb at (length f)) refl
      where
        on : (b : Bool) → ltb at (length f) ≡ b → Faulty (cond b more (accepted none))
        on true is = later (ltb-true _ _ is)
        on false is = tt

  states_faulty : Faulty (states_of f)
  unfolding states_of
  states_faulty =
      refuse_faulty (eqb (length f) 0) 11 (length f) _ (λ e. empty_file (eqb-true _ _ e)) λ some.
      let inside : 0 < length f = omega (arith, eqb-false (length f) 0 some) in
      refuse_faulty (not (eqb (get_or f 0 0) states_kind)) 12 0 _ (λ e. not_count (inside, eqb-false _ _ (not-true _ e))) λ kind.
      let count : KindAt f 0 IsCount = (inside, eqb-true _ _ (not-false _ kind)) in
      refuse_faulty (eqb (length f) 1) 11 (length f) _ (λ e. count_cut count (omega (arith, eqb-true (length f) 1 e))) λ long.
      let whole : 2 ≤ length f = omega (arith, eqb-false (length f) 1 long) in
      refuse_faulty (eqb (get_or f 1 0) 0) 12 0 _ (λ e. bad_count count whole (inl (eqb-true _ _ e))) λ least.
      refuse_faulty (ltb 64 (get_or f 1 0)) 12 0 _ (λ e. bad_count count whole (inr (ltb-true _ _ e))) λ most.
      tt

  module _ (bytes : Bytes f) where
    -- the record of a step that may come next
    record_faulty : {at n : ℕ} (m : ModelBefore f at n) → n < 512 → KindAt f at IsStep → (due : StepDue f m.phone.states at)
        → Faulty (ending_at f m.phone.states at due.last due.step)
    record_faulty {at} m few kind due =
        let states = m.phone.states in
        let x = due.step in
        refuse_faulty (leb (length f) due.last) 11 (length f) _ (λ e.
        step_cut m kind few (omega (arith, due.after, leb-true (length f) due.last e))) λ whole.
        let inside = leb-false (length f) due.last whole in
        let ends : after_step f at ≡ at + record_length x = due.after ∙ sym due.ends in
        let among : BeginsModel (take (after_step f at) f) → (x.from < states) × (x.to < states) =
        λ g. begins_among m x (due.bytes inside) (rw ends at g) in
        let bad = bad_step m kind few (omega (arith, due.after)) in
        refuse_faulty (leb states x.from) 13 at _ (λ e. bad (λ g. omega (arith, leb-true states x.from e, (among g).0))) λ from.
        refuse_faulty (leb states x.to) 13 at _ (λ e. bad (λ g. omega (arith, leb-true states x.to e, (among g).1))) λ to.
        tt

    step_faulty : {at n : ℕ} (m : ModelBefore f at n) → n < 512 → at < length f → Faulty (step_at f m.phone.states at)
    step_faulty {at} m few inside =
        refuse_faulty (not (is_step (get_or f at 0))) 12 at _ (λ e. not_step m (inside, tested_no_step (get_or f at 0) (not-true _ e))) λ step.
        let kind : KindAt f at IsStep = (inside, tested_step (get_or f at 0) (not-false _ step)) in
        let due = step_due f m.phone.states at bytes kind in
        rw due.checks (record_faulty m few kind due)

    too_many_fault : {at : ℕ} (m : ModelBefore f at 512) → at < length f → Fault f (cond (is_step (get_or f at 0)) 14 12) at
    too_many_fault {at} m inside = on (is_step (get_or f at 0)) refl
      where
        on : (b : Bool) → is_step (get_or f at 0) ≡ b → Fault f (cond b 14 12) at
        on true is = step_513 m (inside, tested_step (get_or f at 0) is)
        on false is = not_step m (inside, tested_no_step (get_or f at 0) is)

    steps_faulty : (left : ℕ) {at n : ℕ} (m : ModelBefore f at n) → left + n ≡ 512 → Faulty (steps_at left f m.phone.states at)
    unfolding records_at
    steps_faulty zero {at} m all = records_faulty at _ _ (too_many_fault (subst (ModelBefore f at) (omega arith) m))
    steps_faulty (suc left) {at} {n} m all =
        records_faulty at _ _ λ inside.
        and_then-faulty (step_at f m.phone.states at) _ (step_faulty m (omega arith) inside) λ x e.
        let (longer, same) = model_with_step m bytes inside (omega arith) x e in
        and_then-faulty (steps_at left f m.phone.states (at + record_length x)) _ (rw same at (steps_faulty left longer (omega arith))) λ xs e.
        tt

    phone_faulty : Faulty (phone_of f)
    unfolding phone_of
    phone_faulty =
        and_then-faulty (states_of f) _ states_faulty λ states e.
        let (some, few, first) = states_stand f states e in
        let m : ModelBefore f 2 0 = record {
          phone = record { states = states; steps = [] };
          within_limits = record { well_formed = record { some_states = some; few_states = few; steps = tt }; few_steps = omega arith };
          steps_are = refl;
          bytes_are = ap (take 2) first;
        } in
        and_then-faulty (steps_at 512 f states 2) _ (steps_faulty 512 m refl) λ xs e.
        tt

-- ---- every fault is refused

among_refused : (states at : ℕ) (x : Step) → (among states at x ≡ accepted x → ⊥) → among states at x ≡ refused 13 at
among_refused states at x = on (leb states x.from) (leb states x.to)
  where
    on : (b c : Bool) → (refuse b 13 at (refuse c 13 at (accepted x)) ≡ accepted x → ⊥)
        → refuse b 13 at (refuse c 13 at (accepted x)) ≡ refused 13 at
    on true c none = refl
    on false true none = refl
    on false false none = absurd (none refl)

module _ (f : List ℕ) {number place : ℕ} where
  first_refused : states_of f ≡ refused number place → phone_of f ≡ refused number place
  unfolding phone_of
  first_refused e = rw e

  next_refused : {at n : ℕ} (m : ModelBefore f at n) → at < length f
      → record_at (step_format f m.phone.states) (512 - n) at ≡ refused number place → phone_of f ≡ refused number place
  next_refused {at} {n} m inside e =
      let few : n ≤ 512 = omega (arith, m.steps_are, m.within_limits.few_steps) in
      refused_after_model m (omega arith) (512 - n) (omega arith) (records_refused (step_format f m.phone.states) at (512 - n) (lt-ltb _ _ inside) e)

module _ (f : List ℕ) (bytes : Bytes f) where
  -- the checks of a step that may come next
  module _ {at n : ℕ} (m : ModelBefore f at n) (few : n < 512) (kind : KindAt f at IsStep) where
    due : StepDue f m.phone.states at
    due = step_due f m.phone.states at bytes kind

    due_checks : record_at (step_format f m.phone.states) (512 - n) at ≡ ending_at f m.phone.states at due.last due.step
    due_checks = rw (ne_eqb (512 - n) 0 (λ z. omega arith), step_tested (get_or f at 0) kind.1) due.checks

    cut_refused : length f < after_step f at → phone_of f ≡ refused 11 (length f)
    cut_refused cut = next_refused f m kind.0 (due_checks ∙ rw (le-leb (length f) due.last (omega (arith, due.after))))

    bad_refused : after_step f at ≤ length f → (BeginsModel (take (after_step f at) f) → ⊥) → phone_of f ≡ refused 13 at
    bad_refused whole none =
        let states = m.phone.states in
        let checks : record_at (step_format f states) (512 - n) at ≡ among states at due.step =
        due_checks ∙ rw (lt-leb (length f) due.last (omega (arith, due.after))) in
        let ends : at + record_length due.step ≡ after_step f at = due.ends ∙ sym due.after in
        next_refused f m kind.0 (checks ∙ among_refused states at due.step λ e.
        let (longer, same) = model_with_step m bytes kind.0 few due.step (record_accepted (step_format f states) at (512 - n) (checks ∙ e)).1 in
        none (rw ends at (model_begins longer)))

  pub fault_refuses : {number place : ℕ} → Fault f number place → phone_of f ≡ refused number place
  fault_refuses (empty_file e) = first_refused f (Checks.file_empty f e)
  fault_refuses (count_cut (inside, kind) cut) = first_refused f (Checks.states_cut f (λ z. omega arith) kind (omega arith))
  fault_refuses (step_cut m kind few cut) = cut_refused m few kind cut
  fault_refuses (not_count (inside, other)) = first_refused f (Checks.other_kind f (λ z. omega arith) other)
  fault_refuses (bad_count (inside, kind) whole (inl none)) =
      first_refused f (Checks.no_states f (λ z. omega arith) kind (λ z. omega arith) none)
  fault_refuses (bad_count (inside, kind) whole (inr many)) =
      first_refused f (Checks.states_over f (λ z. omega arith) kind (λ z. omega arith) (λ z. omega arith) many)
  fault_refuses (not_step {at} {n} m (inside, other)) =
      next_refused f m inside (Checks.no_step f m.phone.states at (512 - n) (λ e. other (inl e)) (λ e. other (inr e)))
  fault_refuses (bad_step m kind few whole none) = bad_refused m few kind whole none
  fault_refuses (step_513 {at} m (inside, kind)) =
      next_refused f m inside (Checks.no_step-left f m.phone.states at 0 (step_tested (get_or f at 0) kind) refl)

-- ---- the promise

pub model_refused : (o : Outcome Phone) (number place : ℕ) → (o ≡ refused number place) ↔ (model_reading_of o ≡ refused number place)
model_refused (accepted y) number place = (λ e. absurd (never_refused e), λ e. absurd (never_refused e))
model_refused (refused m at) number place =
    (λ e. let (is, there) = refused_same e in rw (is, there), λ e. let (is, there) = refused_same e in rw (is, there))

pub refuses_at_the_fault : RefusesAtTheFault
refuses_at_the_fault f bytes number place = (
  λ e. rw ((model_refused (phone_of f) number place).1 e) at (phone_faulty f bytes),
  λ h. rw (fault_refuses f bytes h),
)

pub has_one_fault : HasOneFault
has_one_fault f bytes = one_fault (model_reading_of (phone_of f)) (refuses_at_the_fault f bytes)
