-- A number tells its fault, so an outcome tells its result.
use mathlib.Core.Path.{◌≡◌, refl, sym, ap, ap₂, ◌∙◌}
use mathlib.Core.List.{[], ◌∷◌}
use Prim.Native.Nat.{ℕ}
use lib.ListN.{get_or}
use Rattle.std.specs.Prelude.{Result, Ok, Err, IsErrAnd}
use Rattle.std.proofs.lemmas.Result.{err_from_is_err_and}
use Rattle.reading.specs.File.{Outcome, refused}
use Rattle.reading.specs.Refusals.{number, as_outcome}
use Rattle.reading.specs.Promises.{ResultsSettled}
use Rattle.reading.specs.declared.refusals.Fault.{Fault}
use Rattle.reading.specs.declared.refusals.Fault.TheVariants.{FileEnds, UnknownKind, Misplaced, TooManyRecords, NoSuchSlot, NamesNothing, Unguarded}
use Rattle.reading.specs.declared.refusals.Fault.TheVariants.{Unsatisfiable, TooManyEquations, TableTooShort, ModelEnds, BadModelRecord, NoSuchState}
use Rattle.reading.specs.declared.refusals.Fault.TheVariants.{TooManySteps, NoRoom, Unfit, AlreadyViolated, TooManyForPage, DutyIsFull}
use Rattle.reading.specs.declared.refusals.Fault.TheVariants.{AlreadyOnDuty, NotOnDuty, PairsEnd, NoSuchPair, TooManyPairs}
use Rattle.reading.specs.declared.refusals.Refusal.{Refusal}
use Rattle.reading.proofs.Basics.Outcomes.{accepted_is, never_accepted, never_refused, refused_same}

-- the fault of a number
fault_of : ℕ → Fault
fault_of n = get_or (
    FileEnds ∷ FileEnds ∷ UnknownKind ∷ Misplaced ∷ TooManyRecords ∷ NoSuchSlot ∷ NamesNothing ∷ Unguarded ∷ Unsatisfiable ∷ TooManyEquations
    ∷ TableTooShort ∷ ModelEnds ∷ BadModelRecord ∷ NoSuchState ∷ TooManySteps ∷ NoRoom ∷ Unfit ∷ AlreadyViolated ∷ TooManyForPage ∷ DutyIsFull
    ∷ AlreadyOnDuty ∷ NotOnDuty ∷ PairsEnd ∷ NoSuchPair ∷ TooManyPairs ∷ []) n FileEnds

fault_is : (f : Fault) → fault_of (number f) ≡ f
unfolding fault_of
fault_is FileEnds = refl
fault_is UnknownKind = refl
fault_is Misplaced = refl
fault_is TooManyRecords = refl
fault_is NoSuchSlot = refl
fault_is NamesNothing = refl
fault_is Unguarded = refl
fault_is Unsatisfiable = refl
fault_is TooManyEquations = refl
fault_is TableTooShort = refl
fault_is ModelEnds = refl
fault_is BadModelRecord = refl
fault_is NoSuchState = refl
fault_is TooManySteps = refl
fault_is NoRoom = refl
fault_is Unfit = refl
fault_is AlreadyViolated = refl
fault_is TooManyForPage = refl
fault_is DutyIsFull = refl
fault_is AlreadyOnDuty = refl
fault_is NotOnDuty = refl
fault_is PairsEnd = refl
fault_is NoSuchPair = refl
fault_is TooManyPairs = refl

pub number_tells : (f f' : Fault) → number f ≡ number f' → f ≡ f'
number_tells f f' e = sym (fault_is f) ∙ ap fault_of e ∙ fault_is f'

pub outcome_tells : {A : Type 0} (x y : Result A Refusal) → as_outcome x ≡ as_outcome y → x ≡ y
outcome_tells (Ok a) (Ok b) e = ap Ok (accepted_is e)
outcome_tells (Ok a) (Err r) e = absurd (never_refused e)
outcome_tells (Err r) (Ok b) e = absurd (never_accepted e)
outcome_tells (Err r) (Err r') e =
    let (numbers, places) = refused_same e in
    let faults : r.fault ≡ r'.fault = number_tells r.fault r'.fault numbers in
    ap₂ (λ f p. Err (record { fault = f; place = p })) faults places

-- the exit of a `?` passes the refusal up
pub passed_up : {A : Type 0} (r : Result A Refusal) (e : Refusal) → IsErrAnd r (λ e'. e' ≡ e) → {o : Outcome A}
    → refused (number e.fault) e.place ≡ o → as_outcome r ≡ o
passed_up r e is said = let p = err_from_is_err_and r is in rw (p.1, p.2) said

pub results_settled : ResultsSettled
results_settled = record { number_tells = number_tells; settled = outcome_tells }
