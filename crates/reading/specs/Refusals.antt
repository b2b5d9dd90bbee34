-- The numbers of the faults for which inputs are refused, and the outcome that a result stands for.
use Rattle.std.specs.Prelude.{ℕ, List, ◌++◌, Result, Ok, Err, codes, decimal}
use Rattle.reading.specs.File.{Outcome, accepted, refused}
use Rattle.reading.specs.declared.refusals.Fault.{Fault}
use Rattle.reading.specs.declared.refusals.Fault.TheVariants.{FileEnds, UnknownKind, Misplaced, TooManyRecords, NoSuchSlot, NamesNothing, Unguarded}
use Rattle.reading.specs.declared.refusals.Fault.TheVariants.{Unsatisfiable, TooManyEquations, TableTooShort, ModelEnds, BadModelRecord, NoSuchState}
use Rattle.reading.specs.declared.refusals.Fault.TheVariants.{TooManySteps, NoRoom, Unfit, AlreadyViolated, TooManyForPage, DutyIsFull}
use Rattle.reading.specs.declared.refusals.Fault.TheVariants.{AlreadyOnDuty, NotOnDuty, PairsEnd, NoSuchPair, TooManyPairs}
use Rattle.reading.specs.declared.refusals.Refusal.{Refusal}

-- the number that desks know a fault by
abbrev pub number : Fault → ℕ
number FileEnds = 1
number UnknownKind = 2
number Misplaced = 3
number TooManyRecords = 4
number NoSuchSlot = 5
number NamesNothing = 6
number Unguarded = 7
number Unsatisfiable = 8
number TooManyEquations = 9
number TableTooShort = 10
number ModelEnds = 11
number BadModelRecord = 12
number NoSuchState = 13
number TooManySteps = 14
number NoRoom = 15
number Unfit = 16
number AlreadyViolated = 17
number TooManyForPage = 18
number DutyIsFull = 19
number AlreadyOnDuty = 20
number NotOnDuty = 21
number PairsEnd = 22
number NoSuchPair = 23
number TooManyPairs = 24

-- what a result says: accepted, or refused with the number of its fault, and its place
abbrev pub as_outcome : {A : Type 0} → Result A Refusal → Outcome A
as_outcome (Ok a) = accepted a
as_outcome (Err r) = refused (number r.fault) r.place

-- a refusal as it is printed
abbrev pub refusal_text : Refusal → List ℕ
refusal_text r = codes "refused " ++ decimal (number r.fault) ++ codes " at " ++ decimal r.place
