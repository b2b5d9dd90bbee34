-- What happens at a desk whose rules come on and go off duty, call by call, and what the desk then has: who is on duty, and of each spell of a rule
-- on duty the scans kept in it. All of it is told from what the calls are handed and what they hand back; no equation is looked at.
use Rattle.std.specs.Prelude.{ℕ, ◌*◌, ◌≡◌, ◌⊎◌, not, List, [], ◌∷◌, ◌++◌, map, eqb, length, take, drop}
use Rattle.reading.specs.Rule.{Rule, All, Bytes}
use Rattle.reading.specs.File.{Outcome, accepted, refused}
use Rattle.synthesis.specs.Monitor.{Monitors, lookup}
use Rattle.running.specs.Lists.{filter}
use Rattle.running.specs.Running.{RunOver, output_after, verdicts_after}
use Rattle.running.specs.Calls.{taken}
use Rattle.running.specs.Duty.{nobody, coming_of, going_of, changed_of, duty_run_of, duty_ran_of}
use Rattle.running.specs.declared.OnDuty.{OnDuty}
use Rattle.running.specs.declared.Duty.{Duty}

-- ---- calls

-- what a run on duty is handed beside the duty; the buffers as they were before it
pub record DutyCall : Type 0 where
  pub tables : List ℕ
  pub scans : List ℕ
  pub output : List ℕ
  pub verdicts : List ℕ

-- what a coming is handed beside the duty, and the rule whose table it is, which the call never sees
pub record Coming : Type 0 where
  pub number : ℕ
  pub tables : List ℕ
  pub base : ℕ
  pub count : ℕ
  pub rule : Rule

-- a call of `run_on_duty`, of `come_on` or of `go_off`
pub data Event : Type 0 where
  runs : DutyCall → Event
  comes : Coming → Event
  goes : (number : ℕ) → Event

-- ---- spells

-- A rule's spell on duty: its number, where its table begins and how many equations it has, what was lent from there on when the rule came on, the
-- rule, and the scans kept since.
pub record Spell : Type 0 where
  pub number : ℕ
  pub base : ℕ
  pub count : ℕ
  pub table : List ℕ
  pub rule : Rule
  pub kept : List ℕ

-- the spell that begins with a coming
abbrev pub begun : Coming → Spell
begun x = record { number = x.number; base = x.base; count = x.count; table = drop x.base x.tables; rule = x.rule; kept = [] }

-- a spell in which these scans were kept besides
abbrev pub longer : List ℕ → Spell → Spell
longer w s = record { number = s.number; base = s.base; count = s.count; table = s.table; rule = s.rule; kept = s.kept ++ w }

-- ---- what a desk has

-- The state of the rules on duty, their spells by arrival, the spells that are over, and of all runs that weren't refused the scans, and the kept
-- scans and the verdicts as they are read from the buffers.
pub record Desk : Type 0 where
  pub duty : Duty
  pub spells : List Spell
  pub over : List Spell
  pub scans : List ℕ
  pub kept : List ℕ
  pub verdicts : List ℕ

-- before the first call
abbrev pub new_desk : Desk
new_desk = record { duty = nobody; spells = []; over = []; scans = []; kept = []; verdicts = [] }

-- the outcomes of the calls at a duty
abbrev pub run_at : (limit mark : ℕ) → Duty → DutyCall → Outcome (RunOver (List OnDuty))
run_at limit mark d call = duty_run_of limit mark call.tables d call.scans (length call.output) (length call.verdicts)

abbrev pub coming_at : (limit mark : ℕ) → Duty → Coming → Outcome (List OnDuty)
coming_at limit mark d x = coming_of limit mark d x.number x.tables x.base x.count

-- after a run: as many bytes from the front of each buffer as were written to it
abbrev pub with_duty_run : Desk → DutyCall → Outcome (RunOver (List OnDuty)) → Desk
with_duty_run desk call outcome =
    let ran = duty_ran_of desk.duty outcome in
    let scans = taken ran.checked call.scans in
    let kept = take ran.kept (output_after outcome call.output) in
    record {
      duty = ran.state;
      spells = map (longer kept) desk.spells;
      over = desk.over;
      scans = desk.scans ++ scans;
      kept = desk.kept ++ kept;
      verdicts = desk.verdicts ++ take (length scans) (verdicts_after outcome call.verdicts);
    }

-- a desk with other rules on duty and other spells
abbrev pub with_duty : Desk → Duty → (spells over : List Spell) → Desk
with_duty desk d spells over =
    record { duty = d; spells = spells; over = over; scans = desk.scans; kept = desk.kept; verdicts = desk.verdicts }

-- after a coming: one spell more, if it wasn't refused
abbrev pub beginning : Outcome Unit → Coming → List Spell
beginning (accepted tt) x = begun x ∷ []
beginning (refused number place) x = []

abbrev pub with_coming : Desk → Coming → Outcome (List OnDuty) → Desk
with_coming desk x outcome =
    let changed = changed_of desk.duty outcome in
    with_duty desk changed.duty (desk.spells ++ beginning changed.checked x) desk.over

-- after a going: the spells under its number are over, if it wasn't refused
abbrev pub staying : Outcome Unit → (number : ℕ) → List Spell → List Spell
staying (accepted tt) number ss = filter (λ s. not (eqb s.number number)) ss
staying (refused n place) number ss = ss

abbrev pub leaving : Outcome Unit → (number : ℕ) → List Spell → List Spell
leaving (accepted tt) number ss = filter (λ s. eqb s.number number) ss
leaving (refused n place) number ss = []

abbrev pub with_going : Desk → (number : ℕ) → Outcome (List OnDuty) → Desk
with_going desk number outcome =
    let changed = changed_of desk.duty outcome in
    with_duty desk changed.duty (staying changed.checked number desk.spells) (desk.over ++ leaving changed.checked number desk.spells)

-- ---- any number of calls, in order

abbrev pub with_event : (limit mark : ℕ) → Desk → Event → Desk
with_event limit mark desk (runs call) = with_duty_run desk call (run_at limit mark desk.duty call)
with_event limit mark desk (comes x) = with_coming desk x (coming_at limit mark desk.duty x)
with_event limit mark desk (goes number) = with_going desk number (going_of desk.duty number)

abbrev pub after : (limit mark : ℕ) → Desk → List Event → Desk
after limit mark desk [] = desk
after limit mark desk (e ∷ es) = after limit mark (with_event limit mark desk e) es

-- each of the events is one that may happen where the desk then stands
abbrev pub Each : (limit mark : ℕ) → (May : Desk → Event → Type 0) → Desk → List Event → Type 0
Each limit mark May desk [] = Unit
Each limit mark May desk (e ∷ es) = May desk e × Each limit mark May (with_event limit mark desk e) es

-- what is answered to an event
abbrev pub answered : (limit mark : ℕ) → Desk → Event → Outcome Unit
answered limit mark desk (runs call) = (duty_ran_of desk.duty (run_at limit mark desk.duty call)).checked
answered limit mark desk (comes x) = (changed_of desk.duty (coming_at limit mark desk.duty x)).checked
answered limit mark desk (goes number) = (changed_of desk.duty (going_of desk.duty number)).checked

abbrev pub IsRefused : (limit mark : ℕ) → Desk → Event → Type 0
IsRefused limit mark desk e = (number place : ℕ) × (answered limit mark desk e ≡ refused number place)

-- ---- what is supposed of them

-- A run lends each rule on duty the rows with which it came on. What else is lent may be anything.
abbrev pub LendsRows : Desk → DutyCall → Type 0
LendsRows desk call = All (λ s. take (256 * s.count) (drop s.base call.tables) ≡ take (256 * s.count) s.table) desk.spells

-- Runs are over bytes, and lend the rows; who comes on has a table that monitors its rule.
abbrev pub Orderly : (mark : ℕ) → Desk → Event → Type 0
Orderly mark desk (runs call) = Bytes call.scans × LendsRows desk call
Orderly mark desk (comes x) = Monitors x.rule (lookup 256 mark (drop x.base x.tables)) 0
Orderly mark desk (goes number) = Unit

-- Any other event is refused.
abbrev pub OrderlyOrRefused : (limit mark : ℕ) → Desk → Event → Type 0
OrderlyOrRefused limit mark desk e = Orderly mark desk e ⊎ IsRefused limit mark desk e

-- Nobody comes on or goes off: the event is a run, or refused.
abbrev pub Quiet : (limit mark : ℕ) → Desk → Event → Type 0
Quiet limit mark desk (runs call) = Unit
Quiet limit mark desk (comes x) = IsRefused limit mark desk (comes x)
Quiet limit mark desk (goes number) = IsRefused limit mark desk (goes number)
