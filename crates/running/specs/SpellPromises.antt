-- What this crate promises of rules that come on and go off duty, over any calls at a desk, as statements over the definitions; proofs/ has a theorem
-- of each of these types. Of a rule's table nothing is supposed but that it monitors the rule: long tables and short ones do. The limit on equations
-- and the mark for dropped are any.
use Rattle.std.specs.Prelude.{ℕ, ◌+◌, ◌*◌, ◌≤◌, ◌<◌, ◌≡◌, ◌↔◌, ◌⊎◌, List, [], ◌∷◌, ◌++◌, map, length, get_or, take, drop}
use Rattle.reading.specs.Rule.{Rule, All, WellFormedRule, Bytes}
use Rattle.reading.specs.File.{Outcome, accepted, refused}
use Rattle.synthesis.specs.Violation.{ViolatesRule}
use Rattle.synthesis.specs.Joined.{joined, Some}
use Rattle.synthesis.specs.Monitor.{ended, Monitors, lookup}
use Rattle.synthesis.specs.Table.{WellFormedTable}
use Rattle.synthesis.specs.Building.{Fills, FillsShort}
use Rattle.running.specs.Running.{start, RunOver, run_by, verdicts_of}
use Rattle.running.specs.Calls.{History, Calls, OnTableOrRefused, with_verdict}
use Rattle.running.specs.Duty.{on_duty, duty_of, together, duty_ran_of}
use Rattle.running.specs.Spells.{DutyCall, Coming, Event, runs, comes, goes, longer, Desk, new_desk, run_at, with_event, after, Each, answered}
use Rattle.running.specs.Spells.{LendsRows, OrderlyOrRefused, Quiet}
use Rattle.running.specs.Promises.{Sifted, SameVerdicts}
use Rattle.running.specs.DutyPromises.{SoundDuty, RestVacant}
use Rattle.running.specs.declared.OnDuty.{OnDuty}

-- ---- whose spells they are

-- 1. After any calls from the start on, orderly or not, the spells are those of the rules on duty, by arrival, and the state is sound, with no rule
-- in the other places.
pub record SpellsOfDuty (desk : Desk) : Type 0 where
  pub numbers : map (λ d. d.number) (on_duty desk.duty) ≡ map (λ s. s.number) desk.spells
  pub bases : map (λ d. d.base) (on_duty desk.duty) ≡ map (λ s. s.base) desk.spells
  pub counts : map (λ d. d.count) (on_duty desk.duty) ≡ map (λ s. s.count) desk.spells
  pub sound : SoundDuty desk.duty
  pub rest : RestVacant desk.duty

abbrev pub SpellsOnDuty : Type 0
SpellsOnDuty = (limit mark : ℕ) (es : List Event) → SpellsOfDuty (after limit mark new_desk es)

-- ---- what is told, and what may happen

-- What a desk has after a run that isn't refused: all scans of the run, with what it keeps and judges, and each spell longer by what it keeps.
abbrev pub TellsRuns : Type 0
TellsRuns =
    (limit mark : ℕ) (desk : Desk) (call : DutyCall) → answered limit mark desk (runs call) ≡ accepted tt →
    let run = run_by (together mark call.tables) (on_duty desk.duty) call.scans in
    with_event limit mark desk (runs call) ≡ record {
      duty = duty_of run.state;
      spells = map (longer run.kept) desk.spells;
      over = desk.over;
      scans = desk.scans ++ call.scans;
      kept = desk.kept ++ run.kept;
      verdicts = desk.verdicts ++ run.verdicts;
    }

-- Nothing else is asked of a day than this: of a run bytes and the rows with which the rules on duty came on, of a coming a table that monitors its
-- rule, and nothing of a going or of a call that is refused; and a run or a refused call makes nobody come on or go off.
pub record MayHappen (limit mark : ℕ) (desk : Desk) : Type 0 where
  pub run : (call : DutyCall) → Bytes call.scans
      → All (λ s. take (256 * s.count) (drop s.base call.tables) ≡ take (256 * s.count) s.table) desk.spells
      → OrderlyOrRefused limit mark desk (runs call)
  pub coming : (x : Coming) → Monitors x.rule (lookup 256 mark (drop x.base x.tables)) 0 → OrderlyOrRefused limit mark desk (comes x)
  pub going : (number : ℕ) → OrderlyOrRefused limit mark desk (goes number)
  pub refused : (e : Event) (number place : ℕ) → answered limit mark desk e ≡ refused number place
      → OrderlyOrRefused limit mark desk e × Quiet limit mark desk e
  pub quiet : (call : DutyCall) → Quiet limit mark desk (runs call)

-- ---- tables that are filled in place

-- 2. What a desk lends after it has filled a table in place, from any base inside of what it lends, by the long or the short filling: with the count
-- that was answered the table is fit to come on, and monitors the rule of the file, which is well formed. No other entry has changed, so the rows of
-- other rules are as they were, if they lie elsewhere.
pub record FilledInPlace (limit mark : ℕ) (tables : List ℕ) (base : ℕ) (r : Rule) (n : ℕ) (lent : List ℕ) : Type 0 where
  pub table : WellFormedTable limit mark n (drop base lent)
  pub monitors : Monitors r (lookup 256 mark (drop base lent)) 0
  pub rule : WellFormedRule r
  -- so it is wherever the rows later stand, whatever is lent beside them
  pub rows : (base' : ℕ) (lent' : List ℕ) → take (256 * n) (drop base' lent') ≡ take (256 * n) (drop base lent)
      → WellFormedTable limit mark n (drop base' lent') × Monitors r (lookup 256 mark (drop base' lent')) 0
  pub before : take base lent ≡ take base tables
  pub behind : drop (base + 256 * n) lent ≡ drop (base + 256 * n) tables

abbrev pub FillsForDuty : Type 0
FillsForDuty =
    (limit mark : ℕ) (s tables : List ℕ) (base : ℕ) (r : Rule) (n : ℕ) (left : List ℕ) → base ≤ length tables
    → Fills limit mark s (drop base tables) r n left ⊎ FillsShort limit mark s (drop base tables) r n left
    → FilledInPlace limit mark tables base r n (take base tables ++ left)

-- ---- drops, by the rules alone

-- What is supposed of the calls so far: from the start on, each is orderly or refused.
abbrev pub OrderlyDay : (limit mark : ℕ) → List Event → Type 0
OrderlyDay limit mark es = Each limit mark (OrderlyOrRefused limit mark) new_desk es

-- 3. After such calls each rule is in the equation to which its own table leads by the scans kept since it came on.
abbrev pub StandsBySpell : Type 0
StandsBySpell =
    (limit mark : ℕ) (es : List Event) → OrderlyDay limit mark es →
    let desk = after limit mark new_desk es in
    map (λ d. d.equation) (on_duty desk.duty) ≡ map (λ s. ended (lookup 256 mark s.table) 0 s.kept) desk.spells

-- A scan of a run has verdict 1 exactly when for some rule on duty the scans kept since it came on, with this one after them, violate it.
abbrev pub DropsBySpells : Desk → DutyCall → Outcome (RunOver (List OnDuty)) → Type 0
DropsBySpells desk call outcome =
    (i : ℕ) → i < length call.scans →
    let kept_of_run = with_verdict 0 (take i (verdicts_of outcome)) (take i call.scans) in
    (get_or (verdicts_of outcome) i 0 ≡ 1)
    ↔ Some (λ s. ViolatesRule s.rule ((s.kept ++ kept_of_run) ++ (get_or call.scans i 0 ∷ []))) desk.spells

-- So it is with each next run over bytes that lends the rows and isn't refused.
abbrev pub DutyDropsExactly : (limit mark : ℕ) → Type 0
DutyDropsExactly limit mark =
    (es : List Event) → OrderlyDay limit mark es → (call : DutyCall) → Bytes call.scans →
    let desk = after limit mark new_desk es in
    let outcome = run_at limit mark desk.duty call in
    LendsRows desk call → (duty_ran_of desk.duty outcome).checked ≡ accepted tt → DropsBySpells desk call outcome

-- A run that lends the rows is never refused with 16.
abbrev pub OnDutyNeverUnfit : (limit mark : ℕ) → Type 0
OnDutyNeverUnfit limit mark =
    (es : List Event) → OrderlyDay limit mark es → (call : DutyCall) →
    let desk = after limit mark new_desk es in
    LendsRows desk call → (duty_ran_of desk.duty (run_at limit mark desk.duty call)).checked ≡ refused 16 0 → ⊥

-- 4. The scans kept in a spell don't violate its rule, whether the spell goes on or is over.
abbrev pub SpellsSafe : (limit mark : ℕ) → Type 0
SpellsSafe limit mark =
    (es : List Event) → OrderlyDay limit mark es →
    let desk = after limit mark new_desk es in
    All (λ s. ViolatesRule s.rule s.kept → ⊥) (desk.spells ++ desk.over)

-- ---- the join

-- each rule on duty is in its first equation, and its table monitors its rule
pub data Serves (mark : ℕ) (tables : List ℕ) : List OnDuty → List Rule → Type 0 where
  none : Serves mark tables [] []
  one : {d : OnDuty} {r : Rule} {ds : List OnDuty} {rs : List Rule} → d.equation ≡ 0 → Monitors r (lookup 256 mark (drop d.base tables)) 0
      → Serves mark tables ds rs → Serves mark tables (d ∷ ds) (r ∷ rs)

-- 5. Rules on duty that are all in their first equation are one monitor of the rule that joins theirs, accepted or not.
abbrev pub DutyMonitors : Type 0
DutyMonitors =
    (mark : ℕ) (tables : List ℕ) (ds : List OnDuty) (r : Rule) (rs : List Rule) → All WellFormedRule (r ∷ rs) → Serves mark tables ds (r ∷ rs)
    → Monitors (joined r rs) (together mark tables) ds

-- What a desk has had since it was as another: scans, kept scans and verdicts. There is no state of a run; `start` stands for it.
abbrev pub since : (before now : Desk) → History
since before now = record {
  state = start;
  scans = drop (length before.scans) now.scans;
  kept = drop (length before.kept) now.kept;
  verdicts = drop (length before.verdicts) now.verdicts;
}

-- A day on which no scan was kept between the comings of the rules on duty, nor after the last of them, and later calls among which nobody comes on
-- or goes off. The rules are r and rs, by arrival.
pub record JoinDay (limit mark : ℕ) (es later : List Event) (r : Rule) (rs : List Rule) : Type 0 where
  pub orderly : OrderlyDay limit mark es
  pub none_kept : All (λ s. s.kept ≡ []) (after limit mark new_desk es).spells
  pub rules : map (λ s. s.rule) (after limit mark new_desk es).spells ≡ r ∷ rs
  pub well_formed : All WellFormedRule (r ∷ rs)
  pub quiet : Each limit mark (λ desk e. OrderlyOrRefused limit mark desk e × Quiet limit mark desk e) (after limit mark new_desk es) later

-- 6. Since then the rule that joins theirs, accepted or not, has dropped exactly what would violate it: demand 2 holds of it.
abbrev pub JoinSifts : Type 0
JoinSifts =
    (limit mark : ℕ) (es later : List Event) (r : Rule) (rs : List Rule) → JoinDay limit mark es later r rs →
    let desk = after limit mark new_desk es in
    Sifted (joined r rs) (since desk (after limit mark desk later))

-- So the verdicts and the kept scans are those of `run` from the start over the same scans, in any calls, on a table that filling leaves of a rule q, the
-- long one or the short one,
abbrev pub AsOneRun : Desk → Desk → Rule → Type 0
AsOneRun before now q =
    (limit mark : ℕ) (s table : List ℕ) (n : ℕ) (left : List ℕ) → Fills limit mark s table q n left ⊎ FillsShort limit mark s table q n left
    → (h : History) → Calls limit mark (OnTableOrRefused limit mark left n) h → h.scans ≡ (since before now).scans → SameVerdicts (since before now) h

-- where q is the rule that joins theirs,
abbrev pub JoinsAsOne : (limit mark : ℕ) → Type 0
JoinsAsOne limit mark =
    (es later : List Event) (r : Rule) (rs : List Rule) → JoinDay limit mark es later r rs →
    let desk = after limit mark new_desk es in
    AsOneRun desk (after limit mark desk later) (joined r rs)

-- and where q is any other rule that exactly the lists violate that violate one of theirs: with shared patterns, say, or joined in another order.
abbrev pub JoinsHowever : Type 0
JoinsHowever =
    (limit mark : ℕ) (es later : List Event) (r : Rule) (rs : List Rule) → JoinDay limit mark es later r rs →
    let desk = after limit mark new_desk es in
    (q : Rule) → ((w : List ℕ) → ViolatesRule q w ↔ Some (λ p. ViolatesRule p w) (r ∷ rs)) → AsOneRun desk (after limit mark desk later) q

-- ---- all of these

-- The theorem `spell_promises` has this type, so that each promise has its proof.
pub record SpellPromises : Type 0 where
  pub spells_on_duty : SpellsOnDuty
  pub tells_runs : TellsRuns
  pub may_happen : (limit mark : ℕ) (desk : Desk) → MayHappen limit mark desk
  pub fills_for_duty : FillsForDuty
  pub stands_by_spell : StandsBySpell
  pub duty_drops_exactly : (limit mark : ℕ) → DutyDropsExactly limit mark
  pub on_duty-never_unfit : (limit mark : ℕ) → OnDutyNeverUnfit limit mark
  pub spells_safe : (limit mark : ℕ) → SpellsSafe limit mark
  pub duty_monitors : DutyMonitors
  pub join_sifts : JoinSifts
  pub joins_as_one : (limit mark : ℕ) → JoinsAsOne limit mark
  pub joins_however : JoinsHowever
