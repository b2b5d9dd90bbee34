-- What this crate promises of rules on duty, call by call, as statements over the definitions; proofs/ has a theorem of each of these types. The
-- limit on equations and the mark for dropped are any; with `most` and `mark` these are the terms of the contracts of `come_on`, `go_off`,
-- `check_on_duty` and `run_on_duty`.
use Rattle.std.specs.Prelude.{ℕ, suc, ◌+◌, ◌*◌, ◌≤◌, ◌<◌, ◌≡◌, ◌↔◌, ◌⊎◌, true, List, [], ◌∷◌, ◌++◌, length, get_or, drop, replicate}
use Rattle.reading.specs.File.{Outcome, accepted, refused}
use Rattle.synthesis.specs.Joined.{Some}
use Rattle.synthesis.specs.Monitor.{dropped, next, meaning}
use Rattle.synthesis.specs.Table.{WellFormedTable}
use Rattle.running.specs.Running.{start, moved, has_room, Run, RunOver, run_by, run_of, checked_of, result_of, kept_of, verdicts_of, output_after, verdicts_after}
use Rattle.running.specs.Duty.{vacant, on_duty, duty_of, own_answer, moved_to, together, at_start, coming_of, going_of, changed_of, duty_run_of, duty_ran_of}
use Rattle.running.specs.Promises.{Conserved, Fronts}
use Rattle.running.specs.declared.OnDuty.{OnDuty}
use Rattle.running.specs.declared.Duty.{Duty}
use Rattle.running.specs.Duty.{ChangeReturned}

-- ---- one scan more

-- Each rule goes to its own entry for the code. Its number, base and count stay.
pub record EachMoves (mark : ℕ) (tables : List ℕ) (c : ℕ) (ds ds' : List OnDuty) : Type 0 where
  pub same_length : length ds' ≡ length ds
  pub moves : (i : ℕ) → i < length ds
      → (e : ℕ) × (own_answer mark tables c (get_or ds i vacant) ≡ next e) × (get_or ds' i vacant ≡ moved_to (get_or ds i vacant) e)

-- 1. On any tables, of a run and the run over one scan more: where the entry of some rule is dropped, so is the scan, and no rule moves. Else the
-- scan is kept, and every rule goes to its entry. With nobody on duty every scan is kept.
pub record OneMore (mark : ℕ) (tables : List ℕ) (c : ℕ) (before after : RunOver (List OnDuty)) : Type 0 where
  pub drops : Some (λ d. own_answer mark tables c d ≡ dropped) before.state
      → after ≡ record { state = before.state; kept = before.kept; verdicts = before.verdicts ++ (1 ∷ []) }
  pub keeps : (Some (λ d. own_answer mark tables c d ≡ dropped) before.state → ⊥)
      → EachMoves mark tables c before.state after.state
      × (after ≡ record { state = after.state; kept = before.kept ++ (c ∷ []); verdicts = before.verdicts ++ (0 ∷ []) })

pub record KeepsTogether (mark : ℕ) (tables : List ℕ) : Type 0 where
  pub one_more : (ds : List OnDuty) (w : List ℕ) (c : ℕ)
      → OneMore mark tables c (run_by (together mark tables) ds w) (run_by (together mark tables) ds (w ++ (c ∷ [])))
  pub nothing : (ds : List OnDuty) → run_by (together mark tables) ds [] ≡ record { state = ds; kept = []; verdicts = [] }
  pub nobody : (w : List ℕ) → run_by (together mark tables) [] w ≡ record { state = []; kept = w; verdicts = replicate (length w) 0 }

-- ---- refusals of comings and goings, and who is then on duty

-- the rule in place i
abbrev pub rule_in : Duty → ℕ → OnDuty
rule_in d i = get_or d.rules i vacant

-- at most four rules are on duty, and no two under one number
pub record SoundDuty (d : Duty) : Type 0 where
  pub few : d.count ≤ 4
  pub distinct : (i j : ℕ) → i < d.count → j < d.count → (rule_in d i).number ≡ (rule_in d j).number → i ≡ j

-- a rule is on duty under this number
abbrev pub OnDutyUnder : (number : ℕ) → Duty → Type 0
OnDutyUnder number d = (i : ℕ) × (i < d.count) × ((rule_in d i).number ≡ number)

-- no rule has the places behind those on duty, and there are four places
pub record RestVacant (d : Duty) : Type 0 where
  pub places : length d.rules ≡ 4
  pub rest : (i : ℕ) → d.count ≤ i → rule_in d i ≡ vacant

-- d' has one rule more than d: x is last, the others are as they were
pub record ComesLast (d : Duty) (x : OnDuty) (d' : Duty) : Type 0 where
  pub count : d'.count ≡ d.count + 1
  pub others : (i : ℕ) → i < d.count → rule_in d' i ≡ rule_in d i
  pub last : rule_in d' d.count ≡ x
  pub rest : RestVacant d'

-- d' has one rule less: that in place i of d; the others are as they were, in their order
pub record LeavesPlace (d : Duty) (i : ℕ) (d' : Duty) : Type 0 where
  pub count : d'.count + 1 ≡ d.count
  pub before : (j : ℕ) → j < i → rule_in d' j ≡ rule_in d j
  pub behind : (j : ℕ) → i ≤ j → j < d'.count → rule_in d' j ≡ rule_in d (suc j)
  pub rest : RestVacant d'

-- 2. A coming is refused with 16 for an unsound state, then with 19 where four rules are on duty, then with 20 where its number is on duty, then with
-- 16 where its table isn't well formed; else it is last, in its first equation. A refusal hands back the duty that it was given.
pub record Comes (limit mark : ℕ) (d : Duty) (number : ℕ) (tables : List ℕ) (base count : ℕ) (changed : ChangeReturned) : Type 0 where
  pub unfit : (changed.checked ≡ refused 16 0)
      ↔ ((SoundDuty d → ⊥)
      ⊎ (SoundDuty d × (d.count < 4) × (OnDutyUnder number d → ⊥) × (WellFormedTable limit mark count (drop base tables) → ⊥)))
  pub fifth : (changed.checked ≡ refused 19 0) ↔ (SoundDuty d × (d.count ≡ 4))
  pub known : (changed.checked ≡ refused 20 0) ↔ (SoundDuty d × (d.count < 4) × OnDutyUnder number d)
  pub fit : (changed.checked ≡ accepted tt)
      ↔ (SoundDuty d × (d.count < 4) × (OnDutyUnder number d → ⊥) × WellFormedTable limit mark count (drop base tables))
  pub last : changed.checked ≡ accepted tt → ComesLast d (at_start number base count) changed.duty
  pub refused : (n place : ℕ) → changed.checked ≡ refused n place → changed.duty ≡ d

-- A going is refused with 16 for an unsound state, then with 21 where its number isn't on duty; else the rule with the number leaves its place, and
-- the number is free.
pub record Goes (d : Duty) (number : ℕ) (changed : ChangeReturned) : Type 0 where
  pub unfit : (changed.checked ≡ refused 16 0) ↔ (SoundDuty d → ⊥)
  pub absent : (changed.checked ≡ refused 21 0) ↔ (SoundDuty d × (OnDutyUnder number d → ⊥))
  pub fit : (changed.checked ≡ accepted tt) ↔ (SoundDuty d × OnDutyUnder number d)
  pub leaves : changed.checked ≡ accepted tt → (i : ℕ) → i < d.count → (rule_in d i).number ≡ number → LeavesPlace d i changed.duty
  pub free : changed.checked ≡ accepted tt → SoundDuty changed.duty × (OnDutyUnder number changed.duty → ⊥)
  pub refused : (n place : ℕ) → changed.checked ≡ refused n place → changed.duty ≡ d

-- A going makes room: after it a rule comes on with any number that wasn't on duty, or with the one that went off, if its table is well formed. It is
-- last, in its first equation.
pub record MakesRoom (limit mark : ℕ) (d : Duty) (number : ℕ) : Type 0 where
  pub taken : (changed_of d (going_of d number)).checked ≡ accepted tt → (number' : ℕ) (tables : List ℕ) (base count : ℕ)
      → (number' ≡ number) ⊎ (OnDutyUnder number' d → ⊥) → WellFormedTable limit mark count (drop base tables) →
      let d' = (changed_of d (going_of d number)).duty in
      let changed = changed_of d' (coming_of limit mark d' number' tables base count) in
      (changed.checked ≡ accepted tt) × ComesLast d' (at_start number' base count) changed.duty

-- ---- refusals of runs on duty

-- a rule's table is well formed, and its equation one of the table's
pub record FitRule (limit mark : ℕ) (tables : List ℕ) (x : OnDuty) : Type 0 where
  pub table : WellFormedTable limit mark x.count (drop x.base tables)
  pub equation : x.equation < x.count

-- the state is sound and each rule on duty fit
pub record FitDuty (limit mark : ℕ) (tables : List ℕ) (d : Duty) : Type 0 where
  pub sound : SoundDuty d
  pub rules : (i : ℕ) → i < d.count → FitRule limit mark tables (rule_in d i)

-- 15 is for buffers that are too short, and comes first; 16 for an unsound state and for an unfit rule. Any other run is that of all rules together.
-- It goes by the entry of each rule, and leaves each rule fit, under its number, with its base and count.
pub record RunsOnDuty (limit mark : ℕ) (tables : List ℕ) (d : Duty) (scans : List ℕ) (output verdicts : ℕ) : Type 0 where
  pub short : (checked_of (duty_run_of limit mark tables d scans output verdicts) ≡ refused 15 0)
      ↔ ((output < length scans) ⊎ (verdicts < length scans))
  pub unfit : (checked_of (duty_run_of limit mark tables d scans output verdicts) ≡ refused 16 0)
      ↔ ((length scans ≤ output) × (length scans ≤ verdicts) × (FitDuty limit mark tables d → ⊥))
  pub follows : length scans ≤ output → length scans ≤ verdicts → FitDuty limit mark tables d
      → duty_run_of limit mark tables d scans output verdicts ≡ accepted (run_by (together mark tables) (on_duty d) scans)
  pub rules : (length (on_duty d) ≡ d.count) × ((i : ℕ) → i < d.count → get_or (on_duty d) i vacant ≡ rule_in d i)
  pub entries : (x : OnDuty) → FitRule limit mark tables x → (c : ℕ) → c < 256
      → own_answer mark tables c x ≡ meaning mark (get_or tables (x.base + (256 * x.equation + c)) 0)
  pub ends : length scans ≤ output → length scans ≤ verdicts → FitDuty limit mark tables d →
      let d' = (duty_ran_of d (duty_run_of limit mark tables d scans output verdicts)).state in
      (on_duty d' ≡ (run_by (together mark tables) (on_duty d) scans).state)
      × (d'.count ≡ d.count)
      × RestVacant d'
      × ((i : ℕ) → i < d.count
      → FitRule limit mark tables (rule_in d' i) × ((e : ℕ) × (rule_in d' i ≡ moved_to (rule_in d i) e)))

pub record ComesAndGoes : Type 0 where
  pub comes : (limit mark : ℕ) (d : Duty) (number : ℕ) (tables : List ℕ) (base count : ℕ)
      → Comes limit mark d number tables base count (changed_of d (coming_of limit mark d number tables base count))
  pub goes : (d : Duty) (number : ℕ) → Goes d number (changed_of d (going_of d number))
  pub makes_room : (limit mark : ℕ) (d : Duty) (number : ℕ) → MakesRoom limit mark d number
  pub runs : (limit mark : ℕ) (tables : List ℕ) (d : Duty) (scans : List ℕ) (output verdicts : ℕ)
      → RunsOnDuty limit mark tables d scans output verdicts

-- ---- one rule on duty

-- 3. With one rule on duty a run answers, keeps and judges as `run` does on the rule's table, and the rule ends where that run does.
pub record AsAlone (d : Duty) (x : OnDuty) (alone : Outcome Run) (outcome : Outcome (RunOver (List OnDuty))) : Type 0 where
  pub checked : checked_of outcome ≡ checked_of alone
  pub kept : kept_of outcome ≡ kept_of alone
  pub verdicts : verdicts_of outcome ≡ verdicts_of alone
  pub handed_back_lem : checked_of alone ≡ accepted tt →
      let ran = result_of (moved start x.equation) alone in
      duty_ran_of d outcome
      ≡ record { checked = ran.checked; state = duty_of (moved_to x ran.state.equation ∷ []); kept = ran.kept; dropped = ran.dropped }

abbrev pub OneOnDuty : Type 0
OneOnDuty =
    (limit mark : ℕ) (tables : List ℕ) (d : Duty) → d.count ≡ 1 → (scans : List ℕ) (output verdicts : ℕ) →
    let x = rule_in d 0 in
    AsAlone d x (run_of limit mark (drop x.base tables) x.count (moved start x.equation) scans output verdicts)
    (duty_run_of limit mark tables d scans output verdicts)

-- ---- two runs, lost scans, and lent buffers, as for `run`

-- 4. Two calls, the second with the duty of the first, do what one call on both lists of scans does.
pub record DutyTogether (d : Duty) (one two both : Outcome (RunOver (List OnDuty))) : Type 0 where
  pub checked : (duty_ran_of (duty_ran_of d one).state two).checked ≡ (duty_ran_of d one).checked
  pub handed_back_lem : duty_ran_of d both ≡ record {
    checked = (duty_ran_of d one).checked;
    state = (duty_ran_of (duty_ran_of d one).state two).state;
    kept = (duty_ran_of d one).kept + (duty_ran_of (duty_ran_of d one).state two).kept;
    dropped = (duty_ran_of d one).dropped + (duty_ran_of (duty_ran_of d one).state two).dropped;
  }
  pub kept : kept_of both ≡ kept_of one ++ kept_of two
  pub verdicts : verdicts_of both ≡ verdicts_of one ++ verdicts_of two

abbrev pub DutyTwoCalls : Type 0
DutyTwoCalls =
    (limit mark : ℕ) (tables : List ℕ) (d : Duty) (first second : List ℕ) (o₁ v₁ o₂ v₂ o₃ v₃ : ℕ)
    → has_room first o₁ v₁ ≡ true → has_room second o₂ v₂ ≡ true → has_room (first ++ second) o₃ v₃ ≡ true →
    let one = duty_run_of limit mark tables d first o₁ v₁ in
    let two = duty_run_of limit mark tables (duty_ran_of d one).state second o₂ v₂ in
    DutyTogether d one two (duty_run_of limit mark tables d (first ++ second) o₃ v₃)

abbrev pub DutyConserves : Type 0
DutyConserves =
    (limit mark : ℕ) (tables : List ℕ) (d : Duty) (scans : List ℕ) (output verdicts : ℕ) →
    let outcome = duty_run_of limit mark tables d scans output verdicts in
    Conserved scans outcome (duty_ran_of d outcome).kept (duty_ran_of d outcome).dropped

-- A refused run hands back the duty that it was given and counts of 0, and leaves every byte of every buffer as it was.
pub record DutyUnchanged (d : Duty) (output verdicts : List ℕ) (outcome : Outcome (RunOver (List OnDuty))) : Type 0 where
  pub handed_back_lem : duty_ran_of d outcome ≡ record { checked = (duty_ran_of d outcome).checked; state = d; kept = 0; dropped = 0 }
  pub output_same : output_after outcome output ≡ output
  pub verdicts_same : verdicts_after outcome verdicts ≡ verdicts

abbrev pub DutyRefusedUnchanged : Type 0
DutyRefusedUnchanged =
    (limit mark : ℕ) (tables : List ℕ) (d : Duty) (scans output verdicts : List ℕ) (number place : ℕ) →
    let outcome = duty_run_of limit mark tables d scans (length output) (length verdicts) in
    (duty_ran_of d outcome).checked ≡ refused number place → DutyUnchanged d output verdicts outcome

-- Any other has the kept scans and the verdicts at the fronts of the buffers, and nothing else changed.
abbrev pub DutyRestUnchanged : Type 0
DutyRestUnchanged =
    (limit mark : ℕ) (tables : List ℕ) (d : Duty) (scans output verdicts : List ℕ) →
    let outcome = duty_run_of limit mark tables d scans (length output) (length verdicts) in
    (duty_ran_of d outcome).checked ≡ accepted tt → Fronts scans output verdicts outcome (duty_ran_of d outcome).kept

-- ---- all of these

-- The theorem `duty_promises` has this type, so that each promise has its proof.
pub record DutyPromises : Type 0 where
  pub keeps_together : (mark : ℕ) (tables : List ℕ) → KeepsTogether mark tables
  pub comes_and_goes : ComesAndGoes
  pub one_on_duty : OneOnDuty
  pub duty_two_calls : DutyTwoCalls
  pub duty_conserves : DutyConserves
  pub duty_refused_unchanged : DutyRefusedUnchanged
  pub duty_rest_unchanged : DutyRestUnchanged
