-- After any events, orderly or not, the spells are those of the rules on duty and the state is sound: a coming adds a rule and its spell under a new
-- number, a going takes both away, and a run leaves each rule its number, base and count.
use Prim.Native.Nat.{ℕ, ◌<◌}
use mathlib.Core.Path.{◌≡◌, refl, sym, ◌∙◌}
use mathlib.Core.Bool.{not}
use mathlib.Core.List.{List, [], ◌∷◌}
use native.Mathlib.Decide.{dec_lt}
use native.Mathlib.Omega.{arith}
use lib.Dec.{eqb}
use lib.ListN.{length}
use Rattle.reading.proofs.Basics.AllLaws.{all_of}
use Rattle.synthesis.specs.Monitor.{kept, ended}
use Rattle.running.specs.Duty.{on_duty, nobody, together, at_start, duty_ran_of}
use Rattle.running.specs.Spells.{DutyCall, Coming, Event, runs, comes, goes, Spell, begun, longer, Desk, new_desk, with_event, after}
use Rattle.running.specs.DutyPromises.{rule_in, SoundDuty, OnDutyUnder, RestVacant, ComesLast}
use Rattle.running.specs.SpellPromises.{SpellsOnDuty}
use Rattle.running.specs.declared.OnDuty.{OnDuty}
use Rattle.running.specs.declared.Duty.{Duty}
use Rattle.running.specs.Duty.{ChangeReturned}
use Rattle.running.proofs.SoundStates.{duty_of-rules, rest_vacant}
use Rattle.running.proofs.ComingAndGoing as Ways
use Rattle.running.proofs.DutyRuns.{duty_run_ways, fit_after}
use Rattle.running.proofs.Alongside.{Along, none, along_same, along_change, along_last, along_filter}
use Rattle.running.proofs.Standing.{Alike, run_along}
use Rattle.running.proofs.Days.{ran_on, came_on, went_off, Kept, kept_by_event}
use Rattle.reading.specs.File.{Outcome, accepted, refused}

-- ---- the rules of a desk along its spells

abbrev pub AtDesk : (R : OnDuty → Spell → Type 0) → Desk → Type 0
AtDesk R desk = Along R (on_duty desk.duty) desk.spells

module _ {R : OnDuty → Spell → Type 0} where
  pub nobody_at : AtDesk R new_desk
  nobody_at = rw (duty_of-rules []) none

  pub ran_at : {S : OnDuty → Spell → Type 0} (mark : ℕ) (desk : Desk) (call : DutyCall) →
      let T = together mark call.tables in
      let ds = on_duty desk.duty in
      ((d : OnDuty) (s : Spell) → S d s → R d (longer (kept T ds call.scans) s)) → Along S (ended T ds call.scans) desk.spells
      → AtDesk R (ran_on mark desk call)
  ran_at mark desk call so h = rw duty_of-rules (along_change _ so h)

  pub came_at : (desk : Desk) (x : Coming) → R (at_start x.number x.base x.count) (begun x) → AtDesk R desk → AtDesk R (came_on desk x)
  came_at desk x new h = rw duty_of-rules (along_last h new)

  pub went_at : (desk : Desk) (number : ℕ) → ((d : OnDuty) (s : Spell) → R d s → d.number ≡ s.number) → AtDesk R desk
      → AtDesk R (went_off desk number)
  went_at desk number same h =
      rw duty_of-rules
      (along_filter (λ d. not (eqb d.number number)) (λ s. not (eqb s.number number)) (λ d s r. rw (same d s r)) h)

alike_stays : (limit mark : ℕ) → Kept limit mark (λ desk e. Unit) (AtDesk Alike)
alike_stays limit mark = record {
  by_run = λ desk call h may fit.
      ran_at mark desk call (λ d s r. r)
      (run_along mark call.tables (λ c. Unit) Alike (λ d s c e code r q. record { number = r.number; base = r.base; count = r.count })
      (on_duty desk.duty) call.scans (all_of (λ c. Unit) call.scans 0 (λ i b. tt)) desk.spells h);
  by_coming = λ desk x h may fit well. came_at desk x (record { number = refl; base = refl; count = refl }) h;
  by_going = λ desk number h may fit. went_at desk number (λ d s r. r.number) h;
}

-- ---- sound states

pub record SoundState (d : Duty) : Type 0 where
  pub sound : SoundDuty d
  pub rest : RestVacant d

sound_last : (d : Duty) (x : OnDuty) (d' : Duty) → SoundDuty d → d.count < 4 → (OnDutyUnder x.number d → ⊥) → ComesLast d x d' → SoundDuty d'
sound_last d x d' s few free came = record { few = omega (arith, came.count); distinct = λ i j h k. on i j h k (dec_lt i d.count) (dec_lt j d.count) }
  where
    -- a place is an old one, or the last
    last : (i : ℕ) → i < d'.count → (i < d.count → ⊥) → (rule_in d' i).number ≡ x.number
    last i h old = let is : i ≡ d.count = omega (arith, came.count) in rw (is, came.last)

    old : (i : ℕ) → i < d.count → (rule_in d' i).number ≡ (rule_in d i).number
    old i h = rw (came.others i h)

    on : (i j : ℕ) → i < d'.count → j < d'.count → Dec (i < d.count) → Dec (j < d.count) → (rule_in d' i).number ≡ (rule_in d' j).number → i ≡ j
    on i j h k (yes a) (yes b) same = s.distinct i j a b (sym (old i a) ∙ same ∙ old j b)
    on i j h k (yes a) (no b) same = absurd (free (i, a, sym (old i a) ∙ same ∙ last j k b))
    on i j h k (no a) (yes b) same = absurd (free (j, b, sym (old j b) ∙ sym same ∙ last i h a))
    on i j h k (no a) (no b) same = omega (arith, came.count)

-- a coming or a going that leaves a sound state, or is refused
sound_changed : (d : Duty) (changed : ChangeReturned) → SoundState d → (changed.checked ≡ accepted tt → SoundState changed.duty)
    → ((n place : ℕ) → changed.checked ≡ refused n place → changed.duty ≡ d) → SoundState changed.duty
sound_changed d changed h fit refusal = on changed.checked refl
  where
    on : (c : Outcome Unit) → changed.checked ≡ c → SoundState changed.duty
    on (accepted tt) e = fit e
    on (refused n place) e = rw (refusal n place e) h

sound_event : (limit mark : ℕ) (desk : Desk) (e : Event) → SoundState desk.duty → SoundState (with_event limit mark desk e).duty
sound_event limit mark desk (runs call) h =
    let d = desk.duty in
    let o = length call.output in
    let v = length call.verdicts in
    duty_run_ways limit mark call.tables d call.scans o v (λ o. SoundState (duty_ran_of d o).state) (λ short. h) (λ a b n. h)
    (λ a b fit. record {
      sound = (fit_after limit mark call.tables d call.scans fit).sound;
      rest = rest_vacant (ended (together mark call.tables) (on_duty d) call.scans) (fit_after limit mark call.tables d call.scans fit).sound.few;
    })
sound_event limit mark desk (comes x) h =
    let came = Ways.comes limit mark desk.duty x.number x.tables x.base x.count in
    sound_changed desk.duty _ h
    (λ e.
    let (s, few, free, table) = came.fit.0 e in
    let last = came.last e in
    record { sound = sound_last desk.duty (at_start x.number x.base x.count) _ s few free last; rest = last.rest })
    came.refused
sound_event limit mark desk (goes number) h =
    let went = Ways.goes desk.duty number in
    sound_changed desk.duty _ h
    (λ e.
    let (i, inside, is) = (went.fit.0 e).1 in
    record { sound = (went.free e).0; rest = (went.leaves e i inside is).rest })
    went.refused

-- ---- any number of events

pub record Served (desk : Desk) : Type 0 where
  pub along : AtDesk Alike desk
  pub state : SoundState desk.duty

served_after : (limit mark : ℕ) (desk : Desk) (es : List Event) → Served desk → Served (after limit mark desk es)
served_after limit mark desk [] h = h
served_after limit mark desk (e ∷ es) h =
    served_after limit mark (with_event limit mark desk e) es
    (record { along = kept_by_event (alike_stays limit mark) desk e h.along tt; state = sound_event limit mark desk e h.state })

pub served : (limit mark : ℕ) (es : List Event) → Served (after limit mark new_desk es)
served limit mark es =
    let none-twice : SoundDuty nobody = record { few = omega arith; distinct = λ i j h k same. omega arith } in
    served_after limit mark new_desk es (record { along = nobody_at; state = record { sound = none-twice; rest = rest_vacant [] (omega arith) } })

pub spells_on_duty : SpellsOnDuty
spells_on_duty limit mark es =
    let h = served limit mark es in
    record {
      numbers = along_same (λ d. d.number) (λ s. s.number) (λ d s r. r.number) h.along;
      bases = along_same (λ d. d.base) (λ s. s.base) (λ d s r. r.base) h.along;
      counts = along_same (λ d. d.count) (λ s. s.count) (λ d s r. r.count) h.along;
      sound = h.state.sound;
      rest = h.state.rest;
    }
