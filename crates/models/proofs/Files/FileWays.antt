-- What each way out of `read_steps` and of `read_model` returns: the steps that are read so far stand before the rest.
use mathlib.Core.Path.{◌≡◌, sym, ap}
use mathlib.Core.List.{List}
use Prim.Native.Nat.{ℕ, ◌+◌, ◌-◌, ◌≤◌, ◌<◌}
use native.Mathlib.Omega.{arith}
use lib.ListN.{length, set}
use borrow.Author.Tests.{lt-ltb, le-ltb}
use Rattle.std.specs.Prelude.{Result, Ok, Err}
use Rattle.reading.specs.File.{Outcome, accepted, refused, and_then, Records}
use Rattle.reading.specs.Refusals.{number, as_outcome}
use Rattle.reading.specs.Representations.{record_at}
use Rattle.reading.specs.declared.refusals.Refusal.{Refusal}
use Rattle.reading.proofs.Basics.Outcomes.{never_refused, refused_same}
use Rattle.reading.proofs.RecordLists.RecordsRead.{begun_one, begun_all, begun_refused}
use Rattle.models.specs.Phone.{states_of, record_length, step_format, steps_at, phone_of}
use Rattle.models.specs.Loading.{StepsBegun, LoadedAs}
use Rattle.models.specs.Judging.{model_reading_of}
use Rattle.models.specs.declared.Step.{Step}
use Rattle.models.specs.declared.PhoneModel.{PhoneModel}

-- ---- the ways out of `read_steps`

module _ (f : List ℕ) (states : ℕ) {steps : List Step} {n at : ℕ} (b : StepsBegun f states steps n at) where
  pub steps_all : length f ≤ at → LoadedAs (steps_at 512 f states 2) steps (Ok n)
  steps_all over = rw (begun_all b (le-ltb _ _ over)) (ap Ok (sym b.counted), b.stored)

  module _ (inside : at < length f) where
    pub steps_refused : {number place : ℕ} → refused number place ≡ record_at (step_format f states) (512 - n) at
        → (result : Result ℕ Refusal) → as_outcome result ≡ refused number place → LoadedAs (steps_at 512 f states 2) steps result
    steps_refused e result is = rw (begun_refused b (lt-ltb _ _ inside) (sym e)) is

    pub steps_next : {x : Step} → accepted x ≡ record_at (step_format f states) (512 - n) at
        → StepsBegun f states (set steps n x) (n + 1) (at + record_length x)
    steps_next e = begun_one b (lt-ltb _ _ inside) (sym e)

-- ---- the ways out of `read_model`

pub states_refused : (f : List ℕ) {number place : ℕ} → refused number place ≡ states_of f → refused number place ≡ model_reading_of (phone_of f)
unfolding phone_of
states_refused f e = rw (← e)

module _ (states : ℕ) (steps : List Step) where
  -- what is handed up of the steps
  abbrev handed : Outcome (Records Step) → Outcome PhoneModel
  handed o = model_reading_of (and_then o (λ xs. accepted (record { states = states; steps = xs.list })))

  handed_accepted : (o : Outcome (Records Step)) {n : ℕ} → LoadedAs o steps (Ok n)
      → accepted (record { states = states; steps = steps; nsteps = n }) ≡ handed o
  handed_accepted (accepted xs) {n} (e, stored) = let count : n ≡ length xs.list = cc in rw (stored, count)
  handed_accepted (refused number place) e = absurd (never_refused e)

  handed_refused : (o : Outcome (Records Step)) (e : Refusal) → LoadedAs o steps (Err e) → refused (number e.fault) e.place ≡ handed o
  handed_refused (accepted xs) refusal (e, _) = let z : ◌≡◌ {A = ℕ} 0 1 = cc in absurd (omega arith)
  handed_refused (refused m at) refusal e = let (same, same') = refused_same e in rw (same, same')

module _ (f : List ℕ) {states : ℕ} (states_are : accepted states ≡ states_of f) (steps : List Step) where
  model_handed : model_reading_of (phone_of f) ≡ handed states steps (steps_at 512 f states 2)
  unfolding phone_of
  model_handed = rw (← states_are)

  pub model_loaded : {n : ℕ} → LoadedAs (steps_at 512 f states 2) steps (Ok n)
      → accepted (record { states = states; steps = steps; nsteps = n }) ≡ model_reading_of (phone_of f)
  model_loaded loaded = rw model_handed (handed_accepted states steps (steps_at 512 f states 2) loaded)

  pub model_not_loaded : (e : Refusal) → LoadedAs (steps_at 512 f states 2) steps (Err e) → refused (number e.fault) e.place ≡ model_reading_of (phone_of f)
  model_not_loaded e loaded = rw model_handed (handed_refused states steps (steps_at 512 f states 2) e loaded)
