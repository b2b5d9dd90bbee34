-- Two files that agree in 2,051 bytes say the same, for a count of states and 512 steps end before byte 2,050, and the byte there is a kind at most. And
-- 2,050 bytes aren't enough.
use mathlib.Core.Path.{◌≡◌, refl, ◌∙◌}
use mathlib.Core.List.{List, [], ◌∷◌, ◌++◌}
use Prim.Native.Nat.{ℕ, zero, suc, ◌+◌, ◌*◌, ◌≤◌}
use native.Mathlib.Omega.{arith}
use lib.ListN.{length, replicate, length-replicate}
use lib.Seq.{take_at}
use borrow.Author.Tests.{lt-ltb, ne_eqb}
use Rattle.reading.specs.Rule.{All}
use Rattle.reading.proofs.Basics.ByteLaws.{bytes_append}
use Rattle.reading.specs.File.{accepted, refused}
use Rattle.reading.proofs.Settling.Agreement.{Agree, agree_inside, settled}
use Rattle.reading.proofs.Basics.Outcomes.{and_then-agree}
use Rattle.reading.proofs.RecordLists.RecordsAgree.{FormatsAgree, records_agree}
use Rattle.models.specs.Phone.{Phone, WellFormedStep, WellFormedPhone, encode_steps, encode_phone, code_step_kind, states_of, step_at, step_format, phone_of}
use Rattle.models.specs.Promises.{SettledByFirstBytes, NotByFewer}
use Rattle.models.specs.declared.Step.{Step}
use Rattle.models.proofs.Files.StepLaws.{record_bounds}
use Rattle.models.proofs.Files.StepBytes.{steps_full}
use Rattle.models.proofs.Files.Encoding.{states_read_lem, phone_reads, encode_bytes}

-- ---- files that agree

module _ (f g : List ℕ) (a : Agree 2051 f g) where
  states_agree : states_of f ≡ states_of g
  unfolding states_of
  states_agree =
      rw (
        ne_eqb (length f) 0 (λ z. omega (arith, a.long)),
        ne_eqb (length g) 0 (λ z. omega (arith, a.long')),
        ne_eqb (length f) 1 (λ z. omega (arith, a.long)),
        ne_eqb (length g) 1 (λ z. omega (arith, a.long')),
        a.same 0 (omega arith),
        a.same 1 (omega arith),
      )

  step_agrees : (states at : ℕ) → at + 4 ≤ 2051 → step_at f states at ≡ step_at g states at
  step_agrees states at h =
      let three = agree_inside 2051 f g a (at + 3) (omega arith) in
      let two = agree_inside 2051 f g a (at + 2) (omega arith) in
      rw (
        a.same at (omega arith),
        three.0,
        three.1,
        two.0,
        two.1,
        a.same (at + 1) (omega arith),
        a.same (at + 2) (omega arith),
        a.same (at + 3) (omega arith),
      )

  formats_agree : (states : ℕ) → FormatsAgree (step_format f states) (step_format g states) 4 2051
  formats_agree states = record {
    more = λ at h. rw (lt-ltb at (length f) (omega (arith, a.long)), lt-ltb at (length g) (omega (arith, a.long')));
    one = step_agrees states;
    too_many = λ at h. rw (a.same at h);
    width = λ x. refl;
    narrow = λ x. (record_bounds x).1;
  }

  phone_agrees : phone_of f ≡ phone_of g
  unfolding phone_of
  phone_agrees = rw states_agree (and_then-agree (states_of g) _ _ (λ states e. rw (records_agree _ _ 4 2051 (formats_agree states) 512 2 (omega arith))))

pub settled_by_first_bytes : SettledByFirstBytes
settled_by_first_bytes = settled phone_of 2051 phone_agrees

-- ---- fewer are too few

-- After 512 steps one more is refused, whatever they are.
full_refused : (y : Phone) → WellFormedPhone y → length y.steps ≡ 512
    → phone_of (encode_phone y ++ (code_step_kind ∷ [])) ≡ refused 14 (length (encode_phone y))
unfolding phone_of
full_refused y w full =
    let f = encode_phone y ++ (code_step_kind ∷ []) in
    let states : states_of f ≡ accepted y.states = states_read_lem y.states _ w.some_states w.few_states in
    let place : 2 + length (encode_steps y.steps) ≡ length (encode_phone y) = omega arith in
    rw (states, steps_full f y.states y.steps 2 512 code_step_kind [] w.steps full refl, place)

-- a step from state 0 to itself
self_loop : Step
self_loop = record { from = 0; label = 0; to = 0 }

self_loops_well_formed : (n : ℕ) → All (WellFormedStep 1) (replicate n self_loop)
unfolding self_loop
self_loops_well_formed zero = tt
self_loops_well_formed (suc n) = (record { from = omega arith; label = omega arith; to = omega arith }, self_loops_well_formed n)

self_loops_length : (n : ℕ) → length (encode_steps (replicate n self_loop)) ≡ 4 * n
unfolding self_loop
self_loops_length zero = refl
self_loops_length (suc n) = omega (arith, self_loops_length n)

-- 512 of them, and the kind of one more
pub not_by_fewer : NotByFewer
not_by_fewer = on 512 refl
  where
    on : (n : ℕ) → n ≡ 512 → NotByFewer
    on n e =
        let y : Phone = record { states = 1; steps = replicate n self_loop } in
        let full : length y.steps ≡ 512 = length-replicate n self_loop ∙ e in
        let w : WellFormedPhone y = record { some_states = omega arith; few_states = omega arith; steps = self_loops_well_formed n } in
        let long : length (encode_phone y) ≡ 2050 = omega (arith, self_loops_length n) in (
          encode_phone y ++ (code_step_kind ∷ []),
          y,
          bytes_append (encode_phone y) (code_step_kind ∷ []) (encode_bytes y w) (omega arith, tt),
          rw (take_at (encode_phone y) (code_step_kind ∷ []) 2050 long) (phone_reads y (record { well_formed = w; few_steps = omega arith })),
          rw (← long) (full_refused y w full),
        )
