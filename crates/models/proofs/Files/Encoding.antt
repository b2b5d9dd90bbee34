-- A model file is accepted as a phone model exactly where the model is well formed and the file is its encoding: the count of states at the front, and
-- then the steps to the end.
use mathlib.Core.Path.{◌≡◌, refl, sym, ap, ◌∙◌, subst}
use mathlib.Core.Bool.{Bool, true, false, not}
use mathlib.Core.List.{List, [], ◌∷◌, append-nil}
use Prim.Native.Nat.{ℕ, ◌≤◌, ◌<◌}
use native.Mathlib.Omega.{arith}
use lib.ListN.{length, get_or, drop, drop_of_length-le}
use lib.Dec.{eqb, ltb}
use borrow.Author.Tests.{ltb-false, eqb-true, eqb-false, le-ltb, ne_eqb, not-false}
use Rattle.reading.specs.Rule.{Bytes}
use Rattle.reading.specs.File.{Outcome, accepted, refused}
use Rattle.reading.proofs.Basics.EncodeLaws.{encode_each-bytes}
use Rattle.reading.proofs.Basics.Outcomes.{accepted_is, never_accepted, and_then-accepted, and_then-accepts, refuse_accepted}
use Rattle.reading.proofs.Basics.Places.{from_place}
use Rattle.reading.proofs.Numbering.NumberedLaws.{padded_at}
use Rattle.models.specs.Phone.{Phone, WellFormedStep, WellFormedPhone, PhoneWithinLimits, step_bytes, encode_step, encode_steps, encode_phone}
use Rattle.models.specs.Phone.{no_step, states_kind, states_of, steps_at, phone_of}
use Rattle.models.specs.Judging.{stored, model_reading_of}
use Rattle.models.specs.Promises.{AcceptsPhones, OnePhone, StoresModel, AnswersAccepted}
use Rattle.models.specs.declared.Step.{Step}
use Rattle.models.specs.declared.PhoneModel.{PhoneModel}
use Rattle.models.proofs.Files.StepBytes.{steps_accept, steps_read}

-- ---- the whole file

-- the first record
pub states_stand : (f : List ℕ) (states : ℕ) → states_of f ≡ accepted states → (1 ≤ states) × (states ≤ 64) × (f ≡ states_kind ∷ states ∷ drop 2 f)
unfolding states_of
states_stand f states e =
    let some = refuse_accepted (eqb (length f) 0) 11 (length f) _ e in
    let kind = refuse_accepted (not (eqb (get_or f 0 0) states_kind)) 12 0 _ some.1 in
    let whole = refuse_accepted (eqb (length f) 1) 11 (length f) _ kind.1 in
    let least = refuse_accepted (eqb (get_or f 1 0) 0) 12 0 _ whole.1 in
    let most = refuse_accepted (ltb 64 (get_or f 1 0)) 12 0 _ least.1 in
    let is : get_or f 1 0 ≡ states = accepted_is most.1 in
    let sixteen : get_or f 0 0 ≡ states_kind = eqb-true _ _ (not-false _ kind.0) in
    let inside : 1 < length f = omega (arith, eqb-false (length f) 0 some.0, eqb-false (length f) 1 whole.0) in (
      omega (arith, eqb-false (get_or f 1 0) 0 least.0),
      omega (arith, ltb-false 64 (get_or f 1 0) most.0),
      from_place f 0 1 (omega arith) refl ∙ rw (sixteen, from_place f 1 2 inside refl, is),
    )

pub states_read_lem : (states : ℕ) (bytes : List ℕ) → 1 ≤ states → states ≤ 64 → states_of (states_kind ∷ states ∷ bytes) ≡ accepted states
unfolding states_of
states_read_lem states bytes some few =
    let f : List ℕ = states_kind ∷ states ∷ bytes in
    rw (
      ne_eqb (length f) 0 (λ z. omega arith),
      ne_eqb (length f) 1 (λ z. omega arith),
      ne_eqb states 0 (λ z. omega arith),
      le-ltb 64 states few,
    )

phone_stands : (f : List ℕ) → Bytes f → (y : Phone) → phone_of f ≡ accepted y → PhoneWithinLimits y × (f ≡ encode_phone y)
unfolding phone_of
phone_stands f bytes y e =
    let head = and_then-accepted (states_of f) _ e in
    let states = head.0 in
    let body = and_then-accepted (steps_at 512 f states 2) _ head.2 in
    let (some, few, first) = states_stand f states head.1 in
    let xs = body.0 in
    let stands = (steps_accept f states bytes 2 512 xs).0 body.1 in
    let none : drop xs.next f ≡ [] = drop_of_length-le f (ltb-false _ _ stands.over) in
    subst (λ (y : Phone). PhoneWithinLimits y × (f ≡ encode_phone y)) (accepted_is body.2) (
      record { well_formed = record { some_states = some; few_states = few; steps = stands.well_formed }; few_steps = stands.few },
      first ∙ rw (stands.bytes_are, none, append-nil (encode_steps xs.list)),
    )

pub phone_reads : (y : Phone) → PhoneWithinLimits y → phone_of (encode_phone y) ≡ accepted y
unfolding phone_of
phone_reads y w =
    and_then-accepts _ (states_read_lem y.states (encode_steps y.steps) w.well_formed.some_states w.well_formed.few_states) (
    and_then-accepts _ (steps_read (encode_phone y) y.states y.steps 2 512 w.well_formed.steps w.few_steps refl) refl)

-- ---- the promises

pub accepts_phones : AcceptsPhones
accepts_phones f bytes y = (phone_stands f bytes y, λ h. rw h.1 (phone_reads y h.0))

pub one_phone : OnePhone
one_phone y y' w w' e = accepted_is (sym (phone_reads y w) ∙ ap phone_of e ∙ phone_reads y' w')

pub phone_within_limits : (f : List ℕ) (y : Phone) → Bytes f → phone_of f ≡ accepted y → PhoneWithinLimits y
phone_within_limits f y bytes e = (phone_stands f bytes y e).0

-- ---- encodings are bytes

step_is_bytes : (states : ℕ) → states ≤ 256 → (x : Step) → WellFormedStep states x → Bytes (encode_step x)
step_is_bytes states few x w = on (eqb x.label 256) refl
  where
    on : (b : Bool) → eqb x.label 256 ≡ b → Bytes (step_bytes b x)
    on true is = (omega arith, (omega (arith, w.from), (omega (arith, w.to), tt)))
    on false is =
        let code : x.label < 256 = omega (arith, w.label, eqb-false x.label 256 is) in
        (omega arith, (omega (arith, w.from), (code, (omega (arith, w.to), tt))))

pub encode_bytes : (y : Phone) → WellFormedPhone y → Bytes (encode_phone y)
encode_bytes y w =
    let few : y.states ≤ 64 = w.few_states in
    (omega arith, (omega arith, encode_each-bytes encode_step (WellFormedStep y.states) (step_is_bytes y.states (omega arith)) y.steps w.steps))

-- ---- what is handed up of it

pub phone_accepted : (o : Outcome Phone) {m : PhoneModel} → model_reading_of o ≡ accepted m → (y : Phone) × (o ≡ accepted y) × (m ≡ stored y)
phone_accepted (accepted y) e = (y, refl, sym (accepted_is e))
phone_accepted (refused number place) e = absurd (never_accepted e)

pub answers_accepted : AnswersAccepted
answers_accepted f bytes m = (
  λ told. let (y, read, model) = phone_accepted (phone_of f) told in let (w, is) = (accepts_phones f bytes y).0 read in (y, w, is, model),
  λ (y, w, is, model). ap model_reading_of ((accepts_phones f bytes y).1 (w, is)) ∙ ap accepted (sym model),
)

pub stores_model : (y : Phone) → StoresModel y
stores_model y = record { states = refl; steps = padded_at no_step 512 y.steps; counted = refl }
