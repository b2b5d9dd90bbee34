-- A step is accepted exactly where it is well formed and its bytes stand at its place; so are steps, by the law of lists of records.
use mathlib.Core.Path.{◌≡◌, refl, sym, ap, ◌∙◌, subst}
use mathlib.Core.Logic.{◌↔◌, inl, inr}
use mathlib.Core.Bool.{Bool, true, false, cond, not}
use mathlib.Core.List.{List, ◌∷◌, ◌++◌, append-nil}
use Prim.Native.Nat.{ℕ, ◌+◌, ◌≤◌, ◌<◌}
use native.Mathlib.Omega.{arith}
use lib.ListN.{length, get_or, drop, length-drop, length-append, drop_of_length-le}
use lib.Dec.{eqb, leb}
use borrow.Author.Tests.{ltb-true, leb-false, eqb-true, lt-leb, lt-ltb, le-ltb, ne_eqb, not-false}
use Rattle.reading.specs.Rule.{All, Bytes}
use Rattle.reading.specs.Faults.{KindAt}
use Rattle.reading.specs.File.{accepted, refused, Records}
use Rattle.reading.proofs.Basics.ByteLaws.{byte_at}
use Rattle.reading.proofs.Basics.Outcomes.{refuse_accepted}
use Rattle.reading.proofs.Basics.Places.{Byte, from_byte, from_place, byte_of, first_byte, rest_after}
use Rattle.reading.proofs.RecordLists.RecordsAccepted.{ReadsRecords, FindsRecords, RecordsStand, records_read, records_full, records_accept}
use Rattle.models.specs.Phone.{WellFormedStep, code_step_kind, silent_step_kind, step_bytes, encode_step, encode_steps}
use Rattle.models.specs.Phone.{ending_at, code_step_at, silent_step_at, is_step, step_at, record_length, step_format, steps_at}
use Rattle.models.specs.Faults.{IsStep, after_step}
use Rattle.models.specs.declared.Step.{Step}
use Rattle.models.proofs.Files.StepLaws.{tested_step, among_accepted, record_bounds}

-- ---- the record of a step that may come next

pub length_step : (x : Step) → length (encode_step x) ≡ record_length x
length_step x = on (eqb x.label 256)
  where
    on : (b : Bool) → length (step_bytes b x) ≡ cond b 3 4
    on true = refl
    on false = refl

-- The record of a step that begins at `at`: its checks, its end, and its bytes where it is whole.
pub record StepDue (f : List ℕ) (states at : ℕ) : Type 0 where
  pub step : Step
  pub last : ℕ
  pub checks : cond (eqb (get_or f at 0) code_step_kind) (code_step_at f states at) (silent_step_at f states at) ≡ ending_at f states at last step
  pub label : step.label ≤ 256
  pub ends : at + record_length step ≡ last + 1
  pub after : after_step f at ≡ last + 1
  pub bytes : last < length f → drop at f ≡ encode_step step ++ drop (at + record_length step) f

module _ (f : List ℕ) (states at : ℕ) where
  code_due : Byte f at code_step_kind → get_or f (at + 2) 0 < 256 → StepDue f states at
  code_due b code =
      let coded : eqb (get_or f (at + 2) 0) 256 ≡ false = ne_eqb (get_or f (at + 2) 0) 256 (λ z. omega arith) in
      record {
        step = record { from = get_or f (at + 1) 0; label = get_or f (at + 2) 0; to = get_or f (at + 3) 0 };
        last = at + 3;
        checks = rw b.is;
        label = omega arith;
        ends = rw coded (omega arith);
        after = rw b.is (omega arith);
        bytes = λ inside. rw coded (from_byte (at + 1) b refl ∙ rw (
          from_place f (at + 1) (at + 2) (omega arith) (omega arith),
          from_place f (at + 2) (at + 3) (omega arith) (omega arith),
          from_place f (at + 3) (at + 4) inside (omega arith),
        ));
      }

  silent_due : Byte f at silent_step_kind → StepDue f states at
  silent_due b = record {
    step = record { from = get_or f (at + 1) 0; label = 256; to = get_or f (at + 2) 0 };
    last = at + 2;
    checks = rw b.is;
    label = omega arith;
    ends = omega arith;
    after = rw b.is (omega arith);
    bytes = λ inside. from_byte (at + 1) b refl ∙ rw (
      from_place f (at + 1) (at + 2) (omega arith) (omega arith),
      from_place f (at + 2) (at + 3) inside (omega arith),
    );
  }

  pub step_due : Bytes f → KindAt f at IsStep → StepDue f states at
  step_due bytes (inside, inl code) = code_due (record { inside = inside; is = code }) (byte_at f bytes (at + 2))
  step_due bytes (inside, inr silent) = silent_due (record { inside = inside; is = silent })

-- ---- one step

-- The record of x stands at `at`.
pub record StepStands (f : List ℕ) (states at : ℕ) (x : Step) : Type 0 where
  pub well_formed : WellFormedStep states x
  pub bytes : drop at f ≡ encode_step x ++ drop (at + record_length x) f

module _ (f : List ℕ) (states at : ℕ) (x : Step) where
  pub step_stands : Bytes f → at < length f → step_at f states at ≡ accepted x → StepStands f states at x
  step_stands bytes inside e =
      let kind = refuse_accepted (not (is_step (get_or f at 0))) 12 at _ e in
      let due = step_due f states at bytes (inside, tested_step (get_or f at 0) (not-false _ kind.0)) in
      let whole = refuse_accepted (leb (length f) due.last) 11 (length f) _ (sym due.checks ∙ kind.1) in
      let (from, to, is) = among_accepted states at due.step x whole.1 in
      subst (StepStands f states at) is (record {
        well_formed = record { from = from; label = due.label; to = to };
        bytes = due.bytes (leb-false _ _ whole.0);
      })

  step_reads : WellFormedStep states x → (rest : List ℕ) → drop at f ≡ encode_step x ++ rest → step_at f states at ≡ accepted x
  step_reads w rest e = on (eqb x.label 256) refl e
    where
      on : (b : Bool) → eqb x.label 256 ≡ b → drop at f ≡ step_bytes b x ++ rest → step_at f states at ≡ accepted x
      on true is from =
          let label : x.label ≡ 256 = eqb-true _ _ is in
          let last = byte_of f at 2 (at + 2) from refl (omega arith) in
          rw (
            (first_byte f at from).is,
            lt-leb (length f) (at + 2) last.inside,
            (byte_of f at 1 (at + 1) from refl (omega arith)).is,
            last.is,
            lt-leb states x.from w.from,
            lt-leb states x.to w.to,
            ← label,
          )
      on false is from =
          let last = byte_of f at 3 (at + 3) from refl (omega arith) in
          rw (
            (first_byte f at from).is,
            lt-leb (length f) (at + 3) last.inside,
            (byte_of f at 1 (at + 1) from refl (omega arith)).is,
            (byte_of f at 2 (at + 2) from refl (omega arith)).is,
            last.is,
            lt-leb states x.from w.from,
            lt-leb states x.to w.to,
          )

  -- a file has a byte where a record stands
  step_begins : (rest : List ℕ) → drop at f ≡ encode_step x ++ rest → at < length f
  step_begins rest from =
      omega (arith, ap length from, length-drop at f, length-append (encode_step x) rest, length_step x, (record_bounds x).0)

-- ---- the steps

module _ (f : List ℕ) (states : ℕ) where
  pub reads_steps : ReadsRecords f (step_format f states) encode_step (WellFormedStep states)
  reads_steps = record {
    long = length_step;
    reads = λ at x rest w from. (lt-ltb _ _ (step_begins f states at x rest from), step_reads f states at x w rest from);
  }

  finds_steps : Bytes f → FindsRecords f (step_format f states) encode_step (WellFormedStep states)
  finds_steps bytes at x more one = let stands = step_stands f states at x bytes (ltb-true _ _ more) one in (stands.well_formed, stands.bytes)

  -- Steps stand from `at` on, no more than `left`, and the file ends after them.
  abbrev pub StepsStand : (at left : ℕ) → Records Step → Type 0
  StepsStand = RecordsStand f (step_format f states) encode_step (WellFormedStep states)

  pub steps_accept : Bytes f → (at left : ℕ) (xs : Records Step) → (steps_at left f states at ≡ accepted xs) ↔ StepsStand at left xs
  steps_accept bytes = records_accept f (step_format f states) encode_step (WellFormedStep states) reads_steps (finds_steps bytes)

  -- steps that go to the end of the file
  pub steps_read : (xs : List Step) (at left : ℕ) → All (WellFormedStep states) xs → length xs ≤ left → drop at f ≡ encode_steps xs
      → steps_at left f states at ≡ accepted (record { list = xs; next = at + length (encode_steps xs) })
  steps_read xs at left all few from =
      let next = at + length (encode_steps xs) in
      let end : length f ≤ next = omega (arith, ap length from, length-drop at f) in
      records_read f (step_format f states) encode_step (WellFormedStep states) reads_steps at left _ (record {
        well_formed = all;
        few = few;
        bytes_are = from ∙ (sym (append-nil (encode_steps xs)) ∙ rw (drop_of_length-le f end));
        ends = refl;
        over = le-ltb _ _ end;
      })

  -- after as many steps as are left, one more is refused with 14, and another kind with 12
  pub steps_full : (xs : List Step) (at left kind : ℕ) (rest : List ℕ) → All (WellFormedStep states) xs → length xs ≡ left
      → drop at f ≡ encode_steps xs ++ (kind ∷ rest)
      → steps_at left f states at ≡ refused (cond (is_step kind) 14 12) (at + length (encode_steps xs))
  steps_full xs at left kind rest all full from =
      let next = at + length (encode_steps xs) in
      let b = first_byte f next (rest_after f at (encode_steps xs) from) in
      records_full f (step_format f states) encode_step (WellFormedStep states) reads_steps xs at left (kind ∷ rest) all full from
      (lt-ltb next (length f) b.inside)
      ∙ rw b.is
