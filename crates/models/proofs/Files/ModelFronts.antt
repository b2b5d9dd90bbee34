-- Where a model stands at the front of a file, reading comes to its end, and a step that is accepted there makes it a longer one. A model that
-- begins with it and a record has that record as a step.
use mathlib.Core.Path.{◌≡◌, refl, sym, ap, ◌∙◌}
use mathlib.Core.Bool.{Bool, true, false}
use mathlib.Core.List.{List, [], ◌∷◌, ◌++◌, append-nil}
use Prim.Native.Nat.{ℕ, suc, ◌+◌, ◌≤◌, ◌<◌}
use native.Mathlib.Omega.{arith}
use lib.Dec.{eqb}
use lib.ListN.{length, take, drop, length-append, take-append-drop}
use lib.Seq.{length-take-le, take-add, take_at}
use borrow.Author.Tests.{eqb-true}
use Rattle.reading.specs.Rule.{Bytes}
use Rattle.reading.specs.File.{accepted, refused}
use Rattle.reading.proofs.Basics.AllLaws.{all_append, all_front, all_last}
use Rattle.reading.proofs.Basics.EncodeLaws.{encode_each-append, encode_each-front}
use Rattle.reading.proofs.RecordLists.RecordsAccepted.{records_after}
use Rattle.models.specs.Phone.{WellFormedStep, step_bytes, encode_step, encode_steps, encode_phone}
use Rattle.models.specs.Phone.{code_step_kind, silent_step_kind, states_of, step_at, record_length, step_format, steps_at, phone_of}
use Rattle.models.specs.Faults.{ModelBefore, BeginsModel}
use Rattle.models.specs.declared.Step.{Step}
use Rattle.models.proofs.Files.StepLaws.{record_bounds}
use Rattle.models.proofs.Files.StepBytes.{length_step, step_stands, reads_steps}
use Rattle.models.proofs.Files.Encoding.{states_read_lem}

-- ---- the bytes of a step tell it

step_some : (x : Step) → 1 ≤ length (encode_step x)
step_some x = omega (arith, length_step x, (record_bounds x).0)

step_same : (x y : Step) → x.from ≡ y.from → x.label ≡ y.label → x.to ≡ y.to → x ≡ y
step_same x y from label to =
    let same : ◌≡◌ {A = Step} (record { from = x.from; label = x.label; to = x.to }) (record { from = y.from; label = y.label; to = y.to }) = cc in
    same

step_told : (x y : Step) (p q : List ℕ) → encode_step x ++ p ≡ encode_step y ++ q → (x ≡ y) × (p ≡ q)
step_told x y p q = on (eqb x.label 256) (eqb y.label 256) refl refl
  where
    on : (b b' : Bool) → eqb x.label 256 ≡ b → eqb y.label 256 ≡ b' → step_bytes b x ++ p ≡ step_bytes b' y ++ q → (x ≡ y) × (p ≡ q)
    on true true is is' e =
        let silent : x.label ≡ 256 = eqb-true _ _ is in
        let silent' : y.label ≡ 256 = eqb-true _ _ is' in
        (step_same x y (cc) (cc) (cc), cc)
    on true false is is' e = let z : ◌≡◌ {A = ℕ} silent_step_kind code_step_kind = cc in absurd (omega arith)
    on false true is is' e = let z : ◌≡◌ {A = ℕ} code_step_kind silent_step_kind = cc in absurd (omega arith)
    on false false is is' e = (step_same x y (cc) (cc) (cc), cc)

-- ---- a model at the front of a file

module _ {f : List ℕ} {at n : ℕ} (m : ModelBefore f at n) where
  file_is : f ≡ encode_phone m.phone ++ drop at f
  file_is = sym (take-append-drop at f) ∙ ap (λ p. p ++ drop at f) m.bytes_are

  -- and the record of a step after it
  with_record_lem : (x : Step) → drop at f ≡ encode_step x ++ drop (at + record_length x) f
      → take (at + record_length x) f ≡ encode_phone m.phone ++ encode_step x
  with_record_lem x from =
      let rest = drop (at + record_length x) f in
      take-add at (record_length x) f ∙ rw (m.bytes_are, from, take_at (encode_step x) rest (record_length x) (length_step x))

  -- what is refused after the model is what the file is refused with
  pub refused_after_model : at ≤ length f → (left : ℕ) → left + n ≡ 512 → {number place : ℕ}
      → steps_at left f m.phone.states at ≡ refused number place → phone_of f ≡ refused number place
  unfolding phone_of
  refused_after_model inside left all {number} {place} e =
      let well = m.within_limits.well_formed in
      let first : states_of f ≡ accepted m.phone.states = ap states_of file_is ∙ states_read_lem _ _ well.some_states well.few_states in
      let steps : steps_at 512 f m.phone.states 2 ≡ refused number place =
      records_after f (step_format f m.phone.states) encode_step (WellFormedStep m.phone.states) (reads_steps f m.phone.states)
      m.phone.steps 2 at left 512 (drop at f) well.steps (ap (drop 2) file_is)
      (omega (arith, ap length m.bytes_are, length-take-le at f inside)) (omega (arith, m.steps_are))
      ∙ rw e in
      rw (first, steps)

  -- with a step that is accepted there it is a longer one
  pub model_with_step : Bytes f → at < length f → n < 512 → (x : Step) → step_at f m.phone.states at ≡ accepted x
      → (longer : ModelBefore f (at + record_length x) (suc n)) × (longer.phone.states ≡ m.phone.states)
  model_with_step bytes inside few x e =
      let well = m.within_limits.well_formed in
      let stands = step_stands f m.phone.states at x bytes inside e in
      let steps = m.phone.steps ++ x ∷ [] in
      let counted : length steps ≡ suc n = length-append m.phone.steps (x ∷ []) ∙ omega (arith, m.steps_are) in (
        record {
          phone = record { states = m.phone.states; steps = steps };
          within_limits = record {
            well_formed = record {
              some_states = well.some_states;
              few_states = well.few_states;
              steps = all_append _ m.phone.steps (x ∷ []) well.steps (stands.well_formed, tt);
            };
            few_steps = omega arith;
          };
          steps_are = counted;
          bytes_are = with_record_lem x stands.bytes ∙ rw (encode_each-append encode_step m.phone.steps (x ∷ []), append-nil (encode_step x));
        },
        refl,
      )

  pub model_begins : BeginsModel (take at f)
  model_begins = record {
    phone = m.phone;
    well_formed = m.within_limits.well_formed;
    rest = [];
    bytes_are = append-nil (take at f) ∙ m.bytes_are;
  }

  -- a model that begins with this one and a record has the record as a step
  pub begins_among : (x : Step) → drop at f ≡ encode_step x ++ drop (at + record_length x) f → BeginsModel (take (at + record_length x) f)
      → (x.from < m.phone.states) × (x.to < m.phone.states)
  begins_among x from g =
      let steps = m.phone.steps in
      let joined : (encode_phone m.phone ++ encode_step x) ++ g.rest ≡ encode_phone g.phone =
      ap (λ p. p ++ g.rest) (sym (with_record_lem x from)) ∙ g.bytes_are in
      let same : g.phone.states ≡ m.phone.states = cc in
      let more : (encode_steps steps ++ encode_step x) ++ g.rest ≡ encode_steps g.phone.steps = cc in
      let longer : encode_steps (steps ++ x ∷ []) ≡ encode_steps steps ++ encode_step x =
      encode_each-append encode_step steps (x ∷ []) ∙ ap (λ p. encode_steps steps ++ p) (append-nil (encode_step x)) in
      let (zs, are, left) = encode_each-front encode_step step_some step_told (steps ++ x ∷ []) g.phone.steps g.rest
      (ap (λ p. p ++ g.rest) longer ∙ more) in
      let fit = all_last _ steps x (all_front _ (steps ++ x ∷ []) zs (rw (same, are) at g.well_formed.steps)) in
      (fit.from, fit.to)
