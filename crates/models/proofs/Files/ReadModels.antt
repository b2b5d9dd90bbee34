-- What the callers of `read_model` know: of an accepted file the model that the struct has, and of a refused one the refusal.
use mathlib.Core.Path.{◌≡◌, sym}
use mathlib.Core.List.{List}
use Prim.Native.Nat.{ℕ}
use Rattle.reading.specs.Rule.{Bytes}
use Rattle.reading.specs.File.{accepted, refused}
use Rattle.models.specs.Phone.{Phone, phone_of}
use Rattle.models.specs.Judging.{stored, model_reading_of}
use Rattle.models.specs.Exploring.{HasPhone, StepsWithinLimits}
use Rattle.models.specs.declared.Step.{Step}
use Rattle.models.specs.declared.PhoneModel.{PhoneModel}
use Rattle.models.proofs.Files.Encoding.{phone_accepted, phone_within_limits}
use Rattle.models.proofs.Files.FileFaults.{model_refused}
use Rattle.models.proofs.Phones.PhoneCodes.{phone_steps}

-- the struct has the model of the file
pub record ModelRead (f : List ℕ) (model : PhoneModel) : Type 0 where
  pub has : HasPhone model
  pub phone_is : phone_of f ≡ accepted has.phone

module _ (f : List ℕ) where
  pub model_read : Bytes f → {model : PhoneModel} → accepted model ≡ model_reading_of (phone_of f) → ModelRead f model
  model_read bytes {model} read =
      let (y, is, model_is) = phone_accepted (phone_of f) (sym read) in
      record { has = record { phone = y; within_limits = phone_within_limits f y bytes is; is_stored = model_is }; phone_is = is }

  pub model_unread : {number place : ℕ} → refused number place ≡ model_reading_of (phone_of f) → phone_of f ≡ refused number place
  model_unread {number} {place} read = (model_refused (phone_of f) number place).1 (sym read)

-- the steps that the struct gives are those of the model, within the limits
pub steps_are : {f : List ℕ} {model : PhoneModel} (m : ModelRead f model) {steps : List Step} → ((y : Phone) → model ≡ stored y → steps ≡ y.steps)
    → steps ≡ m.has.phone.steps
steps_are m are = are m.has.phone m.has.is_stored

pub read_steps : {f : List ℕ} {model : PhoneModel} (m : ModelRead f model) {steps : List Step} → ((y : Phone) → model ≡ stored y → steps ≡ y.steps)
    → StepsWithinLimits steps
read_steps m are = rw (steps_are m are) (phone_steps m.has.within_limits)
