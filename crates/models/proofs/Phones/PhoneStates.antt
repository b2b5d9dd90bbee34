-- The states of a phone model that matter: the start, and wherever a step leads. Walks from one of them lead to no others.
use Prim.Native.Nat.{ℕ, suc}
use mathlib.Core.Path.{refl, ◌∙◌}
use mathlib.Core.List.{List, ◌∷◌, map}
use native.Mathlib.Omega.{arith}
use lib.ListN.{length-map, get_or-map}
use Rattle.synthesis.specs.Search.{index_of}
use Rattle.synthesis.proofs.Numberings.Indices.{Member, index_is, member_at}
use Rattle.enforcement.specs.Model.{Label, Walk, stay, silent_first, code_first, Weak}
use Rattle.models.specs.Phone.{Phone, StepIn, no_step, model_of}
use Rattle.models.specs.Promises.{PhonesFinite}
use Rattle.models.specs.declared.Step.{Step}

abbrev pub states_in : Phone → List ℕ
states_in y = 0 ∷ map (λ (x : Step). x.to) y.steps

module _ (y : Phone) where
  abbrev pub Listed : ℕ → Type 0
  Listed s = Member s (states_in y)

  pub start_listed : Listed 0
  start_listed = member_at 0 (states_in y) 0 (omega arith) refl

  pub step_listed : {s t : ℕ} {a : Label} → StepIn y.steps s a t → Listed t
  step_listed {t = t} x =
      member_at t (states_in y) (suc x.index) (omega (arith, x.inside, length-map y.steps (λ (x : Step). x.to)))
      (get_or-map (λ (x : Step). x.to) y.steps x.index no_step ∙ x.to_is)

  walk_listed : {s t : ℕ} {w : List ℕ} → Walk (model_of y) s w t → Listed s → Listed t
  walk_listed stay h = h
  walk_listed (silent_first x walk) h = walk_listed walk (step_listed x)
  walk_listed (code_first x walk) h = walk_listed walk (step_listed x)

  pub weak_listed : {s c t : ℕ} → Weak (model_of y) s c t → Listed t
  weak_listed w = walk_listed w.silent_after (step_listed w.step)

pub phones_finite : PhonesFinite
phones_finite y = record {
  states = states_in y;
  listed = λ w t walk. let h = walk_listed y walk (start_listed y) in (index_of t (states_in y), h, index_is t (states_in y) h);
}
