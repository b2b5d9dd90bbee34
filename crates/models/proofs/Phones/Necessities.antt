-- From which states of a phone model all weak transitions with a covered code lead into a decided set: that is decided. The states from which no
-- silent walk leads out of a set are the greatest set within it that silent steps don't leave; this is taken after the code, and before it.
use Prim.Native.Nat.{ℕ}
use mathlib.Core.Path.{◌≡◌, refl}
use mathlib.Core.Bool.{Bool, true, false, ◌&&◌, and-eq-true_iff, false≢true}
use mathlib.Core.List.{[]}
use borrow.Author.Tests.{lt-ltb}
use Rattle.enforcement.specs.Model.{Label, silent, code, Walk, stay, silent_first, Weak}
use Rattle.models.specs.Phone.{Phone, StepIn, model_of}
use Rattle.models.proofs.Phones.GreatestSets.{Within, Greatest, greatest}
use Rattle.models.proofs.Phones.PhoneStates.{states_in, Listed, step_listed}
use Rattle.models.proofs.Phones.LeadingSteps.{leads, leads_is}

-- ---- labels

abbrev is_silent : Label → Bool
is_silent silent = true
is_silent (code c) = false

abbrev is_code : (covered : ℕ → Bool) → Label → Bool
is_code covered silent = false
is_code covered (code c) = covered c

-- ---- silent walks

module _ (y : Phone) (X : ℕ → Bool) where
  abbrev remains : (ℕ → Bool) → ℕ → Bool
  remains Y s = X s && leads y.steps is_silent Y s

  -- the states from which no silent walk leads out of X
  abbrev always : Greatest remains (states_in y)
  always = greatest remains (states_in y)

  abbrev Always : ℕ → Type 0
  Always s = (t : ℕ) → Walk (model_of y) s [] t → X t ≡ true

  always_remains : (s : ℕ) → always.set s ≡ true → (X s ≡ true) × (leads y.steps is_silent always.set s ≡ true)
  always_remains s h = (and-eq-true_iff (X s) (leads y.steps is_silent always.set s)).0 (always.passes s h)

  always_sound : {s t : ℕ} → Walk (model_of y) s [] t → always.set s ≡ true → X t ≡ true
  always_sound stay h = (always_remains _ h).0
  always_sound (silent_first x walk) h =
      always_sound walk ((leads_is y.steps is_silent always.set _).0 (always_remains _ h).1 silent _ refl x)

  always_complete : (s : ℕ) → Listed y s → Always s → always.set s ≡ true
  always_complete s l h = always.contains (λ v. Listed y v × Always v) passes (λ v p. lt-ltb _ _ p.0) s (l, h)
    where
      silent_step_within : (Y : ℕ → Bool) → Within (λ v. Listed y v × Always v) Y → (v : ℕ) → Always v
          → (a : Label) (t : ℕ) → is_silent a ≡ true → StepIn y.steps v a t → Y t ≡ true
      silent_step_within Y within v p silent t e x = within t (step_listed y x, λ u walk. p u (silent_first x walk))
      silent_step_within Y within v p (code c) t e x = absurd (false≢true e)

      passes : (Y : ℕ → Bool) → Within (λ v. Listed y v × Always v) Y → Within (λ v. Listed y v × Always v) (remains Y)
      passes Y within v p =
          (and-eq-true_iff (X v) (leads y.steps is_silent Y v)).1
          (p.1 v stay, (leads_is y.steps is_silent Y v).1 (silent_step_within Y within v p.1))

-- ---- weak transitions

module _ (y : Phone) (covered : ℕ → Bool) (X : ℕ → Bool) where
  -- every step with a covered code leads to where X is always
  abbrev after_code : ℕ → Bool
  after_code = leads y.steps (is_code covered) (always y X).set

  abbrev pub necessary : ℕ → Bool
  necessary = (always y after_code).set

  abbrev Necessary : ℕ → Type 0
  Necessary s = (c t : ℕ) → covered c ≡ true → Weak (model_of y) s c t → X t ≡ true

  pub necessary_sound : (s : ℕ) → necessary s ≡ true → Necessary s
  necessary_sound s h c t e w =
      always_sound y X w.silent_after
      ((leads_is y.steps (is_code covered) (always y X).set _).0 (always_sound y after_code w.silent_before h) (code c) _ e w.step)

  pub necessary_complete : (s : ℕ) → Listed y s → Necessary s → necessary s ≡ true
  necessary_complete s l h =
      always_complete y after_code s l (λ u walk. (leads_is y.steps (is_code covered) (always y X).set u).1 (code_step_always u walk))
    where
      code_step_always : (u : ℕ) → Walk (model_of y) s [] u
          → (a : Label) (v : ℕ) → is_code covered a ≡ true → StepIn y.steps u a v → (always y X).set v ≡ true
      code_step_always u walk silent v e x = absurd (false≢true e)
      code_step_always u walk (code c) v e x =
          always_complete y X v (step_listed y x)
          (λ t walk'. h c t e (record { before = u; after = v; silent_before = walk; step = x; silent_after = walk' }))
