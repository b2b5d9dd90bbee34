-- One digit more of a buffer that is prepared.
use Prim.Native.Nat.{ℕ, ◌+◌, ◌*◌, ◌%◌, ◌<◌}
use mathlib.Core.Path.{◌≡◌, refl, ◌∙◌}
use mathlib.Core.List.{List}
use native.Mathlib.Nat.{mod-add-mod, mod-eq_of_lt, mul-suc, add_assoc}
use Rattle.std.proofs.Common.{map, length, take, set, add-one}
use Rattle.std.proofs.lemmas.List.{take_more_set, map-append}
use Rattle.testing.specs.Preparing.{prepared}

module _ (size first step : ℕ) where
  -- the digit that comes next is set where the prepared ones end
  pub prepared_more : {T : Type 0} (value_of : T → ℕ) (digits : List T) (i : ℕ) (digit : T) {next : ℕ} → i < length digits
      → map value_of (take i digits) ≡ prepared size first step i → value_of digit ≡ next → next ≡ (first + step * i) % size
      → map value_of (take (i + 1) (set digits i digit)) ≡ prepared size first step (i + 1)
  unfolding prepared
  prepared_more value_of digits i digit more front this next =
      rw (take_more_set digits i digit more, map-append, front, this, next, add-one) refl

  -- and so is the last digit of a number below the base
  pub prepared_more_last : {T : Type 0} (value_of : T → ℕ) (digits : List T) (i : ℕ) (digit : T) {base next : ℕ} → i < length digits
      → map value_of (take i digits) ≡ prepared size first step i → value_of digit ≡ next % base → next ≡ (first + step * i) % size → next < base
      → map value_of (take (i + 1) (set digits i digit)) ≡ prepared size first step (i + 1)
  prepared_more_last value_of digits i digit more front this next below =
      prepared_more value_of digits i digit more front (this ∙ mod-eq_of_lt below) next

  -- and the one after it: a remainder that is taken before adding changes nothing
  pub next_more : (i : ℕ) → ((first + step * i) % size + step) % size ≡ (first + step * (i + 1)) % size
  next_more i = rw (mod-add-mod, add-one, mul-suc, add_assoc)
