-- A model file of 512 steps is refused where one more record begins, whatever its kind is: the steps are read by the law of files that are full, and
-- not one by one.
use Prim.Native.Nat.{ℕ, zero, suc, ◌*◌, ◌+◌}
use mathlib.Core.Path.{◌≡◌, refl, ◌∙◌}
use mathlib.Core.Bool.{cond, ◌||◌}
use mathlib.Core.List.{List, [], ◌∷◌, ◌++◌}
use native.Mathlib.Omega.{arith}
use lib.Dec.{eqb}
use lib.ListN.{length, replicate, length-replicate}
use Rattle.reading.specs.Rule.{All}
use Rattle.reading.specs.File.{accepted, refused}
use Rattle.models.specs.Phone.{WellFormedStep, encode_steps, states_of, phone_of}
use Rattle.models.specs.declared.Step.{Step}
use Rattle.models.proofs.Files.StepBytes.{steps_full}
use Rattle.models.proofs.Files.Encoding.{states_read_lem}
use Rattle.examples.specs.ModelExamples.{step}
use Rattle.examples.specs.RefusalExamples.{times}

-- n steps from state 0 to itself
abbrev self_loops : ℕ → List Step
self_loops n = replicate n (step 0 0 0)

self_loops_well_formed : (n : ℕ) → All (WellFormedStep 1) (self_loops n)
self_loops_well_formed zero = tt
self_loops_well_formed (suc n) = (record { from = omega arith; label = omega arith; to = omega arith }, self_loops_well_formed n)

self_loops_length : (n : ℕ) → length (encode_steps (self_loops n)) ≡ 4 * n
self_loops_length zero = refl
self_loops_length (suc n) = omega (arith, self_loops_length n)

self_loops_bytes : (n : ℕ) (rest : List ℕ) → times n (17 ∷ 0 ∷ 0 ∷ 0 ∷ []) rest ≡ encode_steps (self_loops n) ++ rest
unfolding times
self_loops_bytes zero rest = refl
self_loops_bytes (suc n) rest = rw (self_loops_bytes n rest)

-- the number is a variable, so that no list of so many steps is written out
after_self_loops : (n : ℕ) → n ≡ 512 → (kind : ℕ) (rest : List ℕ)
    → phone_of (16 ∷ 1 ∷ times n (17 ∷ 0 ∷ 0 ∷ 0 ∷ []) (kind ∷ rest)) ≡ refused (cond (eqb kind 17 || eqb kind 18) 14 12) 2050
unfolding phone_of
after_self_loops n e kind rest =
    let f : List ℕ = 16 ∷ 1 ∷ times n (17 ∷ 0 ∷ 0 ∷ 0 ∷ []) (kind ∷ rest) in
    let states : states_of f ≡ accepted 1 = states_read_lem 1 _ (omega arith) (omega arith) in
    let place : 2 + length (encode_steps (self_loops n)) ≡ 2050 = omega (arith, self_loops_length n) in
    let full : length (self_loops n) ≡ 512 = length-replicate n (step 0 0 0) ∙ e in
    rw (states, steps_full f 1 (self_loops n) 2 512 kind rest (self_loops_well_formed n) full (self_loops_bytes n (kind ∷ rest)), place)

pub step_513 : (rest : List ℕ) → phone_of (16 ∷ 1 ∷ times 512 (17 ∷ 0 ∷ 0 ∷ 0 ∷ []) (17 ∷ rest)) ≡ refused 14 2050
step_513 = after_self_loops 512 refl 17

pub silent_513 : (rest : List ℕ) → phone_of (16 ∷ 1 ∷ times 512 (17 ∷ 0 ∷ 0 ∷ 0 ∷ []) (18 ∷ rest)) ≡ refused 14 2050
silent_513 = after_self_loops 512 refl 18

pub kind_19_late : (rest : List ℕ) → phone_of (16 ∷ 1 ∷ times 512 (17 ∷ 0 ∷ 0 ∷ 0 ∷ []) (19 ∷ rest)) ≡ refused 12 2050
kind_19_late = after_self_loops 512 refl 19
