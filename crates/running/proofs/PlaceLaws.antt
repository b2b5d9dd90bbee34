-- The places of the rules on duty, of which the code looks at one after another: the rules in the first n places, one place more at a time.
use Prim.Native.Nat.{ℕ, zero, suc, ◌+◌, ◌≤◌, ◌<◌}
use mathlib.Core.Path.{◌≡◌, refl, sym, ◌∙◌}
use mathlib.Core.Bool.{Bool, true, false, cond, ◌||◌}
use mathlib.Core.List.{List, [], ◌∷◌, ◌++◌, map, map-append}
use native.Mathlib.Decide.{dec_lt}
use native.Mathlib.Omega.{arith}
use native.Mathlib.Numerals.{add-one}
use lib.Dec.{ltb}
use lib.ListN.{length, get_or, take, length-append, get_or-append}
use lib.Seq.{take_all, take-suc, get_or_at}
use Rattle.running.specs.Lists.{any}
use Rattle.running.specs.Duty.{vacant, in_places, moved_to}
use Rattle.running.specs.Places.{in_place, standing}
use Rattle.running.specs.declared.OnDuty.{OnDuty}
use Rattle.running.proofs.ListTests.{any_append}

-- ---- the first n places

pub places_length : (n : ℕ) (places : List OnDuty) → length (in_places n places) ≡ n
unfolding in_places
places_length zero places = refl
places_length (suc n) places = length-append (in_places n places) (get_or places n vacant ∷ []) ∙ rw (places_length n places, add-one)

pub places_at : (n : ℕ) (places : List OnDuty) (i : ℕ) → i < n → get_or (in_places n places) i vacant ≡ get_or places i vacant
unfolding in_places
places_at zero places i h = absurd (omega arith)
places_at (suc n) places i h = on (dec_lt i n) (places_at n places i)
  where
    last : List OnDuty
    last = get_or places n vacant ∷ []

    on : Dec (i < n) → (i < n → get_or (in_places n places) i vacant ≡ get_or places i vacant)
        → get_or (in_places n places ++ last) i vacant ≡ get_or places i vacant
    on (yes k) rest = get_or-append (in_places n places) last vacant i (omega (arith, places_length n places)) ∙ rest k
    on (no k) rest =
        let is : i ≡ n = omega arith in
        rw is (get_or_at (in_places n places) (get_or places n vacant) [] vacant n (places_length n places))

-- where a list fills the first n places, these are the list
module _ (l rest : List OnDuty) where
  pub places_take : (n : ℕ) → n ≤ length l → in_places n (l ++ rest) ≡ take n l
  unfolding in_places
  places_take zero h = refl
  places_take (suc n) h = rw (places_take n (omega arith), get_or-append l rest vacant n h) (sym (take-suc l n vacant h))

  pub places_of : (n : ℕ) → length l ≡ n → in_places n (l ++ rest) ≡ l
  places_of n e = places_take n (omega arith) ∙ take_all n l (omega arith)

-- ---- the equations apart from the rules

pub standing_more : (i : ℕ) (places : List OnDuty) (equations : List ℕ)
    → standing (i + 1) places equations ≡ standing i places equations ++ (moved_to (get_or places i vacant) (get_or equations i 0) ∷ [])
unfolding standing
standing_more i places equations = rw add-one

pub standing_length : (n : ℕ) (places : List OnDuty) (equations : List ℕ) → length (standing n places equations) ≡ n
unfolding standing
standing_length zero places equations = refl
standing_length (suc n) places equations = length-append (standing n places equations) (_ ∷ []) ∙ rw (standing_length n places equations, add-one)

-- rules that stand in their own equations are as they were
pub standing_own : (n : ℕ) (places : List OnDuty) (equations : List ℕ)
    → ((i : ℕ) → i < n → get_or equations i 0 ≡ (get_or places i vacant).equation) → standing n places equations ≡ in_places n places
unfolding standing in_places
standing_own zero places equations own = refl
standing_own (suc n) places equations own = rw (standing_own n places equations (λ i h. own i (omega arith)), own n (omega arith))

-- ---- the four places, each by itself

-- the rule in place k, in an equation, if the place is one of the first n
abbrev of_first : (n : ℕ) → (places : List OnDuty) → (k e : ℕ) → List OnDuty
of_first n places k e = in_place (ltb k n) (moved_to (get_or places k vacant) e)

standing_four : (n : ℕ) → n ≤ 4 → (places : List OnDuty) (equations : List ℕ)
    → standing n places equations
    ≡ ((of_first n places 0 (get_or equations 0 0) ++ of_first n places 1 (get_or equations 1 0)) ++ of_first n places 2 (get_or equations 2 0))
    ++ of_first n places 3 (get_or equations 3 0)
unfolding standing
standing_four zero few places equations = refl
standing_four (suc zero) few places equations = refl
standing_four (suc (suc zero)) few places equations = refl
standing_four (suc (suc (suc zero))) few places equations = refl
standing_four (suc (suc (suc (suc zero)))) few places equations = refl
standing_four (suc (suc (suc (suc (suc n))))) few places equations = absurd (omega arith)

module _ (n : ℕ) (few : n ≤ 4) (places : List OnDuty) (equations : List ℕ) where
  -- the rule in place k, in the equation that stands there
  abbrev own : ℕ → List OnDuty
  own k = of_first n places k (get_or equations k 0)

  -- whether a test holds of one of the rules, from whether it holds in each place
  pub four_any : (test : OnDuty → Bool) {a b c d : Bool}
      → a ≡ any test (own 0) → b ≡ any test (own 1) → c ≡ any test (own 2) → d ≡ any test (own 3)
      → (((a || b) || c) || d) ≡ any test (standing n places equations)
  four_any test ha hb hc hd = rw (standing_four n few places equations, any_append, any_append, any_append, ha, hb, hc, hd)

  -- where the rules stand: as they were, or where each place leads its own
  pub four_chosen : (F : OnDuty → OnDuty) (stays : Bool) (a b c d : ℕ)
      → of_first n places 0 a ≡ map F (own 0) → of_first n places 1 b ≡ map F (own 1) → of_first n places 2 c ≡ map F (own 2)
      → of_first n places 3 d ≡ map F (own 3)
      → {a' b' c' d' : ℕ} → a' ≡ cond stays (get_or equations 0 0) a → b' ≡ cond stays (get_or equations 1 0) b
      → c' ≡ cond stays (get_or equations 2 0) c → d' ≡ cond stays (get_or equations 3 0) d
      → standing n places (a' ∷ b' ∷ c' ∷ d' ∷ []) ≡ cond stays (standing n places equations) (map F (standing n places equations))
  four_chosen F true a b c d ha hb hc hd ea eb ec ed = rw (ea, eb, ec, ed) (standing_four n few places _ ∙ sym (standing_four n few places equations))
  four_chosen F false a b c d ha hb hc hd ea eb ec ed =
      rw (ea, eb, ec, ed)
      (standing_four n few places _ ∙ rw (standing_four n few places equations, map-append, map-append, map-append, ha, hb, hc, hd))
