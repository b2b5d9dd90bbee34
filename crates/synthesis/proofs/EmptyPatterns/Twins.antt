-- Twins: two nodes, one of each of two formulas, that stand at the same place and are alike but after empty patterns. Opening twins gives twins, by
-- induction on the opening: a number names one node only, so its twin is a formula of the same kind, and the bodies of the maxes around twins are twins.
use Prim.Native.Nat.{ℕ, zero, suc, ◌+◌, ◌<◌}
use mathlib.Core.Bool.{Bool}
use mathlib.Core.List.{List, [], ◌∷◌}
use native.Mathlib.Omega.{arith}
use lib.ListN.{length, get_or}
use Rattle.reading.specs.Rule.{Formula, falsity, both, necessity, max, variable, size}
use Rattle.reading.specs.Nodes.{EnclosingMax, no_max, Node, whole, first, second, after, body}
use Rattle.synthesis.specs.Opening.{Opens, falsity_itself, necessity_itself, first_part, second_part, body_of-max, body_of-variable, IsFalsity}
use Rattle.synthesis.specs.Alike.{AlikeButAfterEmpty, same_falsity, same_both, same_necessity, same_max, same_variable, after_empty}
use Rattle.synthesis.proofs.Unfolding.OpeningLaws.{same_node}
use Rattle.synthesis.proofs.EmptyPatterns.AlikeLaws.{alike_back}

-- ---- the same place

module _ (covered covered' : (pattern code : ℕ) → Bool) (root root' : Formula) where
  -- Node k of `root`, which is f inside the maxes ms, and node k' of `root'`, which is f' inside ms', stand at the same place; and the bodies of the
  -- maxes around them are alike.
  pub data SamePlace : (k k' : ℕ) → (ms ms' : List EnclosingMax) → Formula → Formula → Type 0 where
    wholes : SamePlace 0 0 [] [] root root'
    firsts : {k k' : ℕ} {ms ms' : List EnclosingMax} {f g f' g' : Formula} → SamePlace k k' ms ms' (both f g) (both f' g')
        → SamePlace (suc k) (suc k') ms ms' f f'
    seconds : {k k' : ℕ} {ms ms' : List EnclosingMax} {f g f' g' : Formula} → SamePlace k k' ms ms' (both f g) (both f' g')
        → SamePlace (k + suc (size f)) (k' + suc (size f')) ms ms' g g'
    afters : {k k' p p' : ℕ} {ms ms' : List EnclosingMax} {f f' : Formula} → SamePlace k k' ms ms' (necessity p f) (necessity p' f')
        → SamePlace (suc k) (suc k') ms ms' f f'
    bodies : {k k' : ℕ} {ms ms' : List EnclosingMax} {f f' : Formula} → AlikeButAfterEmpty covered covered' f f'
        → SamePlace k k' ms ms' (max f) (max f')
        → SamePlace (suc k) (suc k') (record { number = k; body = f } ∷ ms) (record { number = k'; body = f' } ∷ ms') f f'

module _ {covered covered' : (pattern code : ℕ) → Bool} {root root' : Formula} where
  one_node : {k k' : ℕ} {ms ms' : List EnclosingMax} {f f' : Formula} → SamePlace covered covered' root root' k k' ms ms' f f' → Node root k ms f
  one_node wholes = whole
  one_node (firsts s) = first (one_node s)
  one_node (seconds s) = second (one_node s)
  one_node (afters s) = after (one_node s)
  one_node (bodies a s) = body (one_node s)

  place_back : {k k' : ℕ} {ms ms' : List EnclosingMax} {f f' : Formula} → SamePlace covered covered' root root' k k' ms ms' f f'
      → SamePlace covered' covered root' root k' k ms' ms f' f
  place_back wholes = wholes
  place_back (firsts s) = firsts (place_back s)
  place_back (seconds s) = seconds (place_back s)
  place_back (afters s) = afters (place_back s)
  place_back (bodies a s) = bodies (alike_back a) (place_back s)

pub other_node : {covered covered' : (pattern code : ℕ) → Bool} {root root' : Formula} {k k' : ℕ} {ms ms' : List EnclosingMax} {f f' : Formula}
    → SamePlace covered covered' root root' k k' ms ms' f f' → Node root' k' ms' f'
other_node s = one_node (place_back s)

-- ---- twins

module _ (covered covered' : (pattern code : ℕ) → Bool) (root root' : Formula) where
  -- node k, which is f inside ms, has the twin k'
  pub data HasTwin (k k' : ℕ) (ms : List EnclosingMax) (f : Formula) : Type 0 where
    has_twin : {ms' : List EnclosingMax} {f' : Formula} → SamePlace covered covered' root root' k k' ms ms' f f'
        → AlikeButAfterEmpty covered covered' f f' → HasTwin k k' ms f

  abbrev pub Twins : (k k' : ℕ) → Type 0
  Twins k k' = (ms : List EnclosingMax) × (f : Formula) × HasTwin k k' ms f

  -- the twin of a node whose formula is known
  pub twin_of : {k k' : ℕ} {ms : List EnclosingMax} {f : Formula} → Node root k ms f → Twins k k' → HasTwin k k' ms f
  twin_of {k} {k'} n (ms, f, has_twin s a) = same_node (HasTwin k k') (one_node s) n (has_twin s a)

  pub twin_falsity : {k k' : ℕ} → Twins k k' → IsFalsity root k → IsFalsity root' k'
  twin_falsity {k} {k'} t (ms, n) = falsity_of (twin_of n t)
    where
      falsity_of : HasTwin k k' ms falsity → IsFalsity root' k'
      falsity_of (has_twin {ms'} s same_falsity) = (ms', other_node s)

  -- the bodies of the maxes around two nodes that stand at the same place
  bodies_around : {k k' : ℕ} {ms ms' : List EnclosingMax} {f f' : Formula} → SamePlace covered covered' root root' k k' ms ms' f f'
      → (d : ℕ) → d < length ms → (d < length ms') × Twins (suc (get_or ms d no_max).number) (suc (get_or ms' d no_max).number)
  bodies_around wholes d h = absurd (omega arith)
  bodies_around (firsts s) d h = bodies_around s d h
  bodies_around (seconds s) d h = bodies_around s d h
  bodies_around (afters s) d h = bodies_around s d h
  bodies_around (bodies {k} {ms = ms} {f = f} a s) zero h = (omega arith, (record { number = k; body = f } ∷ ms, f, has_twin (bodies a s) a))
  bodies_around (bodies a s) (suc d) h = let (bound, around) = bodies_around s d (omega arith) in (omega arith, around)

  -- ---- opening twins

  -- opening node k' gives a twin of m
  abbrev OpensTwin : (k' m : ℕ) → Type 0
  OpensTwin k' m = (m' : ℕ) × Opens root' k' m' × Twins m m'

  opens_twin_map : {k' j' m : ℕ} → ((m' : ℕ) → Opens root' j' m' → Opens root' k' m') → OpensTwin j' m → OpensTwin k' m
  opens_twin_map step (m', o, t) = (m', step m' o, t)

  -- opening each twin of node k gives a twin of m
  abbrev TwinsOpen : (k m : ℕ) → Type 0
  TwinsOpen k m = (k' : ℕ) → Twins k k' → OpensTwin k' m

  module _ {k k' : ℕ} {ms : List EnclosingMax} where
    necessity_opens : {p : ℕ} {f : Formula} → HasTwin k k' ms (necessity p f) → Opens root' k' k'
    necessity_opens (has_twin s (same_necessity same a)) = necessity_itself (other_node s)
    necessity_opens (has_twin s (after_empty none none')) = necessity_itself (other_node s)

    first_opens : {m : ℕ} {f g : Formula} → HasTwin k k' ms (both f g) → TwinsOpen (suc k) m → OpensTwin k' m
    first_opens {f = f} (has_twin s (same_both a b)) opens =
        opens_twin_map (λ m' o. first_part (other_node s) o) (opens _ (ms, f, has_twin (firsts s) a))

    second_opens : {m : ℕ} {f g : Formula} → HasTwin k k' ms (both f g) → TwinsOpen (k + suc (size f)) m → OpensTwin k' m
    second_opens {g = g} (has_twin s (same_both a b)) opens =
        opens_twin_map (λ m' o. second_part (other_node s) o) (opens _ (ms, g, has_twin (seconds s) b))

    max_opens : {m : ℕ} {f : Formula} → HasTwin k k' ms (max f) → TwinsOpen (suc k) m → OpensTwin k' m
    max_opens {f = f} (has_twin s (same_max a)) opens =
        opens_twin_map (λ m' o. body_of-max (other_node s) o) (opens _ (_, f, has_twin (bodies a s) a))

    variable_opens : {m d : ℕ} → HasTwin k k' ms (variable d) → d < length ms → TwinsOpen (suc (get_or ms d no_max).number) m → OpensTwin k' m
    variable_opens {d = d} (has_twin s same_variable) h opens =
        let (bound, around) = bodies_around s d h in
        opens_twin_map (λ m' o. body_of-variable (other_node s) bound o) (opens _ around)

  pub opens_twin : {k m : ℕ} → Opens root k m → TwinsOpen k m
  opens_twin (falsity_itself {ms = ms} n) k' t = (k', falsity_itself (twin_falsity t (ms, n)).1, t)
  opens_twin (necessity_itself n) k' t = (k', necessity_opens (twin_of n t), t)
  opens_twin (first_part n o) k' t = first_opens (twin_of n t) (opens_twin o)
  opens_twin (second_part n o) k' t = second_opens (twin_of n t) (opens_twin o)
  opens_twin (body_of-max n o) k' t = max_opens (twin_of n t) (opens_twin o)
  opens_twin (body_of-variable n h o) k' t = variable_opens (twin_of n t) h (opens_twin o)

pub twins_back : {covered covered' : (pattern code : ℕ) → Bool} {root root' : Formula} {k k' : ℕ} → Twins covered covered' root root' k k'
    → Twins covered' covered root' root k' k
twins_back (ms, f, has_twin {ms'} {f'} s a) = (ms', f', has_twin (place_back s) (alike_back a))
