-- The reader's scope, an array and two counts, lists the numbers of the max nodes around a record, and which of them are guarded. A store past the
-- entries in use changes none of them and adds the innermost. The guards are a run of false and then a run of true, so a depth is in one of the two.
use mathlib.Core.Path.{◌≡◌, refl, ap, ◌∙◌}
use mathlib.Core.Bool.{true, false}
use mathlib.Core.List.{List, [], ◌∷◌, ◌++◌}
use Prim.Native.Nat.{ℕ, zero, suc, ◌+◌, ◌-◌, ◌≤◌, ◌<◌}
use native.Mathlib.Omega.{arith}
use native.Mathlib.Numerals.{add-one}
use lib.ListN.{length, get_or, set, replicate, length-append, length-replicate, get_or-replicate, get_or-append}
use lib.Seq.{get_or-set_same, get_or-set_other}
use Rattle.reading.specs.Rule.{Guards, guarded}
use Rattle.reading.specs.Scopes.{last_first, guards_of}

-- ---- numbers

pub number_at : (n : ℕ) (ns : List ℕ) (d : ℕ) → d < n → get_or (last_first n ns) d 0 ≡ get_or ns (n - 1 - d) 0
unfolding last_first
number_at zero ns d h = absurd (omega arith)
number_at (suc n) ns zero h = let e : suc n - 1 - 0 ≡ n = omega arith in rw e
number_at (suc n) ns (suc d) h =
    let e : suc n - 1 - suc d ≡ n - 1 - d = omega arith in rw e (number_at n ns d (omega arith))

-- a store past the first n changes none of them
numbers_past : (n i : ℕ) (ns : List ℕ) (v : ℕ) → n ≤ i → last_first n (set ns i v) ≡ last_first n ns
unfolding last_first
numbers_past zero i ns v h = refl
numbers_past (suc n) i ns v h = rw (get_or-set_other ns i n v 0 (λ e. omega arith), numbers_past n i ns v (omega arith))

-- one more max, at the end of the array, is the innermost
pub numbers_max : (n : ℕ) (ns : List ℕ) (v : ℕ) → n < length ns → last_first (n + 1) (set ns n v) ≡ v ∷ last_first n ns
unfolding last_first
numbers_max n ns v h = rw (add-one n, get_or-set_same ns n v 0 h, numbers_past n n ns v (omega arith))

-- ---- guards

pub guards_length : (m u : ℕ) → u ≤ m → length (guards_of m u) ≡ m
unfolding guards_of
guards_length m u h =
    length-append (replicate u false) (replicate (m - u) true) ∙ omega (arith, length-replicate u false, length-replicate (m - u) true)

pub unguarded_at : (m u d : ℕ) → d < u → get_or (guards_of m u) d false ≡ false
unfolding guards_of
unguarded_at m u d h =
    get_or-append (replicate u false) (replicate (m - u) true) false d (rw length-replicate h) ∙ get_or-replicate u d false false h

past_unguarded : (u n d : ℕ) → u ≤ d → d < u + n → get_or (replicate u false ++ replicate n true) d false ≡ true
past_unguarded zero n d h lt = get_or-replicate n d true false (omega arith)
past_unguarded (suc u) n zero h lt = absurd (omega arith)
past_unguarded (suc u) n (suc d) h lt = past_unguarded u n d (omega arith) (omega arith)

pub guarded_at : (m u d : ℕ) → u ≤ d → d < m → get_or (guards_of m u) d false ≡ true
unfolding guards_of
guarded_at m u d h lt = past_unguarded u (m - u) d h (omega arith)

pub guards_max : (m u : ℕ) → guards_of (m + 1) (u + 1) ≡ false ∷ guards_of m u
unfolding guards_of
guards_max m u = let e : m + 1 - (u + 1) ≡ m - u = omega arith in rw (e, add-one u)

all_guarded : (g : Guards) → guarded g ≡ replicate (length g) true
all_guarded [] = refl
all_guarded (b ∷ g) = ap (λ (l : Guards). true ∷ l) (all_guarded g)

pub guards_necessity : (m u : ℕ) → u ≤ m → guards_of m 0 ≡ guarded (guards_of m u)
unfolding guards_of
guards_necessity m u h =
    let whole : m - 0 ≡ m = omega arith in
    rw (whole, all_guarded (guards_of m u), guards_length m u h)
