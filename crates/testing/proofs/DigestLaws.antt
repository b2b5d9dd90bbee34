-- Digests, with one digit more. The number of some digits and one more is the base times theirs, and that one, by induction over them; to take the remainder
-- of theirs first leaves out a multiple of the prime.
use Prim.Native.Nat.{ℕ, ◌+◌, ◌*◌, ◌/◌, ◌%◌}
use mathlib.Core.Path.{◌≡◌, refl, ◌∙◌, ap}
use mathlib.Core.List.{List, [], ◌∷◌, ◌++◌}
use native.Mathlib.Omega.{arith}
use native.Mathlib.Nat.{add-mul, mul_assoc, add-mul-mod_self_left}
use Rattle.std.proofs.Common.{map, length, take, get_or, ◌<◌}
use Rattle.std.proofs.lemmas.List.{take_more, map-append}
use Rattle.testing.specs.Numbers.{number_of, digest_of}

number_last : (base high : ℕ) (l : List ℕ) (d : ℕ) → number_of base high (l ++ (d ∷ [])) ≡ number_of base high l * base + d
number_last base high [] d = refl
number_last base high (x ∷ l) d = number_last base (high * base + x) l d

-- a digest goes on from what it is modulo the prime
digest_last : (base high : ℕ) (l : List ℕ) (d : ℕ)
    → digest_of base high (l ++ (d ∷ [])) ≡ (digest_of base high l * base + d) % 1000000007
digest_last base high l d = rw (number_last, whole (number_of base high l)) (add-mul-mod_self_left _ 1000000007 _)
  where
    parted : (n : ℕ) → n ≡ n % 1000000007 + 1000000007 * (n / 1000000007)
    parted n = omega arith

    spread : (r q : ℕ) → (r + 1000000007 * q) * base + d ≡ r * base + d + 1000000007 * (q * base)
    spread r q = rw (add-mul r (1000000007 * q) base, mul_assoc 1000000007 q base) (omega arith)

    whole : (n : ℕ) → n * base + d ≡ n % 1000000007 * base + d + 1000000007 * (n / 1000000007 * base)
    whole n = ap (λ (m : ℕ). m * base + d) (parted n) ∙ spread (n % 1000000007) (n / 1000000007)

-- so that of the first i digits of a buffer, and of one more
pub digest_more : {T : Type 0} (base high : ℕ) (value_of : T → ℕ) (digits : List T) (i : ℕ) (none : T) → i < length digits
    → digest_of base high (map value_of (take (i + 1) digits))
    ≡ (digest_of base high (map value_of (take i digits)) * base + value_of (get_or digits i none)) % 1000000007
digest_more base high value_of digits i none more =
    rw (take_more digits i none more, map-append) (digest_last base high (map value_of (take i digits)) (value_of (get_or digits i none)))
