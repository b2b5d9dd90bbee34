-- Numbers in any base, digests, and the count in an answer.
use Rattle.std.specs.Prelude.{ℕ, ◌+◌, ◌*◌, ◌%◌, List, [], ◌∷◌}
use Rattle.reading.specs.File.{Outcome, accepted, refused}

-- the number that the digits of `high` and then these make, highest first
abbrev pub number_of : (base high : ℕ) → List ℕ → ℕ
number_of base high [] = high
number_of base high (d ∷ ds) = number_of base (high * base + d) ds

-- its digest, which is the rest modulo a prime
abbrev pub digest_of : (base high : ℕ) → List ℕ → ℕ
digest_of base high digits = number_of base high digits % 1000000007

-- how many equations an answer says; none where it is a refusal
abbrev pub count_in : Outcome ℕ → ℕ
count_in (accepted n) = n
count_in (refused number place) = 0
