-- Files whose first bytes are the same, and what is settled by so many bytes: a file and its front agree in these, or they are one.
use mathlib.Core.Path.{◌≡◌, refl}
use mathlib.Core.Bool.{Bool, true, false}
use mathlib.Core.List.{List}
use Prim.Native.Nat.{ℕ, ◌≤◌, ◌<◌}
use native.Mathlib.Omega.{arith}
use lib.ListN.{length, get_or, take}
use lib.Seq.{take_all, get_or-take, length-take-le}
use lib.Dec.{ltb, leb}
use borrow.Author.Tests.{lt-leb, ltb-true, ltb-false}

-- two files of at least n bytes, of which the first n are the same
pub record Agree (n : ℕ) (s t : List ℕ) : Type 0 where
  pub long : n ≤ length s
  pub long' : n ≤ length t
  pub same : (i : ℕ) → i < n → get_or s i 0 ≡ get_or t i 0

pub agree_inside : (n : ℕ) (s t : List ℕ) → Agree n s t → (i : ℕ) → i < n → (leb (length s) i ≡ false) × (leb (length t) i ≡ false)
agree_inside n s t a i h = (lt-leb (length s) i (omega (arith, a.long)), lt-leb (length t) i (omega (arith, a.long')))

-- What is said alike of files that agree in n bytes is settled by n bytes.
pub settled : {A : Type 0} (said : List ℕ → A) (n : ℕ) → ((s t : List ℕ) → Agree n s t → said s ≡ said t)
    → (s : List ℕ) (m : ℕ) → n ≤ m → said (take m s) ≡ said s
settled {A} said n alike s m h = on (ltb m (length s)) refl
  where
    on : (b : Bool) → ltb m (length s) ≡ b → said (take m s) ≡ said s
    on true e =
        let shorter : m < length s = ltb-true m (length s) e in
        let whole : length (take m s) ≡ m = length-take-le m s (omega arith) in
        alike (take m s) s (record { long = omega arith; long' = omega arith; same = λ i l. get_or-take m s i 0 (omega arith) })
    on false e = rw (take_all m s (ltb-false m (length s) e))
