-- Laws of the bytes of elements, one after the other. Where the bytes of an element tell it and where they end, the bytes of some tell these.
use mathlib.Core.Path.{◌≡◌, refl, sym, ap, ◌∙◌}
use mathlib.Core.List.{List, [], ◌∷◌, ◌++◌, append_assoc, append-nil}
use Prim.Native.Nat.{ℕ, ◌≤◌}
use native.Mathlib.Omega.{arith}
use lib.ListN.{length, length-append}
use Rattle.reading.specs.Rule.{All, encode_each, Bytes}
use Rattle.reading.proofs.Basics.ByteLaws.{bytes_append}

module _ {A : Type 0} (bytes : A → List ℕ) where
  pub encode_each-append : (xs ys : List A) → encode_each bytes (xs ++ ys) ≡ encode_each bytes xs ++ encode_each bytes ys
  encode_each-append [] ys = refl
  encode_each-append (x ∷ xs) ys =
      ap (λ (l : List ℕ). bytes x ++ l) (encode_each-append xs ys) ∙ sym (append_assoc (bytes x) (encode_each bytes xs) (encode_each bytes ys))

  pub encode_each-bytes : (Fit : A → Type 0) → ((x : A) → Fit x → Bytes (bytes x)) → (xs : List A) → All Fit xs → Bytes (encode_each bytes xs)
  encode_each-bytes Fit each [] all = tt
  encode_each-bytes Fit each (x ∷ xs) all =
      bytes_append (bytes x) (encode_each bytes xs) (each x all.0) (encode_each-bytes Fit each xs all.1)

  -- ---- bytes that tell their element, and where they end
  module _ (some : (x : A) → 1 ≤ length (bytes x)) (tell : (x y : A) (p q : List ℕ) → bytes x ++ p ≡ bytes y ++ q → (x ≡ y) × (p ≡ q)) where
    -- what follows elements in the bytes of others are the bytes of the rest of these
    pub encode_each-front : (xs ys : List A) (rest : List ℕ) → encode_each bytes xs ++ rest ≡ encode_each bytes ys
        → (zs : List A) × (ys ≡ xs ++ zs) × (rest ≡ encode_each bytes zs)
    encode_each-front [] ys rest e = (ys, refl, e)
    encode_each-front (x ∷ xs) [] rest e =
        absurd (omega (
          arith,
          ap length e,
          length-append (bytes x ++ encode_each bytes xs) rest,
          length-append (bytes x) (encode_each bytes xs),
          some x,
        ))
    encode_each-front (x ∷ xs) (y ∷ ys) rest e =
        let (first, others) = tell x y (encode_each bytes xs ++ rest) (encode_each bytes ys) (sym (append_assoc (bytes x) (encode_each bytes xs) rest) ∙ e) in
        let (zs, are, left) = encode_each-front xs ys rest others in
        (zs, cc, left)

    pub encode_each-same : (xs ys : List A) → encode_each bytes xs ≡ encode_each bytes ys → xs ≡ ys
    encode_each-same xs ys e =
        let (zs, are, left) = encode_each-front xs ys [] (append-nil (encode_each bytes xs) ∙ e) in on zs are left
      where
        on : (zs : List A) → ys ≡ xs ++ zs → [] ≡ encode_each bytes zs → xs ≡ ys
        on [] are left = sym (are ∙ append-nil xs)
        on (z ∷ zs) are left = absurd (omega (arith, ap length left, length-append (bytes z) (encode_each bytes zs), some z))
