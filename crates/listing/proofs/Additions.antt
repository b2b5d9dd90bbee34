-- A word behind the text of a line in the making, and four fields one after the other.
use mathlib.Core.Path.{◌≡◌, refl, sym, ap, ap₂, ◌∙◌}
use mathlib.Core.List.{List, [], ◌∷◌, ◌++◌, append_assoc}
use Prim.Native.Nat.{ℕ, ◌+◌, ◌-◌, ◌≤◌}
use native.Mathlib.Omega.{arith}
use lib.ListN.{length, take, drop, replicate, length-append, length-take, length-replicate}
use borrow.Rule.Slice.PartMut.{put_mid}
use Rattle.std.proofs.lemmas.List.{take_at, drop_at, drop-replicate}
use Rattle.reading.specs.Numbered.{padded}
use Rattle.listing.specs.Text.{text}
use Rattle.listing.specs.Lines.{line}
use Rattle.listing.specs.LineParts.{Prints}
use Rattle.listing.specs.declared.Line.{Line}

-- ---- one word

-- the first n bytes are the text t
module _ (n : ℕ) (bytes t : List ℕ) (stored : (n ≤ 64) × (bytes ≡ padded 64 0 (take n bytes))) (text : take n bytes ≡ t) where
  text_length : length t ≡ n
  text_length =
      let rest : List ℕ = replicate (64 - length (take n bytes)) 0 in
      let zeros : length rest ≡ 64 - length (take n bytes) = length-replicate (64 - length (take n bytes)) 0 in
      omega (arith, stored.0, ap length text, length-take n bytes, ap length stored.1, length-append (take n bytes) rest, zeros)

  -- a word is put behind it
  module _ (w now : List ℕ) (put : now ≡ w) (room : length t + length w ≤ 64) where
    pub word_fits : n + length w ≤ 64
    word_fits = omega (arith, room, text_length)

    word_put : put_mid n (n + length w - n) bytes now ≡ padded 64 0 (t ++ w)
    word_put =
        let rest : List ℕ = replicate (64 - length t) 0 in
        let padding : bytes ≡ t ++ rest = rw text at stored.1 in
        let after : drop (n + length w - n) (drop n bytes) ≡ replicate (64 - length (t ++ w)) 0 =
        ap (drop (n + length w - n)) (ap (drop n) padding ∙ drop_at t rest n text_length)
        ∙ drop-replicate (n + length w - n) (64 - length t) 0
        ∙ ap (λ (m : ℕ). replicate m 0) (omega (arith, length-append t w, text_length))
        in
        ap₂ (λ (a b : List ℕ). a ++ b) text (ap₂ (λ (a b : List ℕ). a ++ b) put after) ∙ sym (append_assoc t w _)

    pub word_taken : take (n + length w) (put_mid n (n + length w - n) bytes now) ≡ t ++ w
    word_taken =
        ap (take (n + length w)) word_put ∙ take_at (t ++ w) _ (n + length w) (omega (arith, length-append t w, text_length))

    pub word_stored : put_mid n (n + length w - n) bytes now ≡ padded 64 0 (take (n + length w) (put_mid n (n + length w - n) bytes now))
    word_stored = word_put ∙ ap (padded 64 0) (sym word_taken)

-- ---- four fields

pub four_fields : {none one two three four : List ℕ} (a b c d : List ℕ) → none ≡ [] → one ≡ none ++ a → two ≡ one ++ (text " " ++ b)
    → three ≡ two ++ (text " " ++ c) → four ≡ three ++ (text " " ++ d) → {l : Line} → Prints (four ++ text "\n") l → Prints (line (a ∷ b ∷ c ∷ d ∷ [])) l
four_fields {four = four} a b c d e₀ e₁ e₂ e₃ e₄ p =
    let whole : four ++ text "\n" ≡ line (a ∷ b ∷ c ∷ d ∷ []) = rw (e₄, e₃, e₂, e₁, e₀) (simp (append_assoc) refl) in
    rw (← whole) p
