-- A relation in rows grows pair by pair: the row of the pair's first state gets its second. The columns are the rows of the relation turned round.
use mathlib.Core.Path.{◌≡◌, refl, sym}
use mathlib.Core.Logic.{◌↔◌, ◌⊎◌, inl, inr, ⊎_elim}
use mathlib.Core.List.{List, [], ◌∷◌, ◌++◌}
use Prim.Native.Nat.{ℕ, ◌<◌}
use native.Mathlib.Omega.{arith}
use lib.ListN.{get_or, set, replicate, length-set}
use Rattle.reading.proofs.Numbering.NumberedLaws.{repeated_at}
use Rattle.synthesis.specs.Joined.{Some}
use Rattle.synthesis.specs.NodeSet.{Has, singleton, union}
use Rattle.synthesis.proofs.Unfolding.NodeSetLaws.{has_none}
use Rattle.synthesis.proofs.Unfolding.MemberLaws.{has_singleton_iff, union_iff}
use Rattle.models.specs.Pairs.{Pair, Listed}
use Rattle.models.specs.Relating.{Rows, Relates}
use Rattle.models.proofs.Pairs.LinkLaws.{set_everywhere}

-- ---- one more at the end of a list

some_last : {A : Type 0} (P : A → Type 0) (xs : List A) (x : A) → Some P (xs ++ x ∷ []) ↔ (Some P xs ⊎ P x)
some_last P [] x = (⊎_elim inr (λ z. absurd z), ⊎_elim (λ z. absurd z) inl)
some_last P (y ∷ xs) x =
    let rest = some_last P xs x in (
      ⊎_elim (λ h. inl (inl h)) (λ h. ⊎_elim (λ s. inl (inr s)) inr (rest.0 h)),
      ⊎_elim (⊎_elim inl (λ s. inr (rest.1 (inl s)))) (λ h. inr (rest.1 (inr h))),
    )

-- ---- rows

pub rows_none : Rows (Listed []) (replicate 64 0)
rows_none = record { long = refl; are = λ x y. (λ h. absurd (has_none y (rw (repeated_at {A = ℕ} 0 64 x) at h)), λ z. absurd z) }

-- the row of x with y
rows_with : {R S : (x y : ℕ) → Type 0} {rows : List ℕ} (x y : ℕ) → x < 64 → ((a b : ℕ) → S a b ↔ (R a b ⊎ ((x ≡ a) × (y ≡ b)))) → Rows R rows
    → Rows S (set rows x (union (get_or rows x 0) (singleton y)))
rows_with {R} {S} {rows} x y inside more r = record {
  long = simp length-set r.long;
  are = λ a b. set_everywhere 0 (λ a row. Has row b ↔ S a b) rows x _ (omega (arith, r.long)) (here b) (there b) a;
}
  where
    here : (b : ℕ) → Has (union (get_or rows x 0) (singleton y)) b ↔ S x b
    here b =
        let members = union_iff (get_or rows x 0) (singleton y) b (r.are x b) (has_singleton_iff y b) in (
          λ h. (more x b).1 (⊎_elim inl (λ same. inr (refl, same)) (members.0 h)),
          λ s. members.1 (⊎_elim inl (λ same. inr same.1) ((more x b).0 s)),
        )

    there : (b a : ℕ) → (a ≡ x → ⊥) → Has (get_or rows a 0) b ↔ S a b
    there b a other = (
      λ h. (more a b).1 (inl ((r.are a b).0 h)),
      λ s. (r.are a b).1 (⊎_elim (λ h. h) (λ same. absurd (other (sym same.0))) ((more a b).0 s)),
    )

-- ---- the relation of a list

pub relates_none : Relates [] (replicate 64 0) (replicate 64 0)
relates_none = record { in_rows = rows_none; in_columns = record { long = rows_none.long; are = λ y x. rows_none.are y x } }

pub relates_one_more : {ps : List Pair} {rows columns : List ℕ} (p : Pair) → p.first < 64 → p.second < 64 → Relates ps rows columns
    → Relates (ps ++ p ∷ []) (set rows p.first (union (get_or rows p.first 0) (singleton p.second)))
    (set columns p.second (union (get_or columns p.second 0) (singleton p.first)))
relates_one_more {ps} p first second r = record {
  in_rows = rows_with p.first p.second first (λ a b. some_last _ ps p) r.in_rows;
  in_columns = rows_with p.second p.first second
      (λ b a. let more = some_last (λ q. (q.first ≡ a) × (q.second ≡ b)) ps p in (
        λ s. ⊎_elim inl (λ q. inr (q.1, q.0)) (more.0 s),
        λ s. more.1 (⊎_elim inl (λ q. inr (q.1, q.0)) s),
      ))
      r.in_columns;
}
