-- The ways of a list of records: it ends, it goes on after one, or one is refused. Each follows from the definition, by how many are left.
use mathlib.Core.Path.{◌≡◌, refl, sym, subst, ◌∙◌}
use mathlib.Core.Bool.{Bool, true, false, cond}
use mathlib.Core.List.{List, [], ◌∷◌, ◌++◌, append_assoc}
use Prim.Native.Nat.{ℕ, zero, suc, ◌+◌, ◌<◌}
use native.Mathlib.Omega.{arith}
use lib.Dec.{eqb}
use borrow.Author.Tests.{eqb-false, ne_eqb}
use Rattle.reading.specs.File.{Outcome, accepted, refused, and_then, RecordFormat, Records, with_record, records_at}
use Rattle.reading.specs.Representations.{record_at, prepend}
use Rattle.reading.proofs.Basics.Outcomes.{accepted_is, refuse_accepted}

-- ---- the ways of a list

module _ {A : Type 0} (r : RecordFormat A) (at : ℕ) where
  pub records_end : (left : ℕ) → r.more at ≡ false → records_at r left at ≡ accepted (record { list = []; next = at })
  unfolding records_at
  records_end zero over = rw over
  records_end (suc left) over = rw over

  pub records_more : (left : ℕ) {x : A} → r.more at ≡ true → r.one at ≡ accepted x
      → records_at r (suc left) at ≡ and_then (records_at r left (at + r.width x)) (with_record x)
  unfolding records_at
  records_more left more e = rw (more, e)

  -- while some are left, the record at a place is the one that stands there
  pub record_left : (left : ℕ) → record_at r (suc left) at ≡ r.one at
  record_left left = rw (ne_eqb (suc left) 0 (λ z. omega arith))

  pub records_refused : (left : ℕ) {number place : ℕ} → r.more at ≡ true → record_at r left at ≡ refused number place
      → records_at r left at ≡ refused number place
  unfolding records_at
  records_refused zero more e = rw more cc
  records_refused (suc left) more e = rw (more, sym (record_left left) ∙ e)

  -- a record that is accepted was one of those left
  pub record_accepted : (left : ℕ) {x : A} → record_at r left at ≡ accepted x → (0 < left) × (r.one at ≡ accepted x)
  record_accepted left e =
      let some = refuse_accepted (eqb left 0) (r.too_many at) at _ e in
      (omega (arith, eqb-false left 0 some.0), some.1)

-- what holds of the records that are accepted: none begins and there are none, or one does and `others` was accepted
pub records_cases : {A : Type 0} (r : RecordFormat A) (at : ℕ) (P : Records A → Type 0) (others : Outcome (Records A)) (xs : Records A)
    → cond (r.more at) others (accepted (record { list = []; next = at })) ≡ accepted xs
    → (r.more at ≡ true → others ≡ accepted xs → P xs) → (r.more at ≡ false → P (record { list = []; next = at })) → P xs
records_cases r at P others xs = on (r.more at) refl
  where
    on : (b : Bool) → r.more at ≡ b → cond b others (accepted (record { list = []; next = at })) ≡ accepted xs
        → (r.more at ≡ true → others ≡ accepted xs → P xs) → (r.more at ≡ false → P (record { list = []; next = at })) → P xs
    on true is e some none = some is e
    on false is e some none = subst P (accepted_is e) (none is)

-- ---- records put before an outcome

module _ {A : Type 0} where
  pub prepend_none : (o : Outcome (Records A)) → o ≡ prepend [] o
  prepend_none (accepted xs) = refl
  prepend_none (refused number place) = refl

  pub prepend_first : (x : A) (xs : List A) (o : Outcome (Records A)) → and_then (prepend xs o) (with_record x) ≡ prepend (x ∷ xs) o
  prepend_first x xs (accepted ys) = refl
  prepend_first x xs (refused number place) = refl

  pub prepend_last : (xs : List A) (x : A) (o : Outcome (Records A)) → prepend xs (and_then o (with_record x)) ≡ prepend (xs ++ x ∷ []) o
  prepend_last xs x (accepted ys) = rw (append_assoc xs (x ∷ []) ys.list)
  prepend_last xs x (refused number place) = refl
