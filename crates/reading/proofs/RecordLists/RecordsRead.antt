-- A loop over records that fills an array: what is read so far, and what each way out of the loop leaves. What is read stands before the rest.
use mathlib.Core.Path.{◌≡◌, refl, sym, ap, ◌∙◌}
use mathlib.Core.Bool.{true, false}
use mathlib.Core.List.{List, [], ◌∷◌, ◌++◌, append-nil, append_assoc}
use Prim.Native.Nat.{ℕ, suc, ◌+◌, ◌-◌, ◌<◌}
use native.Mathlib.Omega.{arith}
use lib.ListN.{length, set, replicate, length-append}
use lib.Seq.{set_at}
use Rattle.reading.specs.File.{accepted, refused, RecordFormat, records_at}
use Rattle.reading.specs.Numbered.{padded}
use Rattle.reading.specs.Representations.{record_at, prepend, RecordsBegun}
use Rattle.reading.proofs.RecordLists.RecordWays.{records_end, records_more, records_refused, record_accepted, prepend_none, prepend_last}

-- an array that fills up from the front
pub set_padded : {A : Type 0} (n i : ℕ) (x a : A) (l : List A) → length l ≡ i → i < n → set (padded n x l) i a ≡ padded n x (l ++ a ∷ [])
set_padded n i x a l e h =
    let more : n - length l ≡ suc (n - length (l ++ a ∷ [])) = omega (arith, length-append l (a ∷ [])) in
    rw more (set_at l x _ a i e ∙ sym (append_assoc l (a ∷ []) _))

module _ {A : Type 0} (r : RecordFormat A) (blank : A) (limit start : ℕ) where
  unfoldable pub begun_none : RecordsBegun r blank limit start (replicate limit blank) 0 start
  begun_none =
      let all : limit - 0 ≡ limit = omega arith in
      record { done = []; counted = refl; few = omega arith; stored = rw all; rest = rw all (prepend_none _) }

module _ {A : Type 0} {r : RecordFormat A} {blank : A} {limit start : ℕ} {array : List A} {n at : ℕ}
    (b : RecordsBegun r blank limit start array n at) where
  -- one more record
  unfoldable pub begun_one : {x : A} → r.more at ≡ true → record_at r (limit - n) at ≡ accepted x
      → RecordsBegun r blank limit start (set array n x) (n + 1) (at + r.width x)
  begun_one {x} more e =
      let (some, one) = record_accepted r at (limit - n) e in
      let left : limit - n ≡ suc (limit - (n + 1)) = omega arith in
      let others = records_at r (limit - (n + 1)) (at + r.width x) in
      record {
        done = b.done ++ x ∷ [];
        counted = length-append b.done (x ∷ []) ∙ omega (arith, b.counted);
        few = omega arith;
        stored = rw b.stored (set_padded limit n blank x b.done b.counted (omega arith));
        rest = b.rest ∙ rw left (ap (prepend b.done) (records_more r at (limit - (n + 1)) more one) ∙ prepend_last b.done x others);
      }

  -- none begins: these are all
  pub begun_all : r.more at ≡ false → records_at r limit start ≡ accepted (record { list = b.done; next = at })
  begun_all over = b.rest ∙ rw (records_end r at (limit - n) over, append-nil b.done)

  -- the next is refused, and so all are
  pub begun_refused : {number place : ℕ} → r.more at ≡ true → record_at r (limit - n) at ≡ refused number place
      → records_at r limit start ≡ refused number place
  begun_refused more e = b.rest ∙ rw (records_refused r at (limit - n) more e)
