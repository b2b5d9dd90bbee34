-- Two files whose first bytes are the same say the same of a list of records, if these bytes have room for as many as are left and for the kind of
-- one more. So far the list is read, and no further.
use mathlib.Core.Path.{◌≡◌, ap}
use mathlib.Core.Bool.{cond}
use mathlib.Core.List.{[]}
use Prim.Native.Nat.{ℕ, zero, suc, ◌+◌, ◌*◌, ◌≤◌, ◌<◌}
use native.Mathlib.Omega.{arith}
use Rattle.reading.specs.File.{Outcome, accepted, refused, and_then, RecordFormat, Records, with_record, records_at}
use Rattle.reading.proofs.Basics.Outcomes.{accepted_is, never_accepted, and_then-accepted, and_then-agree_both}
use Rattle.reading.proofs.RecordLists.RecordWays.{records_cases}

-- records of at most `w` bytes, each of which says the same in two files if it ends before `end`
pub record FormatsAgree {A : Type 0} (r r' : RecordFormat A) (w end : ℕ) : Type 0 where
  pub more : (at : ℕ) → at < end → r.more at ≡ r'.more at
  pub one : (at : ℕ) → at + w ≤ end → r.one at ≡ r'.one at
  pub too_many : (at : ℕ) → at < end → r.too_many at ≡ r'.too_many at
  pub width : (x : A) → r.width x ≡ r'.width x
  pub narrow : (x : A) → r.width x ≤ w

module _ {A : Type 0} (r r' : RecordFormat A) (w end : ℕ) (a : FormatsAgree r r' w end) where
  pub records_agree : (left at : ℕ) → at + left * w < end → records_at r left at ≡ records_at r' left at
  unfolding records_at
  records_agree zero at h = rw (a.more at (omega arith), a.too_many at (omega arith))
  records_agree (suc left) at h =
      rw (a.more at (omega arith))
      (ap (λ (o : Outcome (Records A)). cond (r'.more at) o (accepted (record { list = []; next = at })))
      (and_then-agree_both (r.one at) (r'.one at) _ _ (a.one at (omega arith)) (λ x e.
      rw (← a.width x) (ap (λ (o : Outcome (Records A)). and_then o (with_record x))
      (records_agree left (at + r.width x) (omega (arith, a.narrow x)))))))

-- how far a list is read
pub records_next : {A : Type 0} (r : RecordFormat A) (w : ℕ) → ((x : A) → r.width x ≤ w) → (left at : ℕ) (xs : Records A)
    → records_at r left at ≡ accepted xs → xs.next ≤ at + left * w
unfolding records_at
records_next r w narrow zero at xs e =
    records_cases r at (λ ys. ys.next ≤ at + 0 * w) (refused (r.too_many at) at) xs e (λ more z. absurd (never_accepted z)) (λ over. omega arith)
records_next {A} r w narrow (suc left) at xs e =
    records_cases r at (λ ys. ys.next ≤ at + suc left * w) _ xs e (λ more z.
    let (x, one, e') = and_then-accepted (r.one at) _ z in
    let (ys, others, is) = and_then-accepted (records_at r left (at + r.width x)) (with_record x) e' in
    omega (arith, narrow x, records_next r w narrow left (at + r.width x) ys others, ap (λ (y : Records A). y.next) (accepted_is is)))
    (λ over. omega arith)
