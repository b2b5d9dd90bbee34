-- A list of records is accepted exactly as the encoding of well-formed records, no more than are left, after which none begins. One way by going
-- over the records, the other by going over how many are left.
use mathlib.Core.Path.{◌≡◌, refl, sym, ap, ◌∙◌, subst}
use mathlib.Core.Bool.{true, false}
use mathlib.Core.Logic.{◌↔◌}
use mathlib.Core.List.{List, [], ◌∷◌, ◌++◌, append_assoc, append-nil}
use Prim.Native.Nat.{ℕ, zero, suc, ◌+◌, ◌-◌, ◌≤◌}
use native.Mathlib.Omega.{arith}
use lib.ListN.{length, drop, length-append}
use Rattle.reading.specs.Rule.{All, encode_each}
use Rattle.reading.specs.File.{Outcome, accepted, refused, and_then, RecordFormat, Records, with_record, records_at}
use Rattle.reading.specs.Representations.{prepend}
use Rattle.reading.proofs.Basics.Outcomes.{accepted_is, never_accepted, and_then-accepted}
use Rattle.reading.proofs.Basics.Places.{rest_after}
use Rattle.reading.proofs.RecordLists.RecordWays.{records_end, records_more, records_cases, prepend_none, prepend_first}

-- ---- what is asked of one record

module _ {A : Type 0} (s : List ℕ) (r : RecordFormat A) (bytes : A → List ℕ) (Fit : A → Type 0) where
  -- A record that fits is read where its bytes stand.
  pub record ReadsRecords : Type 0 where
    pub long : (x : A) → length (bytes x) ≡ r.width x
    pub reads : (at : ℕ) (x : A) (rest : List ℕ) → Fit x → drop at s ≡ bytes x ++ rest → (r.more at ≡ true) × (r.one at ≡ accepted x)

  -- A record that is read fits, and its bytes stand there.
  abbrev pub FindsRecords : Type 0
  FindsRecords = (at : ℕ) (x : A) → r.more at ≡ true → r.one at ≡ accepted x → Fit x × (drop at s ≡ bytes x ++ drop (at + r.width x) s)

  -- Records that fit stand from `at` on, no more than `left`, and none follows.
  pub record RecordsStand (at left : ℕ) (xs : Records A) : Type 0 where
    pub well_formed : All Fit xs.list
    pub few : length xs.list ≤ left
    pub bytes_are : drop at s ≡ encode_each bytes xs.list ++ drop xs.next s
    pub ends : xs.next ≡ at + length (encode_each bytes xs.list)
    pub over : r.more xs.next ≡ false

  -- ---- what stands is read

  module _ (k : ReadsRecords) where
    -- reading goes on after records that stand
    pub records_after : (xs : List A) (at next left total : ℕ) (rest : List ℕ) → All Fit xs → drop at s ≡ encode_each bytes xs ++ rest
        → next ≡ at + length (encode_each bytes xs) → total ≡ length xs + left → records_at r total at ≡ prepend xs (records_at r left next)
    records_after [] at next left total rest all from ends count =
        let here : next ≡ at = omega arith in
        let same : total ≡ left = omega arith in
        rw (here, same) (prepend_none (records_at r left at))
    records_after (x ∷ xs) at next left zero rest all from ends count = absurd (omega arith)
    records_after (x ∷ xs) at next left (suc total) rest all from ends count =
        let from' = from ∙ append_assoc (bytes x) (encode_each bytes xs) rest in
        let (more, one) = k.reads at x (encode_each bytes xs ++ rest) all.0 from' in
        let after : drop (at + r.width x) s ≡ encode_each bytes xs ++ rest = rw (← k.long x) (rest_after s at (bytes x) from') in
        let ends' : next ≡ at + r.width x + length (encode_each bytes xs) =
        omega (arith, length-append (bytes x) (encode_each bytes xs), k.long x) in
        records_more r at total more one
        ∙ (ap (λ (o : Outcome (Records A)). and_then o (with_record x))
        (records_after xs (at + r.width x) next left total rest all.1 after ends' (omega arith))
        ∙ prepend_first x xs (records_at r left next))

    pub records_read : (at left : ℕ) (xs : Records A) → RecordsStand at left xs → records_at r left at ≡ accepted xs
    records_read at left xs h =
        records_after xs.list at xs.next (left - length xs.list) left (drop xs.next s) h.well_formed h.bytes_are h.ends
        (omega (arith, h.few))
        ∙ rw (records_end r xs.next (left - length xs.list) h.over, append-nil xs.list)

    -- after as many records as are left, one more is too many
    pub records_full : (xs : List A) (at left : ℕ) (rest : List ℕ) → All Fit xs → length xs ≡ left → drop at s ≡ encode_each bytes xs ++ rest
        → let next = at + length (encode_each bytes xs) in r.more next ≡ true → records_at r left at ≡ refused (r.too_many next) next
    unfolding records_at
    records_full xs at left rest all full from more =
        records_after xs at (at + length (encode_each bytes xs)) zero left rest all from refl (omega arith) ∙ rw more

  -- ---- what is read stands

  module _ (k : FindsRecords) where
    none_stand : (at left : ℕ) → r.more at ≡ false → RecordsStand at left (record { list = []; next = at })
    none_stand at left over = record { well_formed = tt; few = omega arith; bytes_are = refl; ends = omega arith; over = over }

    pub records_stand : ((x : A) → length (bytes x) ≡ r.width x) → (left at : ℕ) (xs : Records A) → records_at r left at ≡ accepted xs
        → RecordsStand at left xs
    unfolding records_at
    records_stand long zero at xs e =
        records_cases r at (RecordsStand at zero) (refused (r.too_many at) at) xs e (λ more e'. absurd (never_accepted e')) (none_stand at zero)
    records_stand long (suc left) at xs e =
        records_cases r at (RecordsStand at (suc left)) _ xs e (λ more e'.
        let (x, one, e'') = and_then-accepted (r.one at) _ e' in
        let (ys, others, is) = and_then-accepted (records_at r left (at + r.width x)) (with_record x) e'' in
        let (fit, first) = k at x more one in
        let rest = records_stand long left (at + r.width x) ys others in
        subst (RecordsStand at (suc left)) (accepted_is is) (record {
          well_formed = (fit, rest.well_formed);
          few = omega (arith, rest.few);
          bytes_are = first
              ∙ (ap (λ (l : List ℕ). bytes x ++ l) rest.bytes_are
              ∙ sym (append_assoc (bytes x) (encode_each bytes ys.list) (drop ys.next s)));
          ends = omega (arith, rest.ends, length-append (bytes x) (encode_each bytes ys.list), long x);
          over = rest.over;
        }))
        (none_stand at (suc left))

  pub records_accept : ReadsRecords → FindsRecords → (at left : ℕ) (xs : Records A) → (records_at r left at ≡ accepted xs) ↔ RecordsStand at left xs
  records_accept reads finds at left xs = (records_stand finds reads.long left at xs, records_read reads at left xs)
