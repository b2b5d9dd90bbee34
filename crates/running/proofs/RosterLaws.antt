-- Who is on duty, rule by rule: what one more rule behind the others adds to the tests and to the places, and a rule whose table begins at any place
-- of what is lent. Each is a law of lists, by induction or by what is in the library.
use Prim.Native.Nat.{ℕ, zero, suc, ◌+◌, ◌-◌, ◌*◌, ◌≤◌, ◌<◌}
use mathlib.Core.Path.{◌≡◌, refl, sym, ◌∙◌, ap}
use mathlib.Core.Bool.{Bool, true, false, not, cond, ◌&&◌, ◌||◌, and-false}
use mathlib.Core.List.{List, [], ◌∷◌, ◌++◌, append-nil}
use native.Mathlib.Omega.{arith}
use lib.Dec.{eqb, leb, ltb}
use borrow.Author.Tests.{eqb-true, eqb-false, eq-eqb, ne_eqb, lt-leb, le-leb}
use lib.ListN.{length, get_or, set, take, replicate, length-append, length-take, drop_of_length-le}
use Rattle.std.proofs.Common.{take_all}
use Rattle.std.proofs.lemmas.List.{take_more, take_more_set, append_assoc, replicate-append-replicate}
use Rattle.reading.specs.Numbered.{padded}
use Rattle.reading.proofs.RecordLists.RecordsRead.{set_padded}
use Rattle.running.specs.Lists.{any, filter}
use Rattle.running.specs.Running.{entries_in_range, is_well_formed, fits}
use Rattle.running.specs.Duty.{vacant, in_places, on_duty, duty_of, is_on, are_distinct, is_sound, without, fits_at}
use Rattle.running.specs.declared.OnDuty.{OnDuty}
use Rattle.running.specs.declared.Duty.{Duty}
use Rattle.running.proofs.ListTests.{any_last, filter_last}
use Rattle.running.proofs.PlaceLaws.{places_take, places_length}
use Rattle.running.proofs.SoundStates.{duty_of-rules}

-- ---- the tests

eqb_sym : (a b : ℕ) → eqb a b ≡ eqb b a
eqb_sym a b = on (eqb b a) refl
  where
    on : (t : Bool) → eqb b a ≡ t → eqb a b ≡ t
    on true e = eq-eqb a b (sym (eqb-true b a e))
    on false e = ne_eqb a b (λ q. eqb-false b a e (sym q))

regroup : (a b c e : Bool) → (not (a || b) && (c && not e)) ≡ ((not a && c) && not (b || e))
regroup true b c e = refl
regroup false true c e = sym (and-false c)
regroup false false c e = refl

pub distinct_last : (ds : List OnDuty) (d : OnDuty) → are_distinct (ds ++ (d ∷ [])) ≡ (are_distinct ds && not (is_on d.number ds))
unfolding are_distinct any
distinct_last [] d = refl
distinct_last (x ∷ ds) d =
    rw (any_last (λ y. eqb y.number x.number) ds d, distinct_last ds d, eqb_sym d.number x.number)
    (regroup (is_on x.number ds) (eqb x.number d.number) (are_distinct ds) (is_on d.number ds))

-- ---- the rules one by one

-- the rules in the first n places are the first n of the places
pub places_front : (n : ℕ) (places : List OnDuty) → n ≤ length places → take n places ≡ in_places n places
places_front n places h = sym (rw append-nil at (places_take places [] n h))

-- the test of a state of at most four rules
pub sound_by : (d : Duty) → d.count ≤ 4 → length d.rules ≡ 4 → is_sound d ≡ are_distinct (take d.count d.rules)
sound_by d few long = let inside : d.count ≤ length d.rules = omega arith in rw (le-leb d.count 4 few, places_front d.count d.rules inside)

-- where a state is that in which some rules are on duty, these are the rules that it has
pub rules_of : {d : Duty} (ds : List OnDuty) → d ≡ duty_of ds → on_duty d ≡ ds
rules_of ds is = ap on_duty is ∙ duty_of-rules ds

pub tidy_by : {d : Duty} (ds : List OnDuty) → d ≡ duty_of ds → d ≡ duty_of (on_duty d)
tidy_by ds is = is ∙ ap duty_of (sym (rules_of ds is))

-- one more of them goes into the next place
pub pushed_is : (d : Duty) (x : OnDuty) → d ≡ duty_of (on_duty d) → d.count < 4
    → ◌≡◌ {A = Duty} (record { rules = set d.rules d.count x; count = d.count + 1 }) (duty_of (on_duty d ++ (x ∷ [])))
pushed_is d x tidy few =
    let n = places_length d.count d.rules in
    let rules : set d.rules d.count x ≡ padded 4 vacant (on_duty d ++ (x ∷ [])) =
    ap (λ (e : Duty). set e.rules d.count x) tidy ∙ set_padded 4 d.count vacant x (on_duty d) n few
    in
    let count : d.count + 1 ≡ length (on_duty d ++ (x ∷ [])) = omega (arith, length-append (on_duty d) (x ∷ []), n) in
    cc

pub pushed_onto : {d d' : Duty} (ds : List OnDuty) (x : OnDuty) → d ≡ duty_of ds → d' ≡ duty_of (on_duty d ++ (x ∷ [])) → d' ≡ duty_of (ds ++ (x ∷ []))
pushed_onto ds x is is' = is' ∙ ap (λ (es : List OnDuty). duty_of (es ++ (x ∷ []))) (rules_of ds is)

-- ---- what stands behind the rules

-- a place more behind them is cleared
pub cleared_next : (ds places : List OnDuty) (n i : ℕ) → n ≤ i → i < length places → take i places ≡ ds ++ replicate (i - n) vacant
    → take (i + 1) (set places i vacant) ≡ ds ++ replicate (i + 1 - n) vacant
cleared_next ds places n i from inside is =
    let one : (i - n) + 1 ≡ i + 1 - n = omega (arith, from) in
    take_more_set places i vacant inside ∙ ap (λ (es : List OnDuty). es ++ (vacant ∷ [])) is ∙ append_assoc ds (replicate (i - n) vacant) (vacant ∷ [])
    ∙ ap (λ (es : List OnDuty). ds ++ es) (replicate-append-replicate (i - n) 1 vacant) ∙ ap (λ (k : ℕ). ds ++ replicate k vacant) one

-- all are
pub cleared_all : (ds places : List OnDuty) (n i : ℕ) → length ds ≡ n → i ≡ 4 → length places ≡ 4 → take i places ≡ ds ++ replicate (i - n) vacant
    → ◌≡◌ {A = Duty} (record { rules = places; count = n }) (duty_of ds)
cleared_all ds places n i n-is i-is long is =
    let rules : places ≡ padded 4 vacant ds = sym (take_all i places (omega (arith, i-is, long))) ∙ is ∙ rw (i-is, n-is) refl in
    cc

-- ---- those that stay

-- they are no more than there were
stay_few : (number : ℕ) (ds : List OnDuty) → length (without number ds) ≤ length ds
unfolding filter
stay_few number [] = omega arith
stay_few number (d ∷ ds) = on (not (eqb d.number number)) (stay_few number ds)
  where
    on : (b : Bool) → length (without number ds) ≤ length ds → length (cond b (d ∷ without number ds) (without number ds)) ≤ length (d ∷ ds)
    on true few = omega arith
    on false few = omega arith

module _ (number : ℕ) (ds : List OnDuty) (i : ℕ) where
  -- so there is a place for one more
  pub staying_few : {d' : Duty} (d : Duty) → d' ≡ duty_of (without number (take i ds)) → d.count ≤ 4 → ds ≡ on_duty d → i < length ds → d'.count < 4
  staying_few d is few are h =
      let count = ap (λ (e : Duty). e.count) is in
      let long = ap (λ (es : List OnDuty). length es) are ∙ places_length d.count d.rules in
      omega (arith, count, long, stay_few number (take i ds), length-take i ds)

  -- the next one stays where it has another number
  pub without_next : (b : Bool) → i < length ds → not (eqb (get_or ds i vacant).number number) ≡ b
      → without number (take (i + 1) ds) ≡ cond b (without number (take i ds) ++ (get_or ds i vacant ∷ [])) (without number (take i ds))
  without_next b h is = rw (take_more ds i vacant h, filter_last, is)

-- ---- a table that begins at any place

-- a table that begins behind the end of what is lent isn't well formed
pub no_table : (limit mark : ℕ) (tables : List ℕ) (d : OnDuty) → length tables ≤ d.base → fits_at limit mark tables d ≡ false
unfolding fits is_well_formed
no_table limit mark tables d h =
    rw (drop_of_length-le tables h)
    (none d.count (leb d.count limit) (entries_in_range mark d.count (take (256 * d.count) [])) (ltb d.equation d.count))
  where
    none : (count : ℕ) (x y z : Bool) → ((leb 1 count && (x && (leb (256 * count) 0 && y))) && z) ≡ false
    none zero x y z = refl
    none (suc n) x y z = simp (lt-leb (256 * suc n) 0 (omega arith), and-false)
