-- The short table is the only one. A rival with as many rows has for each row of the short table exactly one that drops alike: the rows for different rows
-- differ, and so none is left out. So the rival is the short table with its rows renamed; as both are numbered as found, and there is only one such
-- numbering, each row keeps its number.
use Prim.Native.Nat.{ℕ, ◌<◌}
use mathlib.Core.Path.{◌≡◌, refl, sym, ◌∙◌, ap}
use mathlib.Core.Bool.{Bool, true, false, cond}
use mathlib.Core.List.{List}
use native.Mathlib.Omega.{arith}
use lib.Dec.{eqb}
use lib.ListN.{length, get_or}
use lib.Seq.{ext_get_or}
use borrow.Author.Tests.{eqb-true}
use Rattle.synthesis.specs.Monitor.{Answer, dropped, next, row_of, meaning, lookup}
use Rattle.synthesis.specs.Merging.{DropAlike}
use Rattle.synthesis.specs.Table.{WellFormedTable}
use Rattle.synthesis.specs.Promises.{AsFound}
use Rattle.synthesis.specs.ShortPromises.{numbers_below, ShortIsOnly}
use Rattle.synthesis.proofs.Monitors.Renaming.{Renames}
use Rattle.synthesis.proofs.Monitors.DroppingAlike.{StepAlike, both_dropped, both_next, alike_step}
use Rattle.synthesis.proofs.Numberings.Tabulating.{Injective, tabulate_length, tabulate_at, injective_onto}
use Rattle.synthesis.proofs.Numberings.Numbering.{Numbering, numberings_same, names_of, name_at, renamed_numbering}
use Rattle.synthesis.proofs.Tables.WellFormedTables.{lookup_inside}
use Rattle.synthesis.proofs.Quotients.Settled.{Inside}
use Rattle.synthesis.proofs.Quotients.ShortFillings.{short_in_range}
use Rattle.synthesis.proofs.Quotients.Minimal.{Separated, rival_row, rival_alike, rival_apart, rival_injective, rival_below, separated}
use Rattle.synthesis.proofs.Quotients.ShortOrder.{short_as_found}

-- ---- a rival with as many rows is renamed

module _ {codes : ℕ} {answer : ℕ → ℕ → Answer ℕ} {n : ℕ} (separated : Separated codes answer n) (rival : ℕ → ℕ → Answer ℕ)
    (alike : DropAlike codes answer 0 rival 0) (inside : Inside codes answer n) (rival_inside : Inside codes rival n) (some : 0 < n) where
  -- no other row of the rival drops as row i
  rival_only : (i j : ℕ) → i < n → j < n → DropAlike codes answer i rival j → j ≡ rival_row separated rival i
  rival_only i j h h' a =
      let (k, b, is) = injective_onto (rival_row separated rival) n (rival_injective separated rival alike)
      (rival_below separated rival alike n rival_inside some) j h' in
      let same : k ≡ i = rival_apart separated rival k i j b h (rw is at (rival_alike separated rival alike k b)) a in
      sym is ∙ ap (rival_row separated rival) same

  rival_step : (i c : ℕ) → i < n → c < codes → StepAlike codes answer rival (answer i c) (rival (rival_row separated rival i) c)
  rival_step i c h b = alike_step codes answer rival i (rival_row separated rival i) (rival_alike separated rival alike i h) c b

  rival_renames : Renames codes (λ k. k < n) answer rival (rival_row separated rival)
  rival_renames = record {
    invariant = λ i j c h b q. inside i c j h b q;
    drops = λ i c h b q. drop (rival (rival_row separated rival i) c) (rw q at (rival_step i c h b));
    follows = λ i j c h b q. follow i j c h b q (rival (rival_row separated rival i) c) refl (rw q at (rival_step i c h b));
  }
    where
      drop : (a : Answer ℕ) → StepAlike codes answer rival dropped a → a ≡ dropped
      drop (next _) x'' = elim x'' [ ]
      drop dropped both_dropped = refl

      follow : (i j c : ℕ) → i < n → c < codes → answer i c ≡ next j → (a : Answer ℕ) → rival (rival_row separated rival i) c ≡ a
          → StepAlike codes answer rival (next j) a → a ≡ next (rival_row separated rival j)
      follow i j c h b q dropped q' x'' = elim x'' [ ]
      follow i j c h b q (next k) q' (both_next z) =
          ap next
          (rival_only j k (inside i c j h b q) (rival_inside _ c k (rival_below separated rival alike n rival_inside some i h) b q') z)

-- ---- and keeps its numbers

number_at : (n i : ℕ) → i < length (numbers_below n) → get_or (numbers_below n) i 0 ≡ i
number_at n i h = tabulate_at (λ i. i) n i (omega (arith, tabulate_length (λ i. i) n))

numbers_numbering : (codes : ℕ) (answer : ℕ → ℕ → Answer ℕ) (n : ℕ) → Inside codes answer n → AsFound codes answer 0 (numbers_below n)
    → Numbering codes answer 0 (numbers_below n)
numbers_numbering codes answer n inside as_found = record {
  distinct = λ i j h h' same. sym (number_at n i h) ∙ same ∙ number_at n j h';
  follows = λ i c e h b q.
      let below = inside i c e (omega (arith, tabulate_length (λ i. i) n)) b (rw (number_at n i h) at q) in
      (e, omega (arith, tabulate_length (λ i. i) n), tabulate_at (λ i. i) n e below);
  as_found = as_found;
}

-- Where a renaming takes rows that are numbered as found to rows that are too, it takes each to its own number.
names_numbers : (codes : ℕ) (answer answer' : ℕ → ℕ → Answer ℕ) (n : ℕ) (name : ℕ → ℕ) → Renames codes (λ k. k < n) answer answer' name
    → Injective name n → name 0 ≡ 0 → Inside codes answer' n → AsFound codes answer 0 (numbers_below n) → AsFound codes answer' 0 (numbers_below n)
    → (k : ℕ) → k < n → name k ≡ k
names_numbers codes answer answer' n name renames apart start inside f f' k h =
    let inside-answer : Inside codes answer n = λ k c j h b q. renames.invariant k j c h b q in
    let named = renamed_numbering codes (λ k. k < n) answer answer' name renames 0 (numbers_below n) (numbers_numbering codes answer n inside-answer f)
    (λ i b. rw (number_at n i b) (omega (arith, tabulate_length (λ i. i) n))) apart in
    let same : names_of name (numbers_below n) ≡ numbers_below n =
    numberings_same codes answer' 0 (names_of name (numbers_below n)) (numbers_below n) (rw start at named) (numbers_numbering codes answer' n inside f') in
    let below : k < length (numbers_below n) = omega (arith, tabulate_length (λ i. i) n) in
    let at : get_or (numbers_below n) k 0 ≡ k = number_at n k below in
    cc (name_at name (numbers_below n) k below)

-- ---- the entries of a row

-- entries that mean the same are the same
meaning_injective : (mark x y : ℕ) → meaning mark x ≡ meaning mark y → x ≡ y
meaning_injective mark x y = on (eqb x mark) refl (eqb y mark) refl
  where
    on : (a : Bool) → eqb x mark ≡ a → (b : Bool) → eqb y mark ≡ b → cond a dropped (next x) ≡ cond b dropped (next y) → x ≡ y
    on true p true q e = eqb-true x mark p ∙ sym (eqb-true y mark q)
    on true p false q e = let z : ◌≡◌ {A = ℕ} 0 1 = cc in absurd (omega arith)
    on false p true q e = let z : ◌≡◌ {A = ℕ} 0 1 = cc in absurd (omega arith)
    on false p false q e = cc

same_answers_row : (mark : ℕ) (table other : List ℕ) (k : ℕ) → length (row_of 256 table k) ≡ 256 → length (row_of 256 other k) ≡ 256
    → ((c : ℕ) → c < 256 → lookup 256 mark table k c ≡ lookup 256 mark other k c) → row_of 256 table k ≡ row_of 256 other k
same_answers_row mark table other k long long' same =
    ext_get_or mark (row_of 256 table k) (row_of 256 other k) (long ∙ sym long') (λ c b. meaning_injective mark _ _ (same c (omega arith)))

-- ---- the short table

pub short_is_only : ShortIsOnly
short_is_only limit mark s table r n left b rival wf alike as_found k h =
    same_answers_row mark rival left k (wf.row k h).whole (short.row k h).whole (λ c code. on c code (lookup 256 mark left k c) refl)
  where
    short : WellFormedTable limit mark n left
    short = short_in_range limit mark s table r n left b

    name : ℕ → ℕ
    name = rival_row (separated b) (lookup 256 mark rival)

    rival_inside : Inside 256 (lookup 256 mark rival) n
    rival_inside k c j h code = lookup_inside wf k c j h

    inside : Inside 256 (lookup 256 mark left) n
    inside k c j h code = lookup_inside short k c j h

    renames : Renames 256 (λ k. k < n) (lookup 256 mark left) (lookup 256 mark rival) name
    renames = rival_renames (separated b) (lookup 256 mark rival) alike inside rival_inside wf.some

    own : (i : ℕ) → i < n → name i ≡ i
    own =
        names_numbers 256 (lookup 256 mark left) (lookup 256 mark rival) n name renames (rival_injective (separated b) (lookup 256 mark rival) alike)
        (sym (rival_only (separated b) (lookup 256 mark rival) alike inside rival_inside wf.some 0 0 wf.some wf.some alike)) rival_inside
        (short_as_found limit mark s table r n left b) as_found

    on : (c : ℕ) → c < 256 → (a : Answer ℕ) → lookup 256 mark left k c ≡ a → lookup 256 mark rival k c ≡ lookup 256 mark left k c
    on c code dropped q = rw (own k h) at (renames.drops k c h code q) ∙ sym q
    on c code (next j) q = rw (own k h, own j (inside k c j h code q)) at (renames.follows k j c h code q) ∙ sym q
