-- There is only one closed list of distinct equations that are numbered as found, and monitors whose equations correspond have lists that correspond one
-- by one: where two such lists are pairs so far, their next equations are found by the same code, and so are a pair too. Under new names, each equation
-- its own, such a list is one again.
use Prim.Native.Nat.{ℕ, zero, suc, ◌≤◌, ◌<◌}
use mathlib.Core.Path.{◌≡◌, sym, ◌∙◌, ap}
use mathlib.Core.Logic.{inl, inr}
use mathlib.Core.List.{List}
use native.Mathlib.Decide.{dec_lt}
use native.Mathlib.Omega.{arith}
use lib.ListN.{length, get_or}
use lib.Seq.{ext_get_or}
use Rattle.synthesis.specs.Merging.{tabulate}
use Rattle.synthesis.specs.Monitor.{Answer, next}
use Rattle.synthesis.specs.Answering.{first_of, answer_of}
use Rattle.synthesis.specs.Promises.{Before, FoundBy, AsFound, OneNumbering}
use Rattle.synthesis.proofs.Monitors.Renaming.{Renames, renamed_from}
use Rattle.synthesis.proofs.Monitors.Corresponding.{Corresponds, both_lead, corresponds_back, leads_on, corresponds_same}
use Rattle.synthesis.proofs.Numberings.Tabulating.{Injective, tabulate_length, tabulate_at}
use Rattle.synthesis.proofs.Numberings.FindingOrder.{before_le}

-- ---- the next equation of two lists

-- of two codes of equations, of which neither is asked before the other
not_before_same : (j c j' c' : ℕ) → (Before j c j' c' → ⊥) → (Before j' c' j c → ⊥) → (j ≡ j') × (c ≡ c')
not_before_same j c j' c' a b =
    let less : j < j' → ⊥ = λ h. a (inl h) in
    let more : j' < j → ⊥ = λ h. b (inl h) in
    let z : j ≡ j' = omega (arith, less, more) in
    let less' : c < c' → ⊥ = λ h. a (inr (z, h)) in
    let more' : c' < c → ⊥ = λ h. b (inr (sym z, h)) in
    (z, omega (arith, less', more'))

module _ (codes : ℕ) (answer : ℕ → ℕ → Answer ℕ) (first : ℕ) where
  pub record Numbering (l : List ℕ) : Type 0 where
    pub distinct : (i j : ℕ) → i < length l → j < length l → get_or l i 0 ≡ get_or l j 0 → i ≡ j
    pub follows : (i c e : ℕ) → i < length l → c < codes → answer (get_or l i 0) c ≡ next e → (j : ℕ) × (j < length l) × (get_or l j 0 ≡ e)
    pub as_found : AsFound codes answer first l

-- the first n of two lists are pairs
abbrev pub Pairs : (R : ℕ → ℕ → Type 0) → (l l' : List ℕ) → ℕ → Type 0
Pairs R l l' n = (i : ℕ) → i < n → R (get_or l i 0) (get_or l' i 0)

module _ {codes : ℕ} {answer answer' : ℕ → ℕ → Answer ℕ} {R : ℕ → ℕ → Type 0} {first first' : ℕ}
    (both : Corresponds codes answer answer' R first first') (l l' : List ℕ) (distinct : Injective (λ i. get_or l i 0) (length l)) where
  -- where the first n are pairs, the next of one list isn't found before the next of the other
  next_not_before : (n : ℕ) → n < length l → Pairs R l l' n
      → (f : FoundBy codes answer l n) (g : FoundBy codes answer' l' n) → Before f.equation f.code g.equation g.code → ⊥
  next_not_before n h pairs f g b =
      let (e', led, pair) = leads_on both (pairs f.equation f.earlier) f.is_code f.leads in
      let (k, less, is) = g.before f.equation f.code e' b f.is_code led in
      let same : get_or l k 0 ≡ get_or l n 0 = both.other_one _ _ e' (rw is at (pairs k less)) pair in
      omega (arith, less, distinct k n (omega (arith, less)) h same)

module _ {codes : ℕ} {answer answer' : ℕ → ℕ → Answer ℕ} {R : ℕ → ℕ → Type 0} {first first' : ℕ}
    (both : Corresponds codes answer answer' R first first') (l l' : List ℕ) (distinct : Injective (λ i. get_or l i 0) (length l))
    (distinct' : Injective (λ i. get_or l' i 0) (length l')) (found : AsFound codes answer first l) (found' : AsFound codes answer' first' l') where
  -- so the next are found by the same code, and are a pair too
  next_pair : (n : ℕ) → n < length l → n < length l' → Pairs R l l' n → R (get_or l n 0) (get_or l' n 0)
  next_pair zero h h' pairs = rw (found.starts, found'.starts) both.starts
  next_pair (suc n) h h' pairs = on (found.found (suc n) (omega arith) h) (found'.found (suc n) (omega arith) h')
    where
      on : FoundBy codes answer l (suc n) → FoundBy codes answer' l' (suc n) → R (get_or l (suc n) 0) (get_or l' (suc n) 0)
      on f g =
          let f-first = next_not_before both l l' distinct (suc n) h pairs f g in
          let g-first = next_not_before (corresponds_back both) l' l distinct' (suc n) h' pairs g f in
          let (j, c) = not_before_same f.equation f.code g.equation g.code f-first g-first in
          let led' : answer' (get_or l' f.equation 0) f.code ≡ next (get_or l' (suc n) 0) = rw (j, c) g.leads in
          both_lead (rw (f.leads, led') at (both.steps _ _ f.code (pairs f.equation f.earlier) f.is_code))

  pairs_below : (n : ℕ) → n ≤ length l → n ≤ length l' → Pairs R l l' n
  pairs_below zero h h' i b = absurd (omega arith)
  pairs_below (suc n) h h' i b = on (dec_lt i n) (pairs_below n (omega arith) (omega arith))
    where
      on : Dec (i < n) → Pairs R l l' n → R (get_or l i 0) (get_or l' i 0)
      on (yes a) pairs = pairs i a
      on (no a) pairs = let z : i ≡ n = omega arith in rw z (next_pair n h h' pairs)

  -- ---- the lists have one length

  -- What would stand behind the last of a closed list is paired with one that is in it. The other list may be one that isn't closed yet.
  pub closed_longest : Numbering codes answer first l → length l' ≤ length l
  closed_longest x = on (dec_lt (length l) (length l'))
    where
      on : Dec (length l < length l') → length l' ≤ length l
      on (yes a) =
          let pairs = pairs_below (length l) (omega arith) (omega arith) in
          let g = found'.found (length l) found.some a in
          let (e, led, pair) = leads_on (corresponds_back both) (pairs g.equation g.earlier) g.is_code g.leads in
          let (k, less, is) = x.follows g.equation g.code e g.earlier g.is_code led in
          let same : get_or l' k 0 ≡ get_or l' (length l) 0 = both.one_other e _ _ (rw is at (pairs k less)) pair in
          absurd (omega (arith, less, distinct' k (length l) (omega (arith, less)) a same))
      on (no a) = omega arith

-- Two such lists of two monitors whose equations correspond have one length, and are pairs, one by one.
pub numberings_correspond : {codes : ℕ} {answer answer' : ℕ → ℕ → Answer ℕ} {R : ℕ → ℕ → Type 0} {first first' : ℕ}
    → Corresponds codes answer answer' R first first' → (l l' : List ℕ) → Numbering codes answer first l → Numbering codes answer' first' l'
    → (length l ≡ length l') × Pairs R l l' (length l)
numberings_correspond both l l' x y =
    let few = closed_longest both l l' x.distinct y.distinct x.as_found y.as_found x in
    let many = closed_longest (corresponds_back both) l' l y.distinct x.distinct y.as_found x.as_found y in
    (omega arith, pairs_below both l l' x.distinct y.distinct x.as_found y.as_found (length l) (omega arith) (omega arith))

pub numberings_same : (codes : ℕ) (answer : ℕ → ℕ → Answer ℕ) (first : ℕ) (l m : List ℕ)
    → Numbering codes answer first l → Numbering codes answer first m → l ≡ m
numberings_same codes answer first l m x y =
    let (long, same) = numberings_correspond (corresponds_same codes answer first) l m x y in
    ext_get_or 0 l m long same

pub one_numbering : OneNumbering
one_numbering r es es' x y f g =
    numberings_same 256 (answer_of r) (first_of r) es es'
    (record { distinct = x.distinct; follows = x.closed.follows; as_found = f })
    (record { distinct = y.distinct; follows = y.closed.follows; as_found = g })

-- ---- under new names

-- the new names of a list
abbrev pub names_of : (name : ℕ → ℕ) → List ℕ → List ℕ
names_of name l = tabulate (λ i. name (get_or l i 0)) (length l)

pub name_at : (name : ℕ → ℕ) (l : List ℕ) (i : ℕ) → i < length l → get_or (names_of name l) i 0 ≡ name (get_or l i 0)
name_at name l = tabulate_at (λ i. name (get_or l i 0)) (length l)

module _ (codes : ℕ) (Ok : ℕ → Type 0) (answer answer' : ℕ → ℕ → Answer ℕ) (name : ℕ → ℕ) (renames : Renames codes Ok answer answer' name)
    (first : ℕ) (l : List ℕ) (numbering : Numbering codes answer first l) (ok : (i : ℕ) → i < length l → Ok (get_or l i 0)) where
  names_length : length (names_of name l) ≡ length l
  names_length = tabulate_length (λ i. name (get_or l i 0)) (length l)

  -- what a name answers, its equation does
  named_from : (i c e : ℕ) → i < length l → c < codes → answer' (get_or (names_of name l) i 0) c ≡ next e
      → (e' : ℕ) × (answer (get_or l i 0) c ≡ next e') × (name e' ≡ e)
  named_from i c e h b q = renamed_from codes Ok answer answer' name renames (get_or l i 0) c e (ok i h) b (rw (name_at name l i h) at q)

  name_found_by : (i : ℕ) → i < length l → FoundBy codes answer l i → FoundBy codes answer' (names_of name l) i
  name_found_by i h f = record {
    equation = f.equation;
    code = f.code;
    earlier = f.earlier;
    is_code = f.is_code;
    leads = rw (name_at name l i h, name_at name l f.equation inside)
        (renames.follows _ _ f.code (ok f.equation inside) f.is_code f.leads);
    before = λ j c e p b q.
        let (e', z, is) = named_from j c e (omega (arith, before_le p)) b q in
        let (k, less, at) = f.before j c e' p b z in
        (k, less, name_at name l k (omega arith) ∙ ap name at ∙ is);
  }
    where
      inside : f.equation < length l
      inside = omega (arith, f.earlier)

  -- where different equations get different names
  pub renamed_numbering : ((e e' : ℕ) → Ok e → Ok e' → name e ≡ name e' → e ≡ e') → Numbering codes answer' (name first) (names_of name l)
  renamed_numbering apart = record {
    distinct = λ i j h h' same.
        let b : i < length l = omega (arith, names_length) in
        let b' : j < length l = omega (arith, names_length) in
        numbering.distinct i j b b' (apart _ _ (ok i b) (ok j b') (sym (name_at name l i b) ∙ same ∙ name_at name l j b'));
    follows = λ i c e h b q.
        let inside : i < length l = omega (arith, names_length) in
        let (e', z, is) = named_from i c e inside b q in
        let (j, less, at) = numbering.follows i c e' inside b z in
        (j, omega (arith, names_length), name_at name l j less ∙ ap name at ∙ is);
    as_found = record {
      some = omega (arith, names_length, numbering.as_found.some);
      starts = name_at name l 0 numbering.as_found.some ∙ ap name numbering.as_found.starts;
      found = λ i pos h. let b : i < length l = omega (arith, names_length) in name_found_by i b (numbering.as_found.found i pos b);
    };
  }
