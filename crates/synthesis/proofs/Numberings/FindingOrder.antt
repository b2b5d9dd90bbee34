-- The search numbers equations as it finds them: when a code leads to a new equation, all that was asked before led to equations that are in the list
-- already.
use Prim.Native.Nat.{ℕ, zero, suc, ◌≤◌, ◌<◌}
use mathlib.Core.Path.{◌≡◌, refl, ◌∙◌}
use mathlib.Core.Logic.{inl, inr}
use mathlib.Core.List.{List, [], ◌∷◌, ◌++◌}
use native.Mathlib.Decide.{dec_lt}
use native.Mathlib.Omega.{arith}
use lib.ListN.{length, get_or, length-append}
use lib.Seq.{get_or_at}
use Rattle.synthesis.specs.Monitor.{Answer, dropped, next}
use Rattle.synthesis.specs.Answering.{first_of, answer_of}
use Rattle.synthesis.specs.Search.{index_of, insert, explored, found}
use Rattle.synthesis.specs.Building.{equations_of}
use Rattle.synthesis.specs.Promises.{Before, FoundBy, AsFound, NumberedAsFound}
use Rattle.synthesis.proofs.Numberings.Indices.{Member, index_is, insert_cases}
use Rattle.synthesis.proofs.Numberings.Finding.{Grows, grows_member, grows_at, grows_length, explored_grows, explored_member, expanded_cases}
use Rattle.synthesis.proofs.Numberings.Finding.{ClosedBelow, found_closed_below}

-- ---- the order in which codes are asked

pub before_le : {j c j' c' : ℕ} → Before j c j' c' → j ≤ j'
before_le (inl h) = omega arith
before_le (inr h) = omega (arith, h.0)

-- ---- how the equations of a list were found

module _ (codes : ℕ) (answer : ℕ → ℕ → Answer ℕ) where
  -- it stays so as the list grows
  found_by_grows : (l m : List ℕ) (i : ℕ) → Grows l m → i < length l → FoundBy codes answer l i → FoundBy codes answer m i
  found_by_grows l m i g h f = record {
    equation = f.equation;
    code = f.code;
    earlier = f.earlier;
    is_code = f.is_code;
    leads = rw (same f.equation (omega (arith, f.earlier)), same i h) f.leads;
    before = λ j c e p b q.
        let k = f.before j c e p b (rw (same j (omega (arith, before_le p, f.earlier))) at q) in
        (k.0, k.1, same k.0 (omega (arith, k.1)) ∙ k.2);
  }
    where
      same : (j : ℕ) → j < length l → get_or m j 0 ≡ get_or l j 0
      same j k = grows_at l m j g k

  -- ---- one more equation

  -- what the codes before code n of equation k lead to is in the list
  abbrev FollowedBefore : ℕ → ℕ → List ℕ → Type 0
  FollowedBefore k n l = (j c e : ℕ) → Before j c k n → c < codes → answer (get_or l j 0) c ≡ next e → Member e l

  -- a new equation is found by the code that leads to it
  found_by_last : (k c e : ℕ) (l : List ℕ) → k < length l → c < codes → answer (get_or l k 0) c ≡ next e → FollowedBefore k c l
      → FoundBy codes answer (l ++ (e ∷ [])) (length l)
  found_by_last k c e l h b q followed = record {
    equation = k;
    code = c;
    earlier = h;
    is_code = b;
    leads = rw (same k h, get_or_at l e [] 0 (length l) refl) q;
    before = λ j c' e' p b' q'.
        let m = followed j c' e' p b' (rw (same j (omega (arith, before_le p))) at q') in
        (index_of e' l, m, same (index_of e' l) m ∙ index_is e' l m);
  }
    where
      same : (j : ℕ) → j < length l → get_or (l ++ (e ∷ [])) j 0 ≡ get_or l j 0
      same j k = grows_at l (l ++ (e ∷ [])) j (e ∷ [], refl) k

  insert_as_found : (first k c e : ℕ) (l : List ℕ) → k < length l → c < codes → answer (get_or l k 0) c ≡ next e → FollowedBefore k c l
      → AsFound codes answer first l → AsFound codes answer first (insert l e)
  insert_as_found first k c e l h b q followed f = insert_cases (AsFound codes answer first) l e (λ old. f) (λ new. record {
    some = omega (arith, grows_length l m grows, f.some);
    starts = grows_at l m 0 grows f.some ∙ f.starts;
    found = λ i p inside. on i p inside (dec_lt i (length l));
  })
    where
      m : List ℕ
      m = l ++ (e ∷ [])

      grows : Grows l m
      grows = (e ∷ [], refl)

      on : (i : ℕ) → 0 < i → i < length m → Dec (i < length l) → FoundBy codes answer m i
      on i p inside (yes a) = found_by_grows l m i grows a (f.found i p a)
      on i p inside (no a) =
          let z : i ≡ length l = omega (arith, length-append l (e ∷ [])) in
          rw z (found_by_last k c e l h b q followed)

  -- ---- all codes of one equation

  module _ (k : ℕ) (l : List ℕ) (h : k < length l) (closed : ClosedBelow codes answer k l) where
    -- after the first n codes of equation k
    explored_followed : (n : ℕ) → FollowedBefore k n (explored codes answer (get_or l k 0) n l)
    explored_followed n j c e p b q = on p
      where
        m : List ℕ
        m = explored codes answer (get_or l k 0) n l

        grows : Grows l m
        grows = explored_grows codes answer (get_or l k 0) n l

        same : answer (get_or l j 0) c ≡ next e
        same = rw (grows_at l m j grows (omega (arith, before_le p))) at q

        on : Before j c k n → Member e m
        on (inl a) = grows_member l m e grows (closed j c e a (omega arith) b same)
        on (inr a) = explored_member codes answer (get_or l k 0) n c e l a.1 (rw (← a.0) same)

    explored_as_found : (first : ℕ) → AsFound codes answer first l → (n : ℕ) → n ≤ codes
        → AsFound codes answer first (explored codes answer (get_or l k 0) n l)
    unfolding explored
    explored_as_found first f zero b = f
    explored_as_found first f (suc n) b = on (answer (get_or l k 0) n) refl (explored_as_found first f n (omega arith))
      where
        m : List ℕ
        m = explored codes answer (get_or l k 0) n l

        grows : Grows l m
        grows = explored_grows codes answer (get_or l k 0) n l

        on : (a : Answer ℕ) → answer (get_or l k 0) n ≡ a → AsFound codes answer first m
            → AsFound codes answer first (explored codes answer (get_or l k 0) (suc n) l)
        on dropped q ih = rw q ih
        on (next e) q ih =
            rw q
            (insert_as_found first k n e m (omega (arith, grows_length l m grows)) b (rw (grows_at l m k grows h) q) (explored_followed n) ih)

  -- ---- the whole search

  pub found_as_found : (expansions first : ℕ) → AsFound codes answer first (found codes answer expansions first)
  unfolding found
  found_as_found zero first = record { some = omega arith; starts = refl; found = λ i p h. absurd (omega arith) }
  found_as_found (suc k) first =
      let l = found codes answer k first in
      let f = found_as_found k first in
      expanded_cases codes answer (AsFound codes answer first) k l
      (λ h. explored_as_found k l h (found_closed_below codes answer k first) first f codes (omega arith)) (λ out. f)

-- ---- the equations of a rule

pub numbered_as_found : NumberedAsFound
unfolding equations_of
numbered_as_found limit r = found_as_found 256 (answer_of r) limit (first_of r)
