-- Laws of the search for equations, by induction on its expansions: what is found is distinct and reached, and is all once there are no more
-- equations than expansions.
use Prim.Native.Nat.{ℕ, zero, suc, ◌≤◌, ◌<◌}
use mathlib.Core.Path.{◌≡◌, refl, sym, ◌∙◌, ap}
use mathlib.Core.Bool.{Bool, true, false, cond}
use mathlib.Core.List.{List, [], ◌∷◌, ◌++◌, append_assoc, append-nil}
use native.Mathlib.Decide.{dec_lt}
use native.Mathlib.Omega.{arith}
use lib.Dec.{ltb}
use lib.ListN.{length, get_or, length-append, get_or-append}
use borrow.Author.Tests.{eq-eqb, ltb-true, ltb-false, lt-ltb, le-ltb}
use Rattle.reading.specs.Rule.{All}
use Rattle.reading.proofs.Basics.AllLaws.{all_at, all_append}
use Rattle.synthesis.specs.Monitor.{Answer, dropped, next, cases, kept, ended}
use Rattle.synthesis.specs.Search.{index_of, insert, explored, expanded, found}
use Rattle.synthesis.proofs.Monitors.Runs.{kept_last, ended_last}
use Rattle.synthesis.specs.Arrays.{Distinct}
use Rattle.synthesis.proofs.Numberings.Indices.{Member, index_is, member_append, member_last, insert_cases, distinct_last}

-- ---- lists that grow at the end

abbrev pub Grows : List ℕ → List ℕ → Type 0
Grows l m = (rest : List ℕ) × (m ≡ l ++ rest)

pub grows_refl : (l : List ℕ) → Grows l l
grows_refl l = ([], sym (append-nil l))

pub grows_trans : (l m n : List ℕ) → Grows l m → Grows m n → Grows l n
grows_trans l m n g h = (g.0 ++ h.0, rw (h.1, g.1) (append_assoc l g.0 h.0))

pub grows_member : (l m : List ℕ) (e : ℕ) → Grows l m → Member e l → Member e m
grows_member l m e g h = rw g.1 (member_append e l g.0 h)

pub grows_at : (l m : List ℕ) (i : ℕ) → Grows l m → i < length l → get_or m i 0 ≡ get_or l i 0
grows_at l m i g h = rw g.1 (get_or-append l g.0 0 i h)

pub grows_length : (l m : List ℕ) → Grows l m → length l ≤ length m
grows_length l m g = omega (arith, ap length g.1, length-append l g.0)

pub insert_grows : (l : List ℕ) (e : ℕ) → Grows l (insert l e)
insert_grows l e = insert_cases (Grows l) l e (λ h. grows_refl l) (λ h. (e ∷ [], refl))

pub insert_member : (l : List ℕ) (e : ℕ) → Member e (insert l e)
insert_member l e = insert_cases (Member e) l e (λ h. h) (λ h. member_last e l)

module _ (codes : ℕ) (answer : ℕ → ℕ → Answer ℕ) where
  -- ---- the answers of one equation

  -- what every new equation keeps
  explored_induction : (P : List ℕ → Type 0) (e n : ℕ) (l : List ℕ)
      → ((c e' : ℕ) (m : List ℕ) → c < n → answer e c ≡ next e' → P m → P (insert m e')) → P l → P (explored codes answer e n l)
  unfolding explored
  explored_induction P e zero l step p = p
  explored_induction P e (suc n) l step p = on (answer e n) refl (explored_induction P e n l (λ c e' m h. step c e' m (omega arith)) p)
    where
      on : (a : Answer ℕ) → answer e n ≡ a → P (explored codes answer e n l) → P (explored codes answer e (suc n) l)
      on dropped q h = rw q h
      on (next e') q h = rw q (step n e' (explored codes answer e n l) (omega arith) q h)

  pub explored_grows : (e n : ℕ) (l : List ℕ) → Grows l (explored codes answer e n l)
  explored_grows e n l = explored_induction (Grows l) e n l (λ c e' m h q g. grows_trans l m (insert m e') g (insert_grows m e')) (grows_refl l)

  pub explored_member : (e n c e' : ℕ) (l : List ℕ) → c < n → answer e c ≡ next e' → Member e' (explored codes answer e n l)
  unfolding explored
  explored_member e zero c e' l h q = absurd (omega arith)
  explored_member e (suc n) c e' l h q = on (dec_lt c n) (answer e n) refl (explored_member e n c e' l)
    where
      m : List ℕ
      m = explored codes answer e n l

      on : Dec (c < n) → (a : Answer ℕ) → answer e n ≡ a → (c < n → answer e c ≡ next e' → Member e' m) → Member e' (cases a m (insert m))
      on (yes k) dropped z ih = ih k q
      on (yes k) (next x) z ih = grows_member m (insert m x) e' (insert_grows m x) (ih k q)
      on (no k) a z ih =
          let same : c ≡ n = omega arith in
          let here : next e' ≡ a = sym q ∙ rw same z in
          rw (← here) (insert_member m e')

  -- ---- turns

  pub expanded_cases : (P : List ℕ → Type 0) (k : ℕ) (l : List ℕ) → (k < length l → P (explored codes answer (get_or l k 0) codes l))
      → (length l ≤ k → P l) → P (expanded codes answer k l)
  expanded_cases P k l some none = on (ltb k (length l)) refl
    where
      on : (b : Bool) → ltb k (length l) ≡ b → P (cond b (explored codes answer (get_or l k 0) codes l) l)
      on true q = some (ltb-true k (length l) q)
      on false q = none (ltb-false k (length l) q)

  pub expanded_some : (k : ℕ) (l : List ℕ) → k < length l → expanded codes answer k l ≡ explored codes answer (get_or l k 0) codes l
  expanded_some k l h = rw (lt-ltb k (length l) h)

  pub expanded_none : (k : ℕ) (l : List ℕ) → length l ≤ k → expanded codes answer k l ≡ l
  expanded_none k l h = rw (le-ltb k (length l) h)

  pub expanded_grows : (k : ℕ) (l : List ℕ) → Grows l (expanded codes answer k l)
  expanded_grows k l = expanded_cases (Grows l) k l (λ h. explored_grows (get_or l k 0) codes l) (λ h. grows_refl l)

  -- what every new equation keeps is kept to the end
  found_induction : (P : List ℕ → Type 0) (first : ℕ) → P (first ∷ [])
      → ((k c e : ℕ) (l m : List ℕ) → P l → k < length l → c < codes → answer (get_or l k 0) c ≡ next e → P m → P (insert m e))
      → (expansions : ℕ) → P (found codes answer expansions first)
  unfolding found
  found_induction P first p step zero = p
  found_induction P first p step (suc k) =
      let l = found codes answer k first in
      let h = found_induction P first p step k in
      expanded_cases P k l (λ in'. explored_induction P (get_or l k 0) codes l (λ c e m. step k c e l m h in') h) (λ out. h)

  -- ---- what is found grows at the end

  pub found_grows : (expansions first : ℕ) → Grows (first ∷ []) (found codes answer expansions first)
  found_grows k first =
      found_induction (Grows (first ∷ [])) first (grows_refl (first ∷ []))
      (λ k c e l m g in' h q g'. grows_trans (first ∷ []) m (insert m e) g' (insert_grows m e)) k

  -- the first equation is found first
  pub found_first : (expansions first : ℕ) → (0 < length (found codes answer expansions first)) × (get_or (found codes answer expansions first) 0 0 ≡ first)
  found_first k first =
      let g = found_grows k first in
      (rw g.1 (omega arith), grows_at (first ∷ []) (found codes answer k first) 0 g (omega arith))

  -- ---- each is found once

  pub found_distinct : (expansions first : ℕ) → Distinct (found codes answer expansions first)
  found_distinct k first =
      found_induction Distinct first single_distinct (λ k c e l m d in' h q d'. insert_cases Distinct m e (λ old. d') (λ new. distinct_last m e new d')) k
    where
      single_distinct : Distinct (first ∷ [])
      single_distinct i h = let z : i ≡ 0 = omega arith in rw (z, eq-eqb first first refl)

  -- what the first equation has, and each passes on
  pub found_all : (P : ℕ → Type 0) (first : ℕ) → P first → ((e c e' : ℕ) → P e → c < codes → answer e c ≡ next e' → P e')
      → (expansions : ℕ) → All P (found codes answer expansions first)
  found_all P first p step k =
      found_induction (All P) first (p, tt)
      (λ k c e l m all in' h q all'. insert_cases (All P) m e (λ old. all')
      (λ new. all_append P m (e ∷ []) all' (step (get_or l k 0) c e (all_at P l k 0 all in') h q, tt))) k

  -- ---- what they lead to is found

  -- the first k of the list lead to equations of the list
  abbrev pub ClosedBelow : ℕ → List ℕ → Type 0
  ClosedBelow k l = (i c e : ℕ) → i < k → i < length l → c < codes → answer (get_or l i 0) c ≡ next e → Member e l

  expanded_closed : (k : ℕ) (l : List ℕ) → ClosedBelow k l → ClosedBelow (suc k) (expanded codes answer k l)
  expanded_closed k l closed = expanded_cases (ClosedBelow (suc k)) k l some (λ out i c e a b. closed i c e (omega arith) b)
    where
      m : List ℕ
      m = explored codes answer (get_or l k 0) codes l

      grows : Grows l m
      grows = explored_grows (get_or l k 0) codes l

      some : k < length l → ClosedBelow (suc k) m
      some in' i c e a b h q = on (dec_lt i k)
        where
          same : answer (get_or l i 0) c ≡ next e
          same = rw (grows_at l m i grows (omega arith)) at q

          on : Dec (i < k) → Member e m
          on (yes y) = grows_member l m e grows (closed i c e y (omega arith) h same)
          on (no n) = let z : i ≡ k = omega arith in explored_member (get_or l k 0) codes c e l h (rw (← z) same)

  pub found_closed_below : (expansions first : ℕ) → ClosedBelow expansions (found codes answer expansions first)
  unfolding found
  found_closed_below zero first = λ i c e a. absurd (omega arith)
  found_closed_below (suc k) first = expanded_closed k (found codes answer k first) (found_closed_below k first)

  -- the equations of the list lead to equations of the list
  abbrev pub ClosedUnder : List ℕ → Type 0
  ClosedUnder l = (i c e : ℕ) → i < length l → c < codes → answer (get_or l i 0) c ≡ next e → Member e l

  pub found_closed : (expansions first : ℕ) → length (found codes answer expansions first) ≤ expansions → ClosedUnder (found codes answer expansions first)
  found_closed k first few i c e a = found_closed_below k first i c e (omega arith) a

  -- a closed list with the first equation has each that is found
  pub found_inside : (l : List ℕ) (first : ℕ) → Member first l → ClosedUnder l → (expansions : ℕ)
      → All (λ e. Member e l) (found codes answer expansions first)
  found_inside l first m closed k =
      found_all (λ e. Member e l) first m (λ e c e' h b q. closed (index_of e l) c e' h b (rw (index_is e l h) q)) k

  -- ---- each is reached

  -- The codes of a word, all kept, lead from the first equation to e.
  pub record ReachedBy (first e : ℕ) : Type 0 where
    pub word : List ℕ
    pub codes_of : All (λ c. c < codes) word
    pub keeps : kept answer first word ≡ word
    pub ends : ended answer first word ≡ e

  reached_next : (first e c e' : ℕ) → ReachedBy first e → c < codes → answer e c ≡ next e' → ReachedBy first e'
  reached_next first e c e' r h q = record {
    word = r.word ++ (c ∷ []);
    codes_of = all_append (λ c. c < codes) r.word (c ∷ []) r.codes_of (h, tt);
    keeps = kept_last answer first r.word c answer_last ∙ ap (λ (w : List ℕ). w ++ (c ∷ [])) r.keeps;
    ends = ended_last answer first r.word c answer_last;
  }
    where
      answer_last : answer (ended answer first r.word) c ≡ next e'
      answer_last = rw r.ends q

  pub found_reached : (expansions first : ℕ) → All (ReachedBy first) (found codes answer expansions first)
  found_reached k first =
      found_all (ReachedBy first) first (record { word = []; codes_of = tt; keeps = refl; ends = refl }) (reached_next first) k

-- ---- answers that agree on the codes find the same

module _ (codes : ℕ) (answer answer' : ℕ → ℕ → Answer ℕ) (agree : (e c : ℕ) → c < codes → answer e c ≡ answer' e c) where
  pub explored_cong : (e n : ℕ) (l : List ℕ) → n ≤ codes → explored codes answer e n l ≡ explored codes answer' e n l
  unfolding explored
  explored_cong e zero l h = refl
  explored_cong e (suc n) l h = rw (agree e n h, explored_cong e n l (omega arith))

  pub expanded_cong : (k : ℕ) (l : List ℕ) → expanded codes answer k l ≡ expanded codes answer' k l
  expanded_cong k l = rw (explored_cong (get_or l k 0) codes l (omega arith))

  pub found_cong : (expansions first : ℕ) → found codes answer expansions first ≡ found codes answer' expansions first
  unfolding found
  found_cong zero first = refl
  found_cong (suc k) first = expanded_cong k (found codes answer k first) ∙ ap (expanded codes answer' k) (found_cong k first)
