-- How many equations the search finds, where they are numbered from 0 on: set 0 is the first equation, and to each code each set answers again one of
-- the sets. So nothing else is found. And each set above 0 is what an earlier one answers, so a list that has the first equation and is closed under the
-- codes has all of them; what is found within the limit is such a list. The sets are distinct, and so is what is found: they are as many.
use Prim.Native.Nat.{ℕ, zero, suc, ◌≤◌, ◌<◌}
use mathlib.Core.Path.{◌≡◌, refl, sym, ◌∙◌, ap}
use mathlib.Core.Bool.{false}
use mathlib.Core.List.{List}
use native.Mathlib.Decide.{dec_le}
use native.Mathlib.Omega.{arith}
use lib.ListN.{length, get_or}
use Rattle.reading.specs.Rule.{Rule}
use Rattle.reading.specs.File.{accepted, rule_of, refused}
use Rattle.reading.proofs.Basics.AllLaws.{all_at}
use Rattle.synthesis.specs.Monitor.{most, Answer, next}
use Rattle.synthesis.specs.Answering.{first_of, answer_of, unsatisfiable}
use Rattle.synthesis.specs.Search.{index_of, found}
use Rattle.synthesis.specs.Merging.{tabulate}
use Rattle.synthesis.specs.Building.{equations_of}
use Rattle.synthesis.proofs.Numberings.Indices.{Member, index_is, member_at, distinct_fits}
use Rattle.synthesis.proofs.Numberings.Tabulating.{Injective, tabulate_length, tabulate_at, injective_fits}
use Rattle.synthesis.proofs.Numberings.Finding.{ClosedUnder, found_first, found_distinct, found_closed, found_inside}
use Rattle.examples.specs.Examples.{ReadAs}
use Rattle.examples.proofs.FileAnswers.{reads, reads_too_many}

-- The sets below n are the equations: to the code c, set k answers set `to k c`.
pub record Enumerates (codes : ℕ) (answer : ℕ → ℕ → Answer ℕ) (first : ℕ) (set : ℕ → ℕ) (to : (k c : ℕ) → ℕ) (n : ℕ) : Type 0 where
  pub some : 0 < n
  pub begins : set 0 ≡ first
  pub distinct : Injective set n
  pub answers : (k c : ℕ) → k < n → c < codes → answer (set k) c ≡ next (set (to k c))
  pub inside : (k c : ℕ) → k < n → c < codes → to k c < n
  pub earlier : (k : ℕ) → 0 < k → k < n → (j : ℕ) × (c : ℕ) × (j < k) × (c < codes) × (to j c ≡ k)

module _ {codes : ℕ} {answer : ℕ → ℕ → Answer ℕ} {first : ℕ} {set : ℕ → ℕ} {to : ℕ → ℕ → ℕ} {n : ℕ}
    (sets : Enumerates codes answer first set to n) where
  -- ---- a closed list has them all

  closed_has : (l : List ℕ) → Member first l → ClosedUnder codes answer l → (bound k : ℕ) → k < bound → k < n → Member (set k) l
  closed_has l m closed zero k h below = absurd (omega arith)
  closed_has l m closed (suc bound) zero h below = rw sets.begins m
  closed_has l m closed (suc bound) (suc k) h below =
      let (j, c, before, code, is) = sets.earlier (suc k) (omega arith) below in
      let has = closed_has l m closed bound j (omega arith) (omega arith) in
      closed (index_of (set j) l) c (set (suc k)) has code
      (rw (index_is (set j) l has) (sets.answers j c (omega arith) code ∙ ap (λ (i : ℕ). next (set i)) is))

  closed_long : (l : List ℕ) → Member first l → ClosedUnder codes answer l → n ≤ length l
  closed_long l m closed = injective_fits (λ k. index_of (set k) l) n (length l) apart has
    where
      has : (k : ℕ) → k < n → Member (set k) l
      has k h = closed_has l m closed n k h h

      apart : Injective (λ k. index_of (set k) l) n
      apart i j h h' e =
          sets.distinct i j h h' (sym (index_is (set i) l (has i h)) ∙ ap (λ (at : ℕ). get_or l at 0) e ∙ index_is (set j) l (has j h'))

  -- ---- and they are closed

  set_listed : (k : ℕ) → k < n → Member (set k) (tabulate set n)
  set_listed k h = member_at (set k) (tabulate set n) k (omega (arith, tabulate_length set n)) (tabulate_at set n k h)

  sets_closed : ClosedUnder codes answer (tabulate set n)
  sets_closed k c e h code q =
      let below : k < n = omega (arith, tabulate_length set n, h) in
      let same : next (set (to k c)) ≡ next e = sym (sets.answers k c below code) ∙ rw (tabulate_at set n k below) at q in
      let is : set (to k c) ≡ e = cc in
      rw (← is) (set_listed (to k c) (sets.inside k c below code))

  -- ---- what is found

  module _ (limit : ℕ) where
    equations : List ℕ
    equations = found codes answer limit first

    found_long : length equations ≤ limit → n ≤ length equations
    unfolding equations
    found_long few =
        let start = found_first codes answer limit first in
        closed_long equations (member_at first equations 0 start.0 start.1) (found_closed codes answer limit first few)

    found_short : length equations ≤ n
    unfolding equations
    found_short =
        omega (
          arith,
          tabulate_length set n,
          distinct_fits equations (tabulate set n) (found_distinct codes answer limit first)
              (λ i h. all_at (λ e. Member e (tabulate set n)) equations i 0
              (found_inside codes answer (tabulate set n) first (rw sets.begins at (set_listed 0 sets.some)) sets_closed limit) h),
        )

    pub found_within : n ≤ limit → length (found codes answer limit first) ≡ n
    unfolding equations
    found_within few = omega (arith, found_short, found_long (omega (arith, found_short)))

    pub found_over : limit < n → limit < length (found codes answer limit first)
    unfolding equations
    found_over over = on (dec_le (length equations) limit)
      where
        on : Dec (length equations ≤ limit) → limit < length equations
        on (yes few) = absurd (omega (arith, found_long few))
        on (no more) = omega arith

-- ---- a file

module _ (s : List ℕ) (r : Rule) (read : rule_of s ≡ accepted r) (satisfiable : unsatisfiable r ≡ false) {set : ℕ → ℕ} {to : ℕ → ℕ → ℕ} (n : ℕ)
    (sets : Enumerates 256 (answer_of r) (first_of r) set to n) where
  pub reads_enumerated : n ≤ most → ReadAs s r (accepted n)
  unfolding equations_of
  reads_enumerated few =
      let count : length (equations_of most r) ≡ n = found_within sets most few in
      rw count at (reads s r read satisfiable (equations_of most r) refl (omega (arith, count)))

  pub reads_over : most < n → ReadAs s r (refused 9 0)
  unfolding equations_of
  reads_over over = reads_too_many s r read satisfiable (found_over sets most over)
