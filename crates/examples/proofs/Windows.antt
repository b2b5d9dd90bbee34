-- The equations of the paper's second family. The first has the two necessities below the max, nodes 2 and 4. Every code leads from node 2 back to these two,
-- code 5 leads from node 4 to node 5, and every code leads from each later node to the one after it. So the nodes from 5 on say which of the last m codes
-- were 5. They are the digits of a number below 2 ^ m, which a code doubles, with 1 more if it is 5; and each number above 0 is made so of a smaller one.
-- That the sets lead where these numbers say is computed for each number.
use Prim.Native.Nat.{ℕ, zero, suc, ◌+◌, ◌*◌, ◌/◌, ◌%◌, ◌^◌, ◌<◌}
use mathlib.Core.Path.{◌≡◌, refl, ◌∙◌}
use mathlib.Core.Bool.{Bool, true, false, cond}
use mathlib.Core.List.{List, [], ◌∷◌}
use native.Mathlib.Nat.{mod-eq_of_lt, mod-lt, one-le-pow}
use native.Mathlib.Omega.{arith}
use lib.Bits.{and_zero_r}
use lib.Dec.{eqb}
use borrow.Author.Tests.{eqb-true}
use Rattle.reading.specs.Pattern.{bit, covers, least, every}
use Rattle.reading.specs.File.{records_at, formula_at, formula_of, rule_of, accepted, refused}
use Rattle.reading.proofs.Measures.BoundedTests.{every_is}
use Rattle.synthesis.specs.Monitor.{next}
use Rattle.synthesis.specs.Violation.{covered_by}
use Rattle.synthesis.specs.Answering.{reached, first_of, answer_of, unsatisfiable}
use Rattle.examples.specs.Examples.{pattern, ReadAs}
use Rattle.examples.specs.RefusalExamples.{times}
use Rattle.examples.specs.FamilyExamples.{chain, window_file, window_rule}
use Rattle.examples.proofs.Enumerated.{Enumerates, reads_enumerated, reads_over}
use Rattle.examples.proofs.Chains.{every_code, chain_falsities}

-- nodes 2 and 4, and from 5 on the digits of k
abbrev set : ℕ → ℕ
set k = 20 + 32 * k

-- k doubled, with 1 more where a code is 5; the oldest digit is lost
abbrev shifted : (m k : ℕ) → (five : Bool) → ℕ
shifted m k five = (2 * k + cond five 1 0) % 2 ^ m

abbrev is_five : ℕ → Bool
is_five = covers (pattern 1 5 5)

-- ---- where a code leads

-- what the patterns say of a code: the first covers it, and the second where it is 5
abbrev covered_as : (five : Bool) → (pattern code : ℕ) → Bool
covered_as five p c = cond (eqb p 0) true five

abbrev leads_to : (m k : ℕ) → (five : Bool) → ℕ
leads_to m k five = reached (covered_as five) (set k) 0 0 [] (window_rule m).formula

-- every set leads to the shifted one
abbrev shifts : (m : ℕ) → (five : Bool) → Bool
shifts m five = every (2 ^ m) (λ k. eqb (leads_to m k five) (set (shifted m k five)))

-- only whether pattern 0 covers the code matters in a chain
chain_by_cover : (covered covered' : (pattern code : ℕ) → Bool) (e c c' k n : ℕ) (around : List ℕ) → covered 0 c ≡ covered' 0 c'
    → reached covered e c k around (chain n) ≡ reached covered' e c' k around (chain n)
unfolding chain
chain_by_cover covered covered' e c c' k zero around same = refl
chain_by_cover covered covered' e c c' k (suc n) around same = rw (same, chain_by_cover covered covered' e c c' (suc k) n around same)

by_cover : (m k c : ℕ) → c < 256 → reached (covered_by (window_rule m).patterns) (set k) c 0 [] (window_rule m).formula ≡ leads_to m k (is_five c)
by_cover m k c code =
    rw (every_code c code, chain_by_cover (covered_by (window_rule m).patterns) (covered_as (is_five c)) (set k) c 0 5 m (20 ∷ []) (every_code c code))

-- ---- the equations

module _ (m : ℕ) (tested : (five : Bool) → shifts m five ≡ true) where
  window_answers : (k c : ℕ) → k < 2 ^ m → c < 256 → answer_of (window_rule m) (set k) c ≡ next (set (shifted m k (is_five c)))
  unfolding answer_of
  window_answers k c h code =
      let five = is_five c in
      let shift = (every_is (2 ^ m) (λ k. eqb (leads_to m k five) (set (shifted m k five)))).0 (tested five) k h in
      let led = by_cover m k c code ∙ eqb-true (leads_to m k five) (set (shifted m k five)) shift in
      rw (led, chain_falsities 5 m, and_zero_r (set (shifted m k five)))

  earlier : (k : ℕ) → 0 < k → k < 2 ^ m → (j : ℕ) × (c : ℕ) × (j < k) × (c < 256) × (shifted m j (is_five c) ≡ k)
  unfolding covers bit
  earlier k some h = on (k % 2) refl
    where
      on : (d : ℕ) → k % 2 ≡ d → (j : ℕ) × (c : ℕ) × (j < k) × (c < 256) × (shifted m j (is_five c) ≡ k)
      on zero even = let z : 2 * (k / 2) + 0 ≡ k = omega arith in (k / 2, 0, omega arith, omega arith, rw z (mod-eq_of_lt h))
      on (suc d) odd = let z : 2 * (k / 2) + 1 ≡ k = omega arith in (k / 2, 5, omega arith, omega arith, rw z (mod-eq_of_lt h))

  pub enumerates : Enumerates 256 (answer_of (window_rule m)) (first_of (window_rule m)) set (λ k c. shifted m k (is_five c)) (2 ^ m)
  unfolding first_of
  enumerates = record {
    some = one-le-pow m 2 (omega arith);
    begins = refl;
    distinct = λ i j h h' e. omega arith;
    answers = window_answers;
    inside = λ k c h code. mod-lt (2 * k + cond (is_five c) 1 0) (one-le-pow m 2 (omega arith));
    earlier = earlier;
  }

satisfiable : (m : ℕ) → unsatisfiable (window_rule m) ≡ false
unfolding unsatisfiable
satisfiable m = rw (chain_falsities 5 m, and_zero_r)

-- ---- the paper's two, and two more

shifts_7 : (five : Bool) → shifts 7 five ≡ true
unfolding least bit chain
shifts_7 true = refl
shifts_7 false = refl

shifts_8 : (five : Bool) → shifts 8 five ≡ true
unfolding least bit chain
shifts_8 true = refl
shifts_8 false = refl

shifts_9 : (five : Bool) → shifts 9 five ≡ true
unfolding least bit chain
shifts_9 true = refl
shifts_9 false = refl

pub shifts_10 : (five : Bool) → shifts 10 five ≡ true
unfolding least bit chain
shifts_10 true = refl
shifts_10 false = refl

pub window_7 : ReadAs (window_file 7) (window_rule 7) (accepted 128)
unfolding times chain rule_of records_at formula_of formula_at
window_7 = reads_enumerated (window_file 7) (window_rule 7) refl (satisfiable 7) 128 (enumerates 7 shifts_7) (omega arith)

pub window_8 : ReadAs (window_file 8) (window_rule 8) (accepted 256)
unfolding times chain rule_of records_at formula_of formula_at
window_8 = reads_enumerated (window_file 8) (window_rule 8) refl (satisfiable 8) 256 (enumerates 8 shifts_8) (omega arith)

pub window_9 : ReadAs (window_file 9) (window_rule 9) (accepted 512)
unfolding times chain rule_of records_at formula_of formula_at
window_9 = reads_enumerated (window_file 9) (window_rule 9) refl (satisfiable 9) 512 (enumerates 9 shifts_9) (omega arith)

pub window_10 : ReadAs (window_file 10) (window_rule 10) (refused 9 0)
unfolding times chain rule_of records_at formula_of formula_at
window_10 = reads_over (window_file 10) (window_rule 10) refl (satisfiable 10) 1024 (enumerates 10 shifts_10) (omega arith)
