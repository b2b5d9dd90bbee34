-- The equations of a chain of n necessities over every code. Nodes 0 to n - 1 are the necessities, and node n is tt. So opening a necessity gives that node
-- alone, and opening node n gives nothing. Every code leads from what one node opens to, to what the next one opens to, and from nothing to nothing: n + 1
-- sets, one after the other.
use Prim.Native.Nat.{ℕ, zero, suc, ◌+◌, ◌-◌, ◌≤◌, ◌<◌, min}
use mathlib.Core.Path.{◌≡◌, refl, sym, ap, subst}
use mathlib.Core.Bool.{Bool, true, false}
use mathlib.Core.List.{[], ◌∷◌}
use native.Mathlib.Decide.{dec_lt}
use native.Mathlib.Omega.{arith}
use lib.Bits.{and_zero_r, or_zero_l, or_zero_r}
use borrow.Author.Tests.{ne_eqb}
use Rattle.reading.specs.Pattern.{bit, covers, least}
use Rattle.reading.specs.Rule.{size, WellFormed, RuleWithinLimits, encode_formula, encode}
use Rattle.reading.specs.File.{accepted, rule_of}
use Rattle.reading.proofs.Measures.BoundedTests.{every_is}
use Rattle.reading.proofs.Accepting.Encoding.{encoding_is_bytes}
use Rattle.reading.proofs.Accepting.Accepted.{accepts_encodings}
use Rattle.synthesis.specs.Monitor.{next}
use Rattle.synthesis.specs.NodeSet.{Has, has, empty_set}
use Rattle.synthesis.specs.Violation.{covered_by}
use Rattle.synthesis.specs.Answering.{opening, falsities, reached, first_of, answer_of, unsatisfiable}
use Rattle.synthesis.proofs.Unfolding.NodeSetLaws.{has_none, has_singleton, singleton_has, true_has}
use Rattle.examples.specs.Examples.{pattern, ReadAs}
use Rattle.examples.specs.RefusalExamples.{times}
use Rattle.examples.specs.FamilyExamples.{chain, chain_file, chain_rule}
use Rattle.examples.proofs.Enumerated.{Enumerates, reads_enumerated}

-- ---- the pattern

pub every_code : (c : ℕ) → c < 256 → covers (pattern 255 0 31) c ≡ true
unfolding bit covers least
every_code = (every_is 256 (covers (pattern 255 0 31))).0 refl

-- ---- the file

chain_size : (n : ℕ) → size (chain n) ≡ suc n
unfolding chain
chain_size zero = refl
chain_size (suc n) = ap suc (chain_size n)

chain_well_formed : (n : ℕ) → WellFormed 1 [] (chain n)
unfolding chain
chain_well_formed zero = tt
chain_well_formed (suc n) = (omega arith, chain_well_formed n)

chain_bytes : (n : ℕ) → times n (5 ∷ 0 ∷ []) (2 ∷ []) ≡ encode_formula (chain n)
unfolding chain times
chain_bytes zero = refl
chain_bytes (suc n) = rw (chain_bytes n)

chain_within_limits : (n : ℕ) → n ≤ 63 → RuleWithinLimits (chain_rule n)
chain_within_limits n few = record {
  well_formed = record {
    patterns = (record { byte = omega arith; first_slot = omega arith; last_slot = omega arith }, tt);
    formula = chain_well_formed n;
  };
  few_patterns = omega arith;
  few_nodes = omega (arith, chain_size n);
}

chain_read : (n : ℕ) → n ≤ 63 → rule_of (chain_file n) ≡ accepted (chain_rule n)
chain_read n few =
    let within = chain_within_limits n few in
    rw (chain_bytes n) ((accepts_encodings (encode (chain_rule n)) (encoding_is_bytes (chain_rule n) within) (chain_rule n)).1 (within, refl))

-- ---- what a chain opens to

-- what opening node k gives, where m necessities are left
abbrev front : (k m : ℕ) → ℕ
front k m = opening k [] (chain m)

-- it has no node but k
front_has : (k m j : ℕ) → Has (front k m) j → k ≡ j
unfolding chain
front_has k zero j h = absurd (has_none j h)
front_has k (suc m) j h = singleton_has k j h

has_not : (e j : ℕ) → (Has e j → ⊥) → has e j ≡ false
has_not e j lacks = ne_eqb (bit j e) 1 lacks

pub chain_falsities : (k n : ℕ) → falsities k (chain n) ≡ empty_set
unfolding chain
chain_falsities k zero = refl
chain_falsities k (suc n) = chain_falsities (suc k) n

-- ---- where a code leads

module _ (covered : (pattern code : ℕ) → Bool) (c : ℕ) where
  -- from a set without the nodes of a chain, nowhere
  reached_none : (e k n : ℕ) → ((j : ℕ) → k ≤ j → Has e j → ⊥) → reached covered e c k [] (chain n) ≡ empty_set
  unfolding chain
  reached_none e k zero lacks = refl
  reached_none e k (suc n) lacks = rw (has_not e k (lacks k (omega arith)), reached_none e (suc k) n (λ j h. lacks j (omega arith)))

  module _ (covers-it : covered 0 c ≡ true) where
    -- from its first node to what the node after it opens to
    reached_here : (k m : ℕ) → reached covered (front k (suc m)) c k [] (chain (suc m)) ≡ front (suc k) m
    unfolding chain
    reached_here k m =
        let rest = reached_none (front k (suc m)) (suc k) m (λ j h q. omega (arith, front_has k (suc m) j q)) in
        rw (true_has (front k (suc m)) k (has_singleton k), covers-it, rest) (or_zero_r (front (suc k) m))

    -- and so from node j of a chain that begins at node k
    reached_next : (n k j m : ℕ) → k ≤ j → j + suc m ≡ k + n → reached covered (front j (suc m)) c k [] (chain n) ≡ front (suc j) m
    unfolding chain
    reached_next zero k j m h at = absurd (omega arith)
    reached_next (suc n) k j m h at = on (dec_lt k j) (reached_next n (suc k) j m)
      where
        on : Dec (k < j) → (suc k ≤ j → j + suc m ≡ suc k + n → reached covered (front j (suc m)) c (suc k) [] (chain n) ≡ front (suc j) m)
            → reached covered (front j (suc m)) c k [] (chain (suc n)) ≡ front (suc j) m
        on (yes before) ih =
            let lacks = has_not (front j (suc m)) k (λ q. omega (arith, front_has j (suc m) k q)) in
            rw (lacks, ih (omega arith) (omega arith)) (or_zero_l (front (suc j) m))
        on (no here) ih =
            let same : k ≡ j = omega arith in
            let all : m ≡ n = omega arith in
            subst (λ (i : ℕ). reached covered (front i (suc m)) c k [] (chain (suc n)) ≡ front (suc i) m) same
            (subst (λ (i : ℕ). reached covered (front k (suc m)) c k [] (chain (suc i)) ≡ front (suc k) m) all (reached_here k m))

-- ---- the equations

module _ (n : ℕ) where
  -- what opening node k gives
  pub set : ℕ → ℕ
  set k = front k (n - k)

  -- every code leads to the next, and from the last to itself
  pub to : (k c : ℕ) → ℕ
  to k c = min (suc k) n

  answered : (e e' c : ℕ) → reached (covered_by (chain_rule n).patterns) e c 0 [] (chain n) ≡ e' → answer_of (chain_rule n) e c ≡ next e'
  unfolding answer_of
  answered e e' c q = rw (q, chain_falsities 0 n, and_zero_r e')

  chain_answers : (k c : ℕ) → k < suc n → c < 256 → answer_of (chain_rule n) (set k) c ≡ next (set (to k c))
  unfolding set to chain
  chain_answers k c h code = on (dec_lt k n)
    where
      on : Dec (k < n) → answer_of (chain_rule n) (front k (n - k)) c ≡ next (front (min (suc k) n) (n - min (suc k) n))
      on (yes before) =
          let left : n - k ≡ suc (n - suc k) = omega arith in
          let after : min (suc k) n ≡ suc k = omega arith in
          rw (left, after)
          (answered (front k (suc (n - suc k))) (front (suc k) (n - suc k)) c
          (reached_next (covered_by (chain_rule n).patterns) c (every_code c code) n 0 k (n - suc k) (omega arith) (omega arith)))
      on (no last) =
          let left : n - k ≡ 0 = omega arith in
          let after : min (suc k) n ≡ n = omega arith in
          let none : n - n ≡ 0 = omega arith in
          rw (left, after, none)
          (answered empty_set empty_set c (reached_none (covered_by (chain_rule n).patterns) c empty_set 0 n (λ j h. has_none j)))

  apart : (i j : ℕ) → i < j → j ≤ n → set i ≡ set j → ⊥
  unfolding set chain
  apart i j h below e =
      let left : n - i ≡ suc (n - suc i) = omega arith in
      let here : Has (set i) i = rw left (has_singleton i) in
      omega (arith, front_has j (n - j) i (rw e at here))

  distinct : (i j : ℕ) → i < suc n → j < suc n → set i ≡ set j → i ≡ j
  distinct i j h h' e = on (dec_lt i j) (dec_lt j i)
    where
      on : Dec (i < j) → Dec (j < i) → i ≡ j
      on (yes before) d = absurd (apart i j before (omega arith) e)
      on (no a) (yes after) = absurd (apart j i after (omega arith) (sym e))
      on (no a) (no b) = omega arith

  pub enumerates : Enumerates 256 (answer_of (chain_rule n)) (first_of (chain_rule n)) set to (suc n)
  unfolding first_of set to
  enumerates = record {
    some = omega arith;
    begins = let z : n - 0 ≡ n = omega arith in rw z;
    distinct = distinct;
    answers = chain_answers;
    inside = λ k c h code. omega arith;
    earlier = λ k some h. (k - 1, 0, omega arith, omega arith, omega arith);
  }

  satisfiable : unsatisfiable (chain_rule n) ≡ false
  unfolding unsatisfiable
  satisfiable = rw (chain_falsities 0 n, and_zero_r)

  pub chain_reads : n ≤ 63 → ReadAs (chain_file n) (chain_rule n) (accepted (suc n))
  chain_reads few = reads_enumerated (chain_file n) (chain_rule n) (chain_read n few) satisfiable (suc n) enumerates (omega arith)
