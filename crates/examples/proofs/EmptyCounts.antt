-- A tt has no member, so from the necessity before it no code leads anywhere, covered or not: which pattern that necessity names makes no difference to
-- any answer. So the families that end with "after none, tt" have the equations of those that are one longer.
use Prim.Native.Nat.{ℕ, zero, suc}
use mathlib.Core.Path.{◌≡◌, refl, ◌∙◌}
use mathlib.Core.Bool.{Bool, true, false, cond, ◌&&◌}
use mathlib.Core.List.{List, [], ◌∷◌}
use native.Mathlib.Omega.{arith}
use Rattle.reading.specs.File.{accepted, records_at, formula_at, formula_of, rule_of, refused}
use Rattle.synthesis.specs.Monitor.{Answer}
use Rattle.synthesis.specs.NodeSet.{has, empty_set}
use Rattle.synthesis.specs.Violation.{covered_by}
use Rattle.synthesis.specs.Answering.{opening, falsities, reached, first_of, answer_of, unsatisfiable}
use Rattle.examples.specs.Examples.{ReadAs}
use Rattle.examples.specs.RefusalExamples.{times}
use Rattle.examples.specs.FamilyExamples.{chain, chain_rule, window_rule}
use Rattle.examples.specs.EmptyExamples.{chain_then, empty_chain_file, empty_chain_rule, empty_window_file, empty_window_rule, EmptyCounts}
use Rattle.examples.proofs.Enumerated.{Enumerates, reads_enumerated, reads_over}
use Rattle.examples.proofs.Chains.{enumerates as chain-enumerates}
use Rattle.examples.proofs.Windows.{shifts_10, enumerates as window-enumerates}
use Rattle.examples.proofs.PreviewExamples.{at_desk-only}

-- ---- the last pattern of a chain

-- covered or not, nothing
nothing : (b : Bool) → cond b empty_set empty_set ≡ empty_set
nothing true = refl
nothing false = refl

module _ (p : ℕ) where
  opens_alike : (k : ℕ) (around : List ℕ) (n : ℕ) → opening k around (chain_then p n) ≡ opening k around (chain (suc n))
  unfolding chain chain_then
  opens_alike k around zero = refl
  opens_alike k around (suc n) = refl

  falsities_alike : (k n : ℕ) → falsities k (chain_then p n) ≡ falsities k (chain (suc n))
  unfolding chain chain_then
  falsities_alike k zero = refl
  falsities_alike k (suc n) = falsities_alike (suc k) n

  leads_alike : (covered covered' : (pattern code : ℕ) → Bool) (e c k : ℕ) (around : List ℕ) (n : ℕ) → covered 0 c ≡ covered' 0 c
      → reached covered e c k around (chain_then p n) ≡ reached covered' e c k around (chain (suc n))
  unfolding chain chain_then
  leads_alike covered covered' e c k around zero same = rw (nothing (has e k && covered p c), nothing (has e k && covered' 0 c))
  leads_alike covered covered' e c k around (suc n) same =
      rw (same, opens_alike (suc k) around n, leads_alike covered covered' e c (suc k) around n same)

-- ---- the families

chain_alike : (n e c : ℕ) → answer_of (empty_chain_rule n) e c ≡ answer_of (chain_rule (suc n)) e c
unfolding answer_of
chain_alike n e c =
    rw (falsities_alike 1 0 n, leads_alike 1 (covered_by (empty_chain_rule n).patterns) (covered_by (chain_rule (suc n)).patterns) e c 0 [] n refl)

window_alike : (m e c : ℕ) → answer_of (empty_window_rule m) e c ≡ answer_of (window_rule (suc m)) e c
unfolding answer_of
window_alike m e c =
    let leads = leads_alike 2 (covered_by (empty_window_rule m).patterns) (covered_by (window_rule (suc m)).patterns) e c 5 (20 ∷ []) m refl in
    rw (falsities_alike 2 5 m, opens_alike 2 5 (20 ∷ []) m, leads)

-- sets that are the equations by some answers are so by the same answers of another rule
by_answers : {codes first n : ℕ} {answer answer' : ℕ → ℕ → Answer ℕ} {set : ℕ → ℕ} {to : ℕ → ℕ → ℕ}
    → ((e c : ℕ) → answer' e c ≡ answer e c) → Enumerates codes answer first set to n → Enumerates codes answer' first set to n
by_answers {set = set} same sets = record {
  some = sets.some;
  begins = sets.begins;
  distinct = sets.distinct;
  answers = λ k c h code. same (set k) c ∙ sets.answers k c h code;
  inside = sets.inside;
  earlier = sets.earlier;
}

chain_read : rule_of (empty_chain_file 31) ≡ accepted (empty_chain_rule 31)
unfolding times chain_then rule_of records_at formula_of formula_at
chain_read = refl

chain_counted : ReadAs (empty_chain_file 31) (empty_chain_rule 31) (accepted 33)
unfolding unsatisfiable first_of chain_then chain
chain_counted = reads_enumerated (empty_chain_file 31) (empty_chain_rule 31) chain_read refl 33 (by_answers (chain_alike 31) (chain-enumerates 32)) (omega arith)

window_counted : ReadAs (empty_window_file 9) (empty_window_rule 9) (refused 9 0)
unfolding times chain_then chain rule_of records_at formula_of formula_at unsatisfiable first_of
window_counted =
    reads_over (empty_window_file 9) (empty_window_rule 9) refl refl 1024 (by_answers (window_alike 9) (window-enumerates 10 shifts_10)) (omega arith)

pub empty_counts : EmptyCounts
empty_counts = record {
  chain_read = chain_read;
  chain_31 = at_desk-only (empty_chain_file 31) 33 chain_counted.answers.counting (omega arith);
  window_9 = window_counted;
}
