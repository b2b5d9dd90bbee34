-- A rule file is refused with a number from 1 to 7: each fault has one of these.
use Prim.Native.Nat.{ℕ, ◌≤◌}
use mathlib.Core.Path.{◌≡◌}
use mathlib.Core.List.{List}
use native.Mathlib.Omega.{arith}
use Rattle.reading.specs.Rule.{Bytes}
use Rattle.reading.specs.File.{refused, rule_of}
use Rattle.reading.specs.Faults.{Fault, file_ended, pattern_cut, node_cut, no_kind, after_rule, late_pattern, pattern_33, node_65, bad_pattern}
use Rattle.reading.specs.Faults.{names_nothing, unguarded}
use Rattle.reading.proofs.Refusing.FaultsRefused.{answer_refused, refuses_at_the_fault}

abbrev pub OneToSeven : ℕ → Type 0
OneToSeven number = (1 ≤ number) × (number ≤ 7)

fault_number : {s : List ℕ} {number place : ℕ} → Fault s number place → OneToSeven number
fault_number (file_ended _) = omega arith
fault_number (pattern_cut _ _ _ _) = omega arith
fault_number (node_cut _ _ _ _) = omega arith
fault_number (no_kind _ _) = omega arith
fault_number (after_rule _ _ _) = omega arith
fault_number (late_pattern _ _ _) = omega arith
fault_number (pattern_33 _ _) = omega arith
fault_number (node_65 _ _) = omega arith
fault_number (bad_pattern _ _ _ _ _) = omega arith
fault_number (names_nothing _ _ _ _ _) = omega arith
fault_number (unguarded _ _ _ _ _ _) = omega arith

pub rule_refused_number : (s : List ℕ) → Bytes s → (number place : ℕ) → rule_of s ≡ refused number place → OneToSeven number
rule_refused_number s bytes number place e =
    fault_number ((refuses_at_the_fault s bytes number place).0 ((answer_refused (rule_of s) number place).0 e))
