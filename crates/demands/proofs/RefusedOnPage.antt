-- What counting on the rule page refuses: what its limit refuses, with 18 for 9. 9 is no fault of a file, so it is the clause of too many equations.
use Prim.Native.Nat.{ℕ}
use mathlib.Core.Path.{◌≡◌, refl, sym, ◌∙◌, ap}
use mathlib.Core.List.{List}
use native.Mathlib.Omega.{arith}
use Rattle.reading.specs.Rule.{Bytes}
use Rattle.reading.specs.File.{refused, rule_of}
use Rattle.reading.proofs.Refusing.FaultsRefused.{answer_refused, refuses_at_the_fault}
use Rattle.reading.proofs.Refusing.FaultNumbers.{rule_refused_number}
use Rattle.synthesis.specs.Building.{synthesis_of, counted_of, preview_limit, preview_of}
use Rattle.synthesis.proofs.Tables.SynthesisOutcomes.{counted_refuses}
use Rattle.synthesis.proofs.Tables.Pages.{page_refused, page_other, preview_is}
use Rattle.demands.specs.Outcomes.{preview_counting, RefusedIff}
use Rattle.demands.specs.Refusals.{CountRefused, PageRefused, in_file, no_finite_model, too_many}
use Rattle.demands.proofs.Refused.{count_refused_within}

module _ (s : List ℕ) (bytes : Bytes s) where
  within : RefusedIff (counted_of (synthesis_of preview_limit s)) refused (CountRefused preview_limit 9 s)
  within = count_refused_within preview_limit s bytes

  no_fault : (number place : ℕ) → rule_of s ≡ refused number place → number ≡ 9 → ⊥
  no_fault number place read nine = omega (arith, nine, (rule_refused_number s bytes number place read).1)

  -- ---- each refusal has its clause

  nine_clause : {number place : ℕ} → number ≡ 9 → CountRefused preview_limit 9 s number place → PageRefused s 18 place
  nine_clause {number} {place} nine (in_file fault) =
      absurd (no_fault number place ((answer_refused (rule_of s) number place).1 ((refuses_at_the_fault s bytes number place).1 fault)) nine)
  nine_clause nine (no_finite_model r w is none) = absurd (omega (arith, nine))
  nine_clause nine (too_many r w is m finite satisfies over) = too_many r w is m finite satisfies over

  other_clause : {number place : ℕ} → (number ≡ 9 → ⊥) → CountRefused preview_limit 9 s number place → PageRefused s number place
  other_clause other (in_file fault) = in_file fault
  other_clause other (no_finite_model r w is none) = no_finite_model r w is none
  other_clause other (too_many r w is m finite satisfies over) = absurd (other refl)

  refusal_clause : (number place : ℕ) → counted_of (preview_counting s) ≡ refused number place → PageRefused s number place
  refusal_clause number place e =
      page_refused (synthesis_of preview_limit s) number place (sym (preview_is s) ∙ counted_refuses (preview_of s) number place e)
      (λ nine is. rw is (nine_clause refl ((within 9 place).0 (ap counted_of nine))))
      (λ other same. other_clause other ((within number place).0 (ap counted_of same)))

  -- ---- each clause is refused

  other_refused : (number place : ℕ) → (number ≡ 9 → ⊥) → counted_of (synthesis_of preview_limit s) ≡ refused number place
      → counted_of (preview_counting s) ≡ refused number place
  other_refused number place other e =
      rw (preview_is s) (ap counted_of (page_other (synthesis_of preview_limit s) number place other (counted_refuses (synthesis_of preview_limit s) number place e)))

  clause_refuses : {number place : ℕ} → PageRefused s number place → counted_of (preview_counting s) ≡ refused number place
  clause_refuses {number} {place} (in_file fault) =
      other_refused number place (no_fault number place ((answer_refused (rule_of s) number place).1 ((refuses_at_the_fault s bytes number place).1 fault)))
      ((within number place).1 (in_file fault))
  clause_refuses (no_finite_model r w is none) = other_refused 8 0 (λ nine. omega (arith, nine)) ((within 8 0).1 (no_finite_model r w is none))
  clause_refuses (too_many r w is m finite satisfies over) =
      rw (preview_is s, counted_refuses (synthesis_of preview_limit s) 9 0 ((within 9 0).1 (too_many r w is m finite satisfies over)))

  pub count_preview_refused : RefusedIff (counted_of (preview_counting s)) refused (PageRefused s)
  count_preview_refused number place = (refusal_clause number place, clause_refuses)
