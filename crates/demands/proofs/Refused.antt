-- What each function refuses, from the promises of the layers: a refusal of an outcome is that of one of its checks, in their order, and each check is
-- the condition of a clause.
use Prim.Native.Nat.{ℕ, ◌*◌, ◌≤◌, ◌<◌}
use mathlib.Core.Path.{◌≡◌, refl, sym, ◌∙◌, ap}
use mathlib.Core.Logic.{◌↔◌}
use mathlib.Core.List.{List}
use native.Mathlib.Decide.{dec_le}
use native.Mathlib.Omega.{arith}
use lib.Dec.{ltb}
use lib.ListN.{length}
use Rattle.reading.specs.Rule.{Rule, Bytes}
use Rattle.reading.specs.File.{Outcome, accepted, refused, rule_of}
use Rattle.reading.specs.File as File
use Rattle.reading.proofs.Basics.Outcomes.{refuse_refused, never_refused, and_then-refused}
use Rattle.reading.proofs.Accepting.Accepted.{accepts_encodings}
use Rattle.reading.proofs.Refusing.FaultsRefused.{answer_refused, refuses_at_the_fault}
use Rattle.synthesis.specs.Monitor.{most}
use Rattle.synthesis.specs.Answering.{unsatisfiable}
use Rattle.synthesis.specs.Building.{equations_of, Synthesis, synthesis_of_rule, synthesis_of, filling_of, counted_of}
use Rattle.synthesis.specs.Promises.{FillsAsCounted}
use Rattle.synthesis.proofs.Tables.SynthesisOutcomes.{synthesis_of_lem, counted_refuses, fills_as_counted}
use Rattle.synthesis.proofs.Tables.Equations.{refuses_too_many}
use Rattle.synthesis.proofs.Quotients.ShortFillings.{short_refuses_alike}
use Rattle.enforcement.specs.Model.{Model, Finite, Satisfies}
use Rattle.models.proofs.Judgments.Accepting.{unrefused_satisfiable, refuses_unsatisfiable}
use Rattle.demands.specs.Outcomes.{counting, short_counting, RefusedIff}
use Rattle.demands.specs.Refusals.{CountRefused, DeskRefused, in_file, no_finite_model, too_many, FillRefused, short_table_lem, in_rule}

-- ---- counting: the clauses of its refusals

module _ (limit : ℕ) (s : List ℕ) (bytes : Bytes s) where
  abbrev CountRefuses : ℕ → ℕ → Type 0
  CountRefuses number place = counted_of (synthesis_of limit s) ≡ refused number place

  refused_eight_iff : (r : Rule) → rule_of s ≡ accepted r → CountRefuses 8 0 ↔ ((m : Model) → Finite m → Satisfies m r → ⊥)
  refused_eight_iff r read = (refuses_unsatisfiable limit s r bytes read).no_finite

  -- a rule that was read
  rule_refusal-clause : (r : Rule) → rule_of s ≡ accepted r → (number place : ℕ) → synthesis_of_rule limit r ≡ refused number place → CountRefused limit 9 s number place
  rule_refusal-clause r read number place e =
      let (w, is) = (accepts_encodings s bytes r).0 read in
      let outcome : synthesis_of limit s ≡ synthesis_of_rule limit r = synthesis_of_lem limit s r read in
      refuse_refused (CountRefused limit 9 s) (unsatisfiable r) 8 0 _ e
      (λ t. no_finite_model r w is ((refused_eight_iff r read).0 (rw (outcome, t))))
      (λ f e'.
      refuse_refused (CountRefused limit 9 s) (ltb limit (length (equations_of limit r))) 9 0 _ e'
      (λ t.
      let other : CountRefuses 8 0 → ⊥ = λ e''. let z : refused 9 0 ≡ refused 8 0 = rw (outcome, f, t) at e'' in
      let y : ◌≡◌ {A = ℕ} 9 8 = cc in omega arith in
      let (m, finite, satisfies) = unrefused_satisfiable limit s bytes r read other in
      too_many r w is m finite satisfies ((refuses_too_many limit s r read other).0 (rw (outcome, f, t))))
      (λ f' e''. absurd (never_refused e'')))

  count_refusal_clause : (number place : ℕ) → CountRefuses number place → CountRefused limit 9 s number place
  unfolding synthesis_of
  count_refusal_clause number place e =
      and_then-refused (rule_of s) (synthesis_of_rule limit) (counted_refuses (synthesis_of limit s) number place e)
      (λ e'. in_file ((refuses_at_the_fault s bytes number place).0 ((answer_refused (rule_of s) number place).0 e')))
      (λ r read e'. rule_refusal-clause r read number place e')

  -- ---- counting: each clause is refused

  count_clause_refuses : {number place : ℕ} → CountRefused limit 9 s number place → CountRefuses number place
  unfolding synthesis_of
  count_clause_refuses {number} {place} (in_file fault) =
      rw ((answer_refused (rule_of s) number place).1 ((refuses_at_the_fault s bytes number place).1 fault))
  count_clause_refuses (no_finite_model r w is none) = (refused_eight_iff r ((accepts_encodings s bytes r).1 (w, is))).1 none
  count_clause_refuses (too_many r w is m finite satisfies over) =
      let read = (accepts_encodings s bytes r).1 (w, is) in
      (refuses_too_many limit s r read (λ e. (refused_eight_iff r read).0 e m finite satisfies)).1 over

  pub count_refused_within : RefusedIff (counted_of (synthesis_of limit s)) refused (CountRefused limit 9 s)
  count_refused_within number place = (count_refusal_clause number place, count_clause_refuses)

module _ (s : List ℕ) (bytes : Bytes s) where
  pub count_refused : RefusedIff (counted_of (counting s)) refused (DeskRefused s)
  count_refused = count_refused_within most s bytes

  pub count_short_refused : RefusedIff (counted_of (short_counting s)) refused (DeskRefused s)
  count_short_refused number place =
      let alike = (short_refuses_alike most s).refused number place in
      (λ e. (count_refused number place).0 (alike.0 e), λ h. alike.1 ((count_refused number place).1 h))

-- ---- filling, where counting refuses by these clauses

module _ (Clause : (number place : ℕ) → Type 1) (counts filling : Outcome Synthesis) (capacity : ℕ)
    (refuses : RefusedIff (counted_of counts) refused Clause) (as_counted : FillsAsCounted counts filling capacity) where
  fill_refusal_clause : (number place : ℕ) → counted_of filling ≡ refused number place → FillRefused Clause (counted_of counts) capacity number place
  fill_refusal_clause number place e = on counts refl
    where
      fits : (y : Synthesis) → counts ≡ accepted y → Dec (256 * length y.equations ≤ capacity) → FillRefused Clause (counted_of counts) capacity number place
      fits y q (yes room) =
          let z : accepted (length y.equations) ≡ refused number place =
          sym (as_counted.enough (length y.equations) (ap counted_of q) room) ∙ e in
          absurd (let w : ◌≡◌ {A = ℕ} 0 1 = cc in omega arith)
      fits y q (no short) =
          let less : capacity < 256 * length y.equations = omega (arith, short) in
          let same : refused 10 0 ≡ refused number place = sym (as_counted.too_short (length y.equations) (ap counted_of q) less) ∙ e in
          let number_is : 10 ≡ number = cc in
          let place_is : 0 ≡ place = cc in
          rw (← number_is, ← place_is) (short_table_lem (length y.equations) (ap counted_of q) less)

      on : (o : Outcome Synthesis) → counts ≡ o → FillRefused Clause (counted_of counts) capacity number place
      on (accepted y) q = fits y q (dec_le (256 * length y.equations) capacity)
      on (File.refused number' place') q =
          let same : refused number' place' ≡ refused number place =
          sym (as_counted.refused number' place' (ap counted_of q)) ∙ e in
          in_rule ((refuses number place).0 (ap counted_of q ∙ same))

  fill_clause_refuses : {number place : ℕ} → FillRefused Clause (counted_of counts) capacity number place → counted_of filling ≡ refused number place
  fill_clause_refuses {number} {place} (in_rule fault) = as_counted.refused number place ((refuses number place).1 fault)
  fill_clause_refuses (short_table_lem n e short) = as_counted.too_short n e short

  pub fill_refused : RefusedIff (counted_of filling) refused (FillRefused Clause (counted_of counts) capacity)
  fill_refused number place = (fill_refusal_clause number place, fill_clause_refuses)

pub fill_refused_within : (limit : ℕ) (s table : List ℕ) → Bytes s
    → RefusedIff (counted_of (filling_of limit s (length table))) refused (FillRefused (CountRefused limit 9 s) (counted_of (synthesis_of limit s)) (length table))
fill_refused_within limit s table bytes =
    fill_refused (CountRefused limit 9 s) (synthesis_of limit s) (filling_of limit s (length table)) (length table) (count_refused_within limit s bytes)
    (fills_as_counted limit s (length table))
