-- A rule file read from left to right, a record at a time, with a list of what is still due in the place of a recursion over parts. It is refused as
-- `rule_of` refuses it.
use mathlib.Core.Path.{◌≡◌, refl, sym, ap, ◌∙◌}
use mathlib.Core.Logic.{◌↔◌}
use mathlib.Core.Bool.{Bool, true, false, cond}
use mathlib.Core.List.{List, [], ◌∷◌, ◌++◌}
use Prim.Native.Nat.{ℕ, zero, suc, ◌+◌, ◌-◌, ◌<◌}
use native.Mathlib.Omega.{arith}
use lib.ListN.{length}
use lib.Dec.{ltb}
use Rattle.reading.specs.Rule.{Guards, guarded, Rule, Symbol, Truth, Falsity, Both, Max, Necessity, Variable}
use Rattle.reading.specs.File.{Outcome, accepted, refused, refuse, and_then, by_case, Records, with_record, records_at, pattern_at, is_pattern, patterns_at}
use Rattle.reading.specs.File.{node_at, Parsed, parts_by, formula_of, end_of_file, rule_of}
use Rattle.reading.specs.declared.Pattern.{Pattern}
use Rattle.reading.proofs.Basics.Outcomes.{accepted_is, never_refused, and_then-agree, Distinct, by_case-refused}
use Rattle.reading.proofs.Accepting.NodeBytes.{node_accepts}
use Rattle.reading.proofs.Accepting.Steps.{formula_step, formula_sound}
use Rattle.reading.proofs.Refusing.Contexts.{guards, parts}

-- ---- refusals of an outcome, without its value

abbrev pub refusal : {A : Type 0} → Outcome A → Outcome Unit
refusal = by_case (λ a. accepted tt) refused

outcome_cases : Distinct {B = Unit {0}} accepted refused
outcome_cases = record {
  value_same = λ a b e. accepted_is e;
  refusal_same = λ number place number' place' e. (cc, cc);
  disjoint = λ a number place e. never_refused e;
}

refusal_refused : {A : Type 0} (o : Outcome A) (number place : ℕ) → (o ≡ refused number place) ↔ (refusal o ≡ refused number place)
refusal_refused o number place = (λ e. ap refusal e, λ e. by_case-refused outcome_cases (λ a. tt) o number place (sym e))

-- ---- two steps

module _ {A B : Type 0} where
  refusal_and_then : (o : Outcome A) (f : A → Outcome B) → refusal (and_then o f) ≡ and_then o (λ a. refusal (f a))
  refusal_and_then (accepted a) f = refl
  refusal_and_then (refused number place) f = refl

  pub and_then-assoc : {C : Type 0} (o : Outcome A) (f : A → Outcome B) (g : B → Outcome C) → and_then (and_then o f) g ≡ and_then o (λ a. and_then (f a) g)
  and_then-assoc (accepted a) f g = refl
  and_then-assoc (refused number place) f g = refl

module _ (s : List ℕ) where
  -- ---- the formulas that are due

  abbrev pub ended_at : ℕ → Outcome Unit
  ended_at at = refuse (ltb at (length s)) 3 at (accepted tt)

  -- after n patterns, with `left` of the 64 nodes left; where none is left, one more is refused by `node_at`
  unfoldable pub due_at : (left n at : ℕ) → List Guards → Outcome Unit
  due_at zero n at [] = ended_at at
  due_at zero n at (g ∷ due) = and_then (node_at s n at zero g) (λ r. refused 4 at)
  due_at (suc left) n at [] = ended_at at
  due_at (suc left) n at (g ∷ due) =
      and_then (node_at s n at (suc left) g) (λ r. due_at left n r.next (parts guards n g r.symbol ++ due))

  pub due_over : (left n at : ℕ) → due_at left n at [] ≡ ended_at at
  unfolding due_at
  due_over zero n at = refl
  due_over (suc left) n at = refl

  -- ---- a formula, and then what is due

  module _ (n : ℕ) where
    abbrev then_due : List Guards → Parsed → Outcome Unit
    then_due due f = due_at f.left n f.next due

    -- by recursion over what is left
    module _ (bound : ℕ) (one-due : (at left : ℕ) (g : Guards) (due : List Guards) → left < bound
        → and_then (formula_of s n at left g) (then_due due) ≡ due_at left n at (g ∷ due)) where
      parts_due : (x : Symbol) (next left : ℕ) (g : Guards) (due : List Guards) → left < bound
          → and_then (parts_by (formula_of s n) x next left g) (then_due due) ≡ due_at left n next (parts guards n g x ++ due)
      parts_due Truth next left g due h = refl
      parts_due Falsity next left g due h = refl
      parts_due Both next left g due h =
          and_then-assoc (formula_of s n next left g) _ (then_due due)
          ∙ (and_then-agree (formula_of s n next left g) _ (then_due (g ∷ due)) (λ f e.
          let stands = formula_sound s n next left g f e in
          and_then-assoc (formula_of s n f.next f.left g) _ (then_due due)
          ∙ one-due f.next f.left g due (omega (arith, stands.nodes)))
          ∙ one-due next left g (g ∷ due) h)
      parts_due (Necessity p) next left g due h =
          and_then-assoc (formula_of s n next left (guarded g)) _ (then_due due) ∙ one-due next left (guarded g) due h
      parts_due Max next left g due h =
          and_then-assoc (formula_of s n next left (false ∷ g)) _ (then_due due) ∙ one-due next left (false ∷ g) due h
      parts_due (Variable d) next left g due h = refl

      node_due : (at left : ℕ) (g : Guards) (due : List Guards) → left < suc bound
          → and_then (node_at s n at left g) (λ r. and_then (parts_by (formula_of s n) r.symbol r.next (left - 1) g) (then_due due))
          ≡ due_at left n at (g ∷ due)
      unfolding due_at
      node_due at zero g due h = and_then-agree (node_at s n at zero g) _ _ (λ r e. absurd (omega (arith, ((node_accepts s n at zero g r).0 e).0)))
      node_due at (suc left) g due h =
          let others : suc left - 1 ≡ left = omega arith in
          and_then-agree (node_at s n at (suc left) g) _ _ (λ r e. rw others (parts_due r.symbol r.next left g due (omega arith)))

    formula_due : (bound at left : ℕ) (g : Guards) (due : List Guards) → left < bound
        → and_then (formula_of s n at left g) (then_due due) ≡ due_at left n at (g ∷ due)
    formula_due zero at left g due h = absurd (omega arith)
    formula_due (suc bound) at left g due h =
        ap (λ (o : Outcome Parsed). and_then o (then_due due)) (formula_step s n at left g)
        ∙ (and_then-assoc (node_at s n at left g) _ (then_due due)
        ∙ node_due bound (formula_due bound) at left g due h)

  -- ---- the patterns, and then the formula

  -- n patterns were read, and `left` of the 32 are left
  unfoldable pub head_at : (left n at : ℕ) → Outcome Unit
  head_at zero n at = cond (is_pattern s at) (refused 4 at) (due_at 64 n at ([] ∷ []))
  head_at (suc left) n at =
      cond (is_pattern s at) (and_then (pattern_at s at) (λ p. head_at left (suc n) (at + 4))) (due_at 64 n at ([] ∷ []))

  abbrev pub then_formula : ℕ → Records Pattern → Outcome Unit
  then_formula n ps = due_at 64 (n + length ps.list) ps.next ([] ∷ [])

  pub patterns_head : (left n at : ℕ) → and_then (patterns_at left s at) (then_formula n) ≡ head_at left n at
  unfolding records_at head_at
  patterns_head zero n at = on (is_pattern s at)
    where
      on : (b : Bool) → and_then (cond b (refused 4 at) (accepted (record { list = []; next = at }))) (then_formula n)
          ≡ cond b (refused 4 at) (due_at 64 n at ([] ∷ []))
      on true = refl
      on false = ap (λ (k : ℕ). due_at 64 k at ([] ∷ [])) (omega arith)
  patterns_head (suc left) n at = on (is_pattern s at) (patterns_head left (suc n) (at + 4))
    where
      on : (b : Bool) → and_then (patterns_at left s (at + 4)) (then_formula (suc n)) ≡ head_at left (suc n) (at + 4)
          → and_then (cond b (and_then (pattern_at s at) (λ p. and_then (patterns_at left s (at + 4)) (with_record p)))
          (accepted (record { list = []; next = at }))) (then_formula n)
          ≡ cond b (and_then (pattern_at s at) (λ p. head_at left (suc n) (at + 4))) (due_at 64 n at ([] ∷ []))
      on true e =
          and_then-assoc (pattern_at s at) _ (then_formula n)
          ∙ and_then-agree (pattern_at s at) _ _ (λ p q.
          and_then-assoc (patterns_at left s (at + 4)) (with_record p) (then_formula n)
          ∙ (and_then-agree (patterns_at left s (at + 4)) _ (then_formula (suc n)) (λ ps q'.
          ap (λ (k : ℕ). due_at 64 k ps.next ([] ∷ [])) (omega arith))
          ∙ e))
      on false e = ap (λ (k : ℕ). due_at 64 k at ([] ∷ [])) (omega arith)

  -- ---- the whole file

  refusal_end : (b : Bool) (at : ℕ) (r : Rule) → refusal (refuse b 3 at (accepted r)) ≡ refuse b 3 at (accepted tt)
  refusal_end true at r = refl
  refusal_end false at r = refl

  formula_ends : (ps : List Pattern) (n at : ℕ) → refusal (and_then (formula_of s n at 64 []) (end_of_file s ps)) ≡ due_at 64 n at ([] ∷ [])
  formula_ends ps n at =
      refusal_and_then (formula_of s n at 64 []) (end_of_file s ps)
      ∙ (and_then-agree (formula_of s n at 64 []) _ (then_due n []) (λ f e.
      refusal_end (ltb f.next (length s)) f.next _ ∙ sym (due_over f.left n f.next))
      ∙ formula_due n 65 at 64 [] [] (omega arith))

  left_to_right : refusal (rule_of s) ≡ head_at 32 0 0
  unfolding rule_of
  left_to_right =
      refusal_and_then (patterns_at 32 s 0) _
      ∙ (and_then-agree (patterns_at 32 s 0) _ (then_formula 0) (λ ps e.
      formula_ends ps.list (length ps.list) ps.next ∙ ap (λ (k : ℕ). due_at 64 k ps.next ([] ∷ [])) (omega arith))
      ∙ patterns_head 32 0 0)

  pub refused_left_to_right : (number place : ℕ) → (rule_of s ≡ refused number place) ↔ (head_at 32 0 0 ≡ refused number place)
  refused_left_to_right number place =
      let (forth, back) = refusal_refused (rule_of s) number place in
      (λ e. sym left_to_right ∙ forth e, λ e. back (left_to_right ∙ e))
