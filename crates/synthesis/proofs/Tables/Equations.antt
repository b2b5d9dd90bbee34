-- The equations of a rule: they are distinct, reached and closed, as the search makes every list that it finds; and they are over the limit exactly
-- where no closed list is within it, since a closed list has all that are found.
use Prim.Native.Nat.{ℕ, ◌≤◌, ◌<◌}
use mathlib.Core.Path.{◌≡◌, refl, sym, ◌∙◌, ap, subst}
use mathlib.Core.Logic.{◌⊎◌, inl, inr, ⊎_elim}
use mathlib.Core.Bool.{Bool, true, false, true≢false}
use mathlib.Core.List.{List, []}
use native.Mathlib.Decide.{dec_lt}
use native.Mathlib.Omega.{arith}
use lib.ListN.{length, get_or}
use Rattle.reading.specs.Rule.{Formula, necessity, Rule, Bytes}
use Rattle.reading.specs.File.{accepted, rule_of, refused}
use Rattle.reading.proofs.Basics.Outcomes.{accepted_is}
use Rattle.reading.specs.Nodes.{EnclosingMax, Node}
use Rattle.reading.proofs.Accepting.Accepted.{accepts_encodings}
use Rattle.reading.proofs.Basics.AllLaws.{all_at}
use Rattle.synthesis.specs.Monitor.{next}
use Rattle.synthesis.specs.NodeSet.{Has}
use Rattle.synthesis.specs.Opening.{Opens, falsity_itself, necessity_itself, first_part, second_part, body_of-max, body_of-variable}
use Rattle.synthesis.specs.Opening.{IsFalsity, Leads, leads, Answers}
use Rattle.synthesis.specs.Answering.{first_of, answer_of, unsatisfiable}
use Rattle.synthesis.specs.Search.{index_of, found}
use Rattle.synthesis.specs.Building.{equations_of, Synthesis, with_equations, synthesis_of, counted_of}
use Rattle.synthesis.specs.Promises.{WellFormedFormula, Counts, AnswersCount, Closed, RefusesTooMany, ReachableEquations, ReachesEquations}
use Rattle.synthesis.specs.Arrays.{Distinct}
use Rattle.synthesis.proofs.Numberings.Indices.{Member, index_is, index_first, member_at, distinct_indices, distinct_fits}
use Rattle.synthesis.proofs.Numberings.Tabulating.{Injective}
use Rattle.synthesis.proofs.Numberings.Finding.{ClosedUnder, found_closed, found_inside, ReachedBy, found_reached, found_all}
use Rattle.synthesis.proofs.Numberings.Finding.{found_first, found_distinct}
use Rattle.synthesis.proofs.Unfolding.AnsweringLaws.{answers_as_defined}
use Rattle.synthesis.proofs.Unfolding.EquationLaws.{tracks_violation}
use Rattle.synthesis.proofs.Monitors.RuleMonitor.{unsatisfiable_iff}
use Rattle.synthesis.proofs.Tables.SynthesisOutcomes.{synthesis_accepts, refused_nine, refuses_eight, refuses_nine}
use Rattle.synthesis.proofs.Tables.SynthesisOutcomes.{counted_accepts, counted_refuses, accepts_as}

-- a file that is read is a rule with a well-formed formula
pub file_well_formed : (s : List ℕ) → Bytes s → (r : Rule) → rule_of s ≡ accepted r → WellFormedFormula r
file_well_formed s bytes r e = ((accepts_encodings s bytes r).0 e).0.well_formed.formula

-- ---- what opening gives

abbrev NecessityNode : (root : Formula) → ℕ → Type 0
NecessityNode root n = (p : ℕ) × (ms : List EnclosingMax) × (f : Formula) × Node root n ms (necessity p f)

abbrev Necessities : (root : Formula) → (e : ℕ) → Type 0
Necessities root e = (n : ℕ) → Has e n → NecessityNode root n

opens_to : {root : Formula} {k m : ℕ} → Opens root k m → IsFalsity root m ⊎ NecessityNode root m
opens_to (falsity_itself {ms = ms} n) = inl (ms, n)
opens_to (necessity_itself {p = p} {ms = ms} {f = f} n) = inr (p, ms, f, n)
opens_to (first_part n o) = opens_to o
opens_to (second_part n o) = opens_to o
opens_to (body_of-max n o) = opens_to o
opens_to (body_of-variable n h o) = opens_to o

leads_to_lem : {r : Rule} {e c m : ℕ} → Leads r e c m → IsFalsity r.formula m ⊎ NecessityNode r.formula m
leads_to_lem (leads h n q o) = opens_to o

-- what isn't ff is a necessity
else_necessity : {root : Formula} {n : ℕ} → IsFalsity root n ⊎ NecessityNode root n → (IsFalsity root n → ⊥) → NecessityNode root n
else_necessity x d = ⊎_elim (λ f. absurd (d f)) (λ n. n) x

-- ---- the equations of a rule

module _ (limit : ℕ) (r : Rule) where
  -- the first equation has row 0
  pub first_index : index_of (first_of r) (equations_of limit r) ≡ 0
  unfolding equations_of
  first_index =
      let first = found_first 256 (answer_of r) limit (first_of r) in
      omega (arith, index_first (first_of r) (found 256 (answer_of r) limit (first_of r)) 0 first.0 first.1)

  pub first_member : Member (first_of r) (equations_of limit r)
  unfolding equations_of
  first_member = omega (arith, first_index, (found_first 256 (answer_of r) limit (first_of r)).0)

  pub equations_distinct : Distinct (equations_of limit r)
  unfolding equations_of
  equations_distinct = found_distinct 256 (answer_of r) limit (first_of r)

  pub equations_apart : Injective (λ i. get_or (equations_of limit r) i 0) (length (equations_of limit r))
  equations_apart = distinct_indices (equations_of limit r) equations_distinct

  pub equations_reached : (i : ℕ) → i < length (equations_of limit r) → ReachedBy 256 (answer_of r) (first_of r) (get_or (equations_of limit r) i 0)
  unfolding equations_of
  equations_reached i h =
      all_at (ReachedBy 256 (answer_of r) (first_of r)) (found 256 (answer_of r) limit (first_of r)) i 0
      (found_reached 256 (answer_of r) limit (first_of r)) h

  pub equations_closed : length (equations_of limit r) ≤ limit → ClosedUnder 256 (answer_of r) (equations_of limit r)
  unfolding equations_of
  equations_closed few = found_closed 256 (answer_of r) limit (first_of r) few

  pub closed_list : length (equations_of limit r) ≤ limit → Closed r (equations_of limit r)
  closed_list few =
      let l = equations_of limit r in
      record {
        first = (index_of (first_of r) l, first_member, index_is (first_of r) l first_member);
        follows = λ i c e h b q. let m = equations_closed few i c e h b q in (index_of e l, m, index_is e l m);
      }

  -- no closed list is shorter
  closed_longer : (es : List ℕ) → Closed r es → length (equations_of limit r) ≤ length es
  unfolding equations_of
  closed_longer es closed =
      let l = found 256 (answer_of r) limit (first_of r) in
      distinct_fits l es (found_distinct 256 (answer_of r) limit (first_of r))
      (λ i h. all_at (λ e. Member e es) l i 0 (found_inside 256 (answer_of r) es (first_of r) closed_first closed_under limit) h)
    where
      closed_member : (e : ℕ) → (i : ℕ) × (i < length es) × (get_or es i 0 ≡ e) → Member e es
      closed_member e at = member_at e es at.0 at.1 at.2

      closed_first : Member (first_of r) es
      closed_first = closed_member (first_of r) closed.first

      closed_under : ClosedUnder 256 (answer_of r) es
      closed_under i c e h b q = closed_member e (closed.follows i c e h b q)

  -- ---- their members are necessities

  module _ (wf : WellFormedFormula r) where
    -- whatever answers lead to has necessities only
    next_necessities : (e c e' : ℕ) → answer_of r e c ≡ next e' → Necessities r.formula e'
    next_necessities e c e' q n h =
        let a : Answers r e c (next e') = subst (Answers r e c) q ((answers_as_defined r wf).answers e c) in
        let l = (a.1 n).0 h in
        else_necessity (leads_to_lem l) (a.0 n l)

    first_necessities : unsatisfiable r ≡ false → Necessities r.formula (first_of r)
    first_necessities satisfiable n h =
        let o = ((answers_as_defined r wf).first n).0 h in
        else_necessity (opens_to o) (λ f. true≢false (sym ((unsatisfiable_iff r wf).1 (((tracks_violation r wf).start []).1 (inl (n, o, f)))) ∙ satisfiable))

    equations_necessities : unsatisfiable r ≡ false → (i : ℕ) → i < length (equations_of limit r)
        → Necessities r.formula (get_or (equations_of limit r) i 0)
    unfolding equations_of
    equations_necessities satisfiable i h =
        all_at (Necessities r.formula) (found 256 (answer_of r) limit (first_of r)) i 0
        (found_all 256 (answer_of r) (Necessities r.formula) (first_of r) (first_necessities satisfiable)
        (λ e c e' p b q. next_necessities e c e' q) limit) h

-- ---- the promises

pub answers_count : AnswersCount
answers_count limit s n e =
    let y = counted_accepts (synthesis_of limit s) n e in
    synthesis_accepts limit s (λ z. n ≡ length z.equations → Counts limit s n)
    (λ r read satisfiable few q. record {
      rule = r;
      is = read;
      count = q;
      some = omega (arith, q, first_member limit r);
      few = omega (arith, q, few);
    }) y.0 y.1 y.2

-- the same of the rule that the file says
pub counted_equations : (limit : ℕ) (s : List ℕ) (r : Rule) (n : ℕ) → rule_of s ≡ accepted r → counted_of (synthesis_of limit s) ≡ accepted n
    → n ≡ length (equations_of limit r)
counted_equations limit s r n read e =
    let counts = answers_count limit s n e in
    counts.count ∙ ap (λ (r : Rule). length (equations_of limit r)) (accepted_is (sym counts.is ∙ read))

pub reaches_equations : ReachesEquations
reaches_equations limit s bytes r n read e =
    let y = counted_accepts (synthesis_of limit s) n e in
    synthesis_accepts limit s (λ z. z ≡ with_equations limit r → ReachableEquations r (equations_of limit r))
    (λ r' read' satisfiable few q.
    let same : r' ≡ r = ap (λ (z : Synthesis). z.rule) q in
    let hope : unsatisfiable r ≡ false = subst (λ x. unsatisfiable x ≡ false) same satisfiable in
    let small : length (equations_of limit r) ≤ limit = subst (λ x. length (equations_of limit x) ≤ limit) same few in
    record {
      members = λ i m h. equations_necessities limit r (file_well_formed s bytes r read) hope i h m;
      distinct = equations_apart limit r;
      reached = λ i h. let w = equations_reached limit r i h in (w.word, w.codes_of, w.keeps, w.ends);
      closed = closed_list limit r small;
    })
    y.0 y.1 (accepts_as limit s r read y.0 y.1)

pub refuses_too_many : RefusesTooMany
refuses_too_many limit s r read satisfiable = (refused_nine_none_closed, none_closed_refused_nine)
  where
    refused_nine_none_closed : counted_of (synthesis_of limit s) ≡ refused 9 0 → (es : List ℕ) → length es ≤ limit → Closed r es → ⊥
    refused_nine_none_closed e es few closed =
        omega (arith, refused_nine limit s r read (counted_refuses (synthesis_of limit s) 9 0 e), closed_longer limit r es closed)

    none_closed_refused_nine : ((es : List ℕ) → length es ≤ limit → Closed r es → ⊥) → counted_of (synthesis_of limit s) ≡ refused 9 0
    none_closed_refused_nine h = on (unsatisfiable r) refl (dec_lt limit (length (equations_of limit r)))
      where
        on : (b : Bool) → unsatisfiable r ≡ b → Dec (limit < length (equations_of limit r)) → counted_of (synthesis_of limit s) ≡ refused 9 0
        on true q d = absurd (satisfiable (rw (refuses_eight limit s r read q)))
        on false q (yes a) = rw (refuses_nine limit s r read q a)
        on false q (no a) = absurd (h (equations_of limit r) (omega arith) (closed_list limit r (omega arith)))
