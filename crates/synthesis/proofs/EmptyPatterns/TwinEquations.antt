-- The equations of two rules that are alike but after empty patterns correspond: each to the one whose members are the twins of its own. A member leads
-- on only under a code that its pattern covers, so that pattern isn't empty, and its twin leads to twins. What goes from one rule to the other goes back
-- too, since the rules are alike both ways.
use Prim.Native.Nat.{ℕ, suc}
use mathlib.Core.Path.{◌≡◌, sym, ◌∙◌}
use mathlib.Core.Bool.{true, true≢false}
use mathlib.Core.List.{List, []}
use Rattle.reading.specs.Rule.{Formula, necessity, Rule}
use Rattle.reading.specs.Nodes.{EnclosingMax}
use Rattle.synthesis.specs.Violation.{covered_by}
use Rattle.synthesis.specs.Monitor.{Answer, dropped, next}
use Rattle.synthesis.specs.NodeSet.{Has}
use Rattle.synthesis.specs.Opening.{Opens, Leads, leads, Answers}
use Rattle.synthesis.specs.Answering.{first_of, answer_of}
use Rattle.synthesis.specs.Alike.{same_necessity, after_empty, RulesAlike}
use Rattle.synthesis.specs.Promises.{WellFormedFormula}
use Rattle.synthesis.proofs.Unfolding.NodeSetLaws.{same_members_same_set}
use Rattle.synthesis.proofs.Unfolding.AnsweringLaws.{answers_as_defined}
use Rattle.synthesis.proofs.Monitors.Corresponding.{BothAnswer, both_dropped, both_next, Corresponds}
use Rattle.synthesis.proofs.EmptyPatterns.AlikeLaws.{alike_back}
use Rattle.synthesis.proofs.EmptyPatterns.Twins.{wholes, afters, HasTwin, has_twin, Twins, other_node, twin_of, twins_back, twin_falsity, opens_twin}
use Rattle.synthesis.proofs.EmptyPatterns.OnlyTwins.{one_twin}

-- ---- equations whose members are twins

-- node m of a rule and node m' of another are twins
abbrev TwinNodes : (r r' : Rule) → (m m' : ℕ) → Type 0
TwinNodes r r' = Twins (covered_by r.patterns) (covered_by r'.patterns) r.formula r'.formula

-- each member of e has a twin among the members of e'
record HaveTwins (r r' : Rule) (e e' : ℕ) : Type 0 where
  twin : (n : ℕ) → Has e n → (n' : ℕ) × Has e' n' × TwinNodes r r' n n'

-- the members of e and those of e' are twins of each other
pub record TwinEquations (r r' : Rule) (e e' : ℕ) : Type 0 where
  there : HaveTwins r r' e e'
  back : HaveTwins r' r e' e

-- ---- from one rule to the other

module _ (r r' : Rule) where
  -- under the code c, a member of e' leads to a twin of m
  abbrev LeadsTwin : (e' c m : ℕ) → Type 0
  LeadsTwin e' c m = (m' : ℕ) × Leads r' e' c m' × TwinNodes r r' m m'

  member_leads : (e' c m : ℕ) {n n' p : ℕ} {ms : List EnclosingMax} {f : Formula} → Has e' n'
      → HasTwin (covered_by r.patterns) (covered_by r'.patterns) r.formula r'.formula n n' ms (necessity p f)
      → covered_by r.patterns p c ≡ true → Opens r.formula (suc n) m → LeadsTwin e' c m
  member_leads e' c m {ms = ms} {f} member (has_twin s (same_necessity same a)) h o =
      let (m', o', t) = opens_twin _ _ _ _ o _ (ms, f, has_twin (afters s) a) in
      (m', leads member (other_node s) (sym (same c) ∙ h) o', t)
  member_leads e' c m member (has_twin s (after_empty none none')) h o = absurd (true≢false (sym h ∙ none c))

  leads_twin : {e e' c m : ℕ} → HaveTwins r r' e e' → Leads r e c m → LeadsTwin e' c m
  leads_twin {e' = e'} {c} {m} twins (leads {n} member node h o) =
      let (n', member', t) = twins.twin n member in
      member_leads e' c m member' (twin_of _ _ _ _ node t) h o

  first_twins : WellFormedFormula r → WellFormedFormula r' → RulesAlike r r' → HaveTwins r r' (first_of r) (first_of r')
  first_twins wf wf' a = record {
    twin = λ n h.
        let (n', o, t) = opens_twin _ _ _ _ (((answers_as_defined r wf).first n).0 h) 0 ([], r.formula, has_twin wholes a) in
        (n', ((answers_as_defined r' wf').first n').1 o, t);
  }

  next_twins : {e e' d d' : ℕ} (c : ℕ) → HaveTwins r r' e e' → Answers r e c (next d) → Answers r' e' c (next d') → HaveTwins r r' d d'
  next_twins c twins (clean, members) (clean', members') = record {
    twin = λ n h. let (n', l, t) = leads_twin twins ((members n).0 h) in (n', (members' n').1 l, t);
  }

  -- an equation doesn't answer with a next one where the other answers dropped
  dropped_alone : {e e' : ℕ} (c d' : ℕ) → HaveTwins r r' e e' → Answers r e c dropped → Answers r' e' c (next d') → ⊥
  dropped_alone c d' twins (m, l, ff) (clean', members') =
      let (m', l', t) = leads_twin twins l in
      clean' m' l' (twin_falsity _ _ _ _ t ff)

  -- A node whose twin is in e is in each equation that has the twins of the members of e.
  same_twins : {e e' e'' : ℕ} → HaveTwins r' r e' e → HaveTwins r r' e e'' → (n : ℕ) → Has e' n → Has e'' n
  same_twins back there n h =
      let (k, member, t) = back.twin n h in
      let (n'', member'', t'') = there.twin k member in
      let same : n'' ≡ n = one_twin t'' (twins_back t) in
      rw (← same) member''

-- ---- both ways

module _ {r r' : Rule} where
  equations_back : {e e' : ℕ} → TwinEquations r r' e e' → TwinEquations r' r e' e
  equations_back t = record { there = t.back; back = t.there }

  one_equation : {e e' e'' : ℕ} → TwinEquations r r' e e' → TwinEquations r r' e e'' → e' ≡ e''
  one_equation {e' = e'} {e''} t t'' =
      same_members_same_set e' e'' (λ n. (same_twins r r' t.back t''.there n, same_twins r r' t''.back t.there n))

  both_answer : {e e' : ℕ} (c : ℕ) → TwinEquations r r' e e' → (x x' : Answer ℕ) → Answers r e c x → Answers r' e' c x'
      → BothAnswer 256 (answer_of r) (answer_of r') (TwinEquations r r') x x'
  both_answer c t dropped dropped answers answers' = both_dropped
  both_answer c t dropped (next d') answers answers' = absurd (dropped_alone r r' c d' t.there answers answers')
  both_answer c t (next d) dropped answers answers' = absurd (dropped_alone r' r c d t.back answers' answers)
  both_answer c t (next d) (next d') answers answers' =
      both_next (record { there = next_twins r r' c t.there answers answers'; back = next_twins r' r c t.back answers' answers })

pub alike_corresponds : (r r' : Rule) → WellFormedFormula r → WellFormedFormula r' → RulesAlike r r'
    → Corresponds 256 (answer_of r) (answer_of r') (TwinEquations r r') (first_of r) (first_of r')
alike_corresponds r r' wf wf' a = record {
  starts = record { there = first_twins r r' wf wf' a; back = first_twins r' r wf' wf (alike_back a) };
  steps = λ e e' c t is_code. both_answer c t _ _ ((answers_as_defined r wf).answers e c) ((answers_as_defined r' wf').answers e' c);
  one_other = λ e e' e'' t t''. one_equation t t'';
  other_one = λ e d e' t u. one_equation (equations_back t) (equations_back u);
}
