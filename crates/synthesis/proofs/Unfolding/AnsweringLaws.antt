-- What is computed as the first equation and as the answers of equations is what the definitions by opening say: the sets have the same members, node
-- by node.
use Prim.Native.Nat.{ℕ, suc}
use mathlib.Core.Path.{◌≡◌, refl}
use mathlib.Core.Logic.{◌↔◌}
use mathlib.Core.Bool.{Bool, true, false, cond}
use mathlib.Core.List.{List, []}
use lib.Dec.{eqb}
use lib.ListN.{length}
use Rattle.reading.specs.Rule.{Formula, necessity, WellFormed, Rule}
use Rattle.reading.specs.Nodes.{EnclosingMax, Node, whole, after}
use Rattle.synthesis.specs.Violation.{covered_by}
use Rattle.synthesis.specs.Monitor.{dropped, next}
use Rattle.synthesis.specs.NodeSet.{Has, empty_set, intersection}
use Rattle.synthesis.specs.Opening.{Opens, Leads, leads, Answers, IsFirst}
use Rattle.synthesis.specs.Answering.{opening, opens_around, falsities, reached, answer_from, first_of, answer_of}
use Rattle.synthesis.specs.Promises.{Answered, AnswersAsDefined}
use Rattle.synthesis.proofs.Unfolding.NodeSetLaws.{has_none, has_common, no_member_empty}
use Rattle.synthesis.proofs.Unfolding.NodeWise.{no_falsity, some_falsity, Reaches, reached_has}
use Rattle.synthesis.proofs.Unfolding.OpeningLaws.{opens_as_defined}

-- ---- a set as an answer

-- The set s is what the members of e lead to under c; so it is the answer, unless it has an ff node.
answer_from-answers : (r : Rule) (e c s : ℕ) → ((m : ℕ) → Has s m ↔ Leads r e c m) → Answers r e c (answer_from (falsities 0 r.formula) s)
answer_from-answers r e c s led = on (eqb (intersection s (falsities 0 r.formula)) empty_set) refl
  where
    on : (b : Bool) → eqb (intersection s (falsities 0 r.formula)) empty_set ≡ b → Answers r e c (cond b (next s) dropped)
    on true h = (λ m l f. no_falsity r.formula s h m ((led m).1 l) f, led)
    on false h = let (m, p, f) = some_falsity r.formula s h in (m, (led m).0 p, f)

answer_from-none : (ffs s : ℕ) → s ≡ empty_set → answer_from ffs s ≡ next empty_set
answer_from-none ffs s e = rw (e, no_member_empty (intersection empty_set ffs) (λ n h. has_none n ((has_common empty_set ffs n).0 h).0))

module _ (r : Rule) (wf : WellFormed (length r.patterns) [] r.formula) where
  -- ---- what the members lead to

  after_opened : {n p : ℕ} {ms : List EnclosingMax} {f : Formula} → Node r.formula n ms (necessity p f) → (m : ℕ)
      → Has (opening (suc n) (opens_around ms) f) m ↔ Opens r.formula (suc n) m
  after_opened {n} {ms = ms} {f} node m = opens_as_defined (length r.patterns) r.formula wf (suc n) ms f (after node) m

  pub reached_leads : (e c m : ℕ) → Has (reached (covered_by r.patterns) e c 0 [] r.formula) m ↔ Leads r e c m
  reached_leads e c m = (λ h. reaches_leads (reaches.0 h), λ l. reaches.1 (leads_reaches l))
    where
      reaches : Has (reached (covered_by r.patterns) e c 0 [] r.formula) m ↔ Reaches (covered_by r.patterns) r.formula e c m
      reaches = reached_has (covered_by r.patterns) r.formula e c m

      reaches_leads : Reaches (covered_by r.patterns) r.formula e c m → Leads r e c m
      reaches_leads (n, p, ms, f, node, member, covers, h) = leads member node covers ((after_opened node m).0 h)

      leads_reaches : Leads r e c m → Reaches (covered_by r.patterns) r.formula e c m
      leads_reaches (leads {n} {p} {ms = ms} {f} member node covers o) = (n, p, ms, f, node, member, covers, (after_opened node m).1 o)

  -- ---- the promise

  first_is_opening : IsFirst r (first_of r)
  unfolding first_of
  first_is_opening m = opens_as_defined (length r.patterns) r.formula wf 0 [] r.formula whole m

  equation_answers : (e c : ℕ) → Answers r e c (answer_of r e c)
  unfolding answer_of
  equation_answers e c = answer_from-answers r e c (reached (covered_by r.patterns) e c 0 [] r.formula) (reached_leads e c)

  empty_leads_nowhere : (c m : ℕ) → Leads r empty_set c m → ⊥
  empty_leads_nowhere c m (leads {n} member node covers o) = has_none n member

  empty_answers : (c : ℕ) → answer_of r empty_set c ≡ next empty_set
  unfolding answer_of
  empty_answers c = answer_from-none (falsities 0 r.formula) _ (no_member_empty _ (λ m h. empty_leads_nowhere c m ((reached_leads empty_set c m).0 h)))

  rule_answered : Answered r
  rule_answered = record { first = first_is_opening; answers = equation_answers; empty = empty_answers }

pub answers_as_defined : AnswersAsDefined
answers_as_defined = rule_answered
