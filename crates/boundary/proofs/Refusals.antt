-- No refusal has the number 0: each is that of a fault in a file, or of a check that has its own number. The limit on equations is any, so that it
-- holds on the rule page too, whose outcomes are those of its limit with 18 for 9.
use Prim.Native.Nat.{ℕ, suc, ◌*◌, ◌≤◌}
use mathlib.Core.Path.{◌≡◌, refl}
use mathlib.Core.Bool.{Bool, true, false}
use mathlib.Core.List.{List, [], ◌∷◌}
use native.Mathlib.Omega.{arith}
use lib.Dec.{ltb}
use lib.ListN.{length}
use Rattle.reading.specs.Rule.{Bytes}
use Rattle.reading.specs.File.{Outcome, accepted, refused, refuse, and_then, rule_of}
use Rattle.reading.proofs.Basics.Outcomes.{never_refused}
use Rattle.reading.proofs.Refusing.FaultNumbers.{rule_refused_number}
use Rattle.synthesis.specs.Monitor.{Answer, dropped, next}
use Rattle.synthesis.specs.Answering.{unsatisfiable, first_of, answer_of}
use Rattle.synthesis.specs.Building.{equations_of, Synthesis, synthesis_of_rule, synthesis_of, in_table, filling_of, shortened, short_of, short_filling_of}
use Rattle.synthesis.specs.Building.{preview_limit, on_page, preview_of, preview_filling_of}
use Rattle.synthesis.proofs.Tables.Pages.{page_refused}
use Rattle.synthesis.specs.Reason.{followed, opened_falsities, opened_after, explanation_of}
use Rattle.models.specs.Phone.{phone_of}
use Rattle.models.specs.Faults as Models
use Rattle.models.specs.Judging.{with_model, judging_of}
use Rattle.models.specs.Pairs.{pairs_of, matching_of, MatchedAs, paper_answer, MatchAnswer}
use Rattle.models.specs.PairFaults.{PairFault, pair_cut, no_such_state, one_too_many}
use Rattle.models.proofs.Files.FileFaults.{model_refused, refuses_at_the_fault}
use Rattle.models.proofs.Matchings.PairLists.{refuses_at_the_pair}
use Rattle.models.proofs.Matchings.RefusalOrder.{refuses_by_number}

abbrev pub Numbered : {A : Type 0} → Outcome A → Type 0
Numbered o = (number place : ℕ) → o ≡ refused number place → 1 ≤ number

-- ---- checks and steps

accepted_numbered : {A : Type 0} (a : A) → Numbered (accepted a)
accepted_numbered a number place e = absurd (never_refused e)

check_numbered : {A : Type 0} (b : Bool) (k q : ℕ) (o : Outcome A) → 1 ≤ k → Numbered o → Numbered (refuse b k q o)
check_numbered true k q o some rest number place e = let same : k ≡ number = cc in omega (arith, some, same)
check_numbered false k q o some rest number place e = rest number place e

then_numbered : {A B : Type 0} (o : Outcome A) (f : A → Outcome B) → Numbered o → ((a : A) → Numbered (f a)) → Numbered (and_then o f)
then_numbered (accepted a) f first second number place e = second a number place e
then_numbered (refused k q) f first second number place e = first number place cc

-- ---- files

rule_numbered : (s : List ℕ) → Bytes s → Numbered (rule_of s)
rule_numbered s bytes number place e = (rule_refused_number s bytes number place e).0

model_fault : {f : List ℕ} {number place : ℕ} → Models.Fault f number place → 1 ≤ number
model_fault (Models.empty_file _) = omega arith
model_fault (Models.count_cut _ _) = omega arith
model_fault (Models.step_cut _ _ _ _) = omega arith
model_fault (Models.not_count _) = omega arith
model_fault (Models.bad_count _ _ _) = omega arith
model_fault (Models.not_step _ _) = omega arith
model_fault (Models.bad_step _ _ _ _ _) = omega arith
model_fault (Models.step_513 _ _) = omega arith

model_numbered : (f : List ℕ) → Bytes f → Numbered (phone_of f)
model_numbered f bytes number place e =
    model_fault ((refuses_at_the_fault f bytes number place).0 ((model_refused (phone_of f) number place).0 e))

pair_fault : {l : List ℕ} {n n' number place : ℕ} → PairFault l n n' number place → 1 ≤ number
pair_fault (pair_cut _ _ _) = omega arith
pair_fault (no_such_state _ _ _ _) = omega arith
pair_fault (one_too_many _) = omega arith

pairs_numbered : (l : List ℕ) (n n' : ℕ) → Numbered (pairs_of l n n')
pairs_numbered l n n' number place e = pair_fault ((refuses_at_the_pair l n n' number place).0 e)

-- ---- the scans kept so far

followed_numbered : (answer : ℕ → ℕ → Answer ℕ) (e i : ℕ) (w : List ℕ) → Numbered (followed answer e i w)
followed_numbered answer e i [] = accepted_numbered e
followed_numbered answer e i (c ∷ w) = on (answer e c) refl (λ e'. followed_numbered answer e' (suc i) w)
  where
    on : (a : Answer ℕ) → answer e c ≡ a → ((e' : ℕ) → Numbered (followed answer e' (suc i) w)) → Numbered (followed answer e i (c ∷ w))
    on dropped is later number place q = let same : refused 17 i ≡ refused number place = rw is at q in let z : 17 ≡ number = cc in omega (arith, z)
    on (next e') is later number place q = later e' number place (rw is at q)

-- ---- the outcomes

module _ (limit : ℕ) (s : List ℕ) (bytes : Bytes s) where
  pub synthesis_numbered : Numbered (synthesis_of limit s)
  unfolding synthesis_of
  synthesis_numbered =
      then_numbered (rule_of s) (synthesis_of_rule limit) (rule_numbered s bytes) (λ r.
      check_numbered (unsatisfiable r) 8 0 _ (omega arith)
      (check_numbered (ltb limit (length (equations_of limit r))) 9 0 _ (omega arith) (accepted_numbered _)))

  pub short_numbered : Numbered (short_of limit s)
  unfolding short_of
  short_numbered = then_numbered (synthesis_of limit s) (λ y. accepted (shortened y)) synthesis_numbered (λ y. accepted_numbered (shortened y))

  module _ (capacity : ℕ) where
    table_numbered : (y : Synthesis) → Numbered (in_table capacity y)
    table_numbered y = check_numbered (ltb capacity (256 * length y.equations)) 10 0 (accepted y) (omega arith) (accepted_numbered y)

    pub filling_numbered : Numbered (filling_of limit s capacity)
    unfolding filling_of
    filling_numbered = then_numbered (synthesis_of limit s) (in_table capacity) synthesis_numbered table_numbered

    pub short_filling-numbered : Numbered (short_filling_of limit s capacity)
    unfolding short_filling_of
    short_filling-numbered = then_numbered (short_of limit s) (in_table capacity) short_numbered table_numbered

    pub judging_numbered : (f : List ℕ) → Bytes f → Numbered (judging_of limit s capacity f)
    unfolding judging_of
    judging_numbered f model =
        then_numbered (filling_of limit s capacity) (with_model f) filling_numbered (λ y.
        then_numbered (phone_of f) _ (model_numbered f model) (λ p. accepted_numbered _))

  pub explanation_numbered : (w : List ℕ) (c : ℕ) → Numbered (explanation_of limit s w c)
  unfolding explanation_of
  explanation_numbered w c =
      then_numbered (synthesis_of limit s) (λ y. opened_after y.rule w c) synthesis_numbered (λ y.
      let r = y.rule in
      then_numbered (followed (answer_of r) (first_of r) 0 w) (λ e. accepted (opened_falsities r e c)) (followed_numbered (answer_of r) (first_of r) 0 w)
      (λ e. accepted_numbered (opened_falsities r e c)))

-- what matching answers is refused as the first of its three inputs is
pub matching_numbered : (f g l : List ℕ) → Bytes f → Bytes g → (answer : MatchAnswer) → MatchedAs (matching_of f g l) answer → Numbered (paper_answer answer)
matching_numbered f g l first second answer matched number place e =
    then_numbered (phone_of f) _ (model_numbered f first) (λ a.
    then_numbered (phone_of g) _ (model_numbered g second) (λ b. pairs_numbered l a.states b.states))
    number place ((refuses_by_number f g l answer matched number place).0 e)

-- ---- the rule page

page_numbered : (o : Outcome Synthesis) → Numbered o → Numbered (on_page o)
page_numbered o numbered number place e =
    page_refused o number place e (λ nine is. omega (arith, is)) (λ other same. numbered number place same)

module _ (s : List ℕ) (bytes : Bytes s) where
  pub preview_numbered : Numbered (preview_of s)
  unfolding preview_of
  preview_numbered = page_numbered (synthesis_of preview_limit s) (synthesis_numbered preview_limit s bytes)

  pub preview_filling-numbered : (capacity : ℕ) → Numbered (preview_filling_of s capacity)
  unfolding preview_filling_of
  preview_filling-numbered capacity = page_numbered (filling_of preview_limit s capacity) (filling_numbered preview_limit s bytes capacity)
