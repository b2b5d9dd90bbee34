-- Why a scan is dropped: the ff nodes at which a list of codes violates a rule, and what the desk is told. Nodes are numbered from 0 in reading order, and
-- patterns aren't nodes. The limit on equations is any; the paper's is `most`.
use Rattle.std.specs.Prelude.{ℕ, suc, ◌+◌, ◌≤◌, ◌<◌, ◌≡◌, true, cond, List, [], ◌∷◌, eqb, length, get_or, take, Option, Some, None}
use Rattle.reading.specs.Pattern.{least}
use Rattle.reading.specs.Rule.{Formula, truth, falsity, both, necessity, max, variable, size, Rule}
use Rattle.reading.specs.File.{Outcome, accepted, refused, and_then, by_case}
use Rattle.reading.specs.Nodes.{EnclosingMax, no_max, Node}
use Rattle.synthesis.specs.Violation.{covered_by, ViolatesRule}
use Rattle.synthesis.specs.Monitor.{Answer, cases}
use Rattle.synthesis.specs.NodeSet.{has, empty_set, intersection}
use Rattle.synthesis.specs.Opening.{IsFalsity, Leads}
use Rattle.synthesis.specs.Answering.{falsities, reached, first_of, answer_of}
use Rattle.synthesis.specs.Building.{synthesis_of}

-- ---- by violation

-- The list w violates node k of a rule, and m is the ff node where it does. Each clause is one of violation, with nodes by number.
pub data ViolatesAt (r : Rule) : (k : ℕ) → (w : List ℕ) → (m : ℕ) → Type 0 where
  at_falsity : {k : ℕ} {ms : List EnclosingMax} {w : List ℕ} → Node r.formula k ms falsity → ViolatesAt r k w k
  in_first : {k m : ℕ} {ms : List EnclosingMax} {f g : Formula} {w : List ℕ} → Node r.formula k ms (both f g)
      → ViolatesAt r (suc k) w m → ViolatesAt r k w m
  in_second : {k m : ℕ} {ms : List EnclosingMax} {f g : Formula} {w : List ℕ} → Node r.formula k ms (both f g)
      → ViolatesAt r (k + suc (size f)) w m → ViolatesAt r k w m
  after_code_lem : {k m p c : ℕ} {ms : List EnclosingMax} {f : Formula} {w : List ℕ} → Node r.formula k ms (necessity p f)
      → covered_by r.patterns p c ≡ true → ViolatesAt r (suc k) w m → ViolatesAt r k (c ∷ w) m
  in_body : {k m : ℕ} {ms : List EnclosingMax} {f : Formula} {w : List ℕ} → Node r.formula k ms (max f)
      → ViolatesAt r (suc k) w m → ViolatesAt r k w m
  in_variable_lem : {k m d : ℕ} {ms : List EnclosingMax} {w : List ℕ} → Node r.formula k ms (variable d) → d < length ms
      → ViolatesAt r (suc (get_or ms d no_max).number) w m → ViolatesAt r k w m

-- The formula that begins at node k, with tt for each of its ff nodes but node m.
abbrev pub with_only : (m k : ℕ) → Formula → Formula
with_only m k truth = truth
with_only m k falsity = cond (eqb k m) falsity truth
with_only m k (both f g) = both (with_only m (suc k) f) (with_only m (k + suc (size f)) g)
with_only m k (necessity p f) = necessity p (with_only m (suc k) f)
with_only m k (max f) = max (with_only m (suc k) f)
with_only m k (variable d) = variable d

-- The rule that has no ff but node m. What violates it violates the rule at m, and nothing else does: that is proved.
abbrev pub only_falsity : Rule → (m : ℕ) → Rule
only_falsity r m = record { patterns = r.patterns; formula = with_only m 0 r.formula }

-- the least number of which this holds
pub record Least (P : ℕ → Type 0) (m : ℕ) : Type 0 where
  pub holds : P m
  pub lowest : (n : ℕ) → P n → m ≤ n

-- the lowest ff node at which a list violates a rule
abbrev pub LowestPlace : Rule → (w : List ℕ) → (m : ℕ) → Type 0
LowestPlace r w = Least (ViolatesAt r 0 w)

-- The shortest front of a list that violates a rule ends with the scan at i.
pub record FirstViolated (r : Rule) (w : List ℕ) (i : ℕ) : Type 0 where
  pub inside : i < length w
  pub before : ViolatesRule r (take i w) → ⊥
  pub violated : ViolatesRule r (take (suc i) w)

-- ---- by opening

-- m is an ff node to which some member of the equation e leads under c
abbrev pub OpensFalsity : Rule → (e c m : ℕ) → Type 0
OpensFalsity r e c m = Leads r e c m × IsFalsity r.formula m

abbrev pub LowestOpened : Rule → (e c m : ℕ) → Type 0
LowestOpened r e c = Least (OpensFalsity r e c)

-- ---- what the desk is told

-- the ff nodes that the members of e open under c
unfoldable pub opened_falsities : Rule → (e c : ℕ) → ℕ
opened_falsities r e c = intersection (reached (covered_by r.patterns) e c 0 [] r.formula) (falsities 0 r.formula)

-- The equation to which scans lead from e, `i` others having come before; 17 at the first of them that is dropped.
abbrev pub followed : (answer : ℕ → ℕ → Answer ℕ) → (e i : ℕ) → (scans : List ℕ) → Outcome ℕ
followed answer e i [] = accepted e
followed answer e i (c ∷ w) = cases (answer e c) (refused 17 i) (λ e'. followed answer e' (suc i) w)

-- The ff nodes that the scan c opens after the scans w, from the first equation on.
abbrev pub opened_after : Rule → (w : List ℕ) → (c : ℕ) → Outcome ℕ
opened_after r w c = and_then (followed (answer_of r) (first_of r) 0 w) (λ e. accepted (opened_falsities r e c))

-- The same for a rule file: 1 to 9 as counting has them, and then 17.
unfoldable pub explanation_of : (limit : ℕ) → (s w : List ℕ) → (c : ℕ) → Outcome ℕ
explanation_of limit s w c = and_then (synthesis_of limit s) (λ y. opened_after y.rule w c)

-- What is said of a scan by the ff nodes that it opens: it is kept where there is none, and else the lowest is the reason. A rule has at most 64 nodes.
abbrev pub lowest_reason : (set : ℕ) → Option ℕ
lowest_reason set = cond (eqb set empty_set) None (Some (least 64 (has set)))

-- The answer of each outcome: none where the scan is kept, the number of an ff node, or the refusal with the paper's number and place.
abbrev pub reason_of : Outcome ℕ → Outcome (Option ℕ)
reason_of = by_case (λ set. accepted (lowest_reason set)) refused
