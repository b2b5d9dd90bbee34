-- What the crate's own functions say of their arrays.
use Rattle.std.specs.Prelude.{ℕ, suc, ◌/◌, ◌≤◌, ◌<◌, ◌≡◌, ◌↔◌, Bool, true, false, cond, List, [], ◌∷◌, map, length, get_or, take, Result, MatchResult, ⊤}
use Rattle.reading.specs.Rule.{Formula, necessity, max, size, Rule, RuleWithinLimits}
use Rattle.reading.specs.Nodes.{EnclosingMax, Node}
use Rattle.reading.specs.Numbered.{numbered}
use Rattle.reading.specs.Pattern.{covers}
use Rattle.reading.specs.declared.Pattern.{Pattern}
use Rattle.reading.specs.declared.NumberedRule.{NumberedRule}
use Rattle.reading.specs.declared.refusals.Fault.TheVariants.{TooManyEquations}
use Rattle.reading.specs.declared.refusals.Refusal.{Refusal}
use Rattle.synthesis.specs.Violation.{covered_by}
use Rattle.synthesis.specs.Monitor.{mark, most, Answer}
use Rattle.synthesis.specs.Table.{WellFormedTable}
use Rattle.synthesis.specs.Search.{index_of}
use Rattle.synthesis.specs.Merging.{firsts}
use Rattle.synthesis.specs.NodeSet.{Has, has, empty_set, singleton, union, intersection}
use Rattle.synthesis.specs.Answering.{opening, opens_around, falsities, answer_from, first_of}
use Rattle.synthesis.specs.declared.graph.Graph.{Graph}

-- ---- the nodes of a rule

-- A rule by number is that of a well-formed rule within the limits.
pub record IsNumbered (r : Rule) (n : NumberedRule) : Type 0 where
  pub within_limits : RuleWithinLimits r
  pub is : n ≡ numbered r

-- it is that of some rule with a node k
pub record SomeNumbered (n : NumberedRule) (k : ℕ) : Type 0 where
  pub rule : Rule
  pub is_numbered : IsNumbered rule n
  pub below : k < size rule.formula

-- what opening each of some nested maxes gives, as an array has it
abbrev pub listed_around : List ℕ → List EnclosingMax → List ℕ
listed_around opened ms = map (λ m. get_or opened m.number 0) ms

-- Nothing stands in the array from k on.
abbrev pub ZeroFrom : ℕ → List ℕ → Type 0
ZeroFrom k xs = (j : ℕ) → k ≤ j → get_or xs j 0 ≡ 0

-- `e` is what opening node k gives, where the array has what opening the maxes before it gives.
pub record IsOpening (n : NumberedRule) (opened : List ℕ) (k e : ℕ) : Type 0 where
  pub is : (r : Rule) → IsNumbered r n → ZeroFrom k opened → (ms : List EnclosingMax) (f : Formula) → Node r.formula k ms f
      → e ≡ opening k (listed_around opened ms) f

-- Two arrays have, for each node below k, what opening it gives where it is a max, and what opening the formula after it gives where it
-- is a necessity.
pub record Linked (r : Rule) (k : ℕ) (opened after : List ℕ) : Type 0 where
  pub opened_is : (j : ℕ) (ms : List EnclosingMax) (f : Formula) → j < k → Node r.formula j ms (max f)
      → get_or opened j 0 ≡ opening j (opens_around ms) (max f)
  pub unopened : ZeroFrom k opened
  pub after_is : (j p : ℕ) (ms : List EnclosingMax) (f : Formula) → j < k → Node r.formula j ms (necessity p f)
      → get_or after j 0 ≡ opening (suc j) (opens_around ms) f

-- For each necessity, the array has what opening the formula after it gives.
pub record AfterAll (r : Rule) (after : List ℕ) : Type 0 where
  pub is : (j p : ℕ) (ms : List EnclosingMax) (f : Formula) → Node r.formula j ms (necessity p f)
      → get_or after j 0 ≡ opening (suc j) (opens_around ms) f

-- ---- sets by a test

-- the set with node k where the test holds
abbrev pub with_node : (set k : ℕ) → Bool → ℕ
with_node e k true = union e (singleton k)
with_node e k false = e

-- ---- the answers of equations

-- Node k was put into the set of each code that the pattern covers.
pub record AddedToCodes (p : Pattern) (k : ℕ) (before after : List ℕ) : Type 0 where
  pub is : (c : ℕ) → c < 256 → get_or after c 0 ≡ with_node (get_or before c 0) k (covers p c)

-- Node n is enabled by the code c: it is a necessity whose pattern covers c.
abbrev pub IsEnabled : Rule → (c n : ℕ) → Type 0
IsEnabled r c n =
    (p : ℕ) × (ms : List EnclosingMax) × (f : Formula) × Node r.formula n ms (necessity p f) × (covered_by r.patterns p c ≡ true)

-- The array has, for each code, the nodes below k that it enables.
pub record EnabledBelow (r : Rule) (k : ℕ) (enabled : List ℕ) : Type 0 where
  pub is : (c n : ℕ) → c < 256 → Has (get_or enabled c 0) n ↔ ((n < k) × IsEnabled r c n)

-- the same for all nodes
pub record Enabled (r : Rule) (enabled : List ℕ) : Type 0 where
  pub is : (c n : ℕ) → c < 256 → Has (get_or enabled c 0) n ↔ IsEnabled r c n

-- what a `Graph` has of a rule
pub record IsGraph (r : Rule) (g : Graph) : Type 0 where
  pub first_is : g.first ≡ first_of r
  pub falsities_are : g.falsities ≡ falsities 0 r.formula
  pub after_is : AfterAll r g.after
  pub enabled_is : Enabled r g.enabled

-- the union of those sets of a list whose indices are in `live`
abbrev pub gathered : List ℕ → (live : ℕ) → ℕ
gathered [] live = empty_set
gathered (x ∷ xs) live = union (cond (has live 0) x empty_set) (gathered xs (live / 2))

-- the nodes that the equation e reaches under the code c, by a graph
abbrev pub reached_by : Graph → (e c : ℕ) → ℕ
reached_by g e c = gathered g.after (intersection e (get_or g.enabled c 0))

-- the answer of the equation e to the code c, by a graph
unfoldable pub answer_by : Graph → (e c : ℕ) → Answer ℕ
answer_by g e c = answer_from g.falsities (reached_by g e c)

-- ---- the search

-- distinct numbers: each stands at its own index
abbrev pub Distinct : List ℕ → Type 0
Distinct l = (i : ℕ) → i < length l → index_of (get_or l i 0) l ≡ i

-- the equations found so far, and the most that there may be
pub record Found : Type 0 where
  pub limit : ℕ
  pub equations : List ℕ

-- The first elements of an array are these equations.
pub record FoundWithin (limit count : ℕ) (array : List ℕ) : Type 0 where
  pub few : count ≤ limit
  pub small : limit ≤ most
  pub distinct : Distinct (take count array)

-- the refusal of more equations than the limit
abbrev pub too_many : Refusal
too_many = record { fault = TooManyEquations; place = 0 }

-- The search has come to a list of equations; or that is over the limit.
abbrev pub FoundFrom : Found → Result ⊤ Refusal → Found → (equations : List ℕ) → Type 0
FoundFrom before result after l =
    MatchResult result (λ _. after ≡ record { limit = before.limit; equations = l }) (λ r. (r ≡ too_many) × (before.limit < length l))

-- ---- merging

-- Each class of n equations has the number of its first equation.
pub record AreClasses (n : ℕ) (classes : List ℕ) : Type 0 where
  pub le : (k : ℕ) → k < n → get_or classes k 0 ≤ k
  pub again : (k : ℕ) → k < n → get_or classes (get_or classes k 0) 0 ≡ get_or classes k 0

-- The class of each equation is that of an equation which isn't after it.
abbrev pub ClassesEarlier : List ℕ → Type 0
ClassesEarlier classes = (j : ℕ) → j < length classes → get_or classes j 0 ≤ j

-- What a round starts from: a long table that is well formed, and classes of its equations.
pub record CanRefine (long classes : List ℕ) : Type 0 where
  pub well_formed : WellFormedTable most mark (length classes) long
  pub earlier : ClassesEarlier classes

-- Each of n equations has a number: where the class of the equation stands in a list.
pub record AreNumbers (n : ℕ) (classes listed numbers : List ℕ) : Type 0 where
  pub is : (k : ℕ) → k < n → get_or numbers k 0 ≡ index_of (get_or classes k 0) listed
  pub below : (k : ℕ) → k < n → get_or numbers k 0 < length listed

-- The classes of n equations are numbered. There are m of them, and the first m elements of the array are their first equations.
pub record ClassesNumbered (n : ℕ) (classes : List ℕ) (m : ℕ) (array numbers : List ℕ) : Type 0 where
  pub firsts_are : take m array ≡ firsts classes n
  pub count_is : m ≡ length (firsts classes n)
  pub numbers_are : AreNumbers n classes (firsts classes n) numbers
