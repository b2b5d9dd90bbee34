-- Opening a node (in the field: unfolding, with each max unfolded to its body), equations and what they answer, as the paper says it under
-- "Equations".
use Rattle.std.specs.Prelude.{ℕ, suc, ◌+◌, ◌<◌, ◌≡◌, ◌↔◌, true, List, map, length, get_or}
use Rattle.reading.specs.Rule.{Formula, falsity, both, necessity, max, variable, size, Rule}
use Rattle.reading.specs.Nodes.{EnclosingMax, no_max, Node}
use Rattle.synthesis.specs.Violation.{covered_by, Violates}
use Rattle.synthesis.specs.Monitor.{Answer, dropped, next}
use Rattle.synthesis.specs.NodeSet.{Has}

-- Opening node k of the formula `root` gives node m. Only ff nodes and necessities are given; on the way to them, "both" is followed into
-- either part, and a max, like each of its variables, into its body. Nothing is given by tt.
pub data Opens (root : Formula) : (k m : ℕ) → Type 0 where
  falsity_itself : {k : ℕ} {ms : List EnclosingMax} → Node root k ms falsity → Opens root k k
  necessity_itself : {k p : ℕ} {ms : List EnclosingMax} {f : Formula} → Node root k ms (necessity p f) → Opens root k k
  first_part : {k m : ℕ} {ms : List EnclosingMax} {f g : Formula} → Node root k ms (both f g) → Opens root (suc k) m → Opens root k m
  second_part : {k m : ℕ} {ms : List EnclosingMax} {f g : Formula} → Node root k ms (both f g) → Opens root (k + suc (size f)) m
      → Opens root k m
  body_of-max : {k m : ℕ} {ms : List EnclosingMax} {f : Formula} → Node root k ms (max f) → Opens root (suc k) m → Opens root k m
  body_of-variable : {k m d : ℕ} {ms : List EnclosingMax} → Node root k ms (variable d) → d < length ms
      → Opens root (suc (get_or ms d no_max).number) m → Opens root k m

-- node m is ff
abbrev pub IsFalsity : (root : Formula) → ℕ → Type 0
IsFalsity root m = (ms : List EnclosingMax) × Node root m ms falsity

-- node k opens to an ff node
abbrev pub OpensToFalsity : (root : Formula) → ℕ → Type 0
OpensToFalsity root k = (m : ℕ) × Opens root k m × IsFalsity root m

-- An equation is a set of necessity nodes. Under the code c, a member of e whose pattern covers c leads to what opening the formula
-- after it gives.
pub data Leads (r : Rule) (e c : ℕ) : ℕ → Type 0 where
  leads : {n p m : ℕ} {ms : List EnclosingMax} {f : Formula} → Has e n → Node r.formula n ms (necessity p f)
      → covered_by r.patterns p c ≡ true → Opens r.formula (suc n) m → Leads r e c m

-- What the equation e answers to the code c: dropped where some member leads to ff, else the set of the nodes that members lead to.
abbrev pub Answers : Rule → (e c : ℕ) → Answer ℕ → Type 0
Answers r e c dropped = (m : ℕ) × Leads r e c m × IsFalsity r.formula m
Answers r e c (next e') = ((m : ℕ) → Leads r e c m → IsFalsity r.formula m → ⊥) × ((m : ℕ) → Has e' m ↔ Leads r e c m)

-- The first equation is what opening node 0 gives.
abbrev pub IsFirst : Rule → ℕ → Type 0
IsFirst r e = (m : ℕ) → Has e m ↔ Opens r.formula 0 m

abbrev pub body_of : EnclosingMax → Formula
body_of m = m.body

-- A list violates an equation when it violates one of its members.
abbrev pub ViolatesEquation : Rule → (e : ℕ) → List ℕ → Type 0
ViolatesEquation r e w =
    (n : ℕ) × (p : ℕ) × (ms : List EnclosingMax) × (f : Formula) × Has e n × Node r.formula n ms (necessity p f)
    × Violates (covered_by r.patterns) (map body_of ms) (necessity p f) w
