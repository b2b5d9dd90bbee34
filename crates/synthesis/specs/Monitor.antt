-- Monitors that suppress: their runs over lists of codes, tables as monitors, and what it is to monitor a rule. The states of a monitor are of any
-- type; the paper calls them equations, and its sets of nodes and the numbers of a table's rows are two such types. The number of codes and the mark
-- for dropped are any; the paper's are 256 and `mark`.
use Rattle.std.specs.Prelude.{ℕ, ◌+◌, ◌*◌, ◌≡◌, ◌↔◌, cond, List, [], ◌∷◌, eqb, leb, length, get_or, take, drop}
use Rattle.reading.specs.Rule.{Rule, Bytes}
use Rattle.synthesis.specs.Violation.{ViolatesRule}

-- ---- the paper's numbers

-- the mark for dropped
abbrev pub mark : ℕ
mark = 65535

-- the most equations that a table has
abbrev pub most : ℕ
most = 1000

-- ---- runs

-- What an equation (a state of the monitor) answers to a code: the scan is dropped (suppressed) and the equation stays, or the scan is kept and this
-- is the next equation.
pub data Answer (E : Type 0) : Type 0 where
  dropped : Answer E
  next : E → Answer E

abbrev pub cases : {E A : Type 0} → Answer E → (if-dropped : A) → (if-next : E → A) → A
cases dropped x f = x
cases (next e) x f = f e

module _ {E : Type 0} (answer : E → ℕ → Answer E) where
  -- the scans that a run from the equation e keeps
  abbrev pub kept : E → List ℕ → List ℕ
  kept e [] = []
  kept e (c ∷ w) = cases (answer e c) (kept e w) (λ e'. c ∷ kept e' w)

  -- The verdict on each scan, which is what the monitor does with it: 1 dropped, 0 kept. (In the field a verdict is often on a whole trace.)
  abbrev pub verdicts : E → List ℕ → List ℕ
  verdicts e [] = []
  verdicts e (c ∷ w) = cases (answer e c) (1 ∷ verdicts e w) (λ e'. 0 ∷ verdicts e' w)

  -- the equation in which the run ends
  abbrev pub ended : E → List ℕ → E
  ended e [] = e
  ended e (c ∷ w) = cases (answer e c) (ended e w) (λ e'. ended e' w)

  -- the run drops something
  pub data Suppresses : E → List ℕ → Type 0 where
    now : {e : E} {c : ℕ} {w : List ℕ} → answer e c ≡ dropped → Suppresses e (c ∷ w)
    later : {e e' : E} {c : ℕ} {w : List ℕ} → answer e c ≡ next e' → Suppresses e' w → Suppresses e (c ∷ w)

-- ---- tables

-- the entries of row k, one for each code; none where the row isn't wholly inside the table
unfoldable pub row_of : (codes : ℕ) → List ℕ → ℕ → List ℕ
row_of codes table k = cond (leb (codes * k + codes) (length table)) (take codes (drop (codes * k) table)) []

-- An entry of a table is the mark, which stands for dropped, or else the number of the next equation. So no equation should have the mark for its number.
abbrev pub meaning : (mark : ℕ) → ℕ → Answer ℕ
meaning mark x = cond (eqb x mark) dropped (next x)

-- What the table answers in equation k to the code c. A code that has no entry is dropped; the paper leaves that free.
abbrev pub lookup : (codes mark : ℕ) → List ℕ → (k c : ℕ) → Answer ℕ
lookup codes mark table k c = meaning mark (get_or (row_of codes table k) c mark)

-- ---- monitors of a rule

-- The run from the first equation drops something of a list of codes exactly when the list violates the rule.
abbrev pub Monitors : {E : Type 0} → Rule → (answer : E → ℕ → Answer E) → (first : E) → Type 0
Monitors r answer first = (w : List ℕ) → Bytes w → ViolatesRule r w ↔ Suppresses answer first w
