-- Opening and the answers of equations, computed. That these are what specs/Opening.antt says is proved.
use Rattle.std.specs.Prelude.{ℕ, suc, ◌+◌, Bool, cond, not, ◌&&◌, List, [], ◌∷◌, eqb, get_or}
use Rattle.reading.specs.Rule.{Formula, truth, falsity, both, necessity, max, variable, size, Rule}
use Rattle.reading.specs.Nodes.{EnclosingMax}
use Rattle.synthesis.specs.Violation.{covered_by}
use Rattle.synthesis.specs.Monitor.{Answer, dropped, next}
use Rattle.synthesis.specs.NodeSet.{has, empty_set, singleton, union, intersection}

-- ---- sets of nodes along a formula

-- What opening f gives. f begins at node k, and `around` has what opening each max around it gives, innermost first. A max stands
-- in for itself with nothing while it is opened: its variable comes only below a necessity.
abbrev pub opening : (k : ℕ) → (around : List ℕ) → Formula → ℕ
opening k around truth = empty_set
opening k around falsity = singleton k
opening k around (both f g) = union (opening (suc k) around f) (opening (k + suc (size f)) around g)
opening k around (necessity p f) = singleton k
opening k around (max f) = opening (suc k) (empty_set ∷ around) f
opening k around (variable d) = get_or around d empty_set

-- what opening each of some nested maxes gives, innermost first
abbrev pub opens_around : List EnclosingMax → List ℕ
opens_around [] = []
opens_around (m ∷ ms) = opening m.number (opens_around ms) (max m.body) ∷ opens_around ms

-- the ff nodes of f
abbrev pub falsities : (k : ℕ) → Formula → ℕ
falsities k truth = empty_set
falsities k falsity = singleton k
falsities k (both f g) = union (falsities (suc k) f) (falsities (k + suc (size f)) g)
falsities k (necessity p f) = falsities (suc k) f
falsities k (max f) = falsities (suc k) f
falsities k (variable d) = empty_set

-- What the members of e that stand in f lead to under the code c.
abbrev pub reached : (covered : (pattern code : ℕ) → Bool) → (e c k : ℕ) → (around : List ℕ) → Formula → ℕ
reached covered e c k around truth = empty_set
reached covered e c k around falsity = empty_set
reached covered e c k around (both f g) =
    union (reached covered e c (suc k) around f) (reached covered e c (k + suc (size f)) around g)
reached covered e c k around (necessity p f) =
    union (cond (has e k && covered p c) (opening (suc k) around f) empty_set) (reached covered e c (suc k) around f)
reached covered e c k around (max f) = reached covered e c (suc k) (opening k around (max f) ∷ around) f
reached covered e c k around (variable d) = empty_set

-- ---- equations and their answers

-- the first equation
unfoldable pub first_of : Rule → ℕ
first_of r = opening 0 [] r.formula

-- A set of reached nodes as an answer: dropped where an ff node is among them, else it is the next equation.
abbrev pub answer_from : (ffs set : ℕ) → Answer ℕ
answer_from ffs set = cond (eqb (intersection set ffs) empty_set) (next set) dropped

-- the answer of the equation e to the code c
unfoldable pub answer_of : Rule → (e c : ℕ) → Answer ℕ
answer_of r e c = answer_from (falsities 0 r.formula) (reached (covered_by r.patterns) e c 0 [] r.formula)

-- opening node 0 gives ff
unfoldable pub unsatisfiable : Rule → Bool
unsatisfiable r = not (eqb (intersection (first_of r) (falsities 0 r.formula)) empty_set)
