-- The search for equations. Each is expanded in the order in which they were found, and asks the codes from 0 up; what is new goes to the
-- end. The equations are numbers, and `answer` and the number of codes are any.
use Rattle.std.specs.Prelude.{ℕ, zero, suc, cond, List, [], ◌∷◌, ◌++◌, eqb, ltb, length, get_or}
use Rattle.synthesis.specs.Monitor.{Answer, cases}

-- the index of e in a list; the list's length where it isn't there
abbrev pub index_of : ℕ → List ℕ → ℕ
index_of e [] = 0
index_of e (x ∷ xs) = cond (eqb e x) 0 (suc (index_of e xs))

-- the found equations with e, put last if it is new
abbrev pub insert : List ℕ → ℕ → List ℕ
insert found e = cond (ltb (index_of e found) (length found)) found (found ++ (e ∷ []))

module _ (codes : ℕ) (answer : ℕ → ℕ → Answer ℕ) where
  -- the found equations after the answers of e to the first c codes
  unfoldable pub explored : ℕ → (c : ℕ) → List ℕ → List ℕ
  explored e zero found = found
  explored e (suc c) found = cases (answer e c) (explored e c found) (insert (explored e c found))

  -- after those of equation k to all codes, if there is an equation k
  abbrev pub expanded : ℕ → List ℕ → List ℕ
  expanded k found = cond (ltb k (length found)) (explored (get_or found k 0) codes found) found

  -- The equations found after a number of expansions. Where they are no more than that number they are all.
  unfoldable pub found : (expansions first : ℕ) → List ℕ
  found zero first = first ∷ []
  found (suc k) first = expanded k (found k first)
