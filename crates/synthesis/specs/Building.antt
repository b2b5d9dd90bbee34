-- What counting and filling answer, and what filling leaves in the table that it is lent: the table of a rule's equations, which is the long one, and
-- the short one; and what the rule page counts and fills. The limit on equations and the mark for dropped are any; the paper's are `most`, on the page
-- `preview_limit`, and `mark`.
use Rattle.std.specs.Prelude.{ℕ, ◌*◌, ◌≤◌, ◌≡◌, cond, List, eqb, ltb, length, get_or}
use Rattle.reading.specs.Rule.{Rule, Bytes}
use Rattle.reading.specs.File.{Outcome, accepted, refused, refuse, and_then, rule_of}
use Rattle.synthesis.specs.Monitor.{Answer, dropped, next, cases}
use Rattle.synthesis.specs.Answering.{first_of, answer_of, unsatisfiable}
use Rattle.synthesis.specs.Search.{index_of, found}
use Rattle.synthesis.specs.Table.{filled}
use Rattle.synthesis.specs.Merging.{rounds, firsts, merged}

-- the equations of a rule in the order found: all of them where they are within the limit, else more than the limit
unfoldable pub equations_of : (limit : ℕ) → Rule → List ℕ
equations_of limit r = found 256 (answer_of r) limit (first_of r)

-- A rule, its equations as numbers, and what each of these answers to a code. For the long table the numbers are sets of nodes; for the short one they
-- are the numbers of rows of the long one.
pub record Synthesis : Type 0 where
  pub rule : Rule
  pub equations : List ℕ
  pub answer : (e c : ℕ) → Answer ℕ

-- a rule with the equations that the search finds
abbrev pub with_equations : (limit : ℕ) → Rule → Synthesis
with_equations limit r = record { rule = r; equations = equations_of limit r; answer = answer_of r }

-- The outcome of these equations under a limit: 9 where they are over it.
abbrev pub within_limit : (limit : ℕ) → Synthesis → Outcome Synthesis
within_limit limit y = refuse (ltb limit (length y.equations)) 9 0 (accepted y)

-- The outcome of a rule: 8 where opening node 0 gives ff, and then that of its equations.
abbrev pub synthesis_of_rule : (limit : ℕ) → Rule → Outcome Synthesis
synthesis_of_rule limit r =
    refuse (unsatisfiable r) 8 0
    (within_limit limit (with_equations limit r))

-- The outcome of counting the equations of a rule file: that of reading it, and then that of its rule.
unfoldable pub synthesis_of : (limit : ℕ) → List ℕ → Outcome Synthesis
synthesis_of limit s = and_then (rule_of s) (synthesis_of_rule limit)

-- The outcome of these equations in a table of so many entries: 10 where their rows don't fit, 256 entries each.
abbrev pub in_table : (capacity : ℕ) → Synthesis → Outcome Synthesis
in_table capacity y = refuse (ltb capacity (256 * length y.equations)) 10 0 (accepted y)

-- The outcome of filling a table of so many entries: that of counting, and then whether the rows fit.
unfoldable pub filling_of : (limit : ℕ) → List ℕ → (capacity : ℕ) → Outcome Synthesis
filling_of limit s capacity = and_then (synthesis_of limit s) (in_table capacity)

-- The answer of each outcome: the count of equations, or the refusal with the paper's number and place.
abbrev pub counted_of : Outcome Synthesis → Outcome ℕ
counted_of (accepted y) = accepted (length y.equations)
counted_of (refused number place) = refused number place

-- What each outcome leaves in a table, with a mark for dropped: the rows of the equations, or no change.
abbrev pub table_after : (mark : ℕ) → Outcome Synthesis → List ℕ → List ℕ
table_after mark (accepted y) table = filled mark y.answer y.equations 256 table
table_after mark (refused number place) table = table

-- what filling leaves in a table
abbrev pub table_left : (limit mark : ℕ) → (s table : List ℕ) → List ℕ
table_left limit mark s table = table_after mark (filling_of limit s (length table)) table

-- ---- the rule page

-- the most equations that the page shows
abbrev pub preview_limit : ℕ
preview_limit = 32

-- The numbers of refusals on the page: 18 stands in the place of 9.
abbrev pub page_number : ℕ → ℕ
page_number number = cond (eqb number 9) 18 number

-- An outcome as the page has it: what is accepted stays, and a refusal has the number of the page.
abbrev pub on_page : Outcome Synthesis → Outcome Synthesis
on_page (accepted y) = accepted y
on_page (refused number place) = refused (page_number number) place

-- The outcome of counting on the page.
unfoldable pub preview_of : List ℕ → Outcome Synthesis
preview_of s = on_page (synthesis_of preview_limit s)

-- The outcome of filling there.
unfoldable pub preview_filling_of : List ℕ → (capacity : ℕ) → Outcome Synthesis
preview_filling_of s capacity = on_page (filling_of preview_limit s capacity)

-- ---- the short table

-- what equation k, by its number, answers to a code, with the number of an equation for the equation
abbrev pub numbered_answer : Synthesis → (k c : ℕ) → Answer ℕ
numbered_answer y k c = cases (y.answer (get_or y.equations k 0) c) dropped (λ e. next (index_of e y.equations))

-- The classes of the equations, by their numbers. As many rounds as there are equations are enough.
abbrev pub classes_of : Synthesis → List ℕ
classes_of y = rounds 256 (numbered_answer y) (length y.equations) (length y.equations)

-- The same rule, merged. Its equations are numbers: of each class, that of its first equation.
unfoldable pub shortened : Synthesis → Synthesis
shortened y = record {
  rule = y.rule;
  equations = firsts (classes_of y) (length y.equations);
  answer = merged (classes_of y) (numbered_answer y);
}

-- The outcome of counting the equations of the short table: that of counting, and then they are merged. So 9 counts them before.
unfoldable pub short_of : (limit : ℕ) → List ℕ → Outcome Synthesis
short_of limit s = and_then (synthesis_of limit s) (λ y. accepted (shortened y))

-- The outcome of filling the short table. Its own rows have to fit.
unfoldable pub short_filling_of : (limit : ℕ) → List ℕ → (capacity : ℕ) → Outcome Synthesis
short_filling_of limit s capacity = and_then (short_of limit s) (in_table capacity)

-- ---- what fills a table

-- By a filling with these outcomes, the file s is accepted as the rule r, n equations are answered, and `left` is left in the table. The mark is no
-- equation's number.
pub record FillsBy (outcome_of : (limit : ℕ) → List ℕ → (capacity : ℕ) → Outcome Synthesis) (limit mark : ℕ) (s table : List ℕ) (r : Rule) (n : ℕ)
    (left : List ℕ) : Type 0 where
  pub below : limit ≤ mark
  pub bytes : Bytes s
  pub read : rule_of s ≡ accepted r
  pub counted : counted_of (outcome_of limit s (length table)) ≡ accepted n
  pub left_is : left ≡ table_after mark (outcome_of limit s (length table)) table

-- the long table
abbrev pub Fills : (limit mark : ℕ) → (s table : List ℕ) → Rule → (n : ℕ) → (left : List ℕ) → Type 0
Fills limit mark s table r n left = FillsBy filling_of limit mark s table r n left

-- the short one
abbrev pub FillsShort : (limit mark : ℕ) → (s table : List ℕ) → Rule → (n : ℕ) → (left : List ℕ) → Type 0
FillsShort limit mark s table r n left = FillsBy short_filling_of limit mark s table r n left
