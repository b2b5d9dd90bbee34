-- The measure is how many nodes are left.
use Rattle.reading.proofs.formulas.+read_formula.Given as goal

abbrev pub decreases-read_formula : goal.decreases-read_formula
decreases-read_formula l = l.left
