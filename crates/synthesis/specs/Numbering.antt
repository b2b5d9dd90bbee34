-- What a `Numbering` says of the classes of its equations.
use Rattle.std.specs.Prelude.{List, ℕ, take}
use Rattle.synthesis.specs.Arrays.{AreNumbers, ClassesNumbered}
use Rattle.synthesis.specs.declared.renumbering.Numbering.{Numbering}

-- the first equation of each class
abbrev pub listed : Numbering → List ℕ
listed n = take n.count n.firsts

-- Each equation has the number of its class: where the class stands among those.
abbrev pub AreNumbered : List ℕ → Numbering → Type 0
AreNumbered classes n = AreNumbers n.equations classes (listed n) n.numbers

-- The classes are numbered in the order of their first equations.
abbrev pub IsNumberingOf : List ℕ → Numbering → Type 0
IsNumberingOf classes n = ClassesNumbered n.equations classes n.count n.firsts n.numbers
