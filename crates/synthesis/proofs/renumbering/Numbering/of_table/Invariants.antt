-- The classes of the equations passed are numbered.
use Rattle.std.proofs.Common.{◌≡◌}
use Rattle.synthesis.specs.Numbering.{IsNumberingOf}
use Rattle.synthesis.proofs.renumbering.Numbering.of_table.Given as goal

abbrev pub invariant-loop-class : goal.invariant-loop-class
invariant-loop-class l = record { all : l.numbering.equations ≡ l.class-index; numbered : IsNumberingOf l.class-items l.numbering }
