-- `read_whole` stays inside the buffer. The measure is how much of it is free.
use Rattle.std.proofs.Common.{length, ◌-◌, ◌≤◌}
use Rattle.commands.proofs.files.read_whole.Given as goal

abbrev pub invariant-loop-done : goal.invariant-loop-done
invariant-loop-done g l = l.done ≤ length l.file

abbrev pub decreases-loop-done : goal.decreases-loop-done
decreases-loop-done g l = length l.file - l.done
