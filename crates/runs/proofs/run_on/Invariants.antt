-- The loop's invariant: the run from here on is the run from the start, and 1, 2 and 3 are not given.
-- Assumes nothing.
use lib.ListN.{length}
use Rattle.machine.specs.Rom.{lent_as}
use Rattle.runs.proofs.Going.{Going}
use Rattle.runs.proofs.run_on.Given as goal

abbrev pub invariant-loop-left : goal.invariant-loop-left
invariant-loop-left l =
    Going (lent_as l.lent) l.samples l.initial.ram l.initial.state l.left l.ram l.state l.used l.cycles

abbrev pub decreases-loop-left : goal.decreases-loop-left
decreases-loop-left l = length l.left
