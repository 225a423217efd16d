-- `list::write_lines` meets its contract. The loop ends: each line shows a byte or more, and none past the program's end.
-- Assumes nothing.
use Rattle.std.proofs.Common.{length, ◌-◌}
use Rattle.list.proofs.write_lines.Given as goal

abbrev pub decreases-loop-at : goal.decreases-loop-at
decreases-loop-at g l = length l.program - l.at
