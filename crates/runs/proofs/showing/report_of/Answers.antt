-- `runs::showing::report_of` meets its contract: an instruction shows what it does.
-- Assumes nothing.
use Rattle.machine.specs.Rom.{lent_as}
use Rattle.runs.proofs.Shows.{shows-instruction}
use Rattle.runs.proofs.showing.report_of.Goals as goal

pub returns-in-CarryOut : goal.returns-in-CarryOut
returns-in-CarryOut c =
    let turn = c.turn_of.ensures (lent_as c.args.lent) c.args.ram.now c.requires.admitted in
    shows-instruction _ _ _ _ _ (rw c.in-CarryOut.is at turn) (c.report_at.ensures _)
