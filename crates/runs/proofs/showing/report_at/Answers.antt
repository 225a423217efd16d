-- `runs::showing::report_at` meets its contract.
-- Assumes nothing.
use mathlib.Core.Path.{◌∙◌}
use Rattle.machine.specs.Rom.{lent_as}
use Rattle.machine.proofs.Seeing.{found-or-zero}
use Rattle.runs.proofs.Shows.{shows}
use Rattle.runs.proofs.showing.report_at.Goals as goal

pub returns : goal.returns
returns c second =
    let a = c.args in
    shows (lent_as a.lent) a.ram.now a.s a.first c.unwrap_or-code.result c.bytes_in.result c.event_of.result c.outside_of.result
    (c.unwrap_or-code.ensures ∙ found-or-zero _ _ _ _ _ (rw c.is_high.ensures at c.fetch.ensures)) c.bytes_in.ensures c.is_high.ensures c.event_of.ensures
    c.outside_of.ensures second
