-- `chip::fetching::fetch_at` meets its contract: what is fetched has one byte or two.
-- Assumes nothing.
use Rattle.std.proofs.Common.{arith}
use Rattle.isa.specs.Choice.{pick}
use Rattle.chip.proofs.Fetches.{fetches}
use Rattle.chip.proofs.fetching.fetch_at.Goals as goal
use Rattle.chip.proofs.fetching.fetch_at.Goals.{then-entry-eq1, else-entry-eq1+in_ok-second}

pub returns : goal.returns
unfolding pick
returns c =
    elim c.if-entry-eq1.branch [
      | then-entry-eq1 w ↦ record { bytes = 1; instruction = grind (arith, fetches); next = grind arith; cycles = grind (arith, fetches) }
      | else-entry-eq1+in_ok-second w ↦ record { bytes = 2; instruction = grind (arith, fetches); next = grind arith; cycles = grind (arith, fetches) }
    ]
