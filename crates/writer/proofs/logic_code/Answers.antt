-- `writer::logic_code` meets its contract: each arm is the code that the sheet has.
-- Assumes nothing.
use mathlib.Core.Path.{refl}
use Rattle.isa.specs.Choice.{pick}
use Rattle.isa.specs.Sheet.{kind_of, entry_of}
use Rattle.isa.specs.declared.Join.TheVariants.{AnlLatch, OrlLatch}
use Rattle.writer.proofs.Families.{logic-writes}
use Rattle.writer.proofs.logic_code.Goals as goal

pub returns-in-AnlLatch : goal.returns-in-AnlLatch
unfolding entry_of kind_of pick
returns-in-AnlLatch c = logic-writes 0x98 AnlLatch (λ d. refl) (λ d. refl) c.args.l c.in-AnlLatch.is c.latch_code.ensures

pub returns-in-OrlLatch : goal.returns-in-OrlLatch
unfolding entry_of kind_of pick
returns-in-OrlLatch c = logic-writes 0x88 OrlLatch (λ d. refl) (λ d. refl) c.args.l c.in-OrlLatch.is c.latch_code-in-OrlLatch.ensures
