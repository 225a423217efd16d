-- `writer::digit_move_code` meets its contract: each arm is the code that the sheet has.
-- Assumes nothing.
use mathlib.Core.Path.{refl}
use Rattle.isa.specs.Choice.{pick}
use Rattle.isa.specs.Sheet.{kind_of, entry_of}
use Rattle.isa.specs.declared.DigitMove.TheVariants.{MovdRead, MovdWrite, Orld, Anld}
use Rattle.isa.specs.declared.Instruction.TheVariants.{Expander}
use Rattle.writer.proofs.Families.{coded-writes}
use Rattle.writer.proofs.digit_move_code.Goals as goal

pub returns-in-MovdRead : goal.returns-in-MovdRead
unfolding entry_of kind_of pick
returns-in-MovdRead c = rw c.in-MovdRead.is (coded-writes 0x08 1 4 7 (λ k. Expander MovdRead k) (λ k h. h) refl refl c.coded.ensures refl)

pub returns-in-MovdWrite : goal.returns-in-MovdWrite
unfolding entry_of kind_of pick
returns-in-MovdWrite c = rw c.in-MovdWrite.is (coded-writes 0x38 1 4 7 (λ k. Expander MovdWrite k) (λ k h. h) refl refl c.coded-in-MovdWrite.ensures refl)

pub returns-in-Orld : goal.returns-in-Orld
unfolding entry_of kind_of pick
returns-in-Orld c = rw c.in-Orld.is (coded-writes 0x88 1 4 7 (λ k. Expander Orld k) (λ k h. h) refl refl c.coded-in-Orld.ensures refl)

pub returns-in-Anld : goal.returns-in-Anld
unfolding entry_of kind_of pick
returns-in-Anld c = rw c.in-Anld.is (coded-writes 0x98 1 4 7 (λ k. Expander Anld k) (λ k h. h) refl refl c.coded-in-Anld.ensures refl)
