-- `writer::condition_code` meets its contract: each arm is the code that the sheet has.
-- Assumes nothing.
use mathlib.Core.Path.{refl}
use Rattle.isa.specs.Choice.{pick}
use Rattle.isa.specs.Sheet.{kind_of, entry_of}
use Rattle.isa.specs.declared.Condition.TheVariants.{Jb}
use Rattle.isa.specs.declared.Instruction.TheVariants.{Branch}
use Rattle.writer.proofs.Families.{coded-writes-two}
use Rattle.writer.proofs.condition_code.Goals as goal

pub returns-in-Jb : goal.returns-in-Jb
unfolding entry_of kind_of pick
returns-in-Jb = (λ c set d. rw c.in-Jb.is (coded-writes-two 0x12 32 0 7 (λ k d. Branch (Jb k) d) (λ k d h. rw h) (λ d. refl) refl c.coded.ensures refl set))
