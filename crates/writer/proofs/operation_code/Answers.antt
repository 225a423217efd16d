-- `writer::operation_code` meets its contract: each arm is the code that the sheet has.
-- Assumes nothing.
use mathlib.Core.Path.{refl}
use Rattle.isa.specs.Choice.{pick}
use Rattle.isa.specs.Sheet.{kind_of, entry_of}
use Rattle.isa.specs.declared.Operation.TheVariants.{Add, Addc, Anl, Orl, Xrl}
use Rattle.isa.specs.declared.Instruction.TheVariants.{Alu}
use Rattle.writer.proofs.Families.{source-writes}
use Rattle.writer.proofs.operation_code.Goals as goal

pub returns-in-Add : goal.returns-in-Add
unfolding entry_of kind_of pick
returns-in-Add c = rw c.in-Add.is (source-writes 0x60 0x03 (λ s. Alu Add s) (λ s. refl) refl refl (λ d. refl) refl c.source_code.ensures)

pub returns-in-Addc : goal.returns-in-Addc
unfolding entry_of kind_of pick
returns-in-Addc c = rw c.in-Addc.is (source-writes 0x70 0x13 (λ s. Alu Addc s) (λ s. refl) refl refl (λ d. refl) refl c.source_code-in-Addc.ensures)

pub returns-in-Anl : goal.returns-in-Anl
unfolding entry_of kind_of pick
returns-in-Anl c = rw c.in-Anl.is (source-writes 0x50 0x53 (λ s. Alu Anl s) (λ s. refl) refl refl (λ d. refl) refl c.source_code-in-Anl.ensures)

pub returns-in-Orl : goal.returns-in-Orl
unfolding entry_of kind_of pick
returns-in-Orl c = rw c.in-Orl.is (source-writes 0x40 0x43 (λ s. Alu Orl s) (λ s. refl) refl refl (λ d. refl) refl c.source_code-in-Orl.ensures)

pub returns-in-Xrl : goal.returns-in-Xrl
unfolding entry_of kind_of pick
returns-in-Xrl c = rw c.in-Xrl.is (source-writes 0xD0 0xD3 (λ s. Alu Xrl s) (λ s. refl) refl refl (λ d. refl) refl c.source_code-in-Xrl.ensures)
