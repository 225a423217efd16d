-- `writer::write` meets its contract: each arm is the code that the sheet has.
-- Assumes nothing.
use mathlib.Core.Path.{refl}
use Rattle.std.proofs.Common.{◌≡◌, rules}
use Rattle.isa.specs.Choice.{pick}
use Rattle.isa.specs.Sheet.{kind_of, entry_of}
use Rattle.isa.specs.Reading.{read_of, instruction_at, decoded_at}
use Rattle.isa.specs.declared.Instruction.TheVariants.{Djnz, Branch, Jmp, MovA, Mov, MovxRead, MovxWrite, Xch, Xchd, Cpl, Clr, Logic, In, Outl, Dec, Inc, Call, Halt, Stop}
use Rattle.isa.specs.Sets.{standby, halt, stop}
use Rattle.writer.specs.Codes.{alone}
use Rattle.writer.proofs.Families.{coded-writes, coded-writes-two, far-writes, cell-writes, mov-data-writes, source-writes, latch-writes, second-writes, flag-writes, nec-writes}
use Rattle.writer.proofs.write.Goals as goal

pub returns-in-Alu : goal.returns-in-Alu
returns-in-Alu c = rw c.in-Alu.is (c.operation_code.ensures _)

pub returns-in-Djnz : goal.returns-in-Djnz
unfolding entry_of kind_of pick
returns-in-Djnz c = coded-writes-two 0xE8 1 0 7 (λ k d. Djnz k d) (λ k d h. rw h) (λ d. refl) c.in-Djnz.is c.coded.ensures (search rules) _

pub returns-in-Branch : goal.returns-in-Branch
unfolding entry_of kind_of pick
returns-in-Branch c = second-writes (λ d. Branch _ d) c.condition_code.result c.in-Branch.is c.condition_code.ensures (search rules) _

pub returns-in-Jmp : goal.returns-in-Jmp
unfolding entry_of kind_of pick
returns-in-Jmp c = far-writes 0x04 (λ a. Jmp a) (λ a. refl) (λ d. refl) {v = c.coded-in-Jmp.result} c.in-Jmp.is (search rules) (search rules) _

pub returns-in-MovA : goal.returns-in-MovA
unfolding entry_of kind_of pick
returns-in-MovA c = source-writes 0xF0 0x23 (λ s. MovA s) (λ s. refl) refl refl (λ d. refl) c.in-MovA.is c.source_code.ensures _

pub returns-in-Mov : goal.returns-in-Mov
unfolding entry_of kind_of pick
returns-in-Mov c = cell-writes 0xA0 (λ c. Mov c) (λ c. refl) refl refl c.in-Mov.is c.cell_code.ensures (search rules) _

pub returns-in-MovData : goal.returns-in-MovData
unfolding entry_of kind_of pick
returns-in-MovData c = mov-data-writes c.in-MovData.is c.cell_code-in-MovData.ensures (search rules) _

pub returns-in-MovxRead : goal.returns-in-MovxRead
unfolding entry_of kind_of pick
returns-in-MovxRead c = coded-writes 0x80 1 0 1 (λ k. MovxRead k) (λ k h. h) refl c.in-MovxRead.is c.coded-in-MovxRead.ensures (search rules) _

pub returns-in-MovxWrite : goal.returns-in-MovxWrite
unfolding entry_of kind_of pick
returns-in-MovxWrite c = coded-writes 0x90 1 0 1 (λ k. MovxWrite k) (λ k h. h) refl c.in-MovxWrite.is c.coded-in-MovxWrite.ensures (search rules) _

pub returns-in-Xch : goal.returns-in-Xch
unfolding entry_of kind_of pick
returns-in-Xch c = cell-writes 0x20 (λ c. Xch c) (λ c. refl) refl refl c.in-Xch.is c.cell_code-in-Xch.ensures (search rules) _

pub returns-in-Xchd : goal.returns-in-Xchd
unfolding entry_of kind_of pick
returns-in-Xchd c = coded-writes 0x30 1 0 1 (λ k. Xchd k) (λ k h. h) refl c.in-Xchd.is c.coded-in-Xchd.ensures (search rules) _

pub returns-in-Cpl : goal.returns-in-Cpl
unfolding entry_of kind_of pick
returns-in-Cpl c = flag-writes 0xA7 0x95 0xB5 (λ f. Cpl f) refl refl refl c.in-Cpl.is c.flag_code.ensures _

pub returns-in-Clr : goal.returns-in-Clr
unfolding entry_of kind_of pick
returns-in-Clr c = flag-writes 0x97 0x85 0xA5 (λ f. Clr f) refl refl refl c.in-Clr.is c.flag_code-in-Clr.ensures _

pub returns-in-Logic : goal.returns-in-Logic
unfolding entry_of kind_of pick
returns-in-Logic c = second-writes (λ d. Logic _ _ d) c.logic_code.result c.in-Logic.is c.logic_code.ensures (search rules) _

pub returns-in-In : goal.returns-in-In
unfolding entry_of kind_of pick
returns-in-In c = latch-writes 0x08 0x08 (λ l. In l) (λ l. refl) refl refl c.in-In.is c.latch_code.ensures (search rules) _

pub returns-in-Outl : goal.returns-in-Outl
unfolding entry_of kind_of pick
returns-in-Outl c = latch-writes 0x02 0x38 (λ l. Outl l) (λ l. refl) refl refl c.in-Outl.is c.latch_code-in-Outl.ensures (search rules) _

pub returns-in-Expander : goal.returns-in-Expander
unfolding entry_of kind_of pick
returns-in-Expander c = let given : c.map-in-Expander.result ≡ alone c.digit_move_code.result = search rules in rw (c.in-Expander.is, given) (c.digit_move_code.ensures _)

pub returns-in-Dec : goal.returns-in-Dec
unfolding entry_of kind_of pick
returns-in-Dec c = coded-writes 0xC8 1 0 7 (λ k. Dec k) (λ k h. h) refl c.in-Dec.is c.coded-in-Dec.ensures (search rules) _

pub returns-in-Inc : goal.returns-in-Inc
unfolding entry_of kind_of pick
returns-in-Inc c = cell-writes 0x10 (λ c. Inc c) (λ c. refl) refl refl c.in-Inc.is c.cell_code-in-Inc.ensures (search rules) _

pub returns-in-Call : goal.returns-in-Call
unfolding entry_of kind_of pick
returns-in-Call c = far-writes 0x14 (λ a. Call a) (λ a. refl) (λ d. refl) {v = c.coded-in-Call.result} c.in-Call.is (search rules) (search rules) _

pub returns-in-Halt : goal.returns-in-Halt
unfolding read_of instruction_at decoded_at entry_of kind_of pick
returns-in-Halt c = nec-writes 0x01 Halt (standby halt) refl _ c.in-Halt.is c.nec_code.ensures (search rules)

pub returns-in-Stop : goal.returns-in-Stop
unfolding read_of instruction_at decoded_at entry_of kind_of pick
returns-in-Stop c = nec-writes 0x82 Stop (standby stop) refl _ c.in-Stop.is c.nec_code-in-Stop.ensures (search rules)
