-- The writer's promise (document 01): "The writer gives one or two bytes, or 23 and none." And document 02, item 2: 4 "is read per set, 26
-- undefined codes for Intel, 24 for NEC, and the writer gives it for HALT or STOP under Intel".
-- Assumes nothing.
use Rattle.std.specs.Prelude.{ℕ, ◌≡◌, Bool, true, false, ◌&&◌, List, [], ◌∷◌, length, Result, Ok, Err}
use Rattle.isa.specs.Choice.{within}
use Rattle.isa.specs.Numbers.{number_of, Answer, given, refused}
use Rattle.isa.specs.Reading.{under, read_of, sized}
use Rattle.isa.specs.Sets.{Without}
use Rattle.isa.specs.declared.Cell.{Cell}
use Rattle.isa.specs.declared.Cell.TheVariants.{Register, Indirect}
use Rattle.isa.specs.declared.Source.{Source}
use Rattle.isa.specs.declared.Source.TheVariants.{FromCell, Immediate}
use Rattle.isa.specs.declared.Condition.{Condition}
use Rattle.isa.specs.declared.Condition.TheVariants.{Jb, Jc, Jf0, Jf1, Jnc, Jni, Jnt0, Jnt1, Jnz, Jtf, Jt0, Jt1, Jz}
use Rattle.isa.specs.declared.Latch.{Latch}
use Rattle.isa.specs.declared.Latch.TheVariants.{Bus, Port}
use Rattle.isa.specs.declared.Instruction.{Instruction}
use Rattle.isa.specs.declared.Instruction.TheVariants.{Alu, Accumulator, Djnz, Branch, Jmp, Jmpp, Control, MovA, Mov, MovData, MovAPsw, MovPswA, Movp, Movp3, MovxRead, MovxWrite, Xch, Xchd, Cpl, Clr, Logic, In, Outl, Expander, Dec, Inc, Call, Ret, Retr, MovAT, MovTA, Nop, Halt, Stop}
use Rattle.isa.specs.declared.Refusal.{Refusal}
use Rattle.isa.specs.declared.Set.{Set}
use Rattle.writer.specs.declared.Encoded.{Encoded}
use Rattle.writer.specs.declared.Encoded.TheVariants.{One, Two}

-- What a code can hold: R0 to R7, but @R0 and @R1 only; P1 and P2, and P4 to P7 of the expander; a bit from 0 to 7; a data byte; an
-- address of 11 bits in JMP and CALL, of 8 in a conditional jump.
abbrev pub byte_holds : ℕ → Bool
byte_holds d = within 0 0xFF d

abbrev pub far_holds : ℕ → Bool
far_holds a = within 0 0x7FF a

abbrev pub cell_holds : Cell → Bool
cell_holds (Register r) = within 0 7 r
cell_holds (Indirect r) = within 0 1 r

abbrev pub source_holds : Source → Bool
source_holds (FromCell c) = cell_holds c
source_holds (Immediate d) = byte_holds d

abbrev pub latch_holds : Latch → Bool
latch_holds Bus = true
latch_holds (Port p) = within 1 2 p

abbrev pub condition_holds : Condition → Bool
condition_holds (Jb b) = within 0 7 b
condition_holds Jc = true
condition_holds Jf0 = true
condition_holds Jf1 = true
condition_holds Jnc = true
condition_holds Jni = true
condition_holds Jnt0 = true
condition_holds Jnt1 = true
condition_holds Jnz = true
condition_holds Jtf = true
condition_holds Jt0 = true
condition_holds Jt1 = true
condition_holds Jz = true

-- The instruction's code can hold each of its operands.
abbrev pub holds : Instruction → Bool
holds (Alu op s) = source_holds s
holds (Accumulator op) = true
holds (Djnz r d) = within 0 7 r && byte_holds d
holds (Branch c d) = condition_holds c && byte_holds d
holds (Jmp a) = far_holds a
holds Jmpp = true
holds (Control op) = true
holds (MovA s) = source_holds s
holds (Mov c) = cell_holds c
holds (MovData c d) = cell_holds c && byte_holds d
holds MovAPsw = true
holds MovPswA = true
holds Movp = true
holds Movp3 = true
holds (MovxRead r) = within 0 1 r
holds (MovxWrite r) = within 0 1 r
holds (Xch c) = cell_holds c
holds (Xchd r) = within 0 1 r
holds (Cpl f) = true
holds (Clr f) = true
holds (Logic op l d) = latch_holds l && byte_holds d
holds (In l) = latch_holds l
holds (Outl l) = latch_holds l
holds (Expander op p) = within 4 7 p
holds (Dec r) = within 0 7 r
holds (Inc c) = cell_holds c
holds (Call a) = far_holds a
holds Ret = true
holds Retr = true
holds MovAT = true
holds MovTA = true
holds Nop = true
holds Halt = true
holds Stop = true

-- What i is refused for, and with which number: the set is without it, 4; the code can't hold an operand of i, 23. It is never both, since
-- HALT and STOP have no operands.
pub data Refuses (set : Set) (i : Instruction) : ℕ → Type 0 where
  unknown : Without set i → Refuses set i 4
  too_large : holds i ≡ false → Refuses set i 23

-- An answer to the wish to write i in a set. Bytes: read by themselves they are i, and all of them are i's. Or a refusal.
abbrev pub Writes : Set → Instruction → Answer (List ℕ) → Type 0
Writes set i (given bytes) = read_of (under set bytes) 0 ≡ given (sized i (length bytes))
Writes set i (refused n) = Refuses set i n

-- The number and the values of each of the writer's answers.
abbrev pub encoded_as : Result Encoded Refusal → Answer (List ℕ)
encoded_as (Ok (One b)) = given (b ∷ [])
encoded_as (Ok (Two b d)) = given (b ∷ d ∷ [])
encoded_as (Err r) = refused (number_of r)
