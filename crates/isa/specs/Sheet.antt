-- The sheet: the instruction sets, row by row in the order and the words of source document 001; last come the two rows that source document
-- 000 adds. A row has the code's bits, the place of its operand, bytes, cycles, the instruction and its text. Reading, writing, lengths,
-- cycles and the listing all go by it.
-- Assumes nothing.
use Rattle.std.specs.Prelude.{ℕ, suc, ◌*◌, ◌/◌, ◌%◌, ◌+◌, Bool, ◌&&◌, List, [], ◌∷◌, eqb, get_or, take}
use Prim.Native.String.{String}
use Rattle.isa.specs.Choice.{pick, within}
use Rattle.isa.specs.declared.Cell.TheVariants.{Register, Indirect}
use Rattle.isa.specs.declared.Source.TheVariants.{FromCell, Immediate}
use Rattle.isa.specs.declared.Operation.TheVariants.{Add, Addc, Anl, Orl, Xrl}
use Rattle.isa.specs.declared.Unary.TheVariants.{CplA, ClrA, DaA, DecA, IncA, RlA, RlcA, RrA, RrcA, SwapA}
use Rattle.isa.specs.declared.Condition.TheVariants.{Jb, Jc, Jf0, Jf1, Jnc, Jni, Jnt0, Jnt1, Jnz, Jtf, Jt0, Jt1, Jz}
use Rattle.isa.specs.declared.Flag.TheVariants.{FlagC, FlagF0, FlagF1}
use Rattle.isa.specs.declared.Latch.TheVariants.{Bus, Port}
use Rattle.isa.specs.declared.Join.TheVariants.{AnlLatch, OrlLatch}
use Rattle.isa.specs.declared.DigitMove.TheVariants.{MovdRead, MovdWrite, Orld, Anld}
use Rattle.isa.specs.declared.Switch.TheVariants.{EnI, DisI, Ent0Clk, SelMb0, SelMb1, SelRb0, SelRb1, EnTcnti, DisTcnti, StopTcnt, StrtCnt, StrtT}
use Rattle.isa.specs.declared.Instruction.{Instruction}
use Rattle.isa.specs.declared.Instruction.TheVariants.{Alu, Accumulator, Djnz, Branch, Jmp, Jmpp, Control, MovA, Mov, MovData, MovAPsw, MovPswA, Movp, Movp3, MovxRead, MovxWrite, Xch, Xchd, Cpl, Clr, Logic, In, Outl, Expander, Dec, Inc, Call, Ret, Retr, MovAT, MovTA, Nop, Halt, Stop}
use Rattle.isa.specs.declared.Set.{Set}
use Rattle.isa.specs.declared.Set.TheVariants.{Intel, Nec}
use Rattle.isa.specs.declared.table.Entry.{Entry}

-- Where a code has its operand: nowhere; in bits 0-2, with a value from the first number to the second; in bits 5-7.
pub data Place : Type 0 where
  none : Place
  low : ℕ → ℕ → Place
  high : Place

pub record Row : Type 0 where
  pub code : ℕ
  pub place : Place
  pub bytes : ℕ
  pub cycles : ℕ
  pub make : ℕ → ℕ → Instruction
  pub text : String

abbrev pub row : ℕ → Place → ℕ → ℕ → (ℕ → ℕ → Instruction) → String → Row
row code place bytes cycles make text =
    record { code = code; place = place; bytes = bytes; cycles = cycles; make = make; text = text }

-- The 98 instructions. In the instruction n is the operand in the code and d the second byte. In the text a small letter stands for a
-- number: r and p the register and the port in bits 0-2 of the code, b bits 5-7, d the second byte, a an address of 11 bits, t an
-- address in the page. Cycles are document 01's: it gives two to OUTL, MOVD and ORLD, where 001 prints one.
abbrev pub rows : List Row
rows =
    -- Accumulator
    row 0b0000_0011 none 2 2 (λ n d. Alu Add (Immediate d)) "ADD A,#d" ∷
    row 0b0110_1000 (low 0 7) 1 1 (λ n d. Alu Add (FromCell (Register n))) "ADD A,Rr" ∷
    row 0b0110_0000 (low 0 1) 1 1 (λ n d. Alu Add (FromCell (Indirect n))) "ADD A,@Rr" ∷
    row 0b0001_0011 none 2 2 (λ n d. Alu Addc (Immediate d)) "ADDC A,#d" ∷
    row 0b0111_1000 (low 0 7) 1 1 (λ n d. Alu Addc (FromCell (Register n))) "ADDC A,Rr" ∷
    row 0b0111_0000 (low 0 1) 1 1 (λ n d. Alu Addc (FromCell (Indirect n))) "ADDC A,@Rr" ∷
    row 0b0101_0011 none 2 2 (λ n d. Alu Anl (Immediate d)) "ANL A,#d" ∷
    row 0b0101_1000 (low 0 7) 1 1 (λ n d. Alu Anl (FromCell (Register n))) "ANL A,Rr" ∷
    row 0b0101_0000 (low 0 1) 1 1 (λ n d. Alu Anl (FromCell (Indirect n))) "ANL A,@Rr" ∷
    row 0b0011_0111 none 1 1 (λ n d. Accumulator CplA) "CPL A" ∷
    row 0b0010_0111 none 1 1 (λ n d. Accumulator ClrA) "CLR A" ∷
    row 0b0101_0111 none 1 1 (λ n d. Accumulator DaA) "DA A" ∷
    row 0b0000_0111 none 1 1 (λ n d. Accumulator DecA) "DEC A" ∷
    row 0b0001_0111 none 1 1 (λ n d. Accumulator IncA) "INC A" ∷
    row 0b0100_0011 none 2 2 (λ n d. Alu Orl (Immediate d)) "ORL A,#d" ∷
    row 0b0100_1000 (low 0 7) 1 1 (λ n d. Alu Orl (FromCell (Register n))) "ORL A,Rr" ∷
    row 0b0100_0000 (low 0 1) 1 1 (λ n d. Alu Orl (FromCell (Indirect n))) "ORL A,@Rr" ∷
    row 0b1110_0111 none 1 1 (λ n d. Accumulator RlA) "RL A" ∷
    row 0b1111_0111 none 1 1 (λ n d. Accumulator RlcA) "RLC A" ∷
    row 0b0111_0111 none 1 1 (λ n d. Accumulator RrA) "RR A" ∷
    row 0b0110_0111 none 1 1 (λ n d. Accumulator RrcA) "RRC A" ∷
    row 0b0100_0111 none 1 1 (λ n d. Accumulator SwapA) "SWAP A" ∷
    row 0b1101_0011 none 2 2 (λ n d. Alu Xrl (Immediate d)) "XRL A,#d" ∷
    row 0b1101_1000 (low 0 7) 1 1 (λ n d. Alu Xrl (FromCell (Register n))) "XRL A,Rr" ∷
    row 0b1101_0000 (low 0 1) 1 1 (λ n d. Alu Xrl (FromCell (Indirect n))) "XRL A,@Rr" ∷
    -- Branch
    row 0b1110_1000 (low 0 7) 2 2 (λ n d. Djnz n d) "DJNZ Rr,t" ∷
    row 0b0001_0010 high 2 2 (λ n d. Branch (Jb n) d) "JBb t" ∷
    row 0b1111_0110 none 2 2 (λ n d. Branch Jc d) "JC t" ∷
    row 0b1011_0110 none 2 2 (λ n d. Branch Jf0 d) "JF0 t" ∷
    row 0b0111_0110 none 2 2 (λ n d. Branch Jf1 d) "JF1 t" ∷
    row 0b0000_0100 high 2 2 (λ n d. Jmp (n * 256 + d)) "JMP a" ∷
    row 0b1011_0011 none 1 2 (λ n d. Jmpp) "JMPP @A" ∷
    row 0b1110_0110 none 2 2 (λ n d. Branch Jnc d) "JNC t" ∷
    row 0b1000_0110 none 2 2 (λ n d. Branch Jni d) "JNI t" ∷
    row 0b0010_0110 none 2 2 (λ n d. Branch Jnt0 d) "JNT0 t" ∷
    row 0b0100_0110 none 2 2 (λ n d. Branch Jnt1 d) "JNT1 t" ∷
    row 0b1001_0110 none 2 2 (λ n d. Branch Jnz d) "JNZ t" ∷
    row 0b0001_0110 none 2 2 (λ n d. Branch Jtf d) "JTF t" ∷
    row 0b0011_0110 none 2 2 (λ n d. Branch Jt0 d) "JT0 t" ∷
    row 0b0101_0110 none 2 2 (λ n d. Branch Jt1 d) "JT1 t" ∷
    row 0b1100_0110 none 2 2 (λ n d. Branch Jz d) "JZ t" ∷
    -- Control
    row 0b0000_0101 none 1 1 (λ n d. Control EnI) "EN I" ∷
    row 0b0001_0101 none 1 1 (λ n d. Control DisI) "DIS I" ∷
    row 0b0111_0101 none 1 1 (λ n d. Control Ent0Clk) "ENT0 CLK" ∷
    row 0b1110_0101 none 1 1 (λ n d. Control SelMb0) "SEL MB0" ∷
    row 0b1111_0101 none 1 1 (λ n d. Control SelMb1) "SEL MB1" ∷
    row 0b1100_0101 none 1 1 (λ n d. Control SelRb0) "SEL RB0" ∷
    row 0b1101_0101 none 1 1 (λ n d. Control SelRb1) "SEL RB1" ∷
    -- Data moves
    row 0b0010_0011 none 2 2 (λ n d. MovA (Immediate d)) "MOV A,#d" ∷
    row 0b1111_1000 (low 0 7) 1 1 (λ n d. MovA (FromCell (Register n))) "MOV A,Rr" ∷
    row 0b1111_0000 (low 0 1) 1 1 (λ n d. MovA (FromCell (Indirect n))) "MOV A,@Rr" ∷
    row 0b1100_0111 none 1 1 (λ n d. MovAPsw) "MOV A,PSW" ∷
    row 0b1011_1000 (low 0 7) 2 2 (λ n d. MovData (Register n) d) "MOV Rr,#d" ∷
    row 0b1010_1000 (low 0 7) 1 1 (λ n d. Mov (Register n)) "MOV Rr,A" ∷
    row 0b1010_0000 (low 0 1) 1 1 (λ n d. Mov (Indirect n)) "MOV @Rr,A" ∷
    row 0b1011_0000 (low 0 1) 2 2 (λ n d. MovData (Indirect n) d) "MOV @Rr,#d" ∷
    row 0b1101_0111 none 1 1 (λ n d. MovPswA) "MOV PSW,A" ∷
    row 0b1010_0011 none 1 2 (λ n d. Movp) "MOVP A,@A" ∷
    row 0b1110_0011 none 1 2 (λ n d. Movp3) "MOVP3 A,@A" ∷
    row 0b1000_0000 (low 0 1) 1 2 (λ n d. MovxRead n) "MOVX A,@Rr" ∷
    row 0b1001_0000 (low 0 1) 1 2 (λ n d. MovxWrite n) "MOVX @Rr,A" ∷
    row 0b0010_1000 (low 0 7) 1 1 (λ n d. Xch (Register n)) "XCH A,Rr" ∷
    row 0b0010_0000 (low 0 1) 1 1 (λ n d. Xch (Indirect n)) "XCH A,@Rr" ∷
    row 0b0011_0000 (low 0 1) 1 1 (λ n d. Xchd n) "XCHD A,@Rr" ∷
    -- Flags
    row 0b1010_0111 none 1 1 (λ n d. Cpl FlagC) "CPL C" ∷
    row 0b1001_0101 none 1 1 (λ n d. Cpl FlagF0) "CPL F0" ∷
    row 0b1011_0101 none 1 1 (λ n d. Cpl FlagF1) "CPL F1" ∷
    row 0b1001_0111 none 1 1 (λ n d. Clr FlagC) "CLR C" ∷
    row 0b1000_0101 none 1 1 (λ n d. Clr FlagF0) "CLR F0" ∷
    row 0b1010_0101 none 1 1 (λ n d. Clr FlagF1) "CLR F1" ∷
    -- Input/output
    row 0b1001_1000 none 2 2 (λ n d. Logic AnlLatch Bus d) "ANL BUS,#d" ∷
    row 0b1001_1000 (low 1 2) 2 2 (λ n d. Logic AnlLatch (Port n) d) "ANL Pp,#d" ∷
    row 0b1001_1000 (low 4 7) 1 2 (λ n d. Expander Anld n) "ANLD Pp,A" ∷
    row 0b0000_1000 (low 1 2) 1 2 (λ n d. In (Port n)) "IN A,Pp" ∷
    row 0b0000_1000 none 1 2 (λ n d. In Bus) "INS A,BUS" ∷
    row 0b0000_1000 (low 4 7) 1 2 (λ n d. Expander MovdRead n) "MOVD A,Pp" ∷
    row 0b0011_1000 (low 4 7) 1 2 (λ n d. Expander MovdWrite n) "MOVD Pp,A" ∷
    row 0b1000_1000 none 2 2 (λ n d. Logic OrlLatch Bus d) "ORL BUS,#d" ∷
    row 0b1000_1000 (low 4 7) 1 2 (λ n d. Expander Orld n) "ORLD Pp,A" ∷
    row 0b1000_1000 (low 1 2) 2 2 (λ n d. Logic OrlLatch (Port n) d) "ORL Pp,#d" ∷
    row 0b0000_0010 none 1 2 (λ n d. Outl Bus) "OUTL BUS,A" ∷
    row 0b0011_1000 (low 1 2) 1 2 (λ n d. Outl (Port n)) "OUTL Pp,A" ∷
    -- Registers
    row 0b1100_1000 (low 0 7) 1 1 (λ n d. Dec n) "DEC Rr" ∷
    row 0b0001_1000 (low 0 7) 1 1 (λ n d. Inc (Register n)) "INC Rr" ∷
    row 0b0001_0000 (low 0 1) 1 1 (λ n d. Inc (Indirect n)) "INC @Rr" ∷
    -- Subroutine
    row 0b0001_0100 high 2 2 (λ n d. Call (n * 256 + d)) "CALL a" ∷
    row 0b1000_0011 none 1 2 (λ n d. Ret) "RET" ∷
    row 0b1001_0011 none 1 2 (λ n d. Retr) "RETR" ∷
    -- Timer/counter
    row 0b0010_0101 none 1 1 (λ n d. Control EnTcnti) "EN TCNTI" ∷
    row 0b0011_0101 none 1 1 (λ n d. Control DisTcnti) "DIS TCNTI" ∷
    row 0b0100_0010 none 1 1 (λ n d. MovAT) "MOV A,T" ∷
    row 0b0110_0010 none 1 1 (λ n d. MovTA) "MOV T,A" ∷
    row 0b0110_0101 none 1 1 (λ n d. Control StopTcnt) "STOP TCNT" ∷
    row 0b0100_0101 none 1 1 (λ n d. Control StrtCnt) "STRT CNT" ∷
    row 0b0101_0101 none 1 1 (λ n d. Control StrtT) "STRT T" ∷
    -- Miscellaneous
    row 0b0000_0000 none 1 1 (λ n d. Nop) "NOP" ∷
    -- Standby
    row 0b0000_0001 none 1 1 (λ n d. Halt) "HALT" ∷
    row 0b1000_0010 none 1 1 (λ n d. Stop) "STOP" ∷
    []

-- What each set has: Intel's the first 96, the µPD80C49H's all. "It adds HALT at 01 and STOP at 82" (document 02, item 2).
abbrev pub rows_of : Set → List Row
rows_of Intel = take 96 rows
rows_of Nec = rows

-- What stands for an undefined code: a data byte, which is the code itself. It has 0 bytes, which no instruction has, and so is told by them.
abbrev pub undefined_row : Row
undefined_row = row 0 none 0 0 (λ n d. Nop) "DB d"

-- The code b has the bits of a row.
abbrev pub fits : Place → ℕ → ℕ → Bool
fits none code b = eqb b code
fits (low from to) code b = eqb (b / 8 * 8) code && within from to (b % 8)
fits high code b = eqb (b % 32) code

-- The operand in a code.
abbrev pub operand_in : Place → ℕ → ℕ
operand_in none b = 0
operand_in (low from to) b = b % 8
operand_in high b = b / 32

-- The kind of a code in a set is the number of the first of the set's rows that it fits, counted from 1; 0 if it fits none.
abbrev pub kind_from : ℕ → List Row → ℕ → ℕ
kind_from k [] b = 0
kind_from k (w ∷ ws) b = pick (fits w.place w.code b) k (kind_from (suc k) ws b)

unfoldable pub kind_of : Set → ℕ → ℕ
kind_of set b = kind_from 1 (rows_of set) b

abbrev pub row_of : ℕ → Row
row_of kind = get_or (undefined_row ∷ rows) kind undefined_row

-- "One table of 256 entries gives length, cycles and kind."
unfoldable pub entry_of : Set → ℕ → Entry
entry_of set b =
    record { bytes = (row_of (kind_of set b)).bytes; cycles = (row_of (kind_of set b)).cycles; kind = kind_of set b }

-- The instruction of a row, for the code b and the second byte d.
abbrev pub make_of : ℕ → ℕ → ℕ → Instruction
make_of kind b d = (row_of kind).make (operand_in (row_of kind).place b) d

-- The instruction of a set whose bytes are the code b and the second byte d, if it has one.
abbrev pub instruction_of : Set → ℕ → ℕ → Instruction
instruction_of set b d = make_of (entry_of set b).kind b d
