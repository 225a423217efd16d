-- No two codes of a set have one instruction: the bytes can be taken back from it. This is the one place of the proofs that writes the
-- codes out once more; the sheet is compared with it by computation.
-- Assumes nothing.
use mathlib.Core.Path.{◌≡◌, refl, sym, ◌∙◌}
use mathlib.Core.Bool.{Bool, true, false, true≢false}
use mathlib.Core.List.{List, [], ◌∷◌}
use Prim.Native.Nat.{ℕ, zero-le, ◌+◌, ◌*◌, ◌/◌, ◌%◌, ◌<◌, ◌≤◌}
use native.Mathlib.Omega.{arith}
use lib.Dec.{eqb}
use borrow.Author.Tests.{le-leb}
use Rattle.isa.specs.Choice.{pick, within}
use Rattle.isa.specs.Sheet.{kind_of, entry_of, instruction_of}
use Rattle.isa.specs.declared.Cell.{Cell}
use Rattle.isa.specs.declared.Cell.TheVariants.{Register, Indirect}
use Rattle.isa.specs.declared.Source.{Source}
use Rattle.isa.specs.declared.Source.TheVariants.{FromCell, Immediate}
use Rattle.isa.specs.declared.Operation.{Operation}
use Rattle.isa.specs.declared.Operation.TheVariants.{Add, Addc, Anl, Orl, Xrl}
use Rattle.isa.specs.declared.Unary.{Unary}
use Rattle.isa.specs.declared.Unary.TheVariants.{CplA, ClrA, DaA, DecA, IncA, RlA, RlcA, RrA, RrcA, SwapA}
use Rattle.isa.specs.declared.Condition.{Condition}
use Rattle.isa.specs.declared.Condition.TheVariants.{Jb, Jc, Jf0, Jf1, Jnc, Jni, Jnt0, Jnt1, Jnz, Jtf, Jt0, Jt1, Jz}
use Rattle.isa.specs.declared.Flag.{Flag}
use Rattle.isa.specs.declared.Flag.TheVariants.{FlagC, FlagF0, FlagF1}
use Rattle.isa.specs.declared.Latch.{Latch}
use Rattle.isa.specs.declared.Latch.TheVariants.{Bus, Port}
use Rattle.isa.specs.declared.Join.{Join}
use Rattle.isa.specs.declared.Join.TheVariants.{AnlLatch, OrlLatch}
use Rattle.isa.specs.declared.DigitMove.{DigitMove}
use Rattle.isa.specs.declared.DigitMove.TheVariants.{MovdRead, MovdWrite, Orld, Anld}
use Rattle.isa.specs.declared.Switch.{Switch}
use Rattle.isa.specs.declared.Switch.TheVariants.{EnI, DisI, Ent0Clk, SelMb0, SelMb1, SelRb0, SelRb1, EnTcnti, DisTcnti, StopTcnt, StrtCnt, StrtT}
use Rattle.isa.specs.declared.Instruction.{Instruction}
use Rattle.isa.specs.declared.Instruction.TheVariants.{Alu, Accumulator, Djnz, Branch, Jmp, Jmpp, Control, MovA, Mov, MovData, MovAPsw, MovPswA, Movp, Movp3, MovxRead, MovxWrite, Xch, Xchd, Cpl, Clr, Logic, In, Outl, Expander, Dec, Inc, Call, Ret, Retr, MovAT, MovTA, Nop, Halt, Stop}
use Rattle.isa.specs.declared.Set.{Set}
use Rattle.isa.specs.declared.Set.TheVariants.{Intel, Nec}
use Rattle.isa.proofs.Everywhere.{everywhere}
use Rattle.isa.specs.Sets.{Without, standby, halt, stop}
use Rattle.writer.specs.Writing.{holds, byte_holds, far_holds, Refuses, unknown, too_large}

abbrev cell_back : ℕ → Cell → ℕ
cell_back base (Register r) = base + 8 + r
cell_back base (Indirect r) = base + r

abbrev source_back : ℕ → ℕ → Source → List ℕ
source_back base immediate (FromCell c) = cell_back base c ∷ []
source_back base immediate (Immediate d) = immediate ∷ d ∷ []

abbrev latch_back : ℕ → ℕ → Latch → ℕ
latch_back bus base Bus = bus
latch_back bus base (Port p) = base + p

abbrev operation_back : Operation → Source → List ℕ
operation_back Add s = source_back 0x60 0x03 s
operation_back Addc s = source_back 0x70 0x13 s
operation_back Anl s = source_back 0x50 0x53 s
operation_back Orl s = source_back 0x40 0x43 s
operation_back Xrl s = source_back 0xD0 0xD3 s

abbrev unary_back : Unary → ℕ
unary_back CplA = 0x37
unary_back ClrA = 0x27
unary_back DaA = 0x57
unary_back DecA = 0x07
unary_back IncA = 0x17
unary_back RlA = 0xE7
unary_back RlcA = 0xF7
unary_back RrA = 0x77
unary_back RrcA = 0x67
unary_back SwapA = 0x47

abbrev condition_back : Condition → ℕ
condition_back (Jb b) = 0x12 + 32 * b
condition_back Jc = 0xF6
condition_back Jf0 = 0xB6
condition_back Jf1 = 0x76
condition_back Jnc = 0xE6
condition_back Jni = 0x86
condition_back Jnt0 = 0x26
condition_back Jnt1 = 0x46
condition_back Jnz = 0x96
condition_back Jtf = 0x16
condition_back Jt0 = 0x36
condition_back Jt1 = 0x56
condition_back Jz = 0xC6

abbrev switch_back : Switch → ℕ
switch_back EnI = 0x05
switch_back DisI = 0x15
switch_back Ent0Clk = 0x75
switch_back SelMb0 = 0xE5
switch_back SelMb1 = 0xF5
switch_back SelRb0 = 0xC5
switch_back SelRb1 = 0xD5
switch_back EnTcnti = 0x25
switch_back DisTcnti = 0x35
switch_back StopTcnt = 0x65
switch_back StrtCnt = 0x45
switch_back StrtT = 0x55

abbrev flag_back : ℕ → ℕ → ℕ → Flag → ℕ
flag_back c f0 f1 FlagC = c
flag_back c f0 f1 FlagF0 = f0
flag_back c f0 f1 FlagF1 = f1

abbrev join_back : Join → ℕ
join_back AnlLatch = 0x98
join_back OrlLatch = 0x88

abbrev digit_back : DigitMove → ℕ
digit_back MovdRead = 0x08
digit_back MovdWrite = 0x38
digit_back Orld = 0x88
digit_back Anld = 0x98

-- The bytes of an instruction, whatever its operands.
abbrev pub bytes_back : Instruction → List ℕ
bytes_back (Alu op s) = operation_back op s
bytes_back (Accumulator op) = unary_back op ∷ []
bytes_back (Djnz r d) = (0xE8 + r) ∷ d ∷ []
bytes_back (Branch c d) = condition_back c ∷ d ∷ []
bytes_back (Jmp a) = (0x04 + 32 * (a / 256)) ∷ (a % 256) ∷ []
bytes_back Jmpp = 0xB3 ∷ []
bytes_back (Control op) = switch_back op ∷ []
bytes_back (MovA s) = source_back 0xF0 0x23 s
bytes_back (Mov c) = cell_back 0xA0 c ∷ []
bytes_back (MovData c d) = cell_back 0xB0 c ∷ d ∷ []
bytes_back MovAPsw = 0xC7 ∷ []
bytes_back MovPswA = 0xD7 ∷ []
bytes_back Movp = 0xA3 ∷ []
bytes_back Movp3 = 0xE3 ∷ []
bytes_back (MovxRead r) = (0x80 + r) ∷ []
bytes_back (MovxWrite r) = (0x90 + r) ∷ []
bytes_back (Xch c) = cell_back 0x20 c ∷ []
bytes_back (Xchd r) = (0x30 + r) ∷ []
bytes_back (Cpl f) = flag_back 0xA7 0x95 0xB5 f ∷ []
bytes_back (Clr f) = flag_back 0x97 0x85 0xA5 f ∷ []
bytes_back (Logic op l d) = latch_back (join_back op) (join_back op) l ∷ d ∷ []
bytes_back (In l) = latch_back 0x08 0x08 l ∷ []
bytes_back (Outl l) = latch_back 0x02 0x38 l ∷ []
bytes_back (Expander op p) = (digit_back op + p) ∷ []
bytes_back (Dec r) = (0xC8 + r) ∷ []
bytes_back (Inc c) = cell_back 0x10 c ∷ []
bytes_back (Call a) = (0x14 + 32 * (a / 256)) ∷ (a % 256) ∷ []
bytes_back Ret = 0x83 ∷ []
bytes_back Retr = 0x93 ∷ []
bytes_back MovAT = 0x42 ∷ []
bytes_back MovTA = 0x62 ∷ []
bytes_back Nop = 0x00 ∷ []
bytes_back Halt = 0x01 ∷ []
bytes_back Stop = 0x82 ∷ []

-- The code and the second byte of a JMP or CALL, b and d, as its address gives them back.
abbrev far_back : ℕ → ℕ → List ℕ
far_back b d = (b % 32 + 32 * ((b / 32 * 256 + d) / 256)) ∷ ((b / 32 * 256 + d) % 256) ∷ []

far-same : (b d : ℕ) → d < 256 → far_back b d ≡ b ∷ d ∷ []
far-same b d h =
    let code : b % 32 + 32 * ((b / 32 * 256 + d) / 256) ≡ b = omega arith in
    let second : (b / 32 * 256 + d) % 256 ≡ d = omega arith in
    rw (code, second)

same-either : {A : Type 0} (p : Bool) (x : A) → pick p x x ≡ x
unfolding pick
same-either true x = refl
same-either false x = refl

-- What the sheet's instructions give back, by computation. For an undefined code the sheet has NOP, whose code is 0.
abbrev expected : Set → ℕ → ℕ → List ℕ
expected set d b =
    pick (eqb (entry_of set b).bytes 0) (0 ∷ [])
    (pick (eqb (entry_of set b).bytes 1) (b ∷ []) (pick (eqb (b % 16) 4) (far_back b d) (b ∷ d ∷ [])))

computed : (set : Set) (d b : ℕ) → b < 256 → bytes_back (instruction_of set b d) ≡ expected set d b
unfolding entry_of kind_of pick
computed Intel d b h = everywhere (λ b. bytes_back (instruction_of Intel b d)) (expected Intel d) 256 refl b h
computed Nec d b h = everywhere (λ b. bytes_back (instruction_of Nec b d)) (expected Nec d) 256 refl b h

-- The bytes of every code with every second byte come back.
pub bytes-back :
    (set : Set) (b d : ℕ) → b < 256 → d < 256 → eqb (entry_of set b).bytes 0 ≡ false
    → bytes_back (instruction_of set b d) ≡ pick (eqb (entry_of set b).bytes 1) (b ∷ []) (b ∷ d ∷ [])
unfolding pick
bytes-back set b d hb hd defined =
    rw (far-same b d hd, same-either (eqb (b % 16) 4) (b ∷ d ∷ [])) at (rw defined at (computed set d b hb))

-- And their operands are such as the code can hold.
abbrev expected_holds : Set → ℕ → ℕ → Bool
expected_holds set d b =
    pick (eqb (entry_of set b).bytes 2) (pick (eqb (b % 16) 4) (far_holds (b / 32 * 256 + d)) (byte_holds d)) true

holds-computed : (set : Set) (d b : ℕ) → b < 256 → holds (instruction_of set b d) ≡ expected_holds set d b
unfolding entry_of kind_of pick
holds-computed Intel d b h = everywhere (λ b. holds (instruction_of Intel b d)) (expected_holds Intel d) 256 refl b h
holds-computed Nec d b h = everywhere (λ b. holds (instruction_of Nec b d)) (expected_holds Nec d) 256 refl b h

below : (high k : ℕ) → k ≤ high → within 0 high k ≡ true
below high k h = rw (le-leb 0 k zero-le, le-leb k high h)

holds-back : (set : Set) (b d : ℕ) → b < 256 → d < 256 → holds (instruction_of set b d) ≡ true
holds-back set b d hb hd =
    holds-computed set d b hb
    ∙ rw (below 0x7FF (b / 32 * 256 + d) (omega arith), below 0xFF d (omega arith), same-either, same-either)

first_byte : (p : Bool) (b c d : ℕ) → c ∷ [] ≡ pick p (b ∷ []) (b ∷ d ∷ []) → c ≡ b
unfolding pick
first_byte true b c d e = cc
first_byte false b c d e = cc

-- Nor is the instruction of a code one that the set is without: the bytes of such a one are undefined in it.
without-undefined :
    (set : Set) (i : Instruction) (b d : ℕ) → Without set i → bytes_back i ≡ pick (eqb (entry_of set b).bytes 1) (b ∷ []) (b ∷ d ∷ [])
    → eqb (entry_of set b).bytes 0 ≡ true
unfolding entry_of kind_of pick
without-undefined set i b d (standby halt) e = rw (← first_byte (eqb (entry_of Intel b).bytes 1) b 0x01 d e)
without-undefined set i b d (standby stop) e = rw (← first_byte (eqb (entry_of Intel b).bytes 1) b 0x82 d e)

-- So the writer has no reason to refuse the instruction of a code.
pub unrefused :
    (set : Set) (b d : ℕ) → b < 256 → d < 256 → eqb (entry_of set b).bytes 0 ≡ false → (n : ℕ)
    → Refuses set (instruction_of set b d) n → ⊥
unrefused set b d hb hd defined n (unknown w) =
    true≢false (sym (without-undefined set (instruction_of set b d) b d w (bytes-back set b d hb hd defined)) ∙ defined)
unrefused set b d hb hd defined n (too_large h) = true≢false (sym (holds-back set b d hb hd) ∙ h)
