-- What is done to A, and to C and AC.
-- Assumes nothing.
use Rattle.std.specs.Prelude.{ℕ, ◌+◌, ◌-◌, ◌*◌, ◌/◌, ◌%◌, ◌||◌, ltb, leb, eqb}
use Rattle.std.specs.Int.Bits.{bit_and, bit_or, bit_xor}
use Rattle.isa.specs.Choice.{pick}
use Rattle.isa.specs.declared.Operation.{Operation}
use Rattle.isa.specs.declared.Operation.TheVariants.{Add, Addc, Anl, Orl, Xrl}
use Rattle.isa.specs.declared.Unary.{Unary}
use Rattle.isa.specs.declared.Unary.TheVariants.{CplA, ClrA, DaA, DecA, IncA, RlA, RlcA, RrA, RrcA, SwapA}
use Rattle.machine.specs.State.{with_core, with_a}
use Rattle.machine.specs.declared.State.{State}
use Rattle.machine.specs.Psw.{bit_c, bit_ac, with_c, with_carries}

-- "ADD and ADDC set C and AC to the carries out of bits 7 and 3."
abbrev pub added : State → ℕ → ℕ → State
added s x c =
    with_core s ((s.a + x + c) % 256) s.pc (with_carries s.psw ((s.a + x + c) / 256) ((s.a % 16 + x % 16 + c) / 16))

abbrev pub operated : Operation → ℕ → State → State
operated Add x s = added s x 0
operated Addc x s = added s x (bit_c s.psw)
operated Anl x s = with_a s (bit_and s.a x)
operated Orl x s = with_a s (bit_or s.a x)
operated Xrl x s = with_a s (bit_xor s.a x)

-- A and C.
abbrev pub with_ac : State → ℕ → ℕ → State
with_ac s a c = with_core s a s.pc (with_c s.psw c)

-- "DA A: v = A, plus 6 if its low digit exceeds 9 or AC is 1."
abbrev pub low_adjusted : ℕ → ℕ → ℕ
low_adjusted a psw = pick (ltb 9 (a % 16) || eqb (bit_ac psw) 1) (a + 6) a

-- "If v is at least A0 hex or C is 1, add 60 hex and set C. A = v modulo 256. AC stays."
abbrev pub high_adjusted : State → ℕ → State
high_adjusted s v = pick (leb 0xA0 v || eqb (bit_c s.psw) 1) (with_ac s ((v + 0x60) % 256) 1) (with_a s (v % 256))

abbrev pub decimal_adjusted : State → State
decimal_adjusted s = high_adjusted s (low_adjusted s.a s.psw)

-- "INC and DEC wrap and set no flag." Less 1 is + 255 modulo 256, also from 0.
abbrev pub changed : Unary → State → State
changed CplA s = with_a s (255 - s.a)
changed ClrA s = with_a s 0
changed DaA s = decimal_adjusted s
changed DecA s = with_a s ((s.a + 255) % 256)
changed IncA s = with_a s ((s.a + 1) % 256)
changed RlA s = with_a s (s.a % 128 * 2 + s.a / 128)
changed RlcA s = with_ac s (s.a % 128 * 2 + bit_c s.psw) (s.a / 128)
changed RrA s = with_a s (s.a / 2 + s.a % 2 * 128)
changed RrcA s = with_ac s (s.a / 2 + bit_c s.psw * 128) (s.a % 2)
changed SwapA s = with_a s (s.a % 16 * 16 + s.a / 16)
