-- Ports, BUS, external memory and the expander.
-- Assumes nothing.
use Rattle.std.specs.Prelude.{ℕ, ◌%◌, true, eqb}
use Rattle.std.specs.Int.Bits.{bit_and, bit_or}
use Rattle.isa.specs.Choice.{pick}
use Rattle.isa.specs.declared.DigitMove.{DigitMove}
use Rattle.isa.specs.declared.DigitMove.TheVariants.{MovdRead, MovdWrite, Orld, Anld}
use Rattle.isa.specs.declared.Join.{Join}
use Rattle.isa.specs.declared.Join.TheVariants.{AnlLatch, OrlLatch}
use Rattle.isa.specs.declared.Latch.{Latch}
use Rattle.isa.specs.declared.Latch.TheVariants.{Bus, Port}
use Rattle.machine.specs.Pins.{bus_pins, p1_pins, p2_pins}
use Rattle.machine.specs.State.{with_a, with_ports}
use Rattle.machine.specs.declared.State.{State}
use Rattle.effects.specs.Effect.{Effect}
use Rattle.effects.specs.Moves.{signalled}
use Rattle.effects.specs.declared.Event.TheVariants.{ExpanderMove}

-- A port is P1 or P2, and a code holds no other: what is not 1 is P2, here and below.
-- "IN reads latch AND pins. INS reads BUS pins."
abbrev pub input : Latch → State → ℕ → State
input Bus s second = with_a s (bus_pins second)
input (Port p) s second =
    with_a s (pick (eqb p 1) (bit_and s.ports.p1 (p1_pins second)) (bit_and s.ports.p2 (p2_pins second)))

abbrev pub latch_of : Latch → State → ℕ
latch_of Bus s = s.ports.bus
latch_of (Port p) s = pick (eqb p 1) s.ports.p1 s.ports.p2

-- "OUTL BUS and ANL, ORL on BUS set the latch and drive it."
abbrev pub output : Latch → State → ℕ → State
output Bus s v = with_ports s (record { p1 = s.ports.p1; p2 = s.ports.p2; bus = v; driven = true })
output (Port p) s v =
    with_ports s
    (pick (eqb p 1) (record { p1 = v; p2 = s.ports.p2; bus = s.ports.bus; driven = s.ports.driven })
    (record { p1 = s.ports.p1; p2 = v; bus = s.ports.bus; driven = s.ports.driven }))

-- "ANL and ORL on ports change latches."
abbrev pub joined : Join → ℕ → ℕ → ℕ
joined AnlLatch x d = bit_and x d
joined OrlLatch x d = bit_or x d

-- "MOVD, ORLD, ANLD give an event with operation, port 4-7 and A's low digit as it was before; MOVD A,Pp puts P2 pins 0-3 in A, high
-- digit 0." "On our boards the P2 latch stays."
abbrev pub digit_moved : DigitMove → State → ℕ → State
digit_moved MovdRead s second = with_a s (p2_pins second % 16)
digit_moved MovdWrite s second = s
digit_moved Orld s second = s
digit_moved Anld s second = s

abbrev pub expander_moved : DigitMove → ℕ → State → ℕ → Effect
expander_moved op p s second = signalled (digit_moved op s second) (ExpanderMove op p (s.a % 16))
