-- What a program in C sees, by computation from the definitions: of HALT, where the machine halts, waits, is let go by INT and goes on; and
-- of a second program.
-- Assumes nothing.
use mathlib.Core.Path.{◌≡◌, refl}
use mathlib.Core.List.{List, [], ◌∷◌}
use Prim.Native.Nat.{ℕ}
use Rattle.isa.specs.Choice.{pick}
use Rattle.isa.specs.Naming.{set_of}
use Rattle.isa.specs.Reading.{byte_at, read_of, instruction_at, decoded_at}
use Rattle.isa.specs.Sheet.{kind_of, entry_of}
use Rattle.machine.specs.Counting.{counting_of}
use Rattle.machine.specs.Mode.{mode_of}
use Rattle.machine.specs.Rom.{visible}
use Rattle.machine.specs.State.{power_up, with_pc}
use Rattle.effects.specs.Effect.{written}
use Rattle.execute.specs.Execute.{executed}
use Rattle.chip.specs.Admission.{lent_number, admission}
use Rattle.chip.specs.Cases.{times, idle, blank}
use Rattle.chip.specs.Outside.{from_outside}
use Rattle.chip.specs.Run.{run_by, run_of}
use Rattle.chip.specs.Step.{declined, accepted, waits, done, carried, course, ticked, settled, plan_by}
use Rattle.mcs48_c.specs.Bytes.{bytes_of, state_of, holding}
use Rattle.mcs48_c.specs.Calls.{step_from, run_from, read_from, totalled, totals_after}
use Rattle.mcs48_c.specs.Packed.{packed, packed_step, packed_read}
use Rattle.mcs48_c.specs.Stepping.{Buffers, step_leaves}

-- What mcs48_power_up writes: PSW 08 in byte 3, the latches FF in bytes 16 to 18, and all else 0, the mode in byte 20 too.
power-up-bytes :
    bytes_of power_up ≡ 0 ∷ 0 ∷ 0 ∷ 0x08 ∷ 0 ∷ 0 ∷ 0 ∷ 0 ∷ 0 ∷ 0 ∷ 0 ∷ 0 ∷ 0 ∷ 0 ∷ 0 ∷ 0 ∷ 0xFF ∷ 0xFF ∷ 0xFF ∷ 0 ∷ 0 ∷ 0 ∷ 0 ∷ 0 ∷ []
unfolding bytes_of
power-up-bytes = refl

-- HALT, and then NOP.
abbrev program : List ℕ
program = 0x01 ∷ times 1023 0

-- All pins high but INT.
abbrev low : ℕ
low = 0x0EFF_FFFF

-- What a call of mcs48_step answers, and byte 20 after it.
abbrev told : ℕ → Buffers → ℕ → List ℕ
told name b first =
    packed_step (step_from name program [] b.ram b.bytes first idle) ∷ byte_at (step_leaves name program [] b first idle).bytes 20 ∷ []

abbrev started : Buffers
started = record { ram = blank; bytes = bytes_of power_up }

abbrev halted : Buffers
halted = step_leaves 1 program [] started idle idle

abbrev freed : Buffers
freed = step_leaves 1 program [] halted low idle

-- Under NEC: HALT takes a cycle and a sample and halts; a wait takes a sample alone, with INT high or low; INT low lets it go; and it runs.
nec-halts :
    told 1 started idle ∷ told 1 halted idle ∷ told 1 halted low ∷ told 1 freed idle ∷ []
    ≡ (0x0001_0000_0000_0100 ∷ 1 ∷ []) ∷ (0x0001_0000_0000_0000 ∷ 1 ∷ []) ∷ (0x0001_0000_0000_0000 ∷ 3 ∷ []) ∷ (0x0001_0000_0000_0100 ∷ 0 ∷ []) ∷ []
unfolding packed set_of state_of holding counting_of mode_of bytes_of plan_by settled ticked course carried from_outside done accepted waits written admission lent_number executed visible instruction_at decoded_at entry_of kind_of pick
nec-halts = refl

-- The same as one run, a sample being left: 4 samples used and 2 machine cycles spent.
nec-run : totals_after (0 ∷ 0 ∷ []) (run_from 1 program [] blank (bytes_of power_up) (idle ∷ idle ∷ low ∷ idle ∷ idle ∷ [])).ran ≡ 4 ∷ 2 ∷ []
unfolding totalled run_of run_by set_of state_of counting_of mode_of bytes_of plan_by settled ticked course carried from_outside done accepted waits written admission lent_number executed visible instruction_at decoded_at entry_of kind_of pick
nec-run = refl

-- Under Intel 01 is no code, 4, and a halted machine no state, 3; and there is no set 2, which is 25. The state's bytes stay.
refusals :
    told 0 started idle ∷ told 0 halted idle ∷ told 2 started idle ∷ told 2 halted idle ∷ []
    ≡ (4 ∷ 0 ∷ []) ∷ (3 ∷ 1 ∷ []) ∷ (25 ∷ 0 ∷ []) ∷ (25 ∷ 1 ∷ []) ∷ []
unfolding packed set_of state_of holding counting_of mode_of bytes_of plan_by settled ticked course carried from_outside done accepted declined written admission lent_number executed visible instruction_at decoded_at entry_of kind_of pick
refusals = refl

-- What mcs48_read answers at address 0 under Intel, under NEC and for 2.
reads :
    packed_read program 0 (read_from 0 program 0) ∷ packed_read program 0 (read_from 1 program 0) ∷ packed_read program 0 (read_from 2 program 0) ∷ []
    ≡ 4 ∷ 0x0001_0100 ∷ 25 ∷ []
unfolding packed set_of read_of instruction_at decoded_at entry_of kind_of pick
reads = refl

-- A second program: JMP 002, and then NOP.
abbrev beside : List ℕ
beside = 0x04 ∷ 0x02 ∷ times 4094 0

-- All pins high, and EA too.
abbrev high : ℕ
high = 0x1FFF_FFFF

-- What a call of mcs48_step answers at an address.
abbrev told_at : ℕ → List ℕ → ℕ → ℕ
told_at pc outside first = packed_step (step_from 1 program outside blank (bytes_of (with_pc power_up pc)) first idle)

-- With EA high the two bytes of JMP come from outside, and NOP's one; with EA low HALT comes from the chip, and past the chip's end NOP
-- from outside. Where there is no second program those bytes are lacking: 5, and nothing else.
from-outside :
    told_at 0 beside high ∷ told_at 2 beside high ∷ told_at 0 beside idle ∷ told_at 1024 beside idle
    ∷ told_at 0 [] high ∷ told_at 1024 [] idle ∷ []
    ≡ 0x0002_0200_0000_0200 ∷ 0x0001_0100_0000_0100 ∷ 0x0001_0000_0000_0100 ∷ 0x0001_0100_0000_0100 ∷ 5 ∷ 5 ∷ []
unfolding packed set_of state_of counting_of mode_of bytes_of plan_by settled ticked course carried from_outside done accepted declined admission lent_number executed visible instruction_at decoded_at entry_of kind_of pick
from-outside = refl
