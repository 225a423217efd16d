-- The owner's loop of two-cycle jumps, entered just after STRT T: a run that meets all that the third demand asks, and reaches its bound; under
-- NEC with a halt in between.
-- Assumes nothing.
use Rattle.std.specs.Prelude.{ℕ, ◌+◌, true, false, List, [], ◌∷◌, ◌≡◌, length}
use Rattle.isa.specs.Reading.{byte_at}
use Rattle.isa.specs.declared.Set.{Set}
use Rattle.isa.specs.declared.Set.TheVariants.{Intel, Nec}
use Rattle.machine.specs.Rom.{Roms, alone}
use Rattle.machine.specs.State.{with_core, with_count, with_counting, with_interrupts}
use Rattle.machine.specs.declared.Counting.TheVariants.{Timer}
use Rattle.machine.specs.declared.State.{State}
use Rattle.chip.specs.Cases.{times, holding, idle, counting_from}
use Rattle.chip.specs.History.{overflow_cycle}
use Rattle.chip.specs.Run.{Ended}

-- The NOP, or the HALT, makes the overflow fall into the first cycle of a jump.
-- 000  STRT T
-- 001  NOP; under NEC HALT
-- 002  JMP 002H
abbrev pub pause : Set → ℕ
pause Intel = 0x00
pause Nec = 0x01

abbrev pub rom : Set → Roms
rom set = alone set (holding 1024 0 (0x55 ∷ pause set ∷ 0x04 ∷ 0x02 ∷ []))

-- At STRT T: as after power-up, but the counter holds c, and the timer interrupt is enabled.
abbrev pub ready : ℕ → State
ready c = with_interrupts (counting_from c) (record { external = false; tcnti = true; service = false })

-- Just after STRT T, T1 having been high.
abbrev pub start : ℕ → State
start c =
    with_counting
    (with_count (with_core (ready c) 0 1 0x08) (record { t = c; divider = 0; tf = false; request = false; last = true }))
    Timer
    0

-- All pins high, up to 3 cycles after the overflow; but the sample after HALT's own has INT low, and releases the machine.
abbrev pub int_low : ℕ
int_low = 0x0EFF_FFFF

abbrev pub samples : Set → ℕ → List ℕ
samples Intel c = times (overflow_cycle c + 3) idle
samples Nec c = idle ∷ int_low ∷ times (overflow_cycle c + 2) idle

-- The samples that are no machine cycle.
abbrev pub halted : Set → ℕ
halted Intel = 0
halted Nec = 1

-- The run over all samples ends with the call to location 7, complete exactly 3 cycles after the overflow: the request is cleared, the
-- interrupt is in service, and the loop's address, 002, lies in RAM 8 and 9 with PSW bits 4-7, which are 0.
pub record Late (set : Set) (c : ℕ) (e : Ended) : Type 0 where
  pub number : e.ran.number ≡ 0
  pub used : e.ran.used ≡ length (samples set c)
  pub cycles : e.ran.cycles ≡ overflow_cycle c + 3
  pub pc : e.ran.state.pc ≡ 7
  pub request : e.ran.state.request ≡ false
  pub service : e.ran.state.interrupts.service ≡ true
  pub ram_8 : byte_at e.ram 8 ≡ 0x02
  pub ram_9 : byte_at e.ram 9 ≡ 0x00
