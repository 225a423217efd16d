-- The machine state: after power-up, within its sizes, and with one part changed.
-- Assumes nothing.
use Rattle.std.specs.Prelude.{ℕ, ◌/◌, ◌%◌, Bool, false, ◌&&◌, ltb, eqb}
use Rattle.isa.specs.declared.Set.{Set}
use Rattle.machine.specs.Mode.{mode_allowed}
use Rattle.machine.specs.declared.Count.{Count}
use Rattle.machine.specs.declared.Counting.{Counting}
use Rattle.machine.specs.declared.Counting.TheVariants.{Stopped}
use Rattle.machine.specs.declared.Interrupts.{Interrupts}
use Rattle.machine.specs.declared.Mode.{Mode}
use Rattle.machine.specs.declared.Mode.TheVariants.{Running}
use Rattle.machine.specs.declared.Ports.{Ports}
use Rattle.machine.specs.declared.State.{State}

-- "The state after power-up: latches FF, PSW 08, all else 0, off and standing still." It runs.
abbrev pub power_up : State
power_up =
    record {
      mode = Running;
      a = 0;
      pc = 0;
      psw = 0x08;
      counting = Stopped;
      t = 0;
      divider = 0;
      tf = false;
      request = false;
      last = false;
      f1 = false;
      dbf = false;
      clock = false;
      interrupts = record { external = false; tcnti = false; service = false };
      ports = record { p1 = 0xFF; p2 = 0xFF; bus = 0xFF; driven = false };
    }

-- Every part is within its size, PSW bit 3 is 1, and the set has the mode.
abbrev pub permitted : Set → State → Bool
permitted set s = ltb s.pc 4096 && ltb s.divider 32 && eqb (s.psw / 8 % 2) 1 && mode_allowed set s.mode

-- The part of the state that counting a cycle changes.
abbrev pub count_of : State → Count
count_of s = record { t = s.t; divider = s.divider; tf = s.tf; request = s.request; last = s.last }

-- A state with some parts changed.
abbrev pub with_core : State → ℕ → ℕ → ℕ → State
with_core s a pc psw =
    record { mode = s.mode; a = a; pc = pc; psw = psw; counting = s.counting; t = s.t; divider = s.divider; tf = s.tf; request = s.request; last = s.last; f1 = s.f1; dbf = s.dbf; clock = s.clock; interrupts = s.interrupts; ports = s.ports }

abbrev pub with_flags : State → Bool → Bool → Bool → State
with_flags s f1 dbf clock =
    record { mode = s.mode; a = s.a; pc = s.pc; psw = s.psw; counting = s.counting; t = s.t; divider = s.divider; tf = s.tf; request = s.request; last = s.last; f1 = f1; dbf = dbf; clock = clock; interrupts = s.interrupts; ports = s.ports }

abbrev pub with_count : State → Count → State
with_count s c =
    record { mode = s.mode; a = s.a; pc = s.pc; psw = s.psw; counting = s.counting; t = c.t; divider = c.divider; tf = c.tf; request = c.request; last = c.last; f1 = s.f1; dbf = s.dbf; clock = s.clock; interrupts = s.interrupts; ports = s.ports }

abbrev pub with_counting : State → Counting → ℕ → State
with_counting s counting divider =
    record { mode = s.mode; a = s.a; pc = s.pc; psw = s.psw; counting = counting; t = s.t; divider = divider; tf = s.tf; request = s.request; last = s.last; f1 = s.f1; dbf = s.dbf; clock = s.clock; interrupts = s.interrupts; ports = s.ports }

abbrev pub with_interrupts : State → Interrupts → State
with_interrupts s interrupts =
    record { mode = s.mode; a = s.a; pc = s.pc; psw = s.psw; counting = s.counting; t = s.t; divider = s.divider; tf = s.tf; request = s.request; last = s.last; f1 = s.f1; dbf = s.dbf; clock = s.clock; interrupts = interrupts; ports = s.ports }

abbrev pub with_ports : State → Ports → State
with_ports s ports =
    record { mode = s.mode; a = s.a; pc = s.pc; psw = s.psw; counting = s.counting; t = s.t; divider = s.divider; tf = s.tf; request = s.request; last = s.last; f1 = s.f1; dbf = s.dbf; clock = s.clock; interrupts = s.interrupts; ports = ports }

abbrev pub with_mode : State → Mode → State
with_mode s mode =
    record { mode = mode; a = s.a; pc = s.pc; psw = s.psw; counting = s.counting; t = s.t; divider = s.divider; tf = s.tf; request = s.request; last = s.last; f1 = s.f1; dbf = s.dbf; clock = s.clock; interrupts = s.interrupts; ports = s.ports }

abbrev pub with_a : State → ℕ → State
with_a s a = with_core s a s.pc s.psw

abbrev pub with_pc : State → ℕ → State
with_pc s pc = with_core s s.a pc s.psw

abbrev pub with_psw : State → ℕ → State
with_psw s psw = with_core s s.a s.pc psw

-- An instruction begins: PC is past it, and the machine runs. "After a release by INT one instruction runs before an interrupt may be
-- called": so a release ends here.
abbrev pub running_at : State → ℕ → State
running_at s pc = with_mode (with_pc s pc) Running
