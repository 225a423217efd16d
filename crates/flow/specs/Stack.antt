-- "Stack: RAM 8 + 2 x SP takes PC bits 0-7, the next byte PC bits 8-11 low and PSW bits 4-7 high; SP then counts up modulo 8."
-- Assumes nothing.
use Rattle.std.specs.Prelude.{ℕ, ◌+◌, ◌*◌, ◌/◌, ◌%◌, false, List}
use Rattle.isa.specs.Reading.{byte_at}
use Rattle.machine.specs.State.{with_core, with_interrupts}
use Rattle.machine.specs.declared.State.{State}
use Rattle.machine.specs.Psw.{sp, with_sp}
use Rattle.effects.specs.Effect.{Effect, Pair}
use Rattle.effects.specs.declared.Event.TheVariants.{Quiet}

unfoldable pub pushed : State → ℕ → Effect
pushed s to =
    record {
      number = 0;
      state = with_core s s.a to (with_sp s.psw ((sp s.psw + 1) % 8));
      event = Quiet;
      write = Pair (8 + sp s.psw * 2) (s.pc % 256) (s.pc / 256 % 16 + s.psw / 16 * 16);
      fresh = false;
    }

-- SP counted down.
abbrev pub sp_below : State → ℕ
sp_below s = (sp s.psw + 7) % 8

-- (RAM holds bytes; % 256 makes the definition total, so that PC stays below 4,096 whatever is read.)
abbrev pub low_byte : State → List ℕ → ℕ
low_byte s ram = byte_at ram (8 + sp_below s * 2) % 256

abbrev pub high_byte : State → List ℕ → ℕ
high_byte s ram = byte_at ram (8 + sp_below s * 2 + 1)

-- "RET counts SP down and restores all 12 bits of PC."
abbrev pub returned : State → List ℕ → State
returned s ram = with_core s s.a (low_byte s ram + high_byte s ram % 16 * 256) (with_sp s.psw (sp_below s))

-- "RETR also PSW 4-7, and ends service."
abbrev pub restored : State → List ℕ → State
restored s ram =
    with_interrupts
    (with_core s s.a (low_byte s ram + high_byte s ram % 16 * 256) (high_byte s ram / 16 * 16 + s.psw / 8 % 2 * 8 + sp_below s))
    (record { external = s.interrupts.external; tcnti = s.interrupts.tcnti; service = false })
