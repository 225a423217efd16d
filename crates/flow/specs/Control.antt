-- Flags, and what sets something in the machine.
-- Assumes nothing.
use Rattle.std.specs.Prelude.{ℕ, ◌-◌, Bool, true, false, not, ◌&&◌}
use Rattle.isa.specs.Choice.{pick}
use Rattle.isa.specs.declared.Flag.{Flag}
use Rattle.isa.specs.declared.Flag.TheVariants.{FlagC, FlagF0, FlagF1}
use Rattle.isa.specs.declared.Switch.{Switch}
use Rattle.isa.specs.declared.Switch.TheVariants.{EnI, DisI, Ent0Clk, SelMb0, SelMb1, SelRb0, SelRb1, EnTcnti, DisTcnti, StopTcnt, StrtCnt, StrtT}
use Rattle.machine.specs.Pins.{int_pin, is_low}
use Rattle.machine.specs.State.{with_psw, with_flags, with_count, with_counting, with_interrupts, with_mode}
use Rattle.machine.specs.declared.Counting.TheVariants.{Stopped, Timer, Counter}
use Rattle.machine.specs.declared.Mode.{Mode}
use Rattle.machine.specs.declared.State.{State}
use Rattle.effects.specs.Effect.{Effect}
use Rattle.effects.specs.Moves.{quiet, started}
use Rattle.machine.specs.Psw.{bit_c, bit_f0, with_c, with_f0, with_bs}

abbrev pub with_f1 : State → Bool → State
with_f1 s f1 = with_flags s f1 s.dbf s.clock

abbrev pub with_dbf : State → Bool → State
with_dbf s dbf = with_flags s s.f1 dbf s.clock

abbrev pub cleared : Flag → State → State
cleared FlagC s = with_psw s (with_c s.psw 0)
cleared FlagF0 s = with_psw s (with_f0 s.psw 0)
cleared FlagF1 s = with_f1 s false

abbrev pub complemented : Flag → State → State
complemented FlagC s = with_psw s (with_c s.psw (1 - bit_c s.psw))
complemented FlagF0 s = with_psw s (with_f0 s.psw (1 - bit_f0 s.psw))
complemented FlagF1 s = with_f1 s (not s.f1)

-- EN I and DIS I: the enable alone.
abbrev pub external_enabled : Bool → State → State
external_enabled on s =
    with_interrupts s (record { external = on; tcnti = s.interrupts.tcnti; service = s.interrupts.service })

-- EN TCNTI and DIS TCNTI. "DIS TCNTI drops a stored request"; EN TCNTI leaves it.
abbrev pub tcnti_enabled : Bool → State → State
tcnti_enabled on s =
    with_interrupts
    (with_count s (record { t = s.t; divider = s.divider; tf = s.tf; request = s.request && on; last = s.last }))
    (record { external = s.interrupts.external; tcnti = on; service = s.interrupts.service })

-- "STRT T zeroes the divider."
abbrev pub switched : Switch → State → Effect
switched EnI s = quiet (external_enabled true s)
switched DisI s = quiet (external_enabled false s)
switched Ent0Clk s = quiet (with_flags s s.f1 s.dbf true)
switched SelMb0 s = quiet (with_dbf s false)
switched SelMb1 s = quiet (with_dbf s true)
switched SelRb0 s = quiet (with_psw s (with_bs s.psw 0))
switched SelRb1 s = quiet (with_psw s (with_bs s.psw 1))
switched EnTcnti s = quiet (tcnti_enabled true s)
switched DisTcnti s = quiet (tcnti_enabled false s)
switched StopTcnt s = quiet (with_counting s Stopped s.divider)
switched StrtCnt s = started (with_counting s Counter s.divider)
switched StrtT s = started (with_counting s Timer 0)

-- HALT and STOP: the machine is halted or stopped. "HALT carried out with INT low in the first sample isn't entered; for STOP we choose the
-- same" (document 02, item 2).
abbrev pub standing_by : State → Mode → ℕ → State
standing_by s mode first = pick (is_low int_pin first) s (with_mode s mode)
