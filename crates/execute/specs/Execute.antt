-- What each instruction does.
-- Assumes nothing.
use Rattle.std.specs.Prelude.{ℕ, ◌+◌, ◌*◌, ◌/◌, ◌%◌, List}
use Rattle.isa.specs.Pages.{movp_address, jmpp_address, movp3_address}
use Rattle.isa.specs.Reading.{byte_at}
use Rattle.isa.specs.declared.Instruction.{Instruction}
use Rattle.isa.specs.declared.Instruction.TheVariants.{Alu, Accumulator, Djnz, Branch, Jmp, Jmpp, Control, MovA, Mov, MovData, MovAPsw, MovPswA, Movp, Movp3, MovxRead, MovxWrite, Xch, Xchd, Cpl, Clr, Logic, In, Outl, Expander, Dec, Inc, Call, Ret, Retr, MovAT, MovTA, Nop, Halt, Stop}
use Rattle.machine.specs.State.{with_a, with_pc, with_psw, with_count}
use Rattle.machine.specs.declared.Mode.TheVariants.{HaltMode, StopMode}
use Rattle.machine.specs.declared.State.{State}
use Rattle.accumulator.specs.Accumulator.{operated, changed}
use Rattle.effects.specs.Effect.{Effect}
use Rattle.effects.specs.Memory.{register_at, indirect_at, place_of, source_of}
use Rattle.effects.specs.Moves.{quiet, stored, signalled, exchanged, digits_exchanged, raised}
use Rattle.machine.specs.Pins.{bus_pins}
use Rattle.effects.specs.Ports.{input, latch_of, output, joined, expander_moved}
use Rattle.effects.specs.declared.Event.TheVariants.{ExternalRead, ExternalWrite}
use Rattle.flow.specs.Control.{cleared, complemented, switched, standing_by}
use Rattle.flow.specs.Jumps.{far_target, branched, decremented, table_loaded, table_jumped}
use Rattle.flow.specs.Stack.{pushed, returned, restored}

-- "MOV T,A" leaves the divider.
abbrev pub with_t : State → ℕ → State
with_t s t = with_count s (record { t = t; divider = s.divider; tf = s.tf; request = s.request; last = s.last })

-- The effect of an instruction whose first byte is at base, on a state whose PC is past it already. "Tests of T0, T1 and INT use the
-- first sample; ports and BUS the second." MOV PSW,A leaves bit 3 at 1: "3 always 1 (after MOV PSW,A too)". "MOVX gives an event with the
-- register's whole 8 bits as address and, writing, data; reading takes BUS. Latch and drive flag stay."
unfoldable pub executed : Instruction → List ℕ → List ℕ → State → ℕ → ℕ → ℕ → Effect
executed (Alu op from) program ram s base first second = quiet (operated op (source_of from ram s.psw) s)
executed (Accumulator op) program ram s base first second = quiet (changed op s)
executed (Djnz r d) program ram s base first second = decremented s ram (register_at s.psw r) base d
executed (Branch c d) program ram s base first second = quiet (branched c s base d first)
executed (Jmp a) program ram s base first second = quiet (with_pc s (far_target s a))
executed Jmpp program ram s base first second = table_jumped program s base (jmpp_address base s.a)
executed (Control op) program ram s base first second = switched op s
executed (MovA from) program ram s base first second = quiet (with_a s (source_of from ram s.psw))
executed (Mov to) program ram s base first second = stored s (place_of to ram s.psw) s.a
executed (MovData to d) program ram s base first second = stored s (place_of to ram s.psw) d
executed MovAPsw program ram s base first second = quiet (with_a s s.psw)
executed MovPswA program ram s base first second = quiet (with_psw s (s.a / 16 * 16 + 8 + s.a % 8))
executed Movp program ram s base first second = table_loaded program s base (movp_address base s.a)
executed Movp3 program ram s base first second = table_loaded program s base (movp3_address base s.a)
executed (MovxRead r) program ram s base first second =
    signalled (with_a s (bus_pins second)) (ExternalRead (byte_at ram (register_at s.psw r)))
executed (MovxWrite r) program ram s base first second = signalled s (ExternalWrite (byte_at ram (register_at s.psw r)) s.a)
executed (Xch with) program ram s base first second = exchanged s ram (place_of with ram s.psw)
executed (Xchd r) program ram s base first second = digits_exchanged s ram (indirect_at ram s.psw r)
executed (Cpl f) program ram s base first second = quiet (complemented f s)
executed (Clr f) program ram s base first second = quiet (cleared f s)
executed (Logic op l d) program ram s base first second = quiet (output l s (joined op (latch_of l s) d))
executed (In l) program ram s base first second = quiet (input l s second)
executed (Outl l) program ram s base first second = quiet (output l s s.a)
executed (Expander op p) program ram s base first second = expander_moved op p s second
executed (Dec r) program ram s base first second = raised s ram (register_at s.psw r) 255
executed (Inc c) program ram s base first second = raised s ram (place_of c ram s.psw) 1
executed (Call a) program ram s base first second = pushed s (far_target s a)
executed Ret program ram s base first second = quiet (returned s ram)
executed Retr program ram s base first second = quiet (restored s ram)
executed MovAT program ram s base first second = quiet (with_a s s.t)
executed MovTA program ram s base first second = quiet (with_t s s.a)
executed Nop program ram s base first second = quiet s
executed Halt program ram s base first second = quiet (standing_by s HaltMode first)
executed Stop program ram s base first second = quiet (standing_by s StopMode first)
