-- Jumps, and table bytes; base is the address of the instruction's first byte.
-- Assumes nothing.
use Rattle.std.specs.Prelude.{ℕ, ◌+◌, ◌/◌, ◌%◌, ◌^◌, Bool, false, not, ◌&&◌, List, eqb, Result, Ok, Err}
use Rattle.isa.specs.Choice.{pick}
use Rattle.isa.specs.Pages.{in_page, branch_target}
use Rattle.isa.specs.Reading.{lacks, byte_at}
use Rattle.isa.specs.declared.Condition.{Condition}
use Rattle.isa.specs.declared.Condition.TheVariants.{Jb, Jc, Jf0, Jf1, Jnc, Jni, Jnt0, Jnt1, Jnz, Jtf, Jt0, Jt1, Jz}
use Rattle.isa.specs.declared.Refusal.{Refusal}
use Rattle.isa.specs.declared.Refusal.TheVariants.{PastEnd}
use Rattle.machine.specs.State.{with_a, with_pc, with_count}
use Rattle.machine.specs.declared.State.{State}
use Rattle.effects.specs.Effect.{Effect}
use Rattle.effects.specs.Moves.{quiet, stored, lacking}
use Rattle.machine.specs.Pins.{t0_pin, t1_pin, int_pin, is_high, is_low}
use Rattle.machine.specs.Psw.{bit_c, bit_f0}

-- "JMP and CALL put DBF in bit 11, or 0 while in service."
abbrev pub far_target : State → ℕ → ℕ
far_target s a = pick (s.dbf && not s.interrupts.service) (a % 2048 + 2048) (a % 2048)

abbrev pub jump_if : Bool → State → ℕ → ℕ → State
jump_if taken s base d = pick taken (with_pc s (branch_target base d)) s

-- "JTF jumps if TF is set and clears it."
abbrev pub without_tf : State → State
without_tf s = with_count s (record { t = s.t; divider = s.divider; tf = false; request = s.request; last = s.last })

-- "Tests of T0, T1 and INT use the first sample." (A code holds a bit from 0 to 7; % 8 makes the definition total.)
abbrev pub branched : Condition → State → ℕ → ℕ → ℕ → State
branched (Jb b) s base d first = jump_if (eqb (s.a / 2 ^ (b % 8) % 2) 1) s base d
branched Jc s base d first = jump_if (eqb (bit_c s.psw) 1) s base d
branched Jf0 s base d first = jump_if (eqb (bit_f0 s.psw) 1) s base d
branched Jf1 s base d first = jump_if s.f1 s base d
branched Jnc s base d first = jump_if (eqb (bit_c s.psw) 0) s base d
branched Jni s base d first = jump_if (is_low int_pin first) s base d
branched Jnt0 s base d first = jump_if (is_low t0_pin first) s base d
branched Jnt1 s base d first = jump_if (is_low t1_pin first) s base d
branched Jnz s base d first = jump_if (not (eqb s.a 0)) s base d
branched Jtf s base d first = jump_if s.tf (without_tf s) base d
branched Jt0 s base d first = jump_if (is_high t0_pin first) s base d
branched Jt1 s base d first = jump_if (is_high t1_pin first) s base d
branched Jz s base d first = jump_if (eqb s.a 0) s base d

-- DJNZ: it subtracts, as + 255 modulo 256, and jumps if the register is not 0 then. ("001 prints DJNZ with a plus; it subtracts.")
abbrev pub decremented : State → List ℕ → ℕ → ℕ → ℕ → Effect
decremented s ram at base d =
    stored (jump_if (not (eqb ((byte_at ram at + 255) % 256) 0)) s base d) at ((byte_at ram at + 255) % 256)

-- The byte at an address of a table, or 5.
unfoldable pub table_byte : List ℕ → ℕ → Result ℕ Refusal
table_byte program at = pick (lacks program at) (Err PastEnd) (Ok (byte_at program at))

-- MOVP and MOVP3 from a table byte's address; refused, the state is the one that the step got, whose PC is base.
abbrev pub table_loaded : List ℕ → State → ℕ → ℕ → Effect
table_loaded program s base at = pick (lacks program at) (lacking (with_pc s base)) (quiet (with_a s (byte_at program at)))

abbrev pub table_jumped : List ℕ → State → ℕ → ℕ → Effect
table_jumped program s base at =
    pick (lacks program at) (lacking (with_pc s base)) (quiet (with_pc s (in_page base (byte_at program at))))
