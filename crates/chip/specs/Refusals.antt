-- Document 01's table of numbers for a step, row by row and in its order: "Given exactly when".
-- Assumes nothing.
use Rattle.std.specs.Prelude.{ℕ, ◌≤◌, ◌<◌, Bool, true, false, ◌&&◌, List, ◌≡◌, eqb, length}
use Rattle.isa.specs.Numbers.{given}
use Rattle.isa.specs.Pages.{movp_address, jmpp_address, movp3_address}
use Rattle.isa.specs.Reading.{under, sized, next_pc, entry_at, instruction_at}
use Rattle.isa.specs.declared.Instruction.{Instruction}
use Rattle.isa.specs.declared.Instruction.TheVariants.{Jmpp, Movp, Movp3}
use Rattle.machine.specs.Mode.{is_waiting}
use Rattle.machine.specs.Pins.{reset_pin, ea_pin, is_high, is_low}
use Rattle.machine.specs.Rom.{Roms, fetched, seen_by}
use Rattle.machine.specs.State.{permitted}
use Rattle.machine.specs.declared.State.{State}
use Rattle.chip.specs.Admission.{program_allowed, outside_allowed, ram_allowed, sample_allowed, admission}
use Rattle.chip.specs.Step.{external_calls, timer_calls, refused_by, Outcome}

-- The step comes to fetch: none of 1, 2, 3, 6, no reset, no wait and no interrupt call.
pub record Fetches (roms : Roms) (ram : List ℕ) (s : State) (first second : ℕ) : Type 0 where
  pub admitted : admission roms ram s first second ≡ 0
  pub no_reset : is_low reset_pin first ≡ false
  pub no_wait : is_waiting s.mode ≡ false
  pub no_external : external_calls s first ≡ false
  pub no_timer : timer_calls s ≡ false

-- MOVP, MOVP3 and JMPP, at the address base, take a table byte that A points to: where it stands.
pub data TableByte (base a : ℕ) : Instruction → ℕ → Type 0 where
  of_movp : TableByte base a Movp (movp_address base a)
  of_movp3 : TableByte base a Movp3 (movp3_address base a)
  of_jmpp : TableByte base a Jmpp (jmpp_address base a)

-- The memory that must answer lacks the byte at an address.
abbrev pub lacking : Roms → ℕ → ℕ → Bool
lacking roms first a = (fetched roms.inside roms.outside (is_high ea_pin first) a).lacking

-- The step gives the number.
pub data Gives (roms : Roms) (ram : List ℕ) (s : State) (first second : ℕ) : ℕ → Type 0 where
  program_length : program_allowed (length roms.inside) ≡ false → Gives roms ram s first second 1
  outside_length :
      program_allowed (length roms.inside) ≡ true → outside_allowed (length roms.outside) ≡ false → Gives roms ram s first second 1
  ram-length :
      program_allowed (length roms.inside) ≡ true → outside_allowed (length roms.outside) ≡ true → ram_allowed (length ram) ≡ false
      → Gives roms ram s first second 2
  state_outside :
      program_allowed (length roms.inside) ≡ true → outside_allowed (length roms.outside) ≡ true → ram_allowed (length ram) ≡ true
      → permitted roms.set s ≡ false → Gives roms ram s first second 3
  sample_bits :
      program_allowed (length roms.inside) ≡ true → outside_allowed (length roms.outside) ≡ true → ram_allowed (length ram) ≡ true
      → permitted roms.set s ≡ true → (sample_allowed first && sample_allowed second) ≡ false → Gives roms ram s first second 6
  no_first_byte : Fetches roms ram s first second → lacking roms first s.pc ≡ true → Gives roms ram s first second 5
  undefined_code :
      Fetches roms ram s first second → lacking roms first s.pc ≡ false → eqb (entry_at (seen_by roms first) s.pc).bytes 0 ≡ true
      → Gives roms ram s first second 4
  no_second_byte :
      Fetches roms ram s first second → lacking roms first s.pc ≡ false → eqb (entry_at (seen_by roms first) s.pc).bytes 0 ≡ false
      → eqb (entry_at (seen_by roms first) s.pc).bytes 1 ≡ false → lacking roms first (next_pc s.pc) ≡ true
      → Gives roms ram s first second 5
  no_table_byte :
      (i : Instruction) (n at : ℕ) → Fetches roms ram s first second → instruction_at (seen_by roms first) s.pc ≡ given (sized i n)
      → TableByte s.pc s.a i at → lacking roms first at ≡ true → Gives roms ram s first second 5

-- EA is low, and the bytes that the instruction at PC takes, its first, its second and its table byte, are all in the chip. What stands there
-- is told by the reader's definition, of the first program alone.
pub record StaysInside (roms : Roms) (s : State) (first : ℕ) : Type 0 where
  pub ea_low : is_high ea_pin first ≡ false
  pub first_byte : s.pc < length roms.inside
  pub second_byte : (entry_at (under roms.set roms.inside) s.pc).bytes ≡ 2 → next_pc s.pc < length roms.inside
  pub table_byte :
      (i : Instruction) (n at : ℕ) → instruction_at (under roms.set roms.inside) s.pc ≡ given (sized i n) → TableByte s.pc s.a i at
      → at < length roms.inside

-- The first demand: every step is answered. It is accepted, takes one cycle or two and uses as many samples; or the machine is halted or
-- stopped, and it takes no cycle and uses one sample; or it carries a number of the table, spends no cycle, uses no sample, gives no event,
-- reports no byte from outside, and returns the state and RAM exactly as they came.
pub data Answered (roms : Roms) (ram : List ℕ) (s : State) (first second : ℕ) (r : Outcome) (left : List ℕ) : Type 0 where
  taken : r.number ≡ 0 → 1 ≤ r.cycles → r.cycles ≤ 2 → r.used ≡ r.cycles → Answered roms ram s first second r left
  waited : r.number ≡ 0 → is_waiting s.mode ≡ true → r.cycles ≡ 0 → r.used ≡ 1 → Answered roms ram s first second r left
  unchanged :
      (n : ℕ) → Gives roms ram s first second n → r ≡ refused_by n s → left ≡ ram
      → Answered roms ram s first second r left
