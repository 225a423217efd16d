-- The owner's story as a small program: it waits in a loop of two-cycle jumps, the timer running and its interrupt enabled.
-- Assumes nothing.
use Rattle.std.specs.Prelude.{ℕ, Bool, List, ◌∷◌}
use Rattle.isa.specs.declared.Set.{Set}
use Rattle.machine.specs.Rom.{alone}
use Rattle.machine.specs.State.{power_up}
use Rattle.chip.specs.Cases.{times, idle, blank}
use Rattle.chip.specs.Run.{Ended, run_of}

-- The NOP makes the overflow fall into the first cycle of a jump.
abbrev pub waits : List ℕ
waits =
    -- 000  JMP 008H
    0x04 ∷ 0x08 ∷ 0 ∷ 0 ∷ 0 ∷ 0 ∷ 0 ∷
    -- 007  RETR
    0x93 ∷
    -- 008  MOV A,#0FFH · MOV T,A · EN TCNTI · STRT T · NOP
    0x23 ∷ 0xFF ∷ 0x62 ∷ 0x25 ∷ 0x55 ∷ 0x00 ∷
    -- 00E  JMP 00EH
    0x04 ∷ 0x0E ∷ times 1008 0

-- The run of it under a set from power-up, all pins high, over n samples.
abbrev pub waited : Set → ℕ → Ended
waited set n = run_of (alone set waits) blank power_up (times n idle)

-- What is seen at the end of a run.
pub record Sight : Type 0 where
  pub number : ℕ
  pub cycles : ℕ
  pub pc : ℕ
  pub t : ℕ
  pub tf : Bool
  pub request : Bool
  pub service : Bool

abbrev pub sight : Ended → Sight
sight e =
    record {
      number = e.ran.number;
      cycles = e.ran.cycles;
      pc = e.ran.state.pc;
      t = e.ran.state.t;
      tf = e.ran.state.tf;
      request = e.ran.state.request;
      service = e.ran.state.interrupts.service;
    }
