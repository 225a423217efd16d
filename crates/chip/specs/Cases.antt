-- Document 01, "The sixteen bench cases", as one table: what is run, where one looks, and what is to be seen there.
-- Assumes nothing.
use Rattle.std.specs.Prelude.{ℕ, zero, suc, ◌-◌, true, List, [], ◌∷◌, ◌++◌, length, get_or, set}
use Rattle.isa.specs.Choice.{one_if}
use Rattle.isa.specs.declared.Set.{Set}
use Rattle.machine.specs.Rom.{alone}
use Rattle.machine.specs.State.{power_up, with_core, with_pc, with_psw, with_flags, with_count, with_interrupts, with_ports}
use Rattle.machine.specs.declared.State.{State}
use Rattle.machine.specs.Psw.{bit_c, bit_ac, sp}
use Rattle.chip.specs.Run.{Ended, run_of}

pub record Case : Type 0 where
  pub program : List ℕ
  pub ram : List ℕ
  pub state : State
  pub samples : List ℕ
  pub look : Ended → List ℕ
  pub want : List ℕ

-- What is seen under a set, no second program being lent.
abbrev pub seen : Set → Case → List ℕ
seen set c = c.look (run_of (alone set c.program) c.ram c.state c.samples)

abbrev pub times : ℕ → ℕ → List ℕ
times zero x = []
times (suc n) x = x ∷ times n x

-- A program of n bytes that has some bytes at an address and NOP everywhere else.
abbrev pub holding : ℕ → ℕ → List ℕ → List ℕ
holding n at bytes = times at 0 ++ bytes ++ times (n - at - length bytes) 0

-- All pins high.
abbrev pub idle : ℕ
idle = 0x0FFF_FFFF

abbrev pub blank : List ℕ
blank = times 128 0

-- One step from address 0, with some bytes there.
abbrev pub one : List ℕ → State → (Ended → List ℕ) → List ℕ → Case
one bytes s look want =
    record { program = holding 1024 0 bytes; ram = blank; state = s; samples = idle ∷ idle ∷ []; look = look; want = want }

-- One step of a program, at the state's PC.
abbrev pub step : List ℕ → State → (Ended → List ℕ) → List ℕ → Case
step program s look want =
    record { program = program; ram = blank; state = s; samples = idle ∷ idle ∷ []; look = look; want = want }

-- Where one looks.
abbrev pub a : Ended → ℕ
a e = e.ran.state.a

abbrev pub c : Ended → ℕ
c e = bit_c e.ran.state.psw

abbrev pub ac : Ended → ℕ
ac e = bit_ac e.ran.state.psw

abbrev pub pc : Ended → ℕ
pc e = e.ran.state.pc

abbrev pub number : Ended → ℕ
number e = e.ran.number

abbrev pub counter : Ended → List ℕ
counter e = e.ran.state.t ∷ one_if e.ran.state.tf ∷ []

-- The states that the cases start from.
abbrev pub with : ℕ → ℕ → State
with a psw = with_core power_up a 0 psw

abbrev pub counting_from : ℕ → State
counting_from t =
    with_count power_up (record { t = t; divider = power_up.divider; tf = power_up.tf; request = power_up.request; last = power_up.last })

abbrev pub upper_bank : State
upper_bank = with_flags power_up power_up.f1 true power_up.clock

abbrev pub in_service : State → State
in_service s = with_interrupts s (record { external = s.interrupts.external; tcnti = s.interrupts.tcnti; service = true })

abbrev pub latched : ℕ → State
latched p1 =
    with_ports power_up (record { p1 = p1; p2 = power_up.ports.p2; bus = power_up.ports.bus; driven = power_up.ports.driven })

-- Cases 10 and 14 have two rows each.
abbrev pub cases : List Case
cases =
    -- 1. 03 A6, A=5A: A=00, C=1, AC=1.
    one (0x03 ∷ 0xA6 ∷ []) (with 0x5A 0x08) (λ e. a e ∷ c e ∷ ac e ∷ []) (0x00 ∷ 1 ∷ 1 ∷ []) ∷
    -- 2. 13 00, A=0F, C=1: A=10, C=0, AC=1.
    one (0x13 ∷ 0x00 ∷ []) (with 0x0F 0x88) (λ e. a e ∷ c e ∷ ac e ∷ []) (0x10 ∷ 0 ∷ 1 ∷ []) ∷
    -- 3. DA, A=9B, C=AC=0: A=01, C=1.
    one (0x57 ∷ []) (with 0x9B 0x08) (λ e. a e ∷ c e ∷ []) (0x01 ∷ 1 ∷ []) ∷
    -- 4. DA, A=FA, C=AC=0: A=60, C=1.
    one (0x57 ∷ []) (with 0xFA 0x08) (λ e. a e ∷ c e ∷ []) (0x60 ∷ 1 ∷ []) ∷
    -- 5. RLC, A=80, C=0: A=00, C=1.
    one (0xF7 ∷ []) (with 0x80 0x08) (λ e. a e ∷ c e ∷ []) (0x00 ∷ 1 ∷ []) ∷
    -- 6. 74 00 at 100, DBF=0, SP=7, PSW high digit 0: RAM 22=02, RAM 23=01, SP=0, PC=300.
    step (holding 1024 0x100 (0x74 ∷ 0x00 ∷ [])) (with_psw (with_pc power_up 0x100) 0x0F)
    (λ e. get_or e.ram 22 0 ∷ get_or e.ram 23 0 ∷ sp e.ran.state.psw ∷ pc e ∷ []) (0x02 ∷ 0x01 ∷ 0 ∷ 0x300 ∷ []) ∷
    -- 7. NOP at 7FF: PC=000.
    step (holding 2048 0 []) (with_pc power_up 0x7FF) (λ e. pc e ∷ []) (0x000 ∷ []) ∷
    -- 8. NOP at FFF: PC=800.
    step (holding 4096 0 []) (with_pc power_up 0xFFF) (λ e. pc e ∷ []) (0x800 ∷ []) ∷
    -- 9. Code 66: refusal 4.
    one (0x66 ∷ []) power_up (λ e. number e ∷ []) (4 ∷ []) ∷
    -- 10. T=FF, STRT T, 31 NOPs: T=FF, TF=0. One more: T=00, TF=1.
    record { program = holding 1024 0 (0x55 ∷ []); ram = blank; state = counting_from 0xFF; samples = times 33 idle; look = counter; want = 0xFF ∷ 0 ∷ [] } ∷
    record { program = holding 1024 0 (0x55 ∷ []); ram = blank; state = counting_from 0xFF; samples = times 34 idle; look = counter; want = 0x00 ∷ 1 ∷ [] } ∷
    -- 11. PSW 08, MOV A,PSW: A=08.
    one (0xC7 ∷ []) (with 0x00 0x08) (λ e. a e ∷ []) (0x08 ∷ []) ∷
    -- 12. XCHD, A=12, cell 34: A=14, cell 32.
    record {
      program = holding 1024 0 (0x30 ∷ []);
      ram = set (set blank 0 40) 40 0x34;
      state = with 0x12 0x08;
      samples = idle ∷ idle ∷ [];
      look = λ e. a e ∷ get_or e.ram 40 0 ∷ [];
      want = 0x14 ∷ 0x32 ∷ [];
    } ∷
    -- 13. IN A,P1, latch F0, pins 3C: A=30.
    record { program = holding 1024 0 (0x09 ∷ []); ram = blank; state = latched 0xF0; samples = idle ∷ 0x0FFF_3CFF ∷ []; look = λ e. a e ∷ []; want = 0x30 ∷ [] } ∷
    -- 14. JMP 123 with DBF=1: 923; in service 123.
    one (0x24 ∷ 0x23 ∷ []) upper_bank (λ e. pc e ∷ []) (0x923 ∷ []) ∷
    one (0x24 ∷ 0x23 ∷ []) (in_service upper_bank) (λ e. pc e ∷ []) (0x123 ∷ []) ∷
    -- 15. Program of 1,000 bytes: 1.
    step (times 1000 0) power_up (λ e. number e ∷ []) (1 ∷ []) ∷
    -- 16. 1,024 bytes, 03 at 3FF: 5.
    step (holding 1024 0x3FF (0x03 ∷ [])) (with_pc power_up 0x3FF) (λ e. number e ∷ []) (5 ∷ []) ∷
    []
