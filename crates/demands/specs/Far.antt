-- Document 02, item 7: cases that somebody with an EPROM beside the chip would try.
-- Assumes nothing.
use Rattle.std.specs.Prelude.{ℕ, true, false, List, [], ◌∷◌}
use Rattle.isa.specs.declared.Set.{Set}
use Rattle.machine.specs.Rom.{both}
use Rattle.machine.specs.State.{power_up, with_a, with_pc, with_count, with_interrupts}
use Rattle.machine.specs.declared.State.{State}
use Rattle.chip.specs.Cases.{times, holding, idle, blank}
use Rattle.chip.specs.Step.{step_of, Outcome}

-- One step, and what is to be seen of it: the number, the bytes from outside, A and PC.
pub record Case : Type 0 where
  pub inside : List ℕ
  pub outside : List ℕ
  pub state : State
  pub first : ℕ
  pub second : ℕ
  pub want : List ℕ

abbrev look : Outcome → List ℕ
look o = o.number ∷ o.outside ∷ o.state.a ∷ o.state.pc ∷ []

abbrev pub seen : Set → Case → List ℕ
seen set c = look (step_of (both set c.inside c.outside) blank c.state c.first c.second)

abbrev pub case : List ℕ → List ℕ → State → ℕ → ℕ → List ℕ → Case
case inside outside s first second want =
    record { inside = inside; outside = outside; state = s; first = first; second = second; want = want }

-- All pins high, EA too; the same with RESET low; a sample with bit 29.
abbrev pub ea_high : ℕ
ea_high = 0x1FFF_FFFF

abbrev pub ea_reset : ℕ
ea_reset = 0x17FF_FFFF

abbrev pub bit29 : ℕ
bit29 = 0x2FFF_FFFF

abbrev at : ℕ → State
at pc = with_pc power_up pc

-- A request is stored, and the timer's interrupt enabled.
abbrev asking : State
asking =
    with_interrupts (with_count power_up (record { t = 0; divider = 0; tf = true; request = true; last = true }))
    (record { external = false; tcnti = true; service = false })

-- MOV A,#11H at 000, in the chip; MOV A,#33H at 400, outside; NOP everywhere else.
abbrev near : List ℕ
near = holding 1024 0x000 (0x23 ∷ 0x11 ∷ [])

abbrev far : List ℕ
far = holding 4096 0x400 (0x23 ∷ 0x33 ∷ [])

-- In the chip, at 3FF, the first byte of MOV A,#; or MOVP.
abbrev edge : List ℕ
edge = holding 1024 0x3FF (0x23 ∷ [])

abbrev movp : List ℕ
movp = holding 1024 0x3FF (0xA3 ∷ [])

abbrev pub far_cases : List Case
far_cases =
    -- EA low and all inside: the second program is not looked at.
    case near far (at 0x000) idle idle (0 ∷ 0 ∷ 0x11 ∷ 0x002 ∷ []) ∷
    -- EA high: NOP, from outside. EA in the second sample alone does nothing.
    case near far (at 0x000) ea_high idle (0 ∷ 1 ∷ 0x00 ∷ 0x001 ∷ []) ∷
    case near far (at 0x000) idle ea_high (0 ∷ 0 ∷ 0x11 ∷ 0x002 ∷ []) ∷
    -- EA high, and no second program: 5, though the chip has the byte.
    case near [] (at 0x000) ea_high idle (5 ∷ 0 ∷ 0x00 ∷ 0x000 ∷ []) ∷
    -- Past the internal end, at the full address; and where nothing is there.
    case near far (at 0x400) idle idle (0 ∷ 2 ∷ 0x33 ∷ 0x402 ∷ []) ∷
    case near [] (at 0x400) idle idle (5 ∷ 0 ∷ 0x00 ∷ 0x400 ∷ []) ∷
    -- A two-byte code that crosses: its second byte, 23, is outside.
    case edge far (at 0x3FF) idle idle (0 ∷ 1 ∷ 0x23 ∷ 0x401 ∷ []) ∷
    case edge [] (at 0x3FF) idle idle (5 ∷ 0 ∷ 0x00 ∷ 0x3FF ∷ []) ∷
    -- MOVP at 3FF with A = 01 takes the byte at 401, which is outside; with EA high both its bytes are.
    case movp far (with_a (at 0x3FF) 0x01) idle idle (0 ∷ 1 ∷ 0x33 ∷ 0x400 ∷ []) ∷
    case near (holding 4096 0x000 (0xA3 ∷ 0x77 ∷ [])) (with_a (at 0x000) 0x01) ea_high idle (0 ∷ 2 ∷ 0x77 ∷ 0x001 ∷ []) ∷
    -- A reset and an interrupt call fetch nothing.
    case near far (at 0x400) ea_reset idle (0 ∷ 0 ∷ 0x00 ∷ 0x000 ∷ []) ∷
    case near far asking ea_high idle (0 ∷ 0 ∷ 0x00 ∷ 0x007 ∷ []) ∷
    -- Bit 29 is no pin; a second program has 4,096 bytes.
    case near far (at 0x000) bit29 idle (6 ∷ 0 ∷ 0x00 ∷ 0x000 ∷ []) ∷
    case near (times 1024 0) (at 0x000) idle idle (1 ∷ 0 ∷ 0x00 ∷ 0x000 ∷ []) ∷
    []
