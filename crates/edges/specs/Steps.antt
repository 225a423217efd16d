-- Document 02, item 3, as steps: every conditional jump, MOVP, MOVP3 and JMPP with its first byte at the last address of a page, at each of
-- the edges of isa's table and in each size of program that has both bytes; in the chip's program, in the second one, or in both (item 7).
-- Assumes nothing.
use Rattle.std.specs.Prelude.{ℕ, zero, suc, ◌+◌, ◌*◌, ◌-◌, ◌/◌, ◌^◌, Bool, true, false, ◌&&◌, ◌≡◌, ltb, length, set}
use mathlib.Core.List.{List, [], ◌∷◌, ◌++◌, flat_map}
use Rattle.isa.specs.Choice.{pick}
use Rattle.isa.specs.Edges.{Edge, edges}
use Rattle.machine.specs.Rom.{Roms, visible}
use Rattle.machine.specs.State.{power_up, with_pc, with_flags, with_count}
use Rattle.machine.specs.declared.State.{State}
use Rattle.chip.specs.Admission.{program_allowed, outside_allowed}
use Rattle.chip.specs.Cases.{Case, times, idle, blank, a, pc, number, with}
use Rattle.chip.specs.Run.{run_of}

-- A chip that an instruction meets: its state, RAM, and the first of the step's samples.
pub record Chip : Type 0 where
  pub state : State
  pub ram : List ℕ
  pub sample : ℕ

abbrev pub of_state : State → Chip
of_state s = record { state = s; ram = blank; sample = idle }

abbrev pub of_sample : ℕ → Chip
of_sample sample = record { state = power_up; ram = blank; sample = sample }

abbrev pub of_register : ℕ → ℕ → Chip
of_register r v = record { state = power_up; ram = set blank r v; sample = idle }

abbrev pub with_f1 : State
with_f1 = with_flags power_up true power_up.dbf power_up.clock

abbrev pub with_tf : State
with_tf =
    with_count power_up (record { t = power_up.t; divider = power_up.divider; tf = true; request = power_up.request; last = power_up.last })

-- A conditional jump: its code, a chip where it jumps, and one where it does not.
pub record Jump : Type 0 where
  pub code : ℕ
  pub jumping : Chip
  pub passing : Chip

abbrev pub jump : ℕ → Chip → Chip → Jump
jump code jumping passing = record { code = code; jumping = jumping; passing = passing }

abbrev pub up_to8 : List ℕ
up_to8 = 0 ∷ 1 ∷ 2 ∷ 3 ∷ 4 ∷ 5 ∷ 6 ∷ 7 ∷ []

abbrev pub jumps : List Jump
jumps =
    -- JC, JNC
    jump 0xF6 (of_state (with 0 0x88)) (of_state (with 0 0x08)) ∷
    jump 0xE6 (of_state (with 0 0x08)) (of_state (with 0 0x88)) ∷
    -- JZ, JNZ
    jump 0xC6 (of_state (with 0 0x08)) (of_state (with 1 0x08)) ∷
    jump 0x96 (of_state (with 1 0x08)) (of_state (with 0 0x08)) ∷
    -- JF0, JF1, JTF
    jump 0xB6 (of_state (with 0 0x28)) (of_state (with 0 0x08)) ∷
    jump 0x76 (of_state with_f1) (of_state power_up) ∷
    jump 0x16 (of_state with_tf) (of_state power_up) ∷
    -- JT0, JNT0
    jump 0x36 (of_sample idle) (of_sample 0x0DFF_FFFF) ∷
    jump 0x26 (of_sample 0x0DFF_FFFF) (of_sample idle) ∷
    -- JT1, JNT1
    jump 0x56 (of_sample idle) (of_sample 0x0BFF_FFFF) ∷
    jump 0x46 (of_sample 0x0BFF_FFFF) (of_sample idle) ∷
    -- JNI
    jump 0x86 (of_sample 0x0EFF_FFFF) (of_sample idle) ∷
    -- JB0 to JB7, DJNZ R0 to DJNZ R7
    flat_map (λ b. jump (0x12 + 0x20 * b) (of_state (with (2 ^ b) 0x08)) (of_state (with (0xFF - 2 ^ b) 0x08)) ∷ []) up_to8
    ++ flat_map (λ r. jump (0xE8 + r) (of_register r 2) (of_register r 1) ∷ []) up_to8

-- A program of n pages, from page p on, that has at 34 of each page a byte of its own, A0 in page 0 to AF in page F, and NOP elsewhere.
abbrev pub marked : ℕ → ℕ → List ℕ
marked p zero = []
marked p (suc n) = times 0x34 0 ++ ((0xA0 + p) ∷ times 0xCB 0) ++ marked (suc p) n

-- A sample with EA, low in it, at a level.
abbrev pub with_ea : Bool → ℕ → ℕ
with_ea false sample = sample
with_ea true sample = 2 ^ 28 + sample

-- One step that sees such a program with a code at the edge, and 34 at the next PC; A and PC after it.
abbrev pub at : Bool → ℕ → Edge → ℕ → Chip → ℕ → ℕ → Case
at ea n e code c accumulator address =
    record {
      program = set (set (marked 0 n) e.first code) e.next 0x34;
      ram = c.ram;
      state = with_pc c.state e.first;
      samples = with_ea ea c.sample ∷ with_ea ea idle ∷ [];
      look = λ r. number r ∷ a r ∷ pc r ∷ [];
      want = 0 ∷ accumulator ∷ address ∷ [];
    }

abbrev pub jumps_at : Bool → ℕ → Edge → List Case
jumps_at ea n e =
    flat_map
    (λ j. at ea n e j.code j.jumping j.jumping.state.a e.branch
    ∷ at ea n e j.code j.passing j.passing.state.a (e.next + 1) ∷ [])
    jumps

-- MOVP and MOVP3 take the byte of the page that they read into A. JMPP goes to the address in its own page that such a byte gives.
abbrev pub tables_at : Bool → ℕ → Edge → List Case
tables_at ea n e =
    at ea n e 0xA3 (of_state (with 0x34 0x08)) (0xA0 + e.movp / 256) e.next ∷
    at ea n e 0xE3 (of_state (with 0x34 0x08)) (0xA0 + e.movp3 / 256) e.next ∷
    at ea n e 0xB3 (of_state (with 0x34 0x08)) 0x34 (e.jmpp / 256 * 256 + 0xA0 + e.jmpp / 256) ∷
    []

abbrev pub cases_of : Bool → ℕ → List Case
cases_of ea n =
    flat_map (λ e. pick (ltb e.first (256 * n) && ltb e.next (256 * n)) (jumps_at ea n e ++ tables_at ea n e) []) edges

-- With EA low, programs of 1,024, 2,048 and 4,096 bytes; with EA high the second one, which has 4,096.
abbrev pub edge_cases : Bool → List Case
edge_cases false = cases_of false 4 ++ cases_of false 8 ++ cases_of false 16
edge_cases true = cases_of true 16

-- What is seen of a case in a program memory.
abbrev pub seen_in : Roms → Case → List ℕ
seen_in roms c = c.look (run_of roms c.ram c.state c.samples)

-- A memory that may be lent, and in which a step sees a case's program, EA being at a level: wherever its bytes stand.
pub record Holds (ea : Bool) (roms : Roms) (c : Case) : Type 0 where
  pub inside : program_allowed (length roms.inside) ≡ true
  pub outside : outside_allowed (length roms.outside) ≡ true
  pub sees : visible roms.inside roms.outside ea ≡ c.program

-- The case is one of these.
pub data In (c : Case) : List Case → Type 0 where
  here : {cs : List Case} → In c (c ∷ cs)
  later : {d : Case} {cs : List Case} → In c cs → In c (d ∷ cs)
