-- Document 02, item 2: HALT and STOP. What a machine that is halted or stopped does over samples, and cases that somebody with the data sheet
-- would try.
-- Assumes nothing.
use Rattle.std.specs.Prelude.{ℕ, ◌+◌, Bool, true, false, List, [], ◌∷◌, ◌++◌, ◌⊎◌, ◌≡◌, replicate}
use Rattle.isa.specs.Choice.{one_if}
use Rattle.isa.specs.Numbers.{given}
use Rattle.isa.specs.Reading.{sized, entry_at, instruction_at}
use Rattle.isa.specs.Sets.{Standby}
use Rattle.isa.specs.declared.Instruction.{Instruction}
use Rattle.machine.specs.Pins.{int_pin, reset_pin, is_low}
use Rattle.machine.specs.Rom.{Roms, seen_by}
use Rattle.machine.specs.State.{power_up, with_count, with_counting, with_interrupts, with_mode, running_at}
use Rattle.machine.specs.declared.Counting.TheVariants.{Timer, Counter}
use Rattle.machine.specs.declared.Mode.{Mode}
use Rattle.machine.specs.declared.Mode.TheVariants.{Running, HaltMode, StopMode, Released}
use Rattle.machine.specs.declared.State.{State}
use Rattle.effects.specs.Effect.{Effect, written}
use Rattle.effects.specs.declared.Event.TheVariants.{Quiet}
use Rattle.execute.specs.Execute.{executed}
use Rattle.chip.specs.Admission.{sample_allowed}
use Rattle.chip.specs.Cases.{Case, times, holding, idle, blank, pc, number}
use Rattle.chip.specs.History.{course_at, plan_at, after}
use Rattle.chip.specs.Loop.{int_low}
use Rattle.chip.specs.Run.{Progress, Ended}
use Rattle.chip.specs.Step.{accepted, called, without_request, pc_after, settled}

-- ---- over samples
-- A sample that a halted or stopped machine takes no notice of: it is allowed, and RESET and INT are high.
pub record Unnoticed (sample : ℕ) : Type 0 where
  pub allowed : sample_allowed sample ≡ true
  pub no_reset : is_low reset_pin sample ≡ false
  pub no_int : is_low int_pin sample ≡ false

abbrev pub AllUnnoticed : List ℕ → Type 0
AllUnnoticed [] = Unit {0}
AllUnnoticed (x ∷ xs) = Unnoticed x × AllUnnoticed xs

-- How far a run has come n waits later: n samples more are used, in n steps without an event. RAM, machine cycles and the state are what they
-- were, T, divider and the stored request among it; only the mode is another, once the machine is released.
abbrev pub later : Progress → ℕ → Mode → Progress
later m n mode =
    record {
      ram = m.ram;
      state = with_mode m.state mode;
      used = m.used + n;
      cycles = m.cycles;
      events = m.events ++ replicate n Quiet;
    }

-- ---- one instruction after the release
-- The effect of the instruction i of n bytes at PC, where the machine was halted or stopped in the state s and is released.
abbrev pub resumed : Roms → List ℕ → State → Instruction → ℕ → ℕ → ℕ → Effect
resumed roms ram s i n first second =
    executed i (seen_by roms first).bytes ram (running_at (with_mode s Released) (pc_after n s.pc)) s.pc first second

-- A run over a sample that releases the machine and the two samples after it carried out exactly one instruction, the one at PC, and no
-- interrupt call. If that is neither HALT nor STOP the machine runs: the next step may be a call.
pub record OneInstruction (roms : Roms) (ram : List ℕ) (s : State) (first second : ℕ) (e : Ended) : Type 0 where
  pub instruction : Instruction
  pub bytes : ℕ
  pub stands : instruction_at (seen_by roms first) s.pc ≡ given (sized instruction bytes)
  pub number : e.ran.number ≡ 0
  pub state :
      e.ran.state
      ≡ settled (resumed roms ram s instruction bytes first second).state (entry_at (seen_by roms first) s.pc).cycles
      (resumed roms ram s instruction bytes first second).fresh first second
  pub memory : e.ram ≡ written ram (resumed roms ram s instruction bytes first second).write
  pub cycles : e.ran.cycles ≡ (entry_at (seen_by roms first) s.pc).cycles
  pub used : e.ran.used ≡ 1 + (entry_at (seen_by roms first) s.pc).cycles
  pub events : e.events ≡ Quiet ∷ (resumed roms ram s instruction bytes first second).event ∷ []
  pub runs : (Standby instruction → ⊥) → e.ran.state.mode ≡ Running

-- It did so, or it was refused by 4, 5 or 6.
pub data Resumes (roms : Roms) (ram : List ℕ) (s : State) (first second : ℕ) (e : Ended) : Type 0 where
  carried-out : OneInstruction roms ram s first second e → Resumes roms ram s first second e
  not_carried_out :
      (e.ran.number ≡ 4) ⊎ ((e.ran.number ≡ 5) ⊎ (e.ran.number ≡ 6)) → Resumes roms ram s first second e

-- The step is the call to location 7.
pub record Calls7 (roms : Roms) (k : Progress) (first second : ℕ) : Type 0 where
  pub call : course_at roms k first second ≡ accepted (called (without_request k.state) 7) 2
  pub fine : (plan_at roms k first second).number ≡ 0
  pub pc : (after roms k first second).state.pc ≡ 7
  pub service : (after roms k first second).state.interrupts.service ≡ true
  pub cycles : (plan_at roms k first second).cycles ≡ 2

-- ---- cases
-- Where one looks: 0 it runs, 1 is halted, 2 is stopped, 3 was just released; machine cycles and samples.
abbrev pub mode_number : Mode → ℕ
mode_number Running = 0
mode_number HaltMode = 1
mode_number StopMode = 2
mode_number Released = 3

abbrev pub mode : Ended → ℕ
mode e = mode_number e.ran.state.mode

abbrev pub cycles : Ended → ℕ
cycles e = e.ran.cycles

abbrev pub used : Ended → ℕ
used e = e.ran.used

abbrev pub t : Ended → ℕ
t e = e.ran.state.t

abbrev pub request : Ended → ℕ
request e = one_if e.ran.state.request

-- From a state, with some bytes at address 0, over samples.
abbrev pub over : List ℕ → State → List ℕ → (Ended → List ℕ) → List ℕ → Case
over bytes s samples look want =
    record { program = holding 1024 0 bytes; ram = blank; state = s; samples = samples; look = look; want = want }

abbrev pub in_mode : Mode → State
in_mode m = with_mode power_up m

-- One cycle before an overflow, with the timer's interrupt enabled.
abbrev pub nearly : State
nearly =
    with_interrupts
    (with_counting (with_count power_up (record { t = 0xFF; divider = 31; tf = false; request = false; last = true })) Timer 31)
    (record { external = false; tcnti = true; service = false })

-- A stored request, and both interrupts enabled.
abbrev pub asking : State
asking =
    with_interrupts (with_count power_up (record { t = 0; divider = 0; tf = true; request = true; last = true }))
    (record { external = true; tcnti = true; service = false })

-- The counter counts falls of T1, which was high in the cycle before.
abbrev pub falling : State
falling = with_counting (with_count power_up (record { t = 0; divider = 0; tf = false; request = false; last = true })) Counter 0

abbrev pub reset_low : ℕ
reset_low = 0x07FF_FFFF

abbrev pub both_low : ℕ
both_low = 0x06FF_FFFF

abbrev pub t1_low : ℕ
t1_low = 0x0BFF_FFFF

abbrev pub t1_int_low : ℕ
t1_int_low = 0x0AFF_FFFF

abbrev pub nec_cases : List Case
nec_cases =
    -- HALT at 01 and STOP at 82, in one cycle.
    over (0x01 ∷ []) power_up (idle ∷ idle ∷ []) (λ e. mode e ∷ pc e ∷ cycles e ∷ used e ∷ []) (1 ∷ 1 ∷ 1 ∷ 1 ∷ []) ∷
    over (0x82 ∷ []) power_up (idle ∷ idle ∷ []) (λ e. mode e ∷ pc e ∷ cycles e ∷ used e ∷ []) (2 ∷ 1 ∷ 1 ∷ 1 ∷ []) ∷
    -- With INT low in the first sample neither is entered; in the second it doesn't matter.
    over (0x01 ∷ []) power_up (int_low ∷ idle ∷ []) (λ e. mode e ∷ pc e ∷ cycles e ∷ []) (0 ∷ 1 ∷ 1 ∷ []) ∷
    over (0x82 ∷ []) power_up (int_low ∷ idle ∷ []) (λ e. mode e ∷ pc e ∷ cycles e ∷ []) (0 ∷ 1 ∷ 1 ∷ []) ∷
    over (0x01 ∷ []) power_up (idle ∷ int_low ∷ []) (λ e. mode e ∷ []) (1 ∷ []) ∷
    -- Halted or stopped, every step uses one sample and no machine cycle.
    over [] (in_mode HaltMode) (times 9 idle) (λ e. number e ∷ mode e ∷ pc e ∷ cycles e ∷ used e ∷ []) (0 ∷ 1 ∷ 0 ∷ 0 ∷ 8 ∷ []) ∷
    over [] (in_mode StopMode) (times 9 idle) (λ e. number e ∷ mode e ∷ pc e ∷ cycles e ∷ used e ∷ []) (0 ∷ 2 ∷ 0 ∷ 0 ∷ 8 ∷ []) ∷
    -- INT low makes it run from the next step on.
    over [] (in_mode HaltMode) (int_low ∷ idle ∷ []) (λ e. mode e ∷ pc e ∷ cycles e ∷ used e ∷ []) (3 ∷ 0 ∷ 0 ∷ 1 ∷ []) ∷
    over [] (in_mode StopMode) (int_low ∷ idle ∷ idle ∷ []) (λ e. mode e ∷ pc e ∷ cycles e ∷ used e ∷ []) (0 ∷ 1 ∷ 1 ∷ 2 ∷ []) ∷
    -- RESET low is tried first, and is an ordinary reset step.
    over [] (in_mode HaltMode) (reset_low ∷ idle ∷ []) (λ e. mode e ∷ pc e ∷ cycles e ∷ used e ∷ []) (0 ∷ 0 ∷ 1 ∷ 1 ∷ []) ∷
    over [] (in_mode StopMode) (both_low ∷ idle ∷ []) (λ e. mode e ∷ pc e ∷ cycles e ∷ used e ∷ []) (0 ∷ 0 ∷ 1 ∷ 1 ∷ []) ∷
    over [] (in_mode Released) (reset_low ∷ idle ∷ []) (λ e. mode e ∷ cycles e ∷ []) (0 ∷ 1 ∷ []) ∷
    -- After the release one instruction runs before an interrupt is called, the external one at 3 or the timer's at 7.
    over [] (with_mode asking HaltMode) (times 3 int_low) (λ e. mode e ∷ pc e ∷ cycles e ∷ []) (0 ∷ 1 ∷ 1 ∷ []) ∷
    over [] (with_mode asking HaltMode) (times 5 int_low) (λ e. pc e ∷ cycles e ∷ request e ∷ []) (3 ∷ 3 ∷ 1 ∷ []) ∷
    over [] (with_mode asking HaltMode) (int_low ∷ times 4 idle) (λ e. pc e ∷ cycles e ∷ request e ∷ []) (7 ∷ 3 ∷ 0 ∷ []) ∷
    -- A refused step leaves it released.
    over (0x06 ∷ []) (in_mode Released) (idle ∷ idle ∷ []) (λ e. number e ∷ mode e ∷ used e ∷ []) (4 ∷ 3 ∷ 0 ∷ []) ∷
    -- HALT's own cycle is counted; while it is halted nothing is.
    over (0x01 ∷ []) nearly (times 2 idle) (λ e. mode e ∷ t e ∷ request e ∷ []) (1 ∷ 0 ∷ 1 ∷ []) ∷
    over [] (with_mode nearly HaltMode) (times 9 idle) (λ e. t e ∷ e.ran.state.divider ∷ request e ∷ []) (0xFF ∷ 31 ∷ 0 ∷ []) ∷
    -- T1 isn't remembered while it is halted: a fall meanwhile is counted in the first cycle after the release.
    over [] (with_mode falling HaltMode) (times 4 t1_low) (λ e. t e ∷ one_if e.ran.state.last ∷ []) (0 ∷ 1 ∷ []) ∷
    over [] (with_mode falling HaltMode) (t1_low ∷ t1_int_low ∷ t1_low ∷ t1_low ∷ []) (λ e. t e ∷ one_if e.ran.state.last ∷ []) (1 ∷ 0 ∷ []) ∷
    []

-- "3 for any but running under Intel; 4 is read per set."
abbrev pub intel_cases : List Case
intel_cases =
    over [] (in_mode HaltMode) (idle ∷ idle ∷ []) (λ e. number e ∷ []) (3 ∷ []) ∷
    over [] (in_mode StopMode) [] (λ e. number e ∷ []) (3 ∷ []) ∷
    over [] (in_mode Released) (reset_low ∷ idle ∷ []) (λ e. number e ∷ []) (3 ∷ []) ∷
    over (0x01 ∷ []) power_up (idle ∷ idle ∷ []) (λ e. number e ∷ []) (4 ∷ []) ∷
    over (0x82 ∷ []) power_up (idle ∷ idle ∷ []) (λ e. number e ∷ []) (4 ∷ []) ∷
    []

-- ---- an overflow in HALT's own cycle
-- 000  HALT
-- 001  JMP 001H
abbrev pub nap : List ℕ
nap = holding 1024 0 (0x01 ∷ 0x04 ∷ 0x01 ∷ [])

-- All pins high, but that INT is low in the sample 5; over the first n of them.
abbrev pub nap_samples : List ℕ
nap_samples = times 4 idle ++ int_low ∷ times 6 idle

-- What is seen after it.
pub record NapSight : Type 0 where
  pub mode : ℕ
  pub used : ℕ
  pub cycles : ℕ
  pub pc : ℕ
  pub request : Bool
  pub service : Bool

abbrev pub nap_sight : Ended → NapSight
nap_sight e =
    record {
      mode = mode_number e.ran.state.mode;
      used = e.ran.used;
      cycles = e.ran.cycles;
      pc = e.ran.state.pc;
      request = e.ran.state.request;
      service = e.ran.state.interrupts.service;
    }
