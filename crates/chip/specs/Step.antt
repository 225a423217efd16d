-- Document 01, "One step", with the steps of a machine that is halted or stopped and with the second program (document 02, items 2 and 7).
-- Assumes nothing.
use Rattle.std.specs.Prelude.{ℕ, ◌+◌, ◌*◌, ◌/◌, ◌%◌, Bool, true, false, not, ◌&&◌, List, ◌≡◌, eqb, Result, Ok, Err}
use Rattle.isa.specs.Choice.{pick}
use Rattle.isa.specs.Numbers.{number_of, Answer, given, refused}
use Rattle.isa.specs.Reading.{Program, Sized, sized, next_pc, entry_at, instruction_at}
use Rattle.isa.specs.declared.Instruction.{Instruction}
use Rattle.isa.specs.declared.Refusal.{Refusal}
use Rattle.machine.specs.Counting.{counted}
use Rattle.machine.specs.Mode.{is_running, is_waiting}
use Rattle.machine.specs.Pins.{int_pin, t1_pin, reset_pin, is_high, is_low}
use Rattle.machine.specs.Rom.{Roms, seen_by}
use Rattle.machine.specs.State.{count_of, with_count, with_interrupts, with_mode, running_at}
use Rattle.machine.specs.declared.Count.{Count}
use Rattle.machine.specs.declared.Counting.{Counting}
use Rattle.machine.specs.declared.Counting.TheVariants.{Stopped}
use Rattle.machine.specs.declared.Mode.TheVariants.{Running, Released}
use Rattle.machine.specs.declared.State.{State}
use Rattle.effects.specs.Effect.{Write, Nothing, Effect, written}
use Rattle.effects.specs.Moves.{quiet}
use Rattle.effects.specs.declared.Event.{Event}
use Rattle.effects.specs.declared.Event.TheVariants.{Quiet}
use Rattle.flow.specs.Stack.{pushed}
use Rattle.execute.specs.Execute.{executed}
use Rattle.chip.specs.Admission.{admission}
use Rattle.chip.specs.Outside.{from_outside}
use Rattle.chip.specs.declared.Course as code_course
use Rattle.chip.specs.declared.Fetch.{Fetch}
use Rattle.chip.specs.declared.Moved as code_moved
use Rattle.chip.specs.declared.Outcome as code_outcome
use Rattle.chip.specs.declared.Report.{Report}
use Rattle.chip.specs.declared.Spent.{Spent}
use Rattle.chip.specs.declared.Spent.TheVariants.{Waited, Cycles}
use Rattle.chip.specs.declared.Turn.{Turn}
use Rattle.chip.specs.declared.Turn.TheVariants.{Refuse, Reset, Wait, ExternalCall, TimerCall, CarryOut}

-- What a step does before its cycles are counted: an effect and its cycles, or a refusal, which changes nothing. `waited` says that the
-- machine was halted or stopped, `outside` how many bytes came from the second program.
pub record Course : Type 0 where
  pub number : ℕ
  pub state : State
  pub event : Event
  pub write : Write
  pub cycles : ℕ
  pub fresh : Bool
  pub waited : Bool
  pub outside : ℕ

-- The code writes RAM in place, and tells apart what the step shows (`report_of`): so what it answers is the rest.
pub record CourseAnswer : Type 0 where
  pub number : ℕ
  pub state : State
  pub cycles : ℕ
  pub fresh : Bool
  pub waited : Bool

abbrev pub course_answer : Course → CourseAnswer
course_answer c = record { number = c.number; state = c.state; cycles = c.cycles; fresh = c.fresh; waited = c.waited }

-- What the code's answer tells: of a course, what it takes and the state; of a refusal, the state s that the step got.
abbrev pub spent_as : Spent → State → CourseAnswer
spent_as Waited state = record { number = 0; state = state; cycles = 0; fresh = false; waited = true }
spent_as (Cycles cycles fresh) state = record { number = 0; state = state; cycles = cycles; fresh = fresh; waited = false }

abbrev pub told_as : code_course.Course → CourseAnswer
told_as c = spent_as c.spent c.state

abbrev pub told_by : State → Result code_course.Course Refusal → CourseAnswer
told_by s (Ok c) = told_as c
told_by s (Err r) = record { number = number_of r; state = s; cycles = 0; fresh = false; waited = false }

unfoldable pub declined : ℕ → State → Course
declined number s =
    record { number = number; state = s; event = Quiet; write = Nothing; cycles = 0; fresh = false; waited = false; outside = 0 }

unfoldable pub accepted : Effect → ℕ → Course
accepted e cycles =
    record { number = 0; state = e.state; event = e.event; write = e.write; cycles = cycles; fresh = e.fresh; waited = false; outside = 0 }

-- 1. "RESET low in the first sample: PC, SP, BS, DBF, F0, F1, TF, stored request, both enables, in-service and T0 clock go to 0; P1 and P2
-- latches to FF; BUS not driven; counter stands still. All else but the last T1 level stays." And it "always leaves it running".
unfoldable pub reset_state : State → State
reset_state s =
    record {
      mode = Running;
      a = s.a;
      pc = 0;
      psw = s.psw / 64 * 64 + s.psw / 8 % 2 * 8;
      counting = Stopped;
      t = s.t;
      divider = s.divider;
      tf = false;
      request = false;
      last = s.last;
      f1 = false;
      dbf = false;
      clock = false;
      interrupts = record { external = false; tcnti = false; service = false };
      ports = record { p1 = 0xFF; p2 = 0xFF; bus = s.ports.bus; driven = false };
    }

-- "A halted or stopped step uses one sample and no machine cycle, so nothing is counted and T1 isn't remembered"; "INT low makes it run from
-- the next step on".
abbrev pub released : State → ℕ → State
released s first = pick (is_low int_pin first) (with_mode s Released) s

unfoldable pub waits : State → ℕ → Course
waits s first =
    record { number = 0; state = released s first; event = Quiet; write = Nothing; cycles = 0; fresh = false; waited = true; outside = 0 }

-- 2. "if none is in service: external interrupt enabled and INT low in the first sample calls location 3; else timer interrupt enabled
-- and a request stored clears the request and calls 7." And "after a release by INT one instruction runs before an interrupt may be called".
abbrev pub external_calls : State → ℕ → Bool
external_calls s first = is_running s.mode && not s.interrupts.service && s.interrupts.external && is_low int_pin first

abbrev pub timer_calls : State → Bool
timer_calls s = is_running s.mode && not s.interrupts.service && s.interrupts.tcnti && s.request

-- "The call pushes like CALL, sets in-service, leaves DBF, takes 2 cycles." Bit 11 of PC is 0 after it, the vector being 3 or 7.
unfoldable pub called : State → ℕ → Effect
called s vector =
    pushed
    (with_interrupts s (record { external = s.interrupts.external; tcnti = s.interrupts.tcnti; service = true }))
    vector

unfoldable pub without_request : State → State
without_request s = with_count s (record { t = s.t; divider = s.divider; tf = s.tf; request = false; last = s.last })

-- The PC after an instruction of n bytes, one or two.
abbrev pub pc_after : ℕ → ℕ → ℕ
pc_after n pc = pick (eqb n 1) (next_pc pc) (next_pc (next_pc pc))

-- An effect with the cycles of its instruction; a table byte may be past the end.
unfoldable pub done : Effect → ℕ → State → Course
done e cycles s = pick (eqb e.number 0) (accepted e cycles) (declined e.number s)

-- 3. "Otherwise one instruction": the one that stands at PC.
abbrev pub carried_by : Answer Sized → Program → List ℕ → State → ℕ → ℕ → Course
carried_by (refused n) program ram s first second = declined n s
carried_by (given (sized i n)) program ram s first second =
    done (executed i program.bytes ram (running_at s (pc_after n s.pc)) s.pc first second) (entry_at program s.pc).cycles s

unfoldable pub carried : Program → List ℕ → State → ℕ → ℕ → Course
carried program ram s first second = carried_by (instruction_at program s.pc) program ram s first second

-- The same with its bytes that came from outside.
abbrev pub with_outside : ℕ → Course → Course
with_outside n c =
    record {
      number = c.number;
      state = c.state;
      event = c.event;
      write = c.write;
      cycles = c.cycles;
      fresh = c.fresh;
      waited = c.waited;
      outside = n;
    }

-- The course of a step by its turn: its samples are refused, it is a reset, a wait, an interrupt call, or an instruction.
abbrev pub course_by : Turn → Roms → List ℕ → State → ℕ → ℕ → Course
course_by Refuse roms ram s first second = declined 6 s
course_by Reset roms ram s first second = accepted (quiet (reset_state s)) 1
course_by Wait roms ram s first second = waits s first
course_by ExternalCall roms ram s first second = accepted (called s 3) 2
course_by TimerCall roms ram s first second = accepted (called (without_request s) 7) 2
course_by CarryOut roms ram s first second =
    with_outside (from_outside roms first s) (carried (seen_by roms first) ram s first second)

-- What a step does where none of 1, 2, 3 and 6 is given: "then reset; then an interrupt call (neither fetches)"; "External goes first". In a
-- halted or stopped step "RESET low, tried first, is an ordinary reset step".
abbrev pub allowed_course : Roms → List ℕ → State → ℕ → ℕ → Course
allowed_course roms ram s first second =
    pick (is_low reset_pin first) (course_by Reset roms ram s first second)
    (pick (is_waiting s.mode) (course_by Wait roms ram s first second)
    (pick (external_calls s first) (course_by ExternalCall roms ram s first second)
    (pick (timer_calls s) (course_by TimerCall roms ram s first second)
    (course_by CarryOut roms ram s first second))))

-- "Order: 1, 2, 3, 6", and then that.
unfoldable pub course : Roms → List ℕ → State → ℕ → ℕ → Course
course roms ram s first second =
    pick (not (eqb (admission roms ram s first second) 0))
    (declined (admission roms ram s first second) s)
    (allowed_course roms ram s first second)

-- 4. "Then the cycles of the step, an interrupt call's two as well, are counted, one at a time, after its effects. The cycle of STRT T or
-- STRT CNT itself isn't counted." "T1 is remembered every cycle, reset and STRT CNT too."
abbrev pub remembered : Count → Bool → Count
remembered c t1 = record { t = c.t; divider = c.divider; tf = c.tf; request = c.request; last = t1 }

unfoldable pub ticked : Counting → Count → ℕ → Bool → Bool → ℕ → ℕ → Count
ticked counting c cycles fresh enabled first second =
    pick (eqb cycles 0) c
    (pick fresh (remembered c (is_high t1_pin first))
    (pick (eqb cycles 2)
    (counted counting (counted counting c (is_high t1_pin first) enabled) (is_high t1_pin second) enabled)
    (counted counting c (is_high t1_pin first) enabled)))

unfoldable pub settled : State → ℕ → Bool → ℕ → ℕ → State
settled s cycles fresh first second =
    with_count s (ticked s.counting (count_of s) cycles fresh s.interrupts.tcnti first second)

-- The whole step, and what it writes to RAM.
pub record Plan : Type 0 where
  pub number : ℕ
  pub state : State
  pub event : Event
  pub write : Write
  pub cycles : ℕ
  pub used : ℕ
  pub outside : ℕ

-- Each machine cycle uses one sample, and a wait one. "A refused step returns the number, the state it got, no event and 0 cycles; RAM is
-- unchanged."
unfoldable pub plan_by : Course → State → ℕ → ℕ → Plan
plan_by c s first second =
    pick (eqb c.number 0)
    (record {
      number = 0;
      state = settled c.state c.cycles c.fresh first second;
      event = c.event;
      write = c.write;
      cycles = c.cycles;
      used = pick c.waited 1 c.cycles;
      outside = c.outside;
    })
    (record { number = c.number; state = s; event = Quiet; write = Nothing; cycles = 0; used = 0; outside = 0 })

abbrev pub plan_of : Roms → List ℕ → State → ℕ → ℕ → Plan
plan_of roms ram s first second = plan_by (course roms ram s first second) s first second

-- What a step answers: the refusal's number or 0, the state, the event, the machine cycles spent, the samples used and the bytes from outside.
pub record Outcome : Type 0 where
  pub number : ℕ
  pub state : State
  pub event : Event
  pub cycles : ℕ
  pub used : ℕ
  pub outside : ℕ

abbrev pub outcome_of : Plan → Outcome
outcome_of p =
    record { number = p.number; state = p.state; event = p.event; cycles = p.cycles; used = p.used; outside = p.outside }

-- What a step does to the machine: the refusal's number or 0, the state, the machine cycles spent and the samples used.
pub record Moved : Type 0 where
  pub number : ℕ
  pub state : State
  pub cycles : ℕ
  pub used : ℕ

-- What a step does to the machine, and what it shows outside.
abbrev pub moved_of : Outcome → Moved
moved_of o = record { number = o.number; state = o.state; cycles = o.cycles; used = o.used }

abbrev pub report_of : Outcome → Report
report_of o = record { event = o.event; outside = o.outside }

-- "A refused step returns the number, the state it got, no event and 0 cycles"; it used no sample, and no byte came from outside.
abbrev pub refused_by : ℕ → State → Outcome
refused_by number s = record { number = number; state = s; event = Quiet; cycles = 0; used = 0; outside = 0 }

-- What the code's answers tell, where the step got the state s.
abbrev pub moved_by : State → Result code_moved.Moved Refusal → Moved
moved_by s (Ok m) = record { number = 0; state = m.state; cycles = m.cycles; used = m.used }
moved_by s (Err r) = moved_of (refused_by (number_of r) s)

abbrev pub outcome_by : State → Result code_outcome.Outcome Refusal → Outcome
outcome_by s (Ok o) =
    record {
      number = 0;
      state = o.moved.state;
      event = o.shown.event;
      cycles = o.moved.cycles;
      used = o.moved.used;
      outside = o.shown.outside;
    }
outcome_by s (Err r) = refused_by (number_of r) s

-- What a step answers, and the RAM that it leaves.
abbrev pub step_of : Roms → List ℕ → State → ℕ → ℕ → Outcome
step_of roms ram s first second = outcome_of (plan_of roms ram s first second)

abbrev pub ram_after : Roms → List ℕ → State → ℕ → ℕ → List ℕ
ram_after roms ram s first second = written ram (plan_of roms ram s first second).write

-- What is shown is what an instruction that is carried out shows.
pub record Shows (roms : Roms) (ram : List ℕ) (s : State) (first second : ℕ) (r : Report) : Type 0 where
  pub event :
      (i : Instruction) (n : ℕ) → instruction_at (seen_by roms first) s.pc ≡ given (sized i n)
      → r.event ≡ (executed i (seen_by roms first).bytes ram (running_at s (pc_after n s.pc)) s.pc first second).event
  pub outside : r.outside ≡ from_outside roms first s

-- What is fetched at an address is what is read there, an instruction of some length.
pub record AsRead (program : Program) (pc : ℕ) (f : Fetch) : Type 0 where
  pub bytes : ℕ
  pub instruction : instruction_at program pc ≡ given (sized f.instruction bytes)
  pub next : f.next ≡ pc_after bytes pc
  pub cycles : f.cycles ≡ (entry_at program pc).cycles

abbrev pub Fetched : Program → ℕ → Result Fetch Refusal → Type 0
Fetched program pc (Ok f) = AsRead program pc f
Fetched program pc (Err r) = instruction_at program pc ≡ refused (number_of r)
