-- What the demands speak of: the cycles of a step one by one, steps one after the other, and the steps of a run.
-- Assumes nothing.
use Rattle.std.specs.Prelude.{ℕ, ◌+◌, ◌-◌, ◌*◌, ◌/◌, ◌%◌, ◌≤◌, ◌<◌, Bool, true, false, ◌||◌, List, ◌⊎◌, ◌≡◌, eqb, leb, length, get_or, set, drop}
use Rattle.isa.specs.Choice.{pick, one_if}
use Rattle.isa.specs.Numbers.{given}
use Rattle.isa.specs.Reading.{sized, instruction_at}
use Rattle.isa.specs.Sets.{Standby}
use Rattle.isa.specs.declared.Instruction.{Instruction}
use Rattle.machine.specs.Counting.{counted}
use Rattle.machine.specs.Mode.{is_waiting}
use Rattle.machine.specs.Pins.{int_pin, t1_pin, reset_pin, is_high, is_low}
use Rattle.machine.specs.Rom.{Roms, seen_by}
use Rattle.machine.specs.State.{count_of}
use Rattle.machine.specs.declared.Count.{Count}
use Rattle.machine.specs.declared.Counting.{Counting}
use Rattle.machine.specs.declared.Counting.TheVariants.{Timer}
use Rattle.machine.specs.declared.State.{State}
use Rattle.machine.specs.Psw.{sp}
use Rattle.execute.specs.Setting.{LeavesCounter}
use Rattle.chip.specs.Admission.{lent_of}
use Rattle.chip.specs.Run.{Progress, Ended, begun, gone, ended, run_over, run_of}
use Rattle.chip.specs.Step.{Course, Plan, external_calls, timer_calls, accepted, called, without_request, course, plan_of, remembered}

-- ---- one cycle
-- How the counter counts in it, what the counter holds before it, the step's effects being done, T1's level in it, whether the timer
-- interrupt is enabled in it, and whether it is the cycle of STRT T or STRT CNT itself.
pub record Cycle : Type 0 where
  pub counting : Counting
  pub before : Count
  pub t1 : Bool
  pub enabled : Bool
  pub fresh : Bool

-- What the counter holds after it. "The cycle of STRT T or STRT CNT itself isn't counted."
abbrev pub afterwards : Cycle → Count
afterwards x = pick x.fresh (remembered x.before x.t1) (counted x.counting x.before x.t1 x.enabled)

-- T goes from FF to 00 in it.
pub record Overflow (x : Cycle) : Type 0 where
  pub from : x.before.t ≡ 255
  pub to : (afterwards x).t ≡ 0

-- An overflow that sets TF, and stores a request exactly if the timer interrupt is enabled in that cycle.
pub record Overflowing (x : Cycle) : Type 0 where
  pub is : Overflow x
  pub tf : (afterwards x).tf ≡ true
  pub request : (afterwards x).request ≡ (x.before.request || x.enabled)

-- No overflow, and TF and the request are left alone.
pub record Calm (x : Cycle) : Type 0 where
  pub not : Overflow x → ⊥
  pub tf : (afterwards x).tf ≡ x.before.tf
  pub request : (afterwards x).request ≡ x.before.request

-- The cycles of a step that does c before its cycles are counted. (STRT T and STRT CNT have no second.)
unfoldable pub first_cycle : Course → ℕ → Cycle
first_cycle c first =
    record {
      counting = c.state.counting;
      before = count_of c.state;
      t1 = is_high t1_pin first;
      enabled = c.state.interrupts.tcnti;
      fresh = c.fresh;
    }

unfoldable pub second_cycle : Course → ℕ → ℕ → Cycle
second_cycle c first second =
    record {
      counting = c.state.counting;
      before = afterwards (first_cycle c first);
      t1 = is_high t1_pin second;
      enabled = c.state.interrupts.tcnti;
      fresh = false;
    }

-- ---- steps one after the other
-- The step that comes next in a run, before its cycles are counted, and whole.
abbrev pub course_at : Roms → Progress → ℕ → ℕ → Course
course_at roms k first second = course roms k.ram k.state first second

abbrev pub plan_at : Roms → Progress → ℕ → ℕ → Plan
plan_at roms k first second = plan_of roms k.ram k.state first second

-- Where it leads.
abbrev pub after : Roms → Progress → ℕ → ℕ → Progress
after roms k first second = gone k (plan_at roms k first second)

-- A history: accepted steps, one after the other, from a RAM and a state.
pub data Steps (roms : Roms) (ram : List ℕ) (s : State) : Progress → Type 0 where
  none : Steps roms ram s (begun ram s)
  more :
      {k : Progress} (first second : ℕ) → Steps roms ram s k → (plan_at roms k first second).number ≡ 0
      → Steps roms ram s (after roms k first second)

-- How many of its steps were waits of a halted or stopped machine: they used a sample each, and no machine cycle.
abbrev pub waits_in : {roms : Roms} {ram : List ℕ} {s : State} {k : Progress} → Steps roms ram s k → ℕ
waits_in none = 0
waits_in {roms} (more {k = k} first second h a) = waits_in h + one_if (eqb (plan_at roms k first second).cycles 0)

-- Cycle i of a history, from 1 to its number of cycles. (An empty history has none; what it gives makes the definition total.)
unfoldable pub cycle : {roms : Roms} {ram : List ℕ} {s : State} {k : Progress} → Steps roms ram s k → ℕ → Cycle
cycle {s = s} none i = record { counting = s.counting; before = count_of s; t1 = false; enabled = false; fresh = false }
cycle {roms} (more {k = k} first second h a) i =
    pick (leb i k.cycles) (cycle h i)
    (pick (eqb i (k.cycles + 1)) (first_cycle (course_at roms k first second) first)
    (second_cycle (course_at roms k first second) first second))

-- ---- what the owner asks of each step of a history, beside that it is accepted
-- The step carries out the instruction i: no reset is seen, the machine is not halted or stopped, no interrupt is called, and i stands at PC.
pub record CarriesOut (roms : Roms) (s : State) (first : ℕ) (i : Instruction) : Type 0 where
  pub no_reset : is_low reset_pin first ≡ false
  pub no_wait : is_waiting s.mode ≡ false
  pub no_external : external_calls s first ≡ false
  pub no_timer : timer_calls s ≡ false
  pub bytes : ℕ
  pub stands : instruction_at (seen_by roms first) s.pc ≡ given (sized i bytes)

-- "No reset is seen and none of STRT T, STRT CNT, STOP TCNT, MOV T,A is carried out": an interrupt call and a wait carry out none.
pub record Undisturbed (roms : Roms) (s : State) (first : ℕ) : Type 0 where
  pub no_reset : is_low reset_pin first ≡ false
  pub none_of_four : (i : Instruction) → CarriesOut roms s first i → LeavesCounter i

-- Each step of the history is so.
abbrev pub AllUndisturbed : {roms : Roms} {ram : List ℕ} {s : State} {k : Progress} → Steps roms ram s k → Type 0
AllUndisturbed none = Unit {0}
AllUndisturbed {roms} (more {k = k} first second h a) = AllUndisturbed h × Undisturbed roms k.state first

-- Just after STRT T, the counter holding c.
pub record JustStarted (c : ℕ) (s : State) : Type 0 where
  pub counting : s.counting ≡ Timer
  pub t : s.t ≡ c
  pub divider : s.divider ≡ 0

-- The step is the call to location 7: PC is 7, the request is cleared, the interrupt is in service, it takes two cycles and samples, and
-- "RAM 8 + 2 x SP takes PC bits 0-7, the next byte PC bits 8-11 low and PSW bits 4-7 high".
pub record CallTo7 (roms : Roms) (k : Progress) (first second : ℕ) : Type 0 where
  pub call : course_at roms k first second ≡ accepted (called (without_request k.state) 7) 2
  pub pc : (after roms k first second).state.pc ≡ 7
  pub request : (after roms k first second).state.request ≡ false
  pub service : (after roms k first second).state.interrupts.service ≡ true
  pub cycles : (plan_at roms k first second).cycles ≡ 2
  pub used : (plan_at roms k first second).used ≡ 2
  pub memory :
      (after roms k first second).ram
      ≡ set (set k.ram (8 + sp k.state.psw * 2) (k.state.pc % 256)) (8 + sp k.state.psw * 2 + 1)
      (k.state.pc / 256 % 16 + k.state.psw / 16 * 16)

-- ---- histories and what they begin with
pub record History (roms : Roms) (ram : List ℕ) (s : State) : Type 0 where
  pub end : Progress
  pub steps : Steps roms ram s end

module _ {roms : Roms} {ram : List ℕ} {s : State} where
  -- The history with one accepted step more.
  abbrev pub longer :
      (p : History roms ram s) (first second : ℕ) → (plan_at roms p.end first second).number ≡ 0 → History roms ram s
  longer p first second a = record { end = after roms p.end first second; steps = more first second p.steps a }

  -- q begins with p.
  pub data Begins (p : History roms ram s) : History roms ram s → Type 0 where
    whole : Begins p p
    then :
        {q : History roms ram s} (first second : ℕ) (a : (plan_at roms q.end first second).number ≡ 0) → Begins p q
        → Begins p (longer q first second a)

  -- The step of q in which cycle i lies.
  pub record StepWith (i : ℕ) (q : History roms ram s) : Type 0 where
    pub before : History roms ram s
    pub first : ℕ
    pub second : ℕ
    pub fine : (plan_at roms before.end first second).number ≡ 0
    pub starts : before.end.cycles < i
    pub ends : i ≤ before.end.cycles + (plan_at roms before.end first second).cycles
    pub begins : Begins (longer before first second fine) q

  -- The history up to the end of that step.
  abbrev pub up_to : {i : ℕ} {q : History roms ram s} → StepWith i q → History roms ram s
  up_to o = longer o.before o.first o.second o.fine

-- ---- the history of a run
-- The two samples that the next step is given.
abbrev pub first_of : List ℕ → Progress → ℕ
first_of samples k = get_or samples k.used 0

abbrev pub second_of : List ℕ → Progress → ℕ
second_of samples k = get_or samples (k.used + 1) 0

-- Each step was given the run's samples, and both were there.
abbrev pub Reads : {roms : Roms} {ram : List ℕ} {s : State} {k : Progress} → List ℕ → Steps roms ram s k → Type 0
Reads samples none = Unit {0}
Reads samples (more {k = k} first second h a) =
    Reads samples h × (first ≡ first_of samples k) × (second ≡ second_of samples k) × (k.used + 2 ≤ length samples)

-- What a run over samples did, refused or not: it ended where its history leads, one sample used a cycle and one a wait. There fewer than
-- two samples are left; or two are left, and the next step is refused with the run's number.
pub record HistoryOf (roms : Roms) (ram : List ℕ) (s : State) (samples : List ℕ) (e : Ended) : Type 0 where
  pub end : Progress
  pub steps : Steps roms ram s end
  pub reads : Reads samples steps
  pub is : e ≡ ended end e.ran.number
  pub used : end.used ≡ end.cycles + waits_in steps
  pub enough : end.used ≤ length samples
  pub short : e.ran.number ≡ 0 → length samples ≤ end.used + 1
  pub two : (e.ran.number ≡ 0 → ⊥) → end.used + 2 ≤ length samples
  pub stopped : (e.ran.number ≡ 0 → ⊥) → (plan_at roms end (first_of samples end) (second_of samples end)).number ≡ e.ran.number

-- The first demand, of a run. Refused by 1, 2 or 3 it does nothing; else it is accepted steps and then, where it is refused, a step that
-- is refused with the run's number: "steps done before a refusal stand".
pub data RunAnswered (roms : Roms) (ram : List ℕ) (s : State) (samples : List ℕ) (e : Ended) : Type 0 where
  nothing-done :
      (lent_of roms ram s ≡ 0 → ⊥) → e ≡ ended (begun ram s) (lent_of roms ram s)
      → RunAnswered roms ram s samples e
  steps_done : lent_of roms ram s ≡ 0 → HistoryOf roms ram s samples e → RunAnswered roms ram s samples e

-- ---- the third demand
-- The cycle of the first overflow, the counter holding c just after STRT T.
abbrev pub overflow_cycle : ℕ → ℕ
overflow_cycle c = 32 * (256 - c)

-- All that the third demand's last sentence asks of a run over samples from just after STRT T. `part` is what the run does up to the end of
-- some step, and the overflow lies in it.
pub record Asked (roms : Roms) (ram : List ℕ) (s : State) (samples : List ℕ) (c : ℕ) : Type 0 where
  pub part : History roms ram s
  pub reads : Reads samples part.steps
  -- "While no step is refused, no reset is seen and none of STRT T, STRT CNT, STOP TCNT, MOV T,A is carried out"
  pub undisturbed : AllUndisturbed part.steps
  pub overflow : StepWith (overflow_cycle c) part
  -- "the step with the overflow is neither HALT nor STOP" (document 02, item 2)
  pub awake : (i : Instruction) → CarriesOut roms overflow.before.end.state overflow.first i → Standby i → ⊥
  -- "If the timer interrupt is enabled then,
  pub on : (cycle part.steps (overflow_cycle c)).enabled ≡ true
  -- all this holds through the next step too,
  pub fine : (plan_at roms (up_to overflow).end (first_of samples (up_to overflow).end) (second_of samples (up_to overflow).end)).number ≡ 0
  pub calm : Undisturbed roms (up_to overflow).end.state (first_of samples (up_to overflow).end)
  -- and at that step's start no interrupt is in service,
  pub idle : (up_to overflow).end.state.interrupts.service ≡ false
  -- the external one is disabled or its pin high,
  pub off :
      ((up_to overflow).end.state.interrupts.external ≡ false) ⊎ (is_low int_pin (first_of samples (up_to overflow).end) ≡ false)
  -- and two pin samples remain"
  pub two : (up_to overflow).end.used + 2 ≤ length samples

module _ {roms : Roms} {ram : List ℕ} {s : State} {samples : List ℕ} {c : ℕ} (q : Asked roms ram s samples c) where
  -- The run up to the end of the step with the overflow, and with the next step.
  abbrev pub until : History roms ram s
  until = up_to q.overflow

  abbrev pub next : History roms ram s
  next = longer until (first_of samples until.end) (second_of samples until.end) q.fine

  -- Then the run goes through the next step, which is the call to location 7, "complete at most 3 cycles after the overflow: from c = 0,
  -- within 8,195".
  pub record Called : Type 0 where
    pub through : run_of roms ram s samples ≡ run_over roms (drop next.end.used samples) next.end
    pub calls : CallTo7 roms until.end (first_of samples until.end) (second_of samples until.end)
    pub soon : next.end.cycles ≤ overflow_cycle c + 3
    pub within_8195 : c ≡ 0 → next.end.cycles ≤ 8195

-- A run that meets all of it, and is answered so.
pub record Met (roms : Roms) (ram : List ℕ) (s : State) (samples : List ℕ) (c : ℕ) : Type 0 where
  pub asks : Asked roms ram s samples c
  pub called : Called asks
