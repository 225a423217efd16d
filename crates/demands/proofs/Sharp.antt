-- The bound is attained, and the conditions of the third demand can be met together, under either set: for every c there is a run in which the
-- call to 7 is complete exactly 3 cycles after the overflow. From c = 0 that is cycle 8,195. The program is STRT T and then the owner's loop of
-- two-cycle jumps after one NOP, so that the overflow falls into the first cycle of a jump; under NEC after one HALT, from which INT releases
-- the machine.
-- Assumes nothing.
use Prim.Native.Nat.{ℕ, zero, suc, ◌+◌, ◌-◌, ◌*◌, ◌≤◌, ◌<◌}
use mathlib.Core.Bool.{Bool, true, false, false≢true}
use mathlib.Core.List.{List}
use mathlib.Core.Logic.{inl}
use mathlib.Core.Path.{◌≡◌, refl, sym, ap, ◌∙◌, subst}
use native.Mathlib.Omega.{arith}
use lib.Dec.{lit≤}
use lib.ListN.{length, get_or, set as put}
use borrow.Author.Tests.{lt-ltb}
use Rattle.isa.specs.Choice.{pick}
use Rattle.isa.specs.Numbers.{given}
use Rattle.isa.specs.Reading.{sized, byte_at, instruction_at, decoded_at}
use Rattle.isa.specs.Sets.{Standby, halt, stop}
use Rattle.isa.specs.Sheet.{kind_of, entry_of}
use Rattle.isa.specs.declared.Instruction.{Instruction}
use Rattle.isa.specs.declared.Instruction.TheVariants.{Jmp, Control, Nop, Halt}
use Rattle.isa.specs.declared.Set.{Set}
use Rattle.isa.specs.declared.Set.TheVariants.{Intel, Nec}
use Rattle.isa.specs.declared.Switch.TheVariants.{StrtT}
use Rattle.machine.specs.Counting.{counted}
use Rattle.machine.specs.Rom.{seen_by, visible}
use Rattle.machine.specs.State.{count_of, with_count, with_pc, with_mode}
use Rattle.machine.specs.declared.Count.{Count}
use Rattle.machine.specs.declared.Counting.TheVariants.{Timer}
use Rattle.machine.specs.declared.Mode.TheVariants.{HaltMode, Released}
use Rattle.machine.specs.declared.State.{State}
use Rattle.machine.proofs.Timing.{At, one-more, leaves-request}
use Rattle.effects.specs.Effect.{Nothing, written}
use Rattle.effects.specs.declared.Event.TheVariants.{Quiet}
use Rattle.flow.specs.Stack.{pushed}
use Rattle.execute.specs.Execute.{executed}
use Rattle.execute.specs.Setting.{LeavesCounter}
use Rattle.chip.specs.Admission.{lent_number, lent_of, admission}
use Rattle.chip.specs.Cases.{times, idle, blank}
use Rattle.chip.specs.History.{plan_at, none, cycle, CarriesOut, Undisturbed, AllUndisturbed, JustStarted, History, longer, whole, StepWith, first_of, second_of, Reads, overflow_cycle, Asked, next, Called, Met}
use Rattle.chip.specs.Loop.{rom, ready, start, int_low, samples, halted, Late}
use Rattle.chip.specs.Outside.{from_outside}
use Rattle.chip.specs.Refusals.{Fetches}
use Rattle.chip.specs.Run.{Progress, begun, ended, run_of}
use Rattle.chip.specs.Step.{Plan, accepted, waits, called, without_request, done, carried, course, ticked, settled, plan_by, plan_of, step_of, ram_after}
use Rattle.chip.proofs.Answering.{step-enabled}
use Rattle.chip.proofs.Cycles.{Running, at-start, count-law}
use Rattle.demands.proofs.Demand3.{called-in-time, from-strt-t}
use Rattle.chip.proofs.Overflows.{no-earlier}
use Rattle.chip.proofs.Runs.{run-short}

-- In the loop the counter alone changes.
abbrev looping : Count → State
looping x = with_count (with_pc (start 0) 2) x

abbrev once : Count → Count
once x = counted Timer x true true

-- The state after the first step, the mode aside.
abbrev paused : ℕ → State
paused c = looping (once (count_of (start c)))

-- ---- the steps that this takes, by computation
abbrev plan : State → ℕ → ℕ → Plan
plan s cycles used = record { number = 0; state = s; event = Quiet; write = Nothing; cycles = cycles; used = used; outside = 0 }

nop-plan : (c : ℕ) → plan_of (rom Intel) blank (start c) idle idle ≡ plan (paused c) 1 1
unfolding plan_by settled ticked course carried done accepted admission lent_number executed instruction_at decoded_at visible from_outside entry_of kind_of pick
nop-plan c = refl

halt-plan : (c : ℕ) → plan_of (rom Nec) blank (start c) idle int_low ≡ plan (with_mode (paused c) HaltMode) 1 1
unfolding plan_by settled ticked course carried done accepted admission lent_number executed instruction_at decoded_at visible from_outside entry_of kind_of pick
halt-plan c = refl

wait-plan : (c : ℕ) → plan_of (rom Nec) blank (with_mode (paused c) HaltMode) int_low idle ≡ plan (with_mode (paused c) Released) 0 1
unfolding plan_by settled ticked course waits admission lent_number pick
wait-plan c = refl

resume-plan : (c : ℕ) → plan_of (rom Nec) blank (with_mode (paused c) Released) idle idle ≡ plan (looping (once (once (once (count_of (start c)))))) 2 2
unfolding plan_by settled ticked course carried done accepted admission lent_number executed instruction_at decoded_at visible from_outside entry_of kind_of pick
resume-plan c = refl

jump-plan :
    (set : Set) (x : Count) → x.request ≡ false → x.divider < 32
    → plan_of (rom set) blank (looping x) idle idle ≡ plan (looping (once (once x))) 2 2
unfolding plan_by settled ticked course carried done accepted admission lent_number executed instruction_at decoded_at visible from_outside entry_of kind_of pick
jump-plan Intel x e l = rw (e, lt-ltb _ _ l)
jump-plan Nec x e l = rw (e, lt-ltb _ _ l)

-- With a request or without one, the step in the loop is accepted.
loop-fine : (set : Set) (x : Count) (b : Bool) → x.request ≡ b → x.divider < 32 → (plan_of (rom set) blank (looping x) idle idle).number ≡ 0
unfolding plan_by settled ticked course carried done accepted called without_request admission lent_number executed pushed instruction_at decoded_at visible entry_of kind_of pick
loop-fine Intel x true e l = rw (e, lt-ltb _ _ l)
loop-fine Intel x false e l = rw (e, lt-ltb _ _ l)
loop-fine Nec x true e l = rw (e, lt-ltb _ _ l)
loop-fine Nec x false e l = rw (e, lt-ltb _ _ l)

-- ---- no step is disturbed
clash : ◌≡◌ {A = ℕ} 0 1 → ⊥
clash z = omega arith

nop-leaves : LeavesCounter Nop
nop-leaves = record { no_strt_t = λ e. clash cc; no_strt_cnt = λ e. clash cc; no_stop_tcnt = λ e. clash cc; no_mov_t_a = λ e. clash cc }

halt-leaves : LeavesCounter Halt
halt-leaves = record { no_strt_t = λ e. clash cc; no_strt_cnt = λ e. clash cc; no_stop_tcnt = λ e. clash cc; no_mov_t_a = λ e. clash cc }

jmp-leaves : (a : ℕ) → LeavesCounter (Jmp a)
jmp-leaves a = record { no_strt_t = λ e. clash cc; no_strt_cnt = λ e. clash cc; no_stop_tcnt = λ e. clash cc; no_mov_t_a = λ e. clash cc }

jmp-awake : (a : ℕ) (i : Instruction) → i ≡ Jmp a → Standby i → ⊥
jmp-awake a i e halt = clash cc
jmp-awake a i e stop = clash cc

nop-there : instruction_at (seen_by (rom Intel) idle) 1 ≡ given (sized Nop 1)
unfolding instruction_at decoded_at visible entry_of kind_of pick
nop-there = refl

halt-there : instruction_at (seen_by (rom Nec) idle) 1 ≡ given (sized Halt 1)
unfolding instruction_at decoded_at visible entry_of kind_of pick
halt-there = refl

jmp-there : (set : Set) → instruction_at (seen_by (rom set) idle) 2 ≡ given (sized (Jmp 2) 2)
unfolding instruction_at decoded_at visible entry_of kind_of pick
jmp-there Intel = refl
jmp-there Nec = refl

same : (set : Set) {i j : Instruction} {n m : ℕ} (a : ℕ) → instruction_at (seen_by (rom set) idle) a ≡ given (sized i n) → instruction_at (seen_by (rom set) idle) a ≡ given (sized j m) → i ≡ j
same set a p q = cc

pause-undisturbed : (set : Set) (c : ℕ) → Undisturbed (rom set) (start c) idle
pause-undisturbed Intel c = record { no_reset = refl; none_of_four = λ i q. subst LeavesCounter (same Intel 1 nop-there q.stands) nop-leaves }
pause-undisturbed Nec c = record { no_reset = refl; none_of_four = λ i q. subst LeavesCounter (same Nec 1 halt-there q.stands) halt-leaves }

wait-undisturbed : (c : ℕ) → Undisturbed (rom Nec) (with_mode (paused c) HaltMode) int_low
wait-undisturbed c = record { no_reset = refl; none_of_four = λ i q. absurd (false≢true (sym q.no_wait)) }

resume-undisturbed : (c : ℕ) → Undisturbed (rom Nec) (with_mode (paused c) Released) idle
resume-undisturbed c =
    record { no_reset = refl; none_of_four = λ i q. subst LeavesCounter (same Nec 2 (jmp-there Nec) q.stands) (jmp-leaves 2) }

loop-undisturbed : (set : Set) (x : Count) → Undisturbed (rom set) (looping x) idle
loop-undisturbed set x =
    record { no_reset = refl; none_of_four = λ i q. subst LeavesCounter (same set 2 (jmp-there set) q.stands) (jmp-leaves 2) }

loop-awake : (set : Set) (x : Count) (i : Instruction) → CarriesOut (rom set) (looping x) idle i → Standby i → ⊥
loop-awake set x i q = jmp-awake 2 i (same set 2 q.stands (jmp-there set))

-- ---- the samples
times-length : (n x : ℕ) → length (times n x) ≡ n
times-length zero x = refl
times-length (suc n) x = ap suc (times-length n x)

times-at : (n x i : ℕ) → i < n → get_or (times n x) i 0 ≡ x
times-at zero x i l = absurd (omega arith)
times-at (suc n) x zero l = refl
times-at (suc n) x (suc i) l = times-at n x i (omega arith)

samples-length : (set : Set) (c : ℕ) → length (samples set c) ≡ overflow_cycle c + 3 + halted set
samples-length Intel c = times-length (overflow_cycle c + 3) idle ∙ omega arith
samples-length Nec c = ap (λ n. suc (suc n)) (times-length (overflow_cycle c + 2) idle) ∙ omega arith

-- From the third on all are idle.
sample : (set : Set) (c i : ℕ) → 2 ≤ i → i < overflow_cycle c + 3 + halted set → get_or (samples set c) i 0 ≡ idle
sample Intel c i l g = times-at (overflow_cycle c + 3) idle i (omega arith)
sample Nec c zero l g = absurd (omega arith)
sample Nec c (suc zero) l g = absurd (omega arith)
sample Nec c (suc (suc i)) l g = times-at (overflow_cycle c + 2) idle i (omega arith)

-- ---- what is reached by steps that read them
record Reached (set : Set) (c : ℕ) (s : State) (cycles used : ℕ) : Type 0 where
  history : History (rom set) blank (start c)
  state : history.end.state ≡ s
  memory : history.end.ram ≡ blank
  spent : history.end.cycles ≡ cycles
  samples-used : history.end.used ≡ used
  undisturbed : AllUndisturbed history.steps
  reads : Reads (samples set c) history.steps

module _ (set : Set) (c : ℕ) where
  begin : Reached set c (start c) 0 0
  begin =
      record {
        history = record { end = begun blank (start c); steps = none };
        state = refl;
        memory = refl;
        spent = refl;
        samples-used = refl;
        undisturbed = tt;
        reads = tt;
      }

  -- One step more.
  module _ {s : State} {n u : ℕ} (r : Reached set c s n u) (first second : ℕ) (s' : State) (m v : ℕ)
      (p : plan_of (rom set) blank s first second ≡ plan s' m v) where
    planned : plan_at (rom set) r.history.end first second ≡ plan s' m v
    planned = rw (r.memory, r.state) p

    fine : (plan_at (rom set) r.history.end first second).number ≡ 0
    fine = ap (λ (q : Plan). q.number) planned

    module _ (q : Undisturbed (rom set) s first) (e : first ≡ get_or (samples set c) u 0) (f : second ≡ get_or (samples set c) (u + 1) 0)
        (l : u + 2 ≤ length (samples set c)) where
      on : Reached set c s' (n + m) (u + v)
      unfolding written
      on =
          record {
            history = longer r.history first second fine;
            state = ap (λ (q : Plan). q.state) planned;
            memory = rw planned r.memory;
            spent = rw (planned, r.spent);
            samples-used = rw (planned, r.samples-used);
            undisturbed = (r.undisturbed, rw r.state q);
            reads = (r.reads, rw r.samples-used e, rw r.samples-used f, rw r.samples-used l);
          }

-- The pause and n jumps.
record Waiting (set : Set) (c n : ℕ) : Type 0 where
  count : Count
  some : 1 ≤ n
  reached : Reached set c (looping count) (1 + 2 * n) (1 + 2 * n + halted set)
  none_stored : count.request ≡ false

module _ (c : ℕ) (small : c < 256) where
  started : JustStarted c (start c)
  started = record { counting = refl; t = refl; divider = refl }

  running : Running c 0 (start c)
  running = at-start c (start c) small started

  -- No cycle before the overflow stores a request.
  none-yet : (n : ℕ) (x : Count) → At c n x → n + 1 < overflow_cycle c → x.request ≡ false → (once x).request ≡ false
  none-yet n x h l e =
      leaves-request c (n + 1) (omega arith) x true true (subst (λ (i : ℕ). At c i x) (omega arith) h)
      (no-earlier c (n + 1) small (omega arith) l) ∙ e

  counted-at : {set : Set} {x : Count} {n u : ℕ} → Reached set c (looping x) n u → At c n x
  counted-at {set} {x} {n} r =
      subst (λ (s : State). At c n (count_of s)) r.state
      (subst (λ (i : ℕ). At c i (count_of r.history.end.state)) r.spent (count-law c r.history.steps r.undisturbed running).at)

  -- ---- the pause
  enough : (set : Set) (i : ℕ) → i + 2 ≤ overflow_cycle c + 3 + halted set → i + 2 ≤ length (samples set c)
  enough set i l = rw (samples-length set c) l

  first-count : At c 1 (once (count_of (start c)))
  first-count = one-more c 0 (count_of (start c)) true true running.at

  abbrev third : Count
  third = once (once (once (count_of (start c))))

  third-none : third.request ≡ false
  third-none =
      none-yet 2 (once (once (count_of (start c)))) (one-more c 1 (once (count_of (start c))) true true first-count) (omega arith)
      (none-yet 1 (once (count_of (start c))) first-count (omega arith) (none-yet 0 (count_of (start c)) running.at (omega arith) refl))

  after-pause : (set : Set) → Reached set c (looping third) 3 (3 + halted set)
  after-pause Intel =
      on Intel c
      (on Intel c (begin Intel c) idle idle (paused c) 1 1 (nop-plan c) (pause-undisturbed Intel c)
      (sym (times-at (overflow_cycle c + 3) idle 0 (omega arith))) (sym (times-at (overflow_cycle c + 3) idle 1 (omega arith))) (enough Intel 0 (omega arith)))
      idle idle (looping third) 2 2
      (jump-plan Intel (once (count_of (start c))) (none-yet 0 (count_of (start c)) running.at (omega arith) refl) (lit≤ tt))
      (loop-undisturbed Intel (once (count_of (start c))))
      (sym (times-at (overflow_cycle c + 3) idle 1 (omega arith))) (sym (sample Intel c 2 (omega arith) (omega arith))) (enough Intel 1 (omega arith))
  after-pause Nec =
      on Nec c
      (on Nec c
      (on Nec c (begin Nec c) idle int_low (with_mode (paused c) HaltMode) 1 1 (halt-plan c) (pause-undisturbed Nec c) refl refl (enough Nec 0 (omega arith)))
      int_low idle (with_mode (paused c) Released) 0 1 (wait-plan c) (wait-undisturbed c)
      refl (sym (sample Nec c 2 (omega arith) (omega arith))) (enough Nec 1 (omega arith)))
      idle idle (looping third) 2 2 (resume-plan c) (resume-undisturbed c)
      (sym (sample Nec c 2 (omega arith) (omega arith))) (sym (sample Nec c 3 (omega arith) (omega arith))) (enough Nec 2 (omega arith))

  -- ---- and the jumps
  module _ (set : Set) where
    first-wait : Waiting set c 1
    first-wait = record { count = third; some = omega arith; reached = after-pause set; none_stored = third-none }

    module _ (n : ℕ) (w : Waiting set c n) where
      at : At c (1 + 2 * n) w.count
      at = counted-at w.reached

      jumps : plan_of (rom set) blank (looping w.count) idle idle ≡ plan (looping (once (once w.count))) 2 2
      jumps = jump-plan set w.count w.none_stored (omega (arith, at.divider))

      module _ (l : 1 + 2 * n < overflow_cycle c) where
        jumped : Reached set c (looping (once (once w.count))) (1 + 2 * n + 2) (1 + 2 * n + halted set + 2)
        jumped =
            on set c w.reached idle idle (looping (once (once w.count))) 2 2 jumps (loop-undisturbed set w.count)
            (sym (sample set c (1 + 2 * n + halted set) (omega (arith, w.some)) (omega arith)))
            (sym (sample set c (1 + 2 * n + halted set + 1) (omega (arith, w.some)) (omega arith)))
            (enough set (1 + 2 * n + halted set) (omega arith))

      once-more : 1 + 2 * suc n < overflow_cycle c → Waiting set c (suc n)
      once-more l =
          record {
            count = once (once w.count);
            some = omega arith;
            reached =
                subst (λ (u : ℕ). Reached set c (looping (once (once w.count))) (1 + 2 * suc n) u) (omega arith)
                (subst (λ (m : ℕ). Reached set c (looping (once (once w.count))) m (1 + 2 * n + halted set + 2)) (omega arith) (jumped (omega arith)));
            none_stored =
                none-yet (1 + 2 * n + 1) (once w.count) (one-more c (1 + 2 * n) w.count true true at) (omega arith)
                (none-yet (1 + 2 * n) w.count at (omega arith) w.none_stored);
          }

    waiting : (n : ℕ) → 1 + 2 * suc n < overflow_cycle c → Waiting set c (suc n)
    waiting zero l = first-wait
    waiting (suc n) l = once-more (suc n) (waiting n (omega arith)) l

    -- So many jumps that the next one has the overflow in its first cycle.
    abbrev turns : ℕ
    turns = 16 * (256 - c) - 1

    last : Waiting set c turns
    last = subst (Waiting set c) (omega arith) (waiting (16 * (256 - c) - 2) (omega arith))

    before-overflow : 1 + 2 * turns < overflow_cycle c
    before-overflow = omega arith

    reached-end : Reached set c (looping (once (once last.count))) (1 + 2 * turns + 2) (1 + 2 * turns + halted set + 2)
    reached-end = jumped turns last before-overflow

    -- The run up to the end of the jump with the overflow.
    p : History (rom set) blank (start c)
    p = reached-end.history

    p-cycles : p.end.cycles ≡ overflow_cycle c + 1
    unfolding p
    p-cycles = omega (arith, reached-end.spent)

    p-used : p.end.used ≡ overflow_cycle c + 1 + halted set
    unfolding p
    p-used = omega (arith, reached-end.samples-used)

    p-state : p.end.state ≡ looping (once (once last.count))
    unfolding p
    p-state = reached-end.state

    p-memory : p.end.ram ≡ blank
    unfolding p
    p-memory = reached-end.memory

    in-step : StepWith (overflow_cycle c) p
    unfolding p reached-end jumped on
    in-step =
        record {
          before = last.reached.history;
          first = idle;
          second = idle;
          fine = fine set c last.reached idle idle _ 2 2 (jumps turns last);
          starts = omega (arith, last.reached.spent);
          ends = rw (planned set c last.reached idle idle _ 2 2 (jumps turns last), last.reached.spent) (omega arith);
          begins = whole;
        }

    enabled : (cycle p.steps (overflow_cycle c)).enabled ≡ true
    unfolding p reached-end jumped on
    enabled =
        step-enabled idle idle last.reached.history.steps (fine set c last.reached idle idle _ 2 2 (jumps turns last)) (overflow_cycle c)
        (omega (arith, last.reached.spent))
        ∙ ap (λ (s : State). s.interrupts.tcnti) reached-end.state

    next-sample : first_of (samples set c) p.end ≡ idle
    next-sample = rw p-used (sample set c (overflow_cycle c + 1 + halted set) (omega arith) (omega arith))

    last-sample : second_of (samples set c) p.end ≡ idle
    last-sample = rw p-used (sample set c (overflow_cycle c + 1 + halted set + 1) (omega arith) (omega arith))

    in-size : (once (once last.count)).divider < 32
    in-size = omega arith

-- All that the third demand asks is met by one run, under either set and for every c.
pub asked : (set : Set) (c : ℕ) → c < 256 → Asked (rom set) blank (start c) (samples set c) c
unfolding in-step p reached-end jumped on
asked set c small =
    record {
      part = p c small set;
      reads = (reached-end c small set).reads;
      undisturbed = (reached-end c small set).undisturbed;
      overflow = in-step c small set;
      awake = rw (last c small set).reached.state (loop-awake set (last c small set).count);
      on = enabled c small set;
      fine = rw (next-sample c small set, last-sample c small set, p-memory c small set, p-state c small set) (loop-fine set (once (once (last c small set).count)) _ refl (in-size c small set));
      calm = rw (next-sample c small set, p-state c small set) (loop-undisturbed set (once (once (last c small set).count)));
      idle = ap (λ (s : State). s.interrupts.service) (p-state c small set);
      off = inl (ap (λ (s : State). s.interrupts.external) (p-state c small set));
      two = rw (p-used c small set) (enough c small set (overflow_cycle c + 1 + halted set) (omega arith));
    }

-- ---- STRT T leads there
strt-there : (set : Set) → instruction_at (seen_by (rom set) idle) 0 ≡ given (sized (Control StrtT) 1)
unfolding instruction_at decoded_at visible entry_of kind_of pick
strt-there Intel = refl
strt-there Nec = refl

fetches : (set : Set) (c : ℕ) → Fetches (rom set) blank (ready c) idle idle
unfolding admission lent_number pick
fetches Intel c = record { admitted = refl; no_reset = refl; no_wait = refl; no_external = refl; no_timer = refl }
fetches Nec c = record { admitted = refl; no_reset = refl; no_wait = refl; no_external = refl; no_timer = refl }

strt-plan : (set : Set) (c : ℕ) → plan_of (rom set) blank (ready c) idle idle ≡ plan (start c) 1 1
unfolding plan_by settled ticked course carried done accepted admission lent_number executed instruction_at decoded_at visible from_outside entry_of kind_of pick
strt-plan Intel c = refl
strt-plan Nec c = refl

asked-after :
    (set : Set) (c : ℕ) → c < 256
    → Asked (rom set) (ram_after (rom set) blank (ready c) idle idle) (step_of (rom set) blank (ready c) idle idle).state (samples set c) c
unfolding written
asked-after set c small =
    subst (λ (q : Plan). Asked (rom set) (written blank q.write) q.state (samples set c) c) (sym (strt-plan set c)) (asked set c small)

-- From a step that carries out STRT T, through a run, to the call to location 7: for every c.
pub strt-t-to-7 :
    (set : Set) (c : ℕ) → c < 256
    → Met (rom set) (ram_after (rom set) blank (ready c) idle idle) (step_of (rom set) blank (ready c) idle idle).state (samples set c) c
strt-t-to-7 set c small =
    record {
      asks = asked-after set c small;
      called = from-strt-t (rom set) blank (ready c) idle idle (fetches set c) 1 (strt-there set) small (samples set c) (asked-after set c small);
    }

-- ---- and its call is late by 3
module _ (set : Set) (c : ℕ) (small : c < 256) where
  admitted : lent_of (rom set) blank (start c) ≡ 0
  admitted = go set
    where
      go : (x : Set) → lent_of (rom x) blank (start c) ≡ 0
      go Intel = unfold lent_number pick in refl
      go Nec = unfold lent_number pick in refl

  in-time : Called (asked set c small)
  in-time = called-in-time c small (started c small) admitted (asked set c small)

  end : Progress
  end = (next (asked set c small)).end

  end-cycles : end.cycles ≡ overflow_cycle c + 3
  unfolding end asked
  end-cycles = omega (arith, p-cycles c small set, in-time.calls.cycles)

  end-used : end.used ≡ length (samples set c)
  unfolding end asked
  end-used =
      let u = in-time.calls.used in
      omega (arith, p-used c small set, u, samples-length set c)

  through : run_of (rom set) blank (start c) (samples set c) ≡ ended end 0
  unfolding end
  through = in-time.through ∙ run-short (rom set) (samples set c) end.used end (omega (arith, end-used))

  -- What the call pushed.
  end-memory : end.ram ≡ put (put blank 8 0x02) 9 0x00
  unfolding end asked
  end-memory = in-time.calls.memory ∙ rw (p-memory c small set, p-state c small set)

pub exactly-3 : (set : Set) (c : ℕ) → c < 256 → Late set c (run_of (rom set) blank (start c) (samples set c))
unfolding end
exactly-3 set c small =
    subst (Late set c) (sym (through set c small))
    (record {
      number = refl;
      used = end-used set c small;
      cycles = end-cycles set c small;
      pc = (in-time set c small).calls.pc;
      request = (in-time set c small).calls.request;
      service = (in-time set c small).calls.service;
      ram_8 = ap (λ (m : List ℕ). byte_at m 8) (end-memory set c small);
      ram_9 = ap (λ (m : List ℕ). byte_at m 9) (end-memory set c small);
    })

pub exactly-8195 : (set : Set) → Late set 0 (run_of (rom set) blank (start 0) (samples set 0))
exactly-8195 set = exactly-3 set 0 (lit≤ tt)
