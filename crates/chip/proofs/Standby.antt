-- HALT and STOP (document 02, item 2): what the owner wants to know of them, and the cases.
-- Assumes nothing.
use Prim.Native.Nat.{ℕ, zero, suc, ◌+◌}
use mathlib.Core.Bool.{Bool, true, false, ◌&&◌, false≢true}
use mathlib.Core.List.{List, [], ◌∷◌, ◌++◌, map, append_assoc, append-nil}
use mathlib.Core.Logic.{◌⊎◌, inl, inr}
use mathlib.Core.Path.{◌≡◌, refl, sym, ap, ◌∙◌, subst}
use native.Mathlib.Nat.{add-zero, zero-add, add_assoc, suc-add}
use native.Mathlib.Omega.{arith}
use lib.Dec.{eqb}
use lib.ListN.{length, take, replicate}
use borrow.Author.Tests.{eqb-true, eqb-false, ne_eqb}
use Rattle.isa.specs.Choice.{pick}
use Rattle.isa.specs.Numbers.{Answer, given, refused}
use Rattle.isa.specs.Reading.{Sized, sized, entry_at, instruction_at, decoded_at}
use Rattle.isa.specs.Sheet.{kind_of, entry_of}
use Rattle.isa.specs.declared.Instruction.{Instruction}
use Rattle.isa.specs.declared.Set.TheVariants.{Intel, Nec}
use Rattle.isa.proofs.Finding.{refused-some}
use Rattle.machine.specs.Mode.{is_waiting}
use Rattle.machine.specs.Pins.{int_pin, reset_pin, is_low}
use Rattle.machine.specs.Rom.{Roms, alone, seen_by, visible}
use Rattle.machine.specs.State.{with_mode, running_at}
use Rattle.machine.specs.declared.Mode.{Mode}
use Rattle.machine.specs.declared.Mode.TheVariants.{Running, Released}
use Rattle.machine.specs.declared.State.{State}
use Rattle.effects.specs.Effect.{Nothing, Effect, written}
use Rattle.effects.specs.declared.Event.{Event}
use Rattle.effects.specs.declared.Event.TheVariants.{Quiet}
use Rattle.flow.specs.Stack.{pushed}
use Rattle.execute.specs.Execute.{executed}
use Rattle.execute.proofs.Keeping.{keeps}
use Rattle.chip.specs.Admission.{sample_allowed, lent_number, lent_of, admission}
use Rattle.chip.specs.Cases.{seen, blank}
use Rattle.chip.specs.History.{after, Steps, none, more}
use Rattle.chip.specs.Outside.{from_outside}
use Rattle.chip.specs.Refusals.{Fetches, Gives, program_length, outside_length, ram-length, state_outside, sample_bits, no_first_byte, undefined_code, no_second_byte, no_table_byte}
use Rattle.chip.specs.Run.{Progress, Ended, begun, gone, ended, turned, run_by, run_over, run_of}
use Rattle.chip.specs.Standby.{AllUnnoticed, later, resumed, OneInstruction, Resumes, carried-out, not_carried_out, Calls7, nec_cases, intel_cases, nap, nap_samples, nap_sight, nearly}
use Rattle.chip.specs.Step.{Course, Plan, declined, accepted, released, waits, reset_state, called, without_request, pc_after, done, carried, with_outside, course_by, course, ticked, settled, plan_by, plan_of}
use Rattle.chip.specs.declared.Turn.TheVariants.{CarryOut}
use Rattle.chip.proofs.Answering.{external-off, timer-on, call-pc, call-service, settled-pc, settled-service}
use Rattle.chip.proofs.Cycles.{course-number, same-used}
use Rattle.chip.proofs.Exactly.{allowed, admitted, comes-to, exactly-from}
use Rattle.chip.proofs.Linking.{run-over}
use Rattle.chip.proofs.Modes.{settled-mode, intel-cycles}
use Rattle.chip.proofs.Permitted.{still-stands}
use Rattle.chip.proofs.Turns.{refuses, waits-in, calls-timer}

-- ---- a halted or stopped step
abbrev wait_plan : State → ℕ → Plan
wait_plan s first = record { number = 0; state = released s first; event = Quiet; write = Nothing; cycles = 0; used = 1; outside = 0 }

module _ (roms : Roms) (ram : List ℕ) (s : State) (lent : lent_of roms ram s ≡ 0) (h : is_waiting s.mode ≡ true) (first second : ℕ)
    (fine : (sample_allowed first && sample_allowed second) ≡ true) (high : is_low reset_pin first ≡ false) where
  -- It uses one sample and no machine cycle, gives no event and writes nothing; only INT changes the state, and of it the mode alone.
  pub wait-step : plan_of roms ram s first second ≡ wait_plan s first
  unfolding plan_by waits settled ticked pick
  wait-step = rw (waits-in roms ram s first second lent fine high h)

-- Waits one after the other.
replicate-more : (a b : ℕ) (e : Event) → replicate a e ++ replicate b e ≡ replicate (a + b) e
replicate-more zero b e = rw zero-add
replicate-more (suc a) b e = rw suc-add (ap (λ l. e ∷ l) (replicate-more a b e))

later-later : (m : Progress) (a b : ℕ) (p q : Mode) → later (later m a p) b q ≡ later m (a + b) q
later-later m a b p q = rw (add_assoc, append_assoc, replicate-more a b Quiet)

gone-unnoticed : (m : Progress) (x : ℕ) → is_low int_pin x ≡ false → gone m (wait_plan m.state x) ≡ later m 1 m.state.mode
unfolding written pick
gone-unnoticed m x e = rw (e, add-zero)

gone-released : (m : Progress) (x : ℕ) → is_low int_pin x ≡ true → gone m (wait_plan m.state x) ≡ later m 1 Released
unfolding written pick
gone-released m x e = rw (e, add-zero)

later-once : (m : Progress) (n : ℕ) (p q : Mode) → later (later m 1 p) n q ≡ later m (suc n) q
later-once m n p q = let k : 1 + n ≡ suc n = omega arith in later-later m 1 n p q ∙ ap (λ (j : ℕ). later m j q) k

both : (x y : Bool) → x ≡ true → y ≡ true → (x && y) ≡ true
both x y p q = rw (p, q)

module _ (roms : Roms) (m : Progress) (lent : lent_of roms m.ram m.state ≡ 0) (h : is_waiting m.state.mode ≡ true)
    (x z : ℕ) (zs : List ℕ) (fine : sample_allowed x ≡ true) (fine' : sample_allowed z ≡ true) (high : is_low reset_pin x ≡ false) where
  over-wait : run_over roms (x ∷ (z ∷ zs)) m ≡ run_over roms (z ∷ zs) (gone m (wait_plan m.state x))
  unfolding run_by pick
  over-wait = rw (wait-step roms m.ram m.state lent h x z (both (sample_allowed x) (sample_allowed z) fine fine') high)

  over-unnoticed : is_low int_pin x ≡ false → run_over roms (x ∷ (z ∷ zs)) m ≡ run_over roms (z ∷ zs) (later m 1 m.state.mode)
  over-unnoticed e = over-wait ∙ ap (run_over roms (z ∷ zs)) (gone-unnoticed m x e)

  over-released : is_low int_pin x ≡ true → run_over roms (x ∷ (z ∷ zs)) m ≡ run_over roms (z ∷ zs) (later m 1 Released)
  over-released e = over-wait ∙ ap (run_over roms (z ∷ zs)) (gone-released m x e)

-- Through a halt of any length nothing changes but the samples used: not A, not RAM, not T, the divider or a stored request.
pub halt-lasts :
    (roms : Roms) (m : Progress) (ws : List ℕ) (y : ℕ) (rest : List ℕ) → lent_of roms m.ram m.state ≡ 0
    → is_waiting m.state.mode ≡ true → AllUnnoticed ws → sample_allowed y ≡ true
    → run_over roms (ws ++ (y ∷ rest)) m ≡ run_over roms (y ∷ rest) (later m (length ws) m.state.mode)
halt-lasts roms m [] y rest lent h q fine = ap (run_over roms (y ∷ rest)) (rw (add-zero, append-nil))
halt-lasts roms m (x ∷ []) y rest lent h q fine =
    over-unnoticed roms m lent h x y rest q.0.allowed fine q.0.no_reset q.0.no_int
halt-lasts roms m (x ∷ (w ∷ ws)) y rest lent h q fine =
    over-unnoticed roms m lent h x w (ws ++ (y ∷ rest)) q.0.allowed q.1.0.allowed q.0.no_reset q.0.no_int
    ∙ halt-lasts roms (later m 1 m.state.mode) (w ∷ ws) y rest lent h q.1 fine
    ∙ ap (run_over roms (y ∷ rest)) (later-once m (length (w ∷ ws)) m.state.mode m.state.mode)

-- And then released by INT, only the mode: a request that was stored when it halted is stored still.
pub halt-released :
    (roms : Roms) (m : Progress) (ws : List ℕ) (x y : ℕ) (rest : List ℕ) → lent_of roms m.ram m.state ≡ 0
    → is_waiting m.state.mode ≡ true → AllUnnoticed ws → sample_allowed x ≡ true → sample_allowed y ≡ true → is_low reset_pin x ≡ false
    → is_low int_pin x ≡ true
    → run_over roms (ws ++ (x ∷ (y ∷ rest))) m ≡ run_over roms (y ∷ rest) (later m (length ws + 1) Released)
halt-released roms m ws x y rest lent h q fine fine' high int =
    halt-lasts roms m ws x (y ∷ rest) lent h q fine
    ∙ over-released roms (later m (length ws) m.state.mode) lent h x y rest fine fine' high int
    ∙ ap (run_over roms (y ∷ rest)) (later-later m (length ws) 1 m.state.mode Released)

-- ---- one instruction after the release
first_of : (x y : Bool) → (x && y) ≡ true → x ≡ true
first_of true y e = refl
first_of false y e = e

second-of : (x y : Bool) → (x && y) ≡ true → y ≡ true
second-of true y e = e
second-of false y e = absurd (false≢true e)

declined-number : (n : ℕ) (s : State) → (declined n s).number ≡ n
unfolding declined
declined-number n s = refl

-- The numbers that a step can be refused with where 1, 2 and 3 are not given.
pub numbers :
    (roms : Roms) (ram : List ℕ) (s : State) (first second n : ℕ) → lent_of roms ram s ≡ 0 → Gives roms ram s first second n
    → (n ≡ 4) ⊎ ((n ≡ 5) ⊎ (n ≡ 6))
numbers roms ram s first second n lent (program_length p) =
    absurd (false≢true (sym p ∙ (allowed roms ram s first second lent).program_sized))
numbers roms ram s first second n lent (outside_length p o) =
    absurd (false≢true (sym o ∙ (allowed roms ram s first second lent).outside_sized))
numbers roms ram s first second n lent (ram-length p o r) =
    absurd (false≢true (sym r ∙ (allowed roms ram s first second lent).ram_sized))
numbers roms ram s first second n lent (state_outside p o r q) =
    absurd (false≢true (sym q ∙ (allowed roms ram s first second lent).state_permitted))
numbers roms ram s first second n lent (sample_bits p o r q b) = inr (inr refl)
numbers roms ram s first second n lent (no_first_byte f l) = inr (inl refl)
numbers roms ram s first second n lent (undefined_code f l u) = inl refl
numbers roms ram s first second n lent (no_second_byte f l u o m) = inr (inl refl)
numbers roms ram s first second n lent (no_table_byte i k at f e w l) = inr (inl refl)

module _ (roms : Roms) (ram : List ℕ) (s : State) (lent : lent_of roms ram s ≡ 0) (h : is_waiting s.mode ≡ true) (x y z : ℕ)
    (int : is_low int_pin x ≡ true) (high : is_low reset_pin x ≡ false) (high' : is_low reset_pin y ≡ false) where
  free : State
  free = with_mode s Released

  abbrev ran : Ended
  ran = run_of roms ram s (x ∷ (y ∷ (z ∷ [])))

  start : Progress
  start = later (begun ram s) 1 Released

  abbrev second_step : Plan
  second_step = plan_of roms ram free y z

  -- A sample with a bit that it must not have.
  not-allowed : (sample_allowed x && sample_allowed y) ≡ false → ran.ran.number ≡ 6
  not-allowed b =
      ap (λ (e : Ended). e.ran.number) (run-over roms ram s (x ∷ (y ∷ (z ∷ []))) lent)
      ∙ (unfold run_by plan_by declined pick in rw (refuses roms ram s x y lent b))

  module _ (fine : (sample_allowed x && sample_allowed y) ≡ true) where
    goes : ran ≡ run_over roms (y ∷ (z ∷ [])) start
    unfolding start
    goes =
        run-over roms ram s (x ∷ (y ∷ (z ∷ []))) lent
        ∙ over-released roms (begun ram s) lent h x y (z ∷ []) (first_of (sample_allowed x) (sample_allowed y) fine) (second-of (sample_allowed x) (sample_allowed y) fine) high int

    released-free : released s x ≡ free
    released-free = unfold free pick in rw int

    free-lent : lent_of roms ram free ≡ 0
    free-lent =
        subst (λ (t : State). lent_of roms ram t ≡ 0) released-free
        (unfold written in
        subst (λ (p : Plan). lent_of roms (written ram p.write) p.state ≡ 0) (wait-step roms ram s lent h x y fine high)
        (still-stands roms ram s x y _ _ refl refl (ap (λ (p : Plan). p.number) (wait-step roms ram s lent h x y fine high)) lent))

    -- The second step is refused,
    declines : (second_step.number ≡ 0 → ⊥) → Resumes roms ram s y z ran
    declines n =
        not_carried_out
        (subst (λ (k : ℕ). (k ≡ 4) ⊎ ((k ≡ 5) ⊎ (k ≡ 6)))
        (sym (ap (λ (e : Ended). e.ran.number) goes ∙ refused-there))
        (numbers roms ram free y z second_step.number free-lent (exactly-from roms ram free y z second_step.number refl n)))
      where
        refused-there : (run_over roms (y ∷ (z ∷ [])) start).ran.number ≡ second_step.number
        refused-there = unfold run_by start free pick in rw (ne_eqb _ _ n)

    -- or carries out the instruction at PC.
    module _ (n : second_step.number ≡ 0) where
      accepted-there : (course roms ram free y z).number ≡ 0
      accepted-there = course-number (course roms ram free y z) free y z n

      fetches : Fetches roms ram free y z
      unfolding free
      fetches =
          record { admitted = admitted roms ram free y z accepted-there; no_reset = high'; no_wait = refl; no_external = refl; no_timer = refl }

      is-carried : course roms ram free y z ≡ course_by CarryOut roms ram free y z
      is-carried = comes-to roms ram free y z fetches

      module _ (i : Instruction) (k : ℕ) (there : instruction_at (seen_by roms y) s.pc ≡ given (sized i k)) where
        effect : Effect
        effect = resumed roms ram s i k y z

        is-done : course roms ram free y z ≡ with_outside (from_outside roms y free) (done effect (entry_at (seen_by roms y) s.pc).cycles free)
        is-done = is-carried ∙ (unfold carried free effect in rw there)

        is-accepted : course roms ram free y z ≡ with_outside (from_outside roms y free) (accepted effect (entry_at (seen_by roms y) s.pc).cycles)
        is-accepted = go (eqb effect.number 0) refl
          where
            go : (b : Bool) → eqb effect.number 0 ≡ b → course roms ram free y z ≡ with_outside (from_outside roms y free) (accepted effect (entry_at (seen_by roms y) s.pc).cycles)
            go true e = is-done ∙ (unfold done pick in rw e)
            go false e =
                let d : course roms ram free y z ≡ with_outside (from_outside roms y free) (declined effect.number free) = is-done ∙ (unfold done pick in rw e) in
                let z : effect.number ≡ 0 = sym (ap (λ (c : Course). c.number) d ∙ declined-number effect.number free) ∙ accepted-there in
                absurd (eqb-false _ _ e z)

        abbrev whole : Plan
        whole =
            record {
              number = 0;
              state = settled effect.state (entry_at (seen_by roms y) s.pc).cycles effect.fresh y z;
              event = effect.event;
              write = effect.write;
              cycles = (entry_at (seen_by roms y) s.pc).cycles;
              used = (entry_at (seen_by roms y) s.pc).cycles;
              outside = from_outside roms y free;
            }

        planned : second_step ≡ whole
        planned = ap (λ (c : Course). plan_by c free y z) is-accepted ∙ (unfold plan_by accepted pick in refl)

        ends : ran ≡ ended (gone start whole) 0
        ends = goes ∙ go (eqb whole.used 1) refl
          where
            turns :
                run_over roms (y ∷ (z ∷ [])) start
                ≡ turned whole start (run_over roms (z ∷ [])) (run_over roms [])
            turns =
                let goes_on : run_over roms (y ∷ (z ∷ [])) start ≡ turned second_step start (run_over roms (z ∷ [])) (run_over roms []) =
                unfold run_by start free in refl
                in
                goes_on ∙ ap (λ (p : Plan). turned p start (run_over roms (z ∷ [])) (run_over roms [])) planned

            go : (b : Bool) → eqb whole.used 1 ≡ b → run_over roms (y ∷ (z ∷ [])) start ≡ ended (gone start whole) 0
            go true e = turns ∙ (unfold run_by pick in rw e)
            go false e = turns ∙ (unfold run_by pick in rw e)

        one : OneInstruction roms ram s y z ran
        one =
            subst (OneInstruction roms ram s y z) (sym ends)
            (unfold start effect in
            record {
              instruction = i;
              bytes = k;
              stands = there;
              number = refl;
              state = refl;
              memory = refl;
              cycles = rw zero-add;
              used = refl;
              events = refl;
              runs = λ awake.
                  settled-mode (resumed roms ram s i k y z).state _ _ y z
                  ∙ (keeps i (seen_by roms y).bytes ram (running_at (with_mode s Released) (pc_after k s.pc)) s.pc y z).mode awake;
            })

      finds : Resumes roms ram s y z ran
      finds = go (instruction_at (seen_by roms y) s.pc) refl
        where
          go : (a : Answer Sized) → instruction_at (seen_by roms y) s.pc ≡ a → Resumes roms ram s y z ran
          go (refused m) e =
              let d : course roms ram free y z ≡ with_outside (from_outside roms y free) (declined m free) = is-carried ∙ (unfold carried free in rw e) in
              absurd (refused-some (seen_by roms y) s.pc m e (sym (ap (λ (c : Course). c.number) d ∙ declined-number m free) ∙ accepted-there))
          go (given (sized i k)) e = carried-out (one i k e)

  -- From any halted or stopped state: a sample with INT low and RESET high, and two more with RESET high.
  pub released-one : Resumes roms ram s y z ran
  released-one = go (sample_allowed x && sample_allowed y) (eqb second_step.number 0) refl refl
    where
      go : (a b : Bool) → (sample_allowed x && sample_allowed y) ≡ a → eqb second_step.number 0 ≡ b → Resumes roms ram s y z ran
      go false b e f = not_carried_out (inr (inr (not-allowed e)))
      go true true e f = finds e (eqb-true _ _ f)
      go true false e f = declines e (eqb-false _ _ f)

-- ---- the call after it
abbrev call_to7 : State → Course
call_to7 s = accepted (called (without_request s) 7) 2

-- Where the machine runs, none is in service, the timer's interrupt is enabled, a request is stored, RESET is high and the external one isn't due,
-- the next step calls 7.
pub calls-7 :
    (roms : Roms) (k : Progress) (first second : ℕ) → lent_of roms k.ram k.state ≡ 0
    → (sample_allowed first && sample_allowed second) ≡ true → is_low reset_pin first ≡ false → k.state.mode ≡ Running
    → k.state.interrupts.service ≡ false → k.state.interrupts.tcnti ≡ true → k.state.request ≡ true
    → (k.state.interrupts.external ≡ false) ⊎ (is_low int_pin first ≡ false) → Calls7 roms k first second
calls-7 roms k first second lent fine high runs idle on asks off =
    record {
      call = is;
      fine = ap (λ (c : Course). (plan_by c k.state first second).number) is ∙ (unfold plan_by accepted pick in refl);
      pc = left-pc;
      service = left-service;
      cycles = ap (λ (c : Course). (plan_by c k.state first second).cycles) is ∙ (unfold plan_by accepted pick in refl);
    }
  where
    is : course roms k.ram k.state first second ≡ call_to7 k.state
    is =
        calls-timer roms k.ram k.state first second lent fine high (ap is_waiting runs) (external-off k.state first off)
        (timer-on k.state runs idle on asks)

    left :
        (plan_by (call_to7 k.state) k.state first second).state
        ≡ settled (call_to7 k.state).state 2 (call_to7 k.state).fresh first second
    left = unfold plan_by accepted pick in refl

    left-pc : (after roms k first second).state.pc ≡ 7
    left-pc =
        ap (λ (c : Course). (plan_by c k.state first second).state.pc) is ∙ ap (λ (s : State). s.pc) left
        ∙ settled-pc (call_to7 k.state).state 2 (call_to7 k.state).fresh first second ∙ call-pc k.state

    left-service : (after roms k first second).state.interrupts.service ≡ true
    left-service =
        ap (λ (c : Course). (plan_by c k.state first second).state.interrupts.service) is ∙ ap (λ (s : State). s.interrupts.service) left
        ∙ settled-service (call_to7 k.state).state 2 (call_to7 k.state).fresh first second ∙ call-service k.state

-- ---- under Intel
-- No step waits, so samples and machine cycles are still one number.
pub intel-samples :
    {roms : Roms} {ram : List ℕ} {s : State} {k : Progress} → roms.set ≡ Intel → Steps roms ram s k → k.used ≡ k.cycles
intel-samples e none = refl
intel-samples {roms} e (more {k = k} first second h a) =
    let before = intel-samples e h in
    let this = same-used roms k first second a (intel-cycles roms k.ram k.state first second a e) in
    omega (arith, before, this)

-- ---- cases, by computation
pub nec-seen : map (seen Nec) nec_cases ≡ map (λ c. c.want) nec_cases
unfolding run_of run_by plan_by settled ticked course carried done accepted declined waits reset_state called without_request written admission lent_number executed pushed instruction_at decoded_at visible entry_of kind_of pick
nec-seen = refl

pub intel-seen : map (seen Intel) intel_cases ≡ map (λ c. c.want) intel_cases
unfolding run_of run_by plan_by settled ticked course carried done accepted declined waits reset_state called without_request written admission lent_number executed pushed instruction_at decoded_at visible entry_of kind_of pick
intel-seen = refl

-- The overflow is in cycle 1, HALT's own. The call waits for the release and for the one instruction, here a jump of two cycles, and is complete
-- in cycle 5: 4 cycles after the overflow. So demand 3 has to ask that the step with the overflow is neither HALT nor STOP.
pub nap-seen :
    map (λ n. nap_sight (run_of (alone Nec nap) blank nearly (take n nap_samples))) (2 ∷ 5 ∷ 6 ∷ 8 ∷ 10 ∷ [])
    ≡ record { mode = 1; used = 1; cycles = 1; pc = 0x001; request = true; service = false }
    ∷ record { mode = 1; used = 4; cycles = 1; pc = 0x001; request = true; service = false }
    ∷ record { mode = 3; used = 5; cycles = 1; pc = 0x001; request = true; service = false }
    ∷ record { mode = 0; used = 7; cycles = 3; pc = 0x001; request = true; service = false }
    ∷ record { mode = 0; used = 9; cycles = 5; pc = 0x007; request = false; service = true }
    ∷ []
unfolding run_of run_by plan_by settled ticked course carried done accepted declined waits reset_state called without_request written admission lent_number executed pushed instruction_at decoded_at visible entry_of kind_of pick
nap-seen = refl
