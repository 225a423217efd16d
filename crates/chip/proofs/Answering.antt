-- The step after an overflow is the call to location 7.
-- Assumes nothing.
use Prim.Native.Nat.{ℕ, ◌+◌, ◌*◌, ◌/◌, ◌%◌, ◌≤◌, ◌<◌}
use mathlib.Core.Bool.{Bool, true, false, not, ◌||◌, ◌&&◌, false≢true}
use mathlib.Core.List.{List}
use mathlib.Core.Logic.{◌⊎◌, ⊎_elim}
use mathlib.Core.Path.{◌≡◌, refl, sym, ap, ◌∙◌, subst}
use native.Mathlib.Omega.{arith}
use lib.Dec.{eqb}
use lib.ListN.{set}
use borrow.Author.Tests.{eqb-true, eqb-false, not-true}
use Rattle.isa.specs.Sets.{Standby}
use Rattle.isa.specs.declared.Instruction.{Instruction}
use Rattle.machine.specs.Mode.{is_running, is_waiting}
use Rattle.machine.specs.Pins.{int_pin, reset_pin, is_low}
use Rattle.machine.specs.Rom.{Roms}
use Rattle.machine.specs.State.{count_of}
use Rattle.machine.specs.declared.Count.{Count}
use Rattle.machine.specs.declared.Mode.TheVariants.{Running}
use Rattle.machine.specs.declared.State.{State}
use Rattle.machine.proofs.Timing.{request-stays, tf-stays}
use Rattle.machine.specs.Psw.{sp}
use Rattle.effects.specs.Effect.{Write, Pair, written}
use Rattle.flow.specs.Stack.{pushed}
use Rattle.chip.specs.History.{Cycle, afterwards, Overflowing, first_cycle, second_cycle, course_at, plan_at, after, Steps, more, cycle, CarriesOut, Undisturbed, AllUndisturbed, CallTo7, overflow_cycle}
use Rattle.chip.specs.Run.{Progress}
use Rattle.chip.specs.Step.{Course, declined, accepted, called, without_request, external_calls, timer_calls, course, settled}
use Rattle.chip.proofs.Choices.{either}
use Rattle.chip.proofs.Cycles.{Counts, Running as Going, plan-write, cycle-first, cycle-second, count-law, two-at-most, accepted-course, is-settled, same-cycles, same-used, ends-first, ends-second, ends-enabled, first-counts, second-counts}
use Rattle.chip.proofs.Modes.{runs-after}
use Rattle.chip.proofs.Overflows.{overflowing, calm, first-hit}

first-enabled : (c : Course) (first : ℕ) → (first_cycle c first).enabled ≡ c.state.interrupts.tcnti
unfolding first_cycle
first-enabled c first = refl

second-enabled : (c : Course) (first second : ℕ) → (second_cycle c first second).enabled ≡ c.state.interrupts.tcnti
unfolding second_cycle
second-enabled c first second = refl

second-before : (c : Course) (first second : ℕ) → (second_cycle c first second).before ≡ afterwards (first_cycle c first)
unfolding second_cycle
second-before c first second = refl

-- The timer interrupt is enabled in a step's cycles exactly if it is after the step.
pub step-enabled :
    {roms : Roms} {ram : List ℕ} {s : State} {k : Progress} (first second : ℕ) (h : Steps roms ram s k) (a : (plan_at roms k first second).number ≡ 0)
    (i : ℕ) → k.cycles < i → (cycle (more first second h a) i).enabled ≡ (after roms k first second).state.interrupts.tcnti
step-enabled {roms} {k = k} first second h a i b = go (eqb i (k.cycles + 1)) refl
  where
    go : (x : Bool) → eqb i (k.cycles + 1) ≡ x → (cycle (more first second h a) i).enabled ≡ (after roms k first second).state.interrupts.tcnti
    go true e =
        ap (λ (z : Cycle). z.enabled) (cycle-first first second h a i b (eqb-true _ _ e)) ∙ first-enabled (course_at roms k first second) first
        ∙ sym (ends-enabled roms k first second a)
    go false e =
        ap (λ (z : Cycle). z.enabled) (cycle-second first second h a i b (eqb-false _ _ e))
        ∙ second-enabled (course_at roms k first second) first second ∙ sym (ends-enabled roms k first second a)

-- What a cycle leaves alone of a stored request and of TF.
keeps-request : (x : Cycle) → x.before.request ≡ true → (afterwards x).request ≡ true
keeps-request x h =
    either (λ (y : Count). y.request ≡ true) _ _ _ (λ f. h) (λ f. request-stays x.counting x.before x.t1 x.enabled h)

keeps-tf : (x : Cycle) → x.before.tf ≡ true → (afterwards x).tf ≡ true
keeps-tf x h = either (λ (y : Count). y.tf ≡ true) _ _ _ (λ f. h) (λ f. tf-stays x.counting x.before x.t1 x.enabled h)

or-right : (x y : Bool) → y ≡ true → (x || y) ≡ true
or-right true y h = refl
or-right false y h = h

-- ---- the step with the overflow
module _ {roms : Roms} {ram : List ℕ} {s : State} {k : Progress} (c : ℕ) (small : c < 256) (first second : ℕ) (h : Steps roms ram s k)
    (a : (plan_at roms k first second).number ≡ 0) (u : AllUndisturbed (more first second h a)) (r : Going c 0 s)
    (b : k.cycles < overflow_cycle c) (g : overflow_cycle c ≤ k.cycles + (plan_at roms k first second).cycles) where
  before-step : Going c k.cycles k.state
  before-step = count-law c h u.0 r

  positive : 1 ≤ overflow_cycle c
  positive = omega arith

  in-first : overflow_cycle c ≡ k.cycles + 1 → Overflowing (first_cycle (course_at roms k first second) first)
  in-first e =
      overflowing c (overflow_cycle c) _ positive
      (subst (λ (j : ℕ). Counts c j (first_cycle (course_at roms k first second) first)) (sym e) (first-counts roms k first second a u.1 c k.cycles before-step))
      (first-hit c small)

  in-second : overflow_cycle c ≡ k.cycles + 1 + 1 → Overflowing (second_cycle (course_at roms k first second) first second)
  in-second e =
      overflowing c (overflow_cycle c) _ positive
      (subst (λ (j : ℕ). Counts c j (second_cycle (course_at roms k first second) first second)) (sym e) (second-counts roms k first second a u.1 c k.cycles before-step))
      (first-hit c small)

  -- What holds of the counter after the overflow, and stays through a cycle, holds after the step: the overflow may be in either cycle.
  left :
      (P : Count → Type 0) → ((x : Cycle) → P x.before → P (afterwards x))
      → (overflow_cycle c ≡ k.cycles + 1 → P (afterwards (first_cycle (course_at roms k first second) first)))
      → (overflow_cycle c ≡ k.cycles + 1 + 1 → P (afterwards (second_cycle (course_at roms k first second) first second)))
      → P (count_of (after roms k first second).state)
  left P stays one two = go (eqb (overflow_cycle c) (k.cycles + 1)) (eqb (plan_at roms k first second).cycles 2) refl refl
    where
      go :
          (x y : Bool) → eqb (overflow_cycle c) (k.cycles + 1) ≡ x → eqb (plan_at roms k first second).cycles 2 ≡ y
          → P (count_of (after roms k first second).state)
      go true true e f =
          subst P (sym (ends-second roms k first second a (eqb-true _ _ f)))
          (stays (second_cycle (course_at roms k first second) first second)
          (subst P (sym (second-before (course_at roms k first second) first second)) (one (eqb-true _ _ e))))
      go true false e f =
          let d : (plan_at roms k first second).cycles ≡ 2 → ⊥ = eqb-false _ _ f in
          let o = two-at-most roms k first second a in
          let w : (plan_at roms k first second).cycles ≡ 1 = omega (arith, o, d, b, g) in
          subst P (sym (ends-first roms k first second a w)) (one (eqb-true _ _ e))
      go false true e f =
          let d : overflow_cycle c ≡ k.cycles + 1 → ⊥ = eqb-false _ _ e in
          let w : (plan_at roms k first second).cycles ≡ 2 = eqb-true _ _ f in
          let v : overflow_cycle c ≡ k.cycles + 1 + 1 = omega arith in
          subst P (sym (ends-second roms k first second a w)) (two v)
      go false false e f =
          let d : overflow_cycle c ≡ k.cycles + 1 → ⊥ = eqb-false _ _ e in
          let d' : (plan_at roms k first second).cycles ≡ 2 → ⊥ = eqb-false _ _ f in
          let o = two-at-most roms k first second a in
          let w : (plan_at roms k first second).cycles ≡ 1 = omega (arith, o, d', b, g) in
          absurd (omega arith)

  -- It leaves TF set,
  pub left-tf : (after roms k first second).state.tf ≡ true
  left-tf = left (λ (y : Count). y.tf ≡ true) keeps-tf (λ e. (in-first e).tf) (λ e. (in-second e).tf)

  -- and, if the timer interrupt is enabled in the overflow's cycle, a request, and the interrupt enabled.
  module _ (on : (cycle (more first second h a) (overflow_cycle c)).enabled ≡ true) where
    course-on : (course_at roms k first second).state.interrupts.tcnti ≡ true
    course-on = sym (ends-enabled roms k first second a) ∙ sym (step-enabled first second h a (overflow_cycle c) b) ∙ on

    left-enabled : (after roms k first second).state.interrupts.tcnti ≡ true
    left-enabled = ends-enabled roms k first second a ∙ course-on

    pub left-request : (after roms k first second).state.request ≡ true
    left-request =
        left (λ (y : Count). y.request ≡ true) keeps-request
        (λ e. (in-first e).request ∙ or-right (first_cycle (course_at roms k first second) first).before.request _ (first-enabled (course_at roms k first second) first ∙ course-on))
        (λ e. (in-second e).request ∙ or-right (second_cycle (course_at roms k first second) first second).before.request _ (second-enabled (course_at roms k first second) first second ∙ course-on))

-- ---- the step that finds a request
record Calls (z c : Course) : Type 0 where
  calls : c.number ≡ 0 → c ≡ z

declined-calls : (z : Course) (n : ℕ) (s : State) → (n ≡ 0 → ⊥) → Calls z (declined n s)
unfolding declined
declined-calls z n s h = record { calls = λ e. absurd (h e) }

course-calls :
    (roms : Roms) (ram : List ℕ) (s : State) (first second : ℕ) → is_low reset_pin first ≡ false → is_waiting s.mode ≡ false
    → external_calls s first ≡ false → timer_calls s ≡ true
    → Calls (accepted (called (without_request s) 7) 2) (course roms ram s first second)
unfolding course
course-calls roms ram s first second r h e t =
    either (Calls _) _ _ _ (λ w. declined-calls _ _ s (eqb-false _ _ (not-true _ w)))
    (λ w. either (Calls _) _ _ _ (λ v. absurd (false≢true (sym r ∙ v)))
    (λ v. either (Calls _) _ _ _ (λ g. absurd (false≢true (sym h ∙ g)))
    (λ g. either (Calls _) _ _ _ (λ x. absurd (false≢true (sym e ∙ x)))
    (λ x. either (Calls _) _ _ _ (λ y. record { calls = λ z. refl })
    (λ y. absurd (false≢true (sym y ∙ t)))))))

call-request : (s : State) → (accepted (called (without_request s) 7) 2).state.request ≡ false
unfolding accepted called without_request pushed
call-request s = refl

pub call-pc : (s : State) → (accepted (called (without_request s) 7) 2).state.pc ≡ 7
unfolding accepted called without_request pushed
call-pc s = refl

pub call-service : (s : State) → (accepted (called (without_request s) 7) 2).state.interrupts.service ≡ true
unfolding accepted called without_request pushed
call-service s = refl

call-write :
    (s : State)
    → (accepted (called (without_request s) 7) 2).write
    ≡ Pair (8 + sp s.psw * 2) (s.pc % 256) (s.pc / 256 % 16 + s.psw / 16 * 16)
unfolding accepted called without_request pushed
call-write s = refl

pub call-cycles : (s : State) → (accepted (called (without_request s) 7) 2).cycles ≡ 2
unfolding accepted
call-cycles s = refl

pub settled-pc : (s : State) (cycles : ℕ) (fresh : Bool) (first second : ℕ) → (settled s cycles fresh first second).pc ≡ s.pc
unfolding settled
settled-pc s cycles fresh first second = refl

pub settled-service : (s : State) (cycles : ℕ) (fresh : Bool) (first second : ℕ) → (settled s cycles fresh first second).interrupts.service ≡ s.interrupts.service
unfolding settled
settled-service s cycles fresh first second = refl

first-request : (c : Course) (first : ℕ) → (first_cycle c first).before.request ≡ c.state.request
unfolding first_cycle
first-request c first = refl

-- "The external one is disabled or its pin high."
pub external-off : (s : State) (first : ℕ) → (s.interrupts.external ≡ false) ⊎ (is_low int_pin first ≡ false) → external_calls s first ≡ false
external-off s first h = go (is_running s.mode) s.interrupts.service s.interrupts.external (is_low int_pin first) h
  where
    go : (w x y z : Bool) → (y ≡ false) ⊎ (z ≡ false) → (w && not x && y && z) ≡ false
    go false x y z h = refl
    go true true y z h = refl
    go true false false z h = refl
    go true false true false h = refl
    go true false true true h = ⊎_elim (λ e. e) (λ e. e) h

pub timer-on :
    (s : State) → s.mode ≡ Running → s.interrupts.service ≡ false → s.interrupts.tcnti ≡ true → s.request ≡ true
    → timer_calls s ≡ true
timer-on s w x y z = rw (w, x, y, z)

calm-after : (c i : ℕ) → c < 256 → overflow_cycle c < i → i ≤ overflow_cycle c + 3 → (32 * c + i) % 8192 ≡ 0 → ⊥
calm-after c i h l g e = omega arith

pair-written : (ram : List ℕ) (w : Write) (at low high : ℕ) → w ≡ Pair at low high → written ram w ≡ set (set ram at low) (at + 1) high
unfolding written
pair-written ram w at low high e = rw e

-- A step that finds a request, with nothing in service and no external interrupt, is the call, and no overflow falls into it.
module _ (roms : Roms) (k : Progress) (first second : ℕ) (a : (plan_at roms k first second).number ≡ 0)
    (q : Undisturbed roms k.state first) (v : k.state.mode ≡ Running) (e : external_calls k.state first ≡ false)
    (t : timer_calls k.state ≡ true)
    (c n : ℕ) (small : c < 256) (h : Going c n k.state) (l : overflow_cycle c ≤ n) (g : n + 1 + 1 ≤ overflow_cycle c + 3) where
  the-call : course_at roms k first second ≡ accepted (called (without_request k.state) 7) 2
  the-call = (course-calls roms k.ram k.state first second q.no_reset (ap is_waiting v) e t).calls (accepted-course roms k first second a)

  two-cycles : (plan_at roms k first second).cycles ≡ 2
  two-cycles = sym (same-cycles roms k first second a) ∙ ap (λ (x : Course). x.cycles) the-call ∙ call-cycles k.state

  first-none : (first_cycle (course_at roms k first second) first).before.request ≡ false
  first-none =
      first-request (course_at roms k first second) first ∙ ap (λ (x : Course). x.state.request) the-call ∙ call-request k.state

  first-leaves :
      (afterwards (first_cycle (course_at roms k first second) first)).request
      ≡ (first_cycle (course_at roms k first second) first).before.request
  first-leaves =
      (calm c (n + 1) _ (omega arith) (first-counts roms k first second a q c n h)
      (calm-after c (n + 1) small (omega arith) (omega arith))).request

  second-leaves :
      (afterwards (second_cycle (course_at roms k first second) first second)).request
      ≡ (second_cycle (course_at roms k first second) first second).before.request
  second-leaves =
      (calm c (n + 1 + 1) _ (omega arith) (second-counts roms k first second a q c n h)
      (calm-after c (n + 1 + 1) small (omega arith) (omega arith))).request

  answered : CallTo7 roms k first second
  answered =
      record {
        call = the-call;
        pc =
            ap (λ (s : State). s.pc) (is-settled roms k first second a)
            ∙ settled-pc (course_at roms k first second).state _ _ first second
            ∙ ap (λ (x : Course). x.state.pc) the-call ∙ call-pc k.state;
        request =
            ap (λ (x : Count). x.request) (ends-second roms k first second a two-cycles) ∙ second-leaves
            ∙ ap (λ (x : Count). x.request) (second-before (course_at roms k first second) first second) ∙ first-leaves ∙ first-none;
        service =
            ap (λ (s : State). s.interrupts.service) (is-settled roms k first second a)
            ∙ settled-service (course_at roms k first second).state _ _ first second
            ∙ ap (λ (x : Course). x.state.interrupts.service) the-call ∙ call-service k.state;
        cycles = two-cycles;
        used = same-used roms k first second a (omega (arith, two-cycles)) ∙ two-cycles;
        memory =
            pair-written k.ram _ _ _ _
            (plan-write (course_at roms k first second) k.state first second (accepted-course roms k first second a)
            ∙ ap (λ (x : Course). x.write) the-call ∙ call-write k.state);
      }

-- The third demand's last sentence. h is the history before the step with the first overflow, a that step, a' the next one. If the timer
-- interrupt is enabled in the overflow's cycle, all conditions hold through the next step, and at that step's start no interrupt is in
-- service and the external one is disabled or INT is high, and the step with the overflow is neither HALT nor STOP, then the next step is the
-- call to 7, and it ends at most 3 cycles after the overflow.
module _ {roms : Roms} {ram : List ℕ} {s : State} {k : Progress} (c : ℕ) (small : c < 256) (r : Going c 0 s) (h : Steps roms ram s k)
    (first second : ℕ) (a : (plan_at roms k first second).number ≡ 0)
    (b : k.cycles < overflow_cycle c) (g : overflow_cycle c ≤ k.cycles + (plan_at roms k first second).cycles)
    (on : (cycle (more first second h a) (overflow_cycle c)).enabled ≡ true)
    (first' second' : ℕ) (a' : (plan_at roms (after roms k first second) first' second').number ≡ 0)
    (u : AllUndisturbed (more first' second' (more first second h a) a'))
    (idle : (after roms k first second).state.interrupts.service ≡ false)
    (off : ((after roms k first second).state.interrupts.external ≡ false) ⊎ (is_low int_pin first' ≡ false))
    (awake : (i : Instruction) → CarriesOut roms k.state first i → Standby i → ⊥) where
  -- The step with the overflow leaves the machine running.
  left-running : (after roms k first second).state.mode ≡ Running
  left-running = runs-after roms k.ram k.state first second awake a (omega (arith, b, g))

  pub call-law : CallTo7 roms (after roms k first second) first' second'
  call-law =
      let o = two-at-most roms k first second a in
      answered roms (after roms k first second) first' second' a' u.1 left-running (external-off (after roms k first second).state first' off)
      (timer-on (after roms k first second).state left-running idle (left-enabled c small first second h a u.0 r b g on) (left-request c small first second h a u.0 r b g on))
      c (k.cycles + (plan_at roms k first second).cycles) small (count-law c (more first second h a) u.0 r) g (omega (arith, o, b))

  pub within-3 : k.cycles + (plan_at roms k first second).cycles + (plan_at roms (after roms k first second) first' second').cycles ≤ overflow_cycle c + 3
  within-3 =
      let o = two-at-most roms k first second a in
      let w = call-law.cycles in
      omega (arith, o, w, b)
