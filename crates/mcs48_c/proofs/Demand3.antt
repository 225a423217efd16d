-- The third demand for a program in C, in the bytes of the state: of a call of mcs48_run, and of calls of mcs48_step one after the other.
-- Where the caller's number names a set, a call is the chip's step or run under that set, and the bytes that it leaves are those of the state
-- that the chip leaves, so that the chip's theorems hold of them.
-- Assumes nothing.
use Prim.Native.Nat.{ℕ, ◌+◌, ◌/◌, ◌%◌, ◌≤◌, ◌<◌}
use mathlib.Core.Bool.{Bool, true, false, false≢true}
use mathlib.Core.List.{List}
use mathlib.Core.Logic.{◌⊎◌, inl, inr, ⊎_elim}
use mathlib.Core.Path.{◌≡◌, refl, sym, ap, ◌∙◌}
use native.Mathlib.Omega.{arith}
use lib.Dec.{eqb}
use lib.ListN.{length}
use borrow.Author.Tests.{eqb-true, eqb-false, eq-eqb, ne_eqb}
use Rattle.isa.specs.Choice.{pick, one_if}
use Rattle.isa.specs.Naming.{set_of}
use Rattle.isa.specs.Numbers.{given}
use Rattle.isa.specs.Reading.{byte_at}
use Rattle.isa.specs.Sets.{Standby}
use Rattle.isa.specs.declared.Instruction.{Instruction}
use Rattle.isa.specs.declared.Set.{Set}
use Rattle.machine.specs.Counting.{counting_of}
use Rattle.machine.specs.Pins.{int_pin, is_low}
use Rattle.machine.specs.Rom.{Roms, both}
use Rattle.machine.specs.State.{permitted}
use Rattle.machine.specs.declared.State.{State}
use Rattle.chip.specs.Admission.{lent_of}
use Rattle.chip.specs.History.{plan_at, after, Steps, cycle, CarriesOut, Undisturbed, AllUndisturbed, JustStarted, CallTo7, History, StepWith, up_to, HistoryOf, overflow_cycle, Asked, until, next, Called}
use Rattle.chip.specs.History.{none as no_steps, more as one-more}
use Rattle.chip.specs.Run.{Progress, Ended, begun, ended, run_of}
use Rattle.chip.specs.Step.{step_of, Outcome}
use Rattle.chip.proofs.Answering.{step-enabled, left-tf, left-request, call-law, within-3}
use Rattle.chip.proofs.Cycles.{Running, one-or-two, at-start}
use Rattle.demands.proofs.Demand3.{count-after, tf-left, request-left, called-in-time}
use Rattle.chip.proofs.Exactly.{refused-unchanged, allowed, lent-refuses}
use Rattle.chip.proofs.Linking.{sample-a-cycle, run-history, not-begun}
use Rattle.chip.proofs.Runs.{run-short}
use Rattle.mcs48_c.specs.Bytes.{bytes_of, formed, state_in, state_of, holding}
use Rattle.mcs48_c.specs.Calls.{step_from, run_from, after_step, after_run}
use Rattle.mcs48_c.specs.Stepping.{Buffers, run_leaves, step_leaves, Stepped, none, more, UndisturbedCalls, JustStartedBytes, CalledBytes}
use Rattle.mcs48_c.proofs.Naming.{Names, a_set, no-set, names}
use Rattle.mcs48_c.proofs.States.{state-back}

-- ---- bytes that stand for a permitted state
-- They are 24, and that state's own.
permitted-bytes :
    (set : Set) (bytes : List ℕ) → permitted set (state_of bytes) ≡ true → (eqb (length bytes) 24 ≡ true) × (state_of bytes ≡ state_in bytes)
unfolding state_of pick
permitted-bytes set bytes h = go (eqb (length bytes) 24) (formed bytes) refl refl h
  where
    go :
        (x y : Bool) → eqb (length bytes) 24 ≡ x → formed bytes ≡ y → permitted set (state_of bytes) ≡ true
        → (eqb (length bytes) 24 ≡ true) × (state_of bytes ≡ state_in bytes)
    go true true e f p = (e, rw (e, f))
    go true false e f p = absurd (false≢true (rw (e, f) at p))
    go false y e f p = absurd (false≢true (rw e at p))

-- A state that is written over them is theirs then.
held : (set : Set) (bytes : List ℕ) (s : State) → permitted set (state_of bytes) ≡ true → holding bytes s ≡ bytes_of s
unfolding holding pick
held set bytes s h = rw (permitted-bytes set bytes h).0

started-state :
    (set : Set) (c : ℕ) (bytes : List ℕ) → permitted set (state_of bytes) ≡ true → JustStartedBytes c bytes → JustStarted c (state_of bytes)
unfolding counting_of pick
started-state set c bytes h j =
    rw (permitted-bytes set bytes h).1 (record { counting = rw j.counting; t = j.t; divider = j.divider })

-- ---- the bytes that a step and a run of the chip leave stand for the state that they leave
module _ (roms : Roms) (ram bytes : List ℕ) where
  lent-held : (s : State) → lent_of roms ram (state_of bytes) ≡ 0 → holding bytes s ≡ bytes_of s
  lent-held s lent = held roms.set bytes s (allowed roms ram (state_of bytes) 0 0 lent).state_permitted

  module _ (first second : ℕ) where
    abbrev step : Outcome
    step = step_of roms ram (state_of bytes) first second

    -- An accepted step began with a permitted state.
    accepted-lent : step.number ≡ 0 → lent_of roms ram (state_of bytes) ≡ 0
    accepted-lent a = go (eqb (lent_of roms ram (state_of bytes)) 0) refl
      where
        go : (b : Bool) → eqb (lent_of roms ram (state_of bytes)) 0 ≡ b → lent_of roms ram (state_of bytes) ≡ 0
        go true e = eqb-true _ _ e
        go false e = sym (ap (λ (o : Outcome). o.number) (lent-refuses roms ram (state_of bytes) first second (eqb-false _ _ e)).0) ∙ a

    -- The bytes that it leaves are those of the state that it leaves.
    step-bytes : step.number ≡ 0 → after_step bytes step ≡ bytes_of step.state
    unfolding pick
    step-bytes a = rw (eq-eqb _ _ a) (lent-held _ (accepted-lent a))

    step-state : state_of (after_step bytes step) ≡ step.state
    unfolding pick
    step-state = go (eqb step.number 0) refl
      where
        go : (x : Bool) → eqb step.number 0 ≡ x → state_of (after_step bytes step) ≡ step.state
        go true e = ap state_of (step-bytes (eqb-true _ _ e)) ∙ state-back _
        go false e = rw e (sym (refused-unchanged roms ram (state_of bytes) first second (eqb-false _ _ e)).state)

  -- Where no sample was used no step was done.
  unmoved : {s : State} {k : Progress} → Steps roms ram s k → k.used ≡ 0 → k.state ≡ s
  unmoved no_steps e = refl
  unmoved (one-more {k = k} first second h a) e = let o = one-or-two roms k first second a in absurd (omega (arith, o.0))

  run-state :
      (samples : List ℕ)
      → state_of (after_run bytes (run_of roms ram (state_of bytes) samples).ran) ≡ (run_of roms ram (state_of bytes) samples).ran.state
  unfolding pick
  run-state samples = go (eqb (lent_of roms ram (state_of bytes)) 0) (eqb ran.ran.used 0) refl refl
    where
      ran : Ended
      ran = run_of roms ram (state_of bytes) samples

      go :
          (x y : Bool) → eqb (lent_of roms ram (state_of bytes)) 0 ≡ x → eqb ran.ran.used 0 ≡ y
          → state_of (after_run bytes ran.ran) ≡ ran.ran.state
      go true true e f =
          let h = run-history roms ram (state_of bytes) samples (eqb-true _ _ e) in
          rw f
          (sym
          (ap (λ (r : Ended). r.ran.state) h.is
          ∙ unmoved h.steps (sym (ap (λ (r : Ended). r.ran.used) h.is) ∙ eqb-true _ _ f)))
      go true false e f = ap state_of (rw f (lent-held _ (eqb-true _ _ e))) ∙ state-back _
      go false y e f = rw (not-begun roms ram (state_of bytes) samples (eqb-false _ _ e))

-- ---- so do those that a call from C leaves, whatever its number names: under 25 the bytes stay, and the state is theirs
pub c-step-state :
    (name : ℕ) (program outside : List ℕ) (b : Buffers) (first second : ℕ)
    → state_of (step_leaves name program outside b first second).bytes
    ≡ (step_from name program outside b.ram b.bytes first second).state
unfolding pick
c-step-state name program outside b first second = go (names name)
  where
    go :
        Names name
        → state_of (step_leaves name program outside b first second).bytes
        ≡ (step_from name program outside b.ram b.bytes first second).state
    go (a_set set e) = rw e (step-state (both set program outside) b.ram b.bytes first second)
    go (no-set e) = rw e

pub c-run-state :
    (name : ℕ) (program outside : List ℕ) (b : Buffers) (samples : List ℕ)
    → state_of (run_leaves name program outside b samples).bytes ≡ (run_from name program outside b.ram b.bytes samples).ran.state
unfolding pick
c-run-state name program outside b samples = go (names name)
  where
    go :
        Names name
        → state_of (run_leaves name program outside b samples).bytes ≡ (run_from name program outside b.ram b.bytes samples).ran.state
    go (a_set set e) = rw e (run-state (both set program outside) b.ram b.bytes samples)
    go (no-set e) = rw e

-- The bytes of the state that the call to location 7 leaves.
called-bytes :
    (roms : Roms) (k : Progress) (first second : ℕ) (bytes : List ℕ) → bytes ≡ bytes_of (after roms k first second).state
    → CallTo7 roms k first second → CalledBytes bytes
unfolding bytes_of
called-bytes roms k first second bytes e call =
    rw e
    (record {
      pc_low = ap (λ (pc : ℕ). pc % 256) call.pc;
      pc_high = ap (λ (pc : ℕ). pc / 256) call.pc;
      request = ap one_if call.request;
      service = ap one_if call.service;
    })

-- ---- mcs48_run, its number naming a set
module _ (name : ℕ) (set : Set) (named : set_of name ≡ given set) (program outside : List ℕ) (b : Buffers) (samples : List ℕ)
    (lent : lent_of (both set program outside) b.ram (state_of b.bytes) ≡ 0) where
  abbrev ran : Ended
  ran = run_from name program outside b.ram b.bytes samples

  is-run : ran ≡ run_of (both set program outside) b.ram (state_of b.bytes) samples
  is-run = rw named

  -- The bytes that the call leaves.
  abbrev left : List ℕ
  left = (run_leaves name program outside b samples).bytes

  stands : permitted set (state_of b.bytes) ≡ true
  stands = (allowed (both set program outside) b.ram (state_of b.bytes) 0 0 lent).state_permitted

  -- Where a step was done they are those of the run's state, and else as they were, the run's state being theirs.
  run-bytes : (ran.ran.used ≡ 0 → ⊥) → left ≡ bytes_of ran.ran.state
  unfolding pick
  run-bytes n = rw (ne_eqb _ _ n) (held set b.bytes _ stands)

  no-bytes : ran.ran.used ≡ 0 → left ≡ b.bytes
  unfolding pick
  no-bytes e = rw (eq-eqb _ _ e)

  module _ (c : ℕ) (small : c < 256) (started : JustStartedBytes c b.bytes) where
    begins-started : JustStarted c (state_of b.bytes)
    begins-started = started-state set c b.bytes stands started

    -- "After n more cycles the counter holds c plus the whole part of n/32, modulo 256": byte 6, the cycles being those of the totals.
    pub c-run-count :
        (h :
        HistoryOf (both set program outside) b.ram (state_of b.bytes) samples
        (run_from name program outside b.ram b.bytes samples))
        → AllUndisturbed h.steps
        → byte_at (run_leaves name program outside b samples).bytes 6
        ≡ (c + (run_from name program outside b.ram b.bytes samples).ran.cycles / 32) % 256
    unfolding bytes_of
    c-run-count h u = go (eqb ran.ran.used 0) refl
      where
        none-spent : ran.ran.used ≡ 0 → ran.ran.cycles ≡ 0
        none-spent z =
            let e : h.end.used ≡ 0 = sym (ap (λ (x : Ended). x.ran.used) h.is) ∙ z in
            let w = h.used in
            let none : h.end.cycles ≡ 0 = omega (arith, e, w) in
            ap (λ (x : Ended). x.ran.cycles) h.is ∙ none

        go : (x : Bool) → eqb ran.ran.used 0 ≡ x → byte_at left 6 ≡ (c + ran.ran.cycles / 32) % 256
        go true e =
            let z : ran.ran.cycles ≡ 0 = none-spent (eqb-true _ _ e) in
            ap (λ (l : List ℕ). byte_at l 6) (no-bytes (eqb-true _ _ e)) ∙ started.t ∙ rw z (omega arith)
        go false e =
            ap (λ (l : List ℕ). byte_at l 6) (run-bytes (eqb-false _ _ e)) ∙ ap (λ (x : Ended). x.ran.state.t) h.is
            ∙ count-after c small begins-started (record { end = h.end; steps = h.steps }) u
            ∙ ap (λ (x : Ended). (c + x.ran.cycles / 32) % 256) (sym h.is)

    -- A run that ends with the step of the first overflow leaves TF set, in byte 9, and, if the timer interrupt was enabled in that cycle, a
    -- request, in byte 10.
    module _ (p : History (both set program outside) b.ram (state_of b.bytes))
        (is :
        run_from name program outside b.ram b.bytes samples
        ≡ ended p.end (run_from name program outside b.ram b.bytes samples).ran.number)
        (u : AllUndisturbed p.steps) (o : StepWith (overflow_cycle c) p) (ends : (up_to o).end ≡ p.end) where
      some-used : ran.ran.used ≡ 0 → ⊥
      some-used z =
          let e : p.end.used ≡ 0 = sym (ap (λ (x : Ended). x.ran.used) is) ∙ z in
          let s : (up_to o).end.cycles ≡ p.end.cycles = ap (λ (k : Progress). k.cycles) ends in
          let w = sample-a-cycle p.steps in
          omega (arith, e, s, w, o.starts, o.ends)

      left-is : left ≡ bytes_of (up_to o).end.state
      left-is =
          run-bytes some-used
          ∙ ap bytes_of (ap (λ (x : Ended). x.ran.state) is ∙ sym (ap (λ (k : Progress). k.state) ends))

      pub c-run-tf : byte_at (run_leaves name program outside b samples).bytes 9 ≡ 1
      unfolding bytes_of
      c-run-tf = ap (λ (l : List ℕ). byte_at l 9) left-is ∙ ap one_if (tf-left c small begins-started p u o)

      pub c-run-request :
          (cycle p.steps (overflow_cycle c)).enabled ≡ true → byte_at (run_leaves name program outside b samples).bytes 10 ≡ 1
      unfolding bytes_of
      c-run-request on = ap (λ (l : List ℕ). byte_at l 10) left-is ∙ ap one_if (request-left c small begins-started p u o on)

    -- Where all is met that the demand asks, a run whose samples end with the next step leaves the bytes of the call to location 7, and has
    -- spent at most 3 cycles after the overflow.
    module _ (q : Asked (both set program outside) b.ram (state_of b.bytes) samples c)
        (last : length samples ≤ (next q).end.used + 1) where
      in-time : Called q
      in-time = called-in-time c small begins-started lent q

      there : ran ≡ ended (next q).end 0
      there = is-run ∙ in-time.through ∙ run-short (both set program outside) samples (next q).end.used (next q).end last

      some-spent : ran.ran.used ≡ 0 → ⊥
      some-spent z =
          let e : (next q).end.used ≡ 0 = sym (ap (λ (x : Ended). x.ran.used) there) ∙ z in
          let two = in-time.calls.cycles in
          let w = sample-a-cycle (next q).steps in
          omega (arith, e, two, w)

      pub c-run-called : CalledBytes (run_leaves name program outside b samples).bytes
      c-run-called =
          called-bytes (both set program outside) (until q).end _ _ left
          (run-bytes some-spent ∙ ap (λ (x : Ended). bytes_of x.ran.state) there) in-time.calls

      pub c-run-soon : (run_from name program outside b.ram b.bytes samples).ran.cycles ≤ overflow_cycle c + 3
      c-run-soon = rw there in-time.soon

-- ---- mcs48_step, call after call, the number naming a set
-- The bytes that an accepted call leaves are those of the state that it leaves.
call-bytes :
    (name : ℕ) (set : Set) (named : set_of name ≡ given set) (program outside : List ℕ) (k : Buffers) (first second : ℕ)
    → (step_from name program outside k.ram k.bytes first second).number ≡ 0
    → (step_leaves name program outside k first second).bytes
    ≡ bytes_of (step_from name program outside k.ram k.bytes first second).state
call-bytes name set named program outside k first second a =
    rw named (step-bytes (both set program outside) k.ram k.bytes first second (rw named at a))

-- The calls as a history of the chip.
record Follows (set : Set) {name : ℕ} {program outside : List ℕ} {b k : Buffers} {n : ℕ}
    (h : Stepped name program outside b k n) : Type 0 where
  end : Progress
  steps : Steps (both set program outside) b.ram (state_of b.bytes) end
  ram : end.ram ≡ k.ram
  state : end.state ≡ state_of k.bytes
  cycles : end.cycles ≡ n
  undisturbed : UndisturbedCalls set h → AllUndisturbed steps

module _ {name : ℕ} {program outside : List ℕ} {b : Buffers} (set : Set) (named : set_of name ≡ given set) where
  -- A call as a step of that history.
  next-fine :
      {k : Buffers} {n : ℕ} (h : Stepped name program outside b k n) (f : Follows set h) (first second : ℕ)
      → (step_from name program outside k.ram k.bytes first second).number ≡ 0
      → (plan_at (both set program outside) f.end first second).number ≡ 0
  next-fine h f first second a = rw (f.ram, f.state) (rw named at a)

  follow-more :
      {k : Buffers} {n : ℕ} (first second : ℕ) (h : Stepped name program outside b k n)
      (a : (step_from name program outside k.ram k.bytes first second).number ≡ 0) → Follows set h → Follows set (more first second h a)
  follow-more {k} first second h a f =
      record {
        end = after (both set program outside) f.end first second;
        steps = one-more first second f.steps (next-fine h f first second a);
        ram = rw (named, f.ram, f.state);
        state = rw (named, f.ram, f.state) (rw named at (sym (c-step-state name program outside k first second)));
        cycles = rw (named, f.ram, f.state, f.cycles);
        undisturbed = λ u. (f.undisturbed u.0, rw f.state u.1);
      }

  follows : {k : Buffers} {n : ℕ} (h : Stepped name program outside b k n) → Follows set h
  follows none = record { end = begun b.ram (state_of b.bytes); steps = no_steps; ram = refl; state = refl; cycles = refl; undisturbed = λ u. tt }
  follows (more first second h a) = follow-more first second h a (follows h)

  -- The bytes that a call leaves.
  left-bytes :
      {k : Buffers} {n : ℕ} (first second : ℕ) (h : Stepped name program outside b k n)
      (a : (step_from name program outside k.ram k.bytes first second).number ≡ 0)
      → (step_leaves name program outside k first second).bytes ≡ bytes_of (follows (more first second h a)).end.state
  left-bytes {k} first second h a =
      call-bytes name set named program outside k first second a
      ∙ ap bytes_of (sym ((follows (more first second h a)).state ∙ c-step-state name program outside k first second))

one-true : (x : Bool) → one_if x ≡ 1 → x ≡ true
one-true true e = refl
one-true false e = absurd (omega arith)

zero-false : (x : Bool) → one_if x ≡ 0 → x ≡ false
zero-false true e = absurd (omega arith)
zero-false false e = refl

module _ (name : ℕ) (set : Set) (named : set_of name ≡ given set) (program outside : List ℕ) (b : Buffers)
    (lent : lent_of (both set program outside) b.ram (state_of b.bytes) ≡ 0) (c : ℕ) (small : c < 256)
    (started : JustStartedBytes c b.bytes) where
  start : JustStarted c (state_of b.bytes)
  start =
      started-state set c b.bytes (allowed (both set program outside) b.ram (state_of b.bytes) 0 0 lent).state_permitted started

  -- After any calls: T, in byte 6.
  pub c-steps-count :
      {k : Buffers} {n : ℕ} (h : Stepped name program outside b k n) → UndisturbedCalls set h → byte_at k.bytes 6 ≡ (c + n / 32) % 256
  unfolding bytes_of
  c-steps-count none u = started.t ∙ omega arith
  c-steps-count (more first second h a) u =
      let f = follows set named (more first second h a) in
      ap (λ (l : List ℕ). byte_at l 6) (left-bytes set named first second h a)
      ∙ count-after c small start (record { end = f.end; steps = f.steps }) (f.undisturbed u)
      ∙ ap (λ (m : ℕ). (c + m / 32) % 256) f.cycles

  -- The call with the first overflow,
  module _ {k : Buffers} {n : ℕ} (first second : ℕ) (h : Stepped name program outside b k n)
      (a : (step_from name program outside k.ram k.bytes first second).number ≡ 0) (u : UndisturbedCalls set (more first second h a))
      (starts : n < overflow_cycle c)
      (ends : overflow_cycle c ≤ n + (step_from name program outside k.ram k.bytes first second).cycles) where
    abbrev pub overflowed : Buffers
    overflowed = step_leaves name program outside k first second

    from : Running c 0 (state_of b.bytes)
    from = at-start c (state_of b.bytes) small start

    fine : (plan_at (both set program outside) (follows set named h).end first second).number ≡ 0
    fine = next-fine set named h (follows set named h) first second a

    begins : (follows set named h).end.cycles < overflow_cycle c
    begins = rw (follows set named h).cycles starts

    reaches :
        overflow_cycle c
        ≤ (follows set named h).end.cycles + (plan_at (both set program outside) (follows set named h).end first second).cycles
    reaches = rw ((follows set named h).cycles, (follows set named h).ram, (follows set named h).state) (rw named at ends)

    calm : AllUndisturbed (one-more first second (follows set named h).steps fine)
    calm = ((follows set named h).undisturbed u.0, rw (follows set named h).state u.1)

    byte :
        (i : ℕ) → byte_at overflowed.bytes i
        ≡ byte_at (bytes_of (after (both set program outside) (follows set named h).end first second).state) i
    unfolding follows follow-more
    byte i = ap (λ (l : List ℕ). byte_at l i) (left-bytes set named first second h a)

    -- leaves TF set, in byte 9,
    pub c-steps-tf : byte_at overflowed.bytes 9 ≡ 1
    unfolding bytes_of follows follow-more
    c-steps-tf = byte 9 ∙ ap one_if (left-tf c small first second (follows set named h).steps fine calm from begins reaches)

    -- and, if the timer interrupt is enabled after it, byte 12,
    module _ (on : byte_at overflowed.bytes 12 ≡ 1) where
      enabled : (cycle (one-more first second (follows set named h).steps fine) (overflow_cycle c)).enabled ≡ true
      unfolding bytes_of follows follow-more
      enabled =
          step-enabled first second (follows set named h).steps fine (overflow_cycle c) begins ∙ one-true _ (sym (byte 12) ∙ on)

      -- a request, in byte 10.
      pub c-steps-request : byte_at overflowed.bytes 10 ≡ 1
      unfolding bytes_of follows follow-more
      c-steps-request =
          byte 10 ∙ ap one_if (left-request c small first second (follows set named h).steps fine calm from begins reaches enabled)

      -- If then no interrupt is in service, byte 13, and the external one is disabled, byte 11, or its pin high, and the call with the overflow
      -- carries out neither HALT nor STOP, the next call leaves the bytes of the call to location 7, at most 3 cycles after the overflow.
      module _ (first' second' : ℕ) (a' : (step_from name program outside overflowed.ram overflowed.bytes first' second').number ≡ 0)
          (u' : Undisturbed (both set program outside) (state_of overflowed.bytes) first') (idle : byte_at overflowed.bytes 13 ≡ 0)
          (off : (byte_at overflowed.bytes 11 ≡ 0) ⊎ (is_low int_pin first' ≡ false))
          (awake : (i : Instruction) → CarriesOut (both set program outside) (state_of k.bytes) first i → Standby i → ⊥) where
        fine' :
            (plan_at (both set program outside) (after (both set program outside) (follows set named h).end first second) first' second'
            ).number
            ≡ 0
        unfolding follows follow-more
        fine' = next-fine set named (more first second h a) (follows set named (more first second h a)) first' second' a'

        calm' : AllUndisturbed (one-more first' second' (one-more first second (follows set named h).steps fine) fine')
        unfolding follows follow-more
        calm' = (calm, rw (follows set named (more first second h a)).state u')

        unserved : (after (both set program outside) (follows set named h).end first second).state.interrupts.service ≡ false
        unfolding bytes_of follows follow-more
        unserved = zero-false _ (sym (byte 13) ∙ idle)

        quiet :
            ((after (both set program outside) (follows set named h).end first second).state.interrupts.external ≡ false)
            ⊎ (is_low int_pin first' ≡ false)
        unfolding bytes_of follows follow-more
        quiet = ⊎_elim (λ e. inl (zero-false _ (sym (byte 11) ∙ e))) (λ e. inr e) off

        neither : (i : Instruction) → CarriesOut (both set program outside) (follows set named h).end.state first i → Standby i → ⊥
        neither = rw (follows set named h).state awake

        call : CallTo7 (both set program outside) (after (both set program outside) (follows set named h).end first second) first' second'
        unfolding follows follow-more
        call =
            call-law c small from (follows set named h).steps first second fine begins reaches enabled first' second' fine' calm' unserved quiet
            neither

        pub c-steps-called : CalledBytes (step_leaves name program outside overflowed first' second').bytes
        unfolding follows follow-more
        c-steps-called =
            called-bytes (both set program outside) _ first' second' _ (left-bytes set named first' second' (more first second h a) a') call

        pub c-steps-soon :
            n + (step_from name program outside k.ram k.bytes first second).cycles
            + (step_from name program outside overflowed.ram overflowed.bytes first' second').cycles ≤ overflow_cycle c + 3
        unfolding follows follow-more
        c-steps-soon =
            let w =
            within-3 c small from (follows set named h).steps first second fine begins reaches enabled first' second' fine' calm' unserved quiet
            neither
            in
            let e = (follows set named (more first' second' (more first second h a) a')).cycles in
            rw e at w
