-- A run over two samples is exactly one step: the step ends it, whether it used one sample, used both, or was refused.
-- Assumes nothing.
use mathlib.Core.Path.{◌≡◌, refl, ap, ◌∙◌}
use mathlib.Core.Bool.{Bool, true, false}
use mathlib.Core.List.{List, [], ◌∷◌}
use Prim.Native.Nat.{ℕ, ◌≤◌}
use native.Mathlib.Nat.{zero-add}
use native.Mathlib.Omega.{arith}
use lib.Dec.{eqb, lit≤}
use borrow.Author.Tests.{eqb-true, eqb-false, eq-eqb, ne_eqb}
use Rattle.isa.specs.Choice.{pick}
use Rattle.machine.specs.Rom.{Roms, both}
use Rattle.machine.specs.declared.State.{State}
use Rattle.effects.specs.Effect.{Nothing, written}
use Rattle.effects.specs.declared.Event.TheVariants.{Quiet}
use Rattle.chip.specs.Admission.{lent_of, admission}
use Rattle.chip.specs.Run.{Ended, begun, first_shown, run_by, run_over, run_of, unshown, Ran}
use Rattle.chip.specs.declared.Report.{Report}
use Rattle.chip.specs.Step.{Plan, declined, course, plan_by, plan_of, refused_by, report_of, step_of, ram_after, Outcome}
use Rattle.chip.proofs.Exactly.{Unchanged, refused-step, refused-unchanged}
use Rattle.chip.proofs.Lasting.{Spends, in_cycles, in_waiting, plan-busy}
use Rattle.mcs48_c.specs.Bytes.{state_of, holding}
use Rattle.mcs48_c.specs.Calls.{step_from, ram_from, run_from, shown_from, run_answer, after_run, after_step}
use Rattle.mcs48_c.specs.declared.RunAnswer.{RunAnswer}
use Rattle.mcs48_c.specs.Packed.{packed_refusal, packed_used, packed_step}
use Rattle.mcs48_c.proofs.Naming.{Names, a_set, no-set, names}

-- A step as a run. What it shows outside stands beside it (`one-shown`).
abbrev pub as_run : Outcome → List ℕ → Ended
as_run o left =
    record {
      ran = record { number = o.number; state = o.state; used = o.used; cycles = o.cycles };
      ram = left;
      events = pick (eqb o.number 0) (o.event ∷ []) [];
    }

module _ (roms : Roms) (ram : List ℕ) (s : State) (x y : ℕ) where
  abbrev plan : Plan
  plan = plan_of roms ram s x y

  abbrev step : Outcome
  step = step_of roms ram s x y

  unchanged : (plan.number ≡ 0 → ⊥) → Unchanged ram s plan
  unchanged n = refused-unchanged roms ram s x y n

  -- Refused by 1, 2 or 3.
  refused-plan :
      (lent_of roms ram s ≡ 0 → ⊥)
      → plan ≡ record { number = lent_of roms ram s; state = s; event = Quiet; write = Nothing; cycles = 0; used = 0; outside = 0 }
  unfolding plan_by course declined admission pick
  refused-plan n = simp (ne_eqb _ _ n)

  -- The step that a run begins with ends it: accepted, or refused.
  goes : plan.number ≡ 0 → run_over roms (x ∷ y ∷ []) (begun ram s) ≡ as_run step (ram_after roms ram s x y)
  unfolding run_by pick
  goes n = go (eqb plan.used 1) refl
    where
      go : (b : Bool) → eqb plan.used 1 ≡ b → run_over roms (x ∷ y ∷ []) (begun ram s) ≡ as_run step (ram_after roms ram s x y)
      go true e = rw (n, e, zero-add, zero-add)
      go false e = rw (n, e, zero-add, zero-add)

  halts : (plan.number ≡ 0 → ⊥) → run_over roms (x ∷ y ∷ []) (begun ram s) ≡ as_run step (ram_after roms ram s x y)
  unfolding run_by pick
  halts n =
      let u = unchanged n in
      rw (ne_eqb _ _ n, u.state, u.cycles, u.used, u.memory)

  pub one-step : run_of roms ram s (x ∷ y ∷ []) ≡ as_run step (ram_after roms ram s x y)
  unfolding run_of pick written
  one-step = go (eqb (lent_of roms ram s) 0) (eqb plan.number 0) refl refl
    where
      go :
          (p q : Bool) → eqb (lent_of roms ram s) 0 ≡ p → eqb plan.number 0 ≡ q
          → run_of roms ram s (x ∷ y ∷ []) ≡ as_run step (ram_after roms ram s x y)
      go true true h k = rw h (goes (eqb-true _ _ k))
      go true false h k = rw h (halts (eqb-false _ _ k))
      go false q h k = rw (h, refused-plan (eqb-false _ _ h), h)

-- What a step spends fits a byte, and it used a sample exactly if it was accepted.
record Little (o : Outcome) : Type 0 where
  cycles : o.cycles ≤ 2
  used : o.used ≤ 2
  some : o.number ≡ 0 → 1 ≤ o.used
  none : (o.number ≡ 0 → ⊥) → o.used ≡ 0

step-little : (roms : Roms) (ram : List ℕ) (s : State) (x y : ℕ) → Little (step_of roms ram s x y)
step-little roms ram s x y = go (eqb (plan roms ram s x y).number 0) refl
  where
    spends : (step roms ram s x y).number ≡ 0 → Spends (step roms ram s x y).cycles (step roms ram s x y).used → Little (step roms ram s x y)
    spends a (in_cycles l g e) = record { cycles = g; used = omega (arith, g, e); some = λ z. omega (arith, l, e); none = λ z. absurd (z a) }
    spends a (in_waiting e f) = record { cycles = omega (arith, e); used = omega (arith, f); some = λ z. omega (arith, f); none = λ z. absurd (z a) }

    go : (q : Bool) → eqb (plan roms ram s x y).number 0 ≡ q → Little (step roms ram s x y)
    go true h = spends (eqb-true _ _ h) ((plan-busy roms ram s x y).spends (eqb-true _ _ h))
    go false h =
        let n : (plan roms ram s x y).number ≡ 0 → ⊥ = eqb-false _ _ h in
        let c = (unchanged roms ram s x y n).cycles in
        let u = (unchanged roms ram s x y n).used in
        record { cycles = omega (arith, c); used = omega (arith, u); some = λ z. absurd (n z); none = λ z. u }

module _ (o : Outcome) (l : Little o) where
  bytes-kept : (old left : List ℕ) → after_run old (as_run o left).ran ≡ after_step old o
  unfolding pick
  bytes-kept old left = go (eqb o.number 0) refl
    where
      go :
          (q : Bool) → eqb o.number 0 ≡ q
          → pick (eqb o.used 0) old (holding old o.state) ≡ pick (eqb o.number 0) (holding old o.state) old
      go true h =
          let b = l.some (eqb-true _ _ h) in
          rw (h, ne_eqb o.used 0 (λ z. omega (arith, b, z)))
      go false h = rw (h, eq-eqb o.used 0 (l.none (eqb-false _ _ h)))

-- The same of a call from C, whatever its number names.
module _ (name : ℕ) (program outside ram bytes : List ℕ) (x y : ℕ) where
  -- The step, and the RAM that it leaves.
  abbrev done : Outcome
  done = step_from name program outside ram bytes x y

  abbrev after : List ℕ
  after = ram_from name program outside ram bytes x y

  call-little : Little done
  call-little = go (names name)
    where
      go : Names name → Little done
      go (a_set set e) = rw e (step-little (both set program outside) ram (state_of bytes) x y)
      go (no-set e) = rw e (record { cycles = lit≤ tt; used = lit≤ tt; some = λ z. absurd (omega arith); none = λ z. refl })

  pub one-call :
      run_from name program outside ram bytes (x ∷ y ∷ [])
      ≡ as_run (step_from name program outside ram bytes x y) (ram_from name program outside ram bytes x y)
  unfolding pick
  one-call = go (names name)
    where
      go : Names name → run_from name program outside ram bytes (x ∷ y ∷ []) ≡ as_run done after
      go (a_set set e) = rw e (one-step (both set program outside) ram (state_of bytes) x y)
      go (no-set e) = rw e

  -- What the run's first step shows outside, the step shows.
  pub one-shown : shown_from name program outside ram bytes (x ∷ y ∷ []) ≡ report_of (step_from name program outside ram bytes x y)
  unfolding first_shown
  one-shown = go (names name)
    where
      go : Names name → shown_from name program outside ram bytes (x ∷ y ∷ []) ≡ report_of done
      go (a_set set e) = rw e
      go (no-set e) = rw e

  -- What such a run answers and leaves, as the step.
  abbrev ran : Ran
  ran = (run_from name program outside ram bytes (x ∷ y ∷ [])).ran

  is : ran ≡ (as_run done after).ran
  is = ap (λ (e : Ended). e.ran) one-call

  pub stepped :
      (r : RunAnswer) → r ≡ run_answer ran (pick true (shown_from name program outside ram bytes (x ∷ y ∷ [])) unshown)
      → packed_used r.number r.cycles r.used r.shown.outside r.shown.event ≡ packed_step (step_from name program outside ram bytes x y)
  unfolding pick
  stepped r e = rw (e, is, one-shown)

  pub little : {r : RunAnswer} {shown : Report} → r ≡ run_answer ran shown → (r.cycles ≤ 2) × (r.used ≤ 2)
  little e = rw (e, is) (call-little.cycles, call-little.used)

  pub left : (run_from name program outside ram bytes (x ∷ y ∷ [])).ram ≡ ram_from name program outside ram bytes x y
  left = ap (λ (e : Ended). e.ram) one-call

  pub kept : after_run bytes ran ≡ after_step bytes (step_from name program outside ram bytes x y)
  kept = rw is (bytes-kept done call-little bytes after)

  -- A refused step is told by its number alone: all other bits are 0.
  pub refused-alone :
      ((step_from name program outside ram bytes x y).number ≡ 0 → ⊥)
      → packed_step (step_from name program outside ram bytes x y) ≡ packed_refusal (step_from name program outside ram bytes x y).number
  refused-alone = go (names name)
    where
      alone : (n : ℕ) → packed_step (refused_by n (state_of bytes)) ≡ packed_refusal n
      alone n = omega arith

      go : Names name → (done.number ≡ 0 → ⊥) → packed_step done ≡ packed_refusal done.number
      go (a_set set e) = rw e (λ n. ap packed_step (refused-step (both set program outside) ram (state_of bytes) x y n) ∙ alone _)
      go (no-set e) = rw e (λ n. alone 25)
