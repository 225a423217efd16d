-- The first demand: "Any program, memory, machine state and pins get an answer, and the step ends. A refused step carries its number from
-- the table, spends no cycle, and returns machine state and RAM exactly as they came. Nobody has to check first."
--
-- That a step and a run end and have no condition is what their contracts add: `step` and `run` have no `requires`, and a function that
-- is proved ends.
-- Assumes nothing.
use Prim.Native.Nat.{ℕ}
use mathlib.Core.Bool.{Bool, true, false}
use mathlib.Core.List.{List}
use mathlib.Core.Path.{◌≡◌, refl, sym, ◌∙◌}
use lib.Dec.{eqb}
use borrow.Author.Tests.{eqb-true, eqb-false, ne_eqb}
use Rattle.isa.specs.Choice.{pick}
use Rattle.machine.specs.Rom.{Roms}
use Rattle.machine.specs.declared.State.{State}
use Rattle.chip.specs.Admission.{lent_of}
use Rattle.chip.specs.History.{RunAnswered, nothing-done, steps_done}
use Rattle.chip.specs.Refusals.{Answered, taken, waited, unchanged}
use Rattle.chip.specs.Run.{begun, ended, run_of}
use Rattle.chip.specs.Step.{course, plan_of, step_of, ram_after}
use Rattle.chip.proofs.Cycles.{course-number, plan-cycles}
use Rattle.chip.proofs.Exactly.{refused-unchanged, exactly-from}
use Rattle.chip.proofs.Lasting.{Spends, in_cycles, in_waiting, plan-busy, idle-waits, waits-halted}
use Rattle.chip.proofs.Linking.{run-history}

pub step-answered :
    (roms : Roms) (ram : List ℕ) (s : State) (first second : ℕ)
    → Answered roms ram s first second (step_of roms ram s first second) (ram_after roms ram s first second)
step-answered roms ram s first second = go (eqb (plan_of roms ram s first second).number 0) refl
  where
    spending :
        (plan_of roms ram s first second).number ≡ 0 → Spends (plan_of roms ram s first second).cycles (plan_of roms ram s first second).used
        → Answered roms ram s first second (step_of roms ram s first second) (ram_after roms ram s first second)
    spending a (in_cycles l g e) = taken a l g e
    spending a (in_waiting e f) =
        let n = course-number (course roms ram s first second) s first second a in
        waited a (waits-halted roms ram s first second (idle-waits roms ram s first second n (sym (plan-cycles (course roms ram s first second) s first second n) ∙ e))) e f

    go :
        (b : Bool) → eqb (plan_of roms ram s first second).number 0 ≡ b
        → Answered roms ram s first second (step_of roms ram s first second) (ram_after roms ram s first second)
    go true e =
        let a : (plan_of roms ram s first second).number ≡ 0 = eqb-true _ _ e in
        spending a ((plan-busy roms ram s first second).spends a)
    go false e =
        let n : (plan_of roms ram s first second).number ≡ 0 → ⊥ = eqb-false _ _ e in
        let u = refused-unchanged roms ram s first second n in
        unchanged _ (exactly-from roms ram s first second _ refl n) (rw (u.state, u.event, u.cycles, u.used, u.outside)) u.memory

pub run-answered : (roms : Roms) (ram : List ℕ) (s : State) (samples : List ℕ) → RunAnswered roms ram s samples (run_of roms ram s samples)
run-answered roms ram s samples = go (eqb (lent_of roms ram s) 0) refl
  where
    stopped : (lent_of roms ram s ≡ 0 → ⊥) → run_of roms ram s samples ≡ ended (begun ram s) (lent_of roms ram s)
    stopped n = unfold run_of pick in rw (ne_eqb _ _ n)

    go : (b : Bool) → eqb (lent_of roms ram s) 0 ≡ b → RunAnswered roms ram s samples (run_of roms ram s samples)
    go true e = steps_done (eqb-true _ _ e) (run-history roms ram s samples (eqb-true _ _ e))
    go false e = nothing-done (eqb-false _ _ e) (stopped (eqb-false _ _ e))
