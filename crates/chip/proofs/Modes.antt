-- After an accepted step that is no wait and carries out neither HALT nor STOP the machine runs: a reset and an instruction leave it so, and
-- an interrupt is called only where it runs. Under Intel it always runs.
-- Assumes nothing.
use Prim.Native.Nat.{ℕ, ◌≤◌}
use mathlib.Core.Bool.{Bool, true, false, not, ◌&&◌, false≢true}
use mathlib.Core.List.{List}
use mathlib.Core.Path.{◌≡◌, refl, sym, ap, ◌∙◌, subst}
use native.Mathlib.Omega.{arith}
use borrow.Author.Tests.{eqb-false, not-true}
use Rattle.isa.specs.Numbers.{Answer, given, refused}
use Rattle.isa.specs.Reading.{Program, Sized, sized, instruction_at}
use Rattle.isa.specs.Sets.{Standby}
use Rattle.isa.specs.declared.Instruction.{Instruction}
use Rattle.isa.specs.declared.Set.{Set}
use Rattle.isa.specs.declared.Set.TheVariants.{Intel}
use Rattle.isa.proofs.Finding.{refused-some}
use Rattle.machine.specs.Mode.{is_running}
use Rattle.machine.specs.Pins.{int_pin, is_low}
use Rattle.machine.specs.Rom.{Roms, seen_by}
use Rattle.machine.specs.State.{permitted, running_at}
use Rattle.machine.specs.declared.Mode.{Mode}
use Rattle.machine.specs.declared.Mode.TheVariants.{Running, HaltMode, StopMode, Released}
use Rattle.machine.specs.declared.State.{State}
use Rattle.effects.specs.Effect.{Effect}
use Rattle.execute.proofs.Keeping.{keeps}
use Rattle.chip.specs.History.{CarriesOut}
use Rattle.chip.specs.Step.{Course, declined, accepted, waits, reset_state, without_request, pc_after, done, carried_by, carried, course, settled, plan_of}
use Rattle.chip.proofs.Choices.{either}
use Rattle.chip.proofs.Cycles.{course-number, plan-state, plan-cycles}
use Rattle.chip.proofs.Exactly.{allowed, admitted, admitted-stands}
use Rattle.chip.proofs.Lasting.{Spends, in_cycles, in_waiting, plan-busy, idle-waits, waits-halted, waits-only, waits-cycles}
use Rattle.chip.proofs.Permitted.{permitted-fits, called-mode, accepted-permitted}
use Rattle.chip.proofs.Turns.{awake}

pub running-is : (m : Mode) → is_running m ≡ true → m ≡ Running
running-is Running h = refl
running-is HaltMode h = absurd (false≢true h)
running-is StopMode h = absurd (false≢true h)
running-is Released h = absurd (false≢true h)

first_of : (w x y z : Bool) → (w && x && y && z) ≡ true → w ≡ true
first_of true x y z h = refl
first_of false x y z h = h

record Runs (c : Course) : Type 0 where
  runs : c.number ≡ 0 → c.waited ≡ false → c.state.mode ≡ Running

declined-runs : (n : ℕ) (s : State) → (n ≡ 0 → ⊥) → Runs (declined n s)
unfolding declined
declined-runs n s h = record { runs = λ z w. absurd (h z) }

accepted-runs : (e : Effect) (cycles : ℕ) → e.state.mode ≡ Running → Runs (accepted e cycles)
unfolding accepted
accepted-runs e cycles h = record { runs = λ z w. h }

waits-runs : (s : State) (first : ℕ) → Runs (waits s first)
unfolding waits
waits-runs s first = record { runs = λ z w. absurd (false≢true (sym w)) }

done-runs : (e : Effect) (cycles : ℕ) (s : State) → e.state.mode ≡ Running → Runs (done e cycles s)
unfolding done
done-runs e cycles s h = either Runs _ _ _ (λ t. accepted-runs e cycles h) (λ t. declined-runs _ s (eqb-false _ _ t))

reset-runs : (s : State) → (reset_state s).mode ≡ Running
unfolding reset_state
reset-runs s = refl

request-mode : (s : State) → (without_request s).mode ≡ s.mode
unfolding without_request
request-mode s = refl

pub settled-mode : (s : State) (cycles : ℕ) (fresh : Bool) (first second : ℕ) → (settled s cycles fresh first second).mode ≡ s.mode
unfolding settled
settled-mode s cycles fresh first second = refl

carried-runs :
    (program : Program) (ram : List ℕ) (s : State) (first second : ℕ)
    → ((i : Instruction) (n : ℕ) → instruction_at program s.pc ≡ given (sized i n) → Standby i → ⊥) → Runs (carried program ram s first second)
unfolding carried
carried-runs program ram s first second f = go (instruction_at program s.pc) refl
  where
    go : (a : Answer Sized) → instruction_at program s.pc ≡ a → Runs (carried_by a program ram s first second)
    go (refused n) e = declined-runs n s (refused-some program s.pc n e)
    go (given (sized i n)) e =
        done-runs _ _ s ((keeps i program.bytes ram (running_at s (pc_after n s.pc)) s.pc first second).mode (f i n e))

module _ (roms : Roms) (ram : List ℕ) (s : State) (first second : ℕ) where
  module _ (awake : (i : Instruction) → CarriesOut roms s first i → Standby i → ⊥) where
    course-runs : Runs (course roms ram s first second)
    unfolding course
    course-runs =
        either Runs _ _ _ (λ t. declined-runs _ s (eqb-false _ _ (not-true _ t)))
        (λ t. either Runs _ _ _ (λ u. accepted-runs _ 1 (reset-runs s))
        (λ u. either Runs _ _ _ (λ h. waits-runs s first)
        (λ h. either Runs _ _ _ (λ v. accepted-runs _ 2 (called-mode s _ ∙ running-is s.mode (first_of (is_running s.mode) (not s.interrupts.service) s.interrupts.external (is_low int_pin first) v)))
        (λ v. either Runs _ _ _
        (λ w. accepted-runs _ 2 (called-mode (without_request s) _ ∙ request-mode s ∙ running-is s.mode (first_of (is_running s.mode) (not s.interrupts.service) s.interrupts.tcnti s.request w)))
        (λ w.
        let c = carried-runs (seen_by roms first) ram s first second
        (λ i n e. awake i (record { no_reset = u; no_wait = h; no_external = v; no_timer = w; bytes = n; stands = e })) in
        record { runs = c.runs })))))

    pub runs-after : (plan_of roms ram s first second).number ≡ 0 → 1 ≤ (plan_of roms ram s first second).cycles → (plan_of roms ram s first second).state.mode ≡ Running
    runs-after a l = go (course roms ram s first second).waited refl
      where
        n : (course roms ram s first second).number ≡ 0
        n = course-number (course roms ram s first second) s first second a

        go : (b : Bool) → (course roms ram s first second).waited ≡ b → (plan_of roms ram s first second).state.mode ≡ Running
        go false h =
            ap (λ (t : State). t.mode) (plan-state (course roms ram s first second) s first second n)
            ∙ settled-mode (course roms ram s first second).state _ _ first second ∙ course-runs.runs n h
        go true h =
            let none : (plan_of roms ram s first second).cycles ≡ 0 =
            plan-cycles (course roms ram s first second) s first second n
            ∙ ap (λ (c : Course). c.cycles) (waits-only roms ram s first second h) ∙ waits-cycles s first
            in
            absurd (omega (arith, l, none))

-- Under Intel the machine runs before every step and after it, and every step takes a cycle: the set has no HALT and no STOP.
module _ (roms : Roms) (ram : List ℕ) (s : State) (first second : ℕ) (a : (plan_of roms ram s first second).number ≡ 0) (e : roms.set ≡ Intel) where
  allows-running : (t : State) → permitted roms.set t ≡ true → is_running t.mode ≡ true
  allows-running t p = (permitted-fits Intel t (subst (λ (set : Set). permitted set t ≡ true) e p)).mode

  runs-before : is_running s.mode ≡ true
  runs-before =
      allows-running s
      (allowed roms ram s first second
      (admitted-stands roms ram s first second (admitted roms ram s first second (course-number (course roms ram s first second) s first second a)))).state_permitted

  pub intel-runs : (plan_of roms ram s first second).state.mode ≡ Running
  intel-runs = running-is _ (allows-running (plan_of roms ram s first second).state (accepted-permitted roms ram s first second a))

  pub intel-cycles : 1 ≤ (plan_of roms ram s first second).cycles
  intel-cycles = go ((plan-busy roms ram s first second).spends a)
    where
      go : Spends (plan_of roms ram s first second).cycles (plan_of roms ram s first second).used → 1 ≤ (plan_of roms ram s first second).cycles
      go (in_cycles l g u) = l
      go (in_waiting z u) =
          let n = course-number (course roms ram s first second) s first second a in
          let w = waits-halted roms ram s first second (idle-waits roms ram s first second n (sym (plan-cycles (course roms ram s first second) s first second n) ∙ z)) in
          absurd (false≢true (sym (awake s.mode runs-before) ∙ w))
