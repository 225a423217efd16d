-- A step that is accepted never leaves a state that 3 would refuse (document 02, item 9). Turn by turn: a reset, a wait, an interrupt call and
-- an instruction leave PC, the divider and PSW within their sizes, and a mode that the set has; and counting keeps them so. RAM keeps its
-- length too: so 1, 2 and 3, once not given, are not given again.
-- Assumes nothing.
use Prim.Native.Nat.{ℕ, ◌+◌, ◌*◌, ◌/◌, ◌%◌, ◌<◌}
use mathlib.Core.Bool.{Bool, true, false, ◌&&◌, false≢true}
use mathlib.Core.List.{List}
use mathlib.Core.Path.{◌≡◌, refl, sym, ◌∙◌, subst}
use native.Mathlib.Omega.{arith}
use lib.Dec.{eqb, ltb, lit≤}
use lib.ListN.{length, set, length-set}
use borrow.Author.Tests.{eqb-true, eqb-false, not-true, not-false, ltb-true, lt-ltb, eq-eqb}
use Rattle.isa.specs.Choice.{pick}
use Rattle.isa.specs.Numbers.{Answer, given, refused}
use Rattle.isa.specs.Reading.{Program, Sized, sized, next_pc, instruction_at}
use Rattle.isa.specs.Sets.{Standby, Without, standby}
use Rattle.isa.specs.declared.Instruction.{Instruction}
use Rattle.isa.specs.declared.Set.{Set}
use Rattle.isa.specs.declared.Set.TheVariants.{Intel, Nec}
use Rattle.isa.proofs.Finding.{refused-some}
use Rattle.isa.proofs.Sets.{read-within}
use Rattle.machine.specs.Counting.{counted}
use Rattle.machine.specs.Mode.{is_waiting, mode_allowed}
use Rattle.machine.specs.Rom.{Roms, seen_by}
use Rattle.machine.specs.State.{permitted, running_at, with_interrupts}
use Rattle.machine.specs.declared.Count.{Count}
use Rattle.machine.specs.declared.Counting.{Counting}
use Rattle.machine.specs.declared.Counting.TheVariants.{Stopped, Timer, Counter}
use Rattle.machine.specs.declared.Mode.{Mode}
use Rattle.machine.specs.declared.Mode.TheVariants.{Running}
use Rattle.machine.specs.declared.State.{State}
use Rattle.effects.specs.Effect.{Write, Nothing, Byte, Pair, Effect, written}
use Rattle.flow.specs.Stack.{pushed}
use Rattle.execute.specs.Execute.{executed}
use Rattle.execute.proofs.Keeping.{keeps}
use Rattle.execute.proofs.Within.{WithinSizes, next-within, push-within, within}
use Rattle.chip.specs.Admission.{lent_number, lent_of}
use Rattle.chip.specs.Step.{Course, declined, accepted, released, waits, reset_state, called, without_request, pc_after, done, carried_by, carried, course, ticked, settled, moved_of, step_of, ram_after, Moved}
use Rattle.chip.proofs.Choices.{either}
use Rattle.chip.proofs.Cycles.{course-number, plan-state}
use Rattle.chip.proofs.Exactly.{allowed, admitted-stands}
use Rattle.chip.proofs.Turns.{awake}

-- What 3 asks of a state under a set, part by part.
pub record Fits (set : Set) (s : State) : Type 0 where
  pub sizes : WithinSizes s
  pub mode : mode_allowed set s.mode ≡ true

all-four : (w x y z : Bool) → (w && x && y && z) ≡ true → (w ≡ true) × (x ≡ true) × (y ≡ true) × (z ≡ true)
all-four true true true true h = (refl, refl, refl, refl)
all-four false x y z h = absurd (false≢true h)
all-four true false y z h = absurd (false≢true h)
all-four true true false z h = absurd (false≢true h)
all-four true true true false h = absurd (false≢true h)

pub permitted-fits : (set : Set) (s : State) → permitted set s ≡ true → Fits set s
permitted-fits set s h =
    let w = all-four (ltb s.pc 4096) (ltb s.divider 32) (eqb (s.psw / 8 % 2) 1) (mode_allowed set s.mode) h in
    record {
      sizes = record { address = ltb-true _ _ w.0; divides = ltb-true _ _ w.1; bit_3 = eqb-true _ _ w.2 };
      mode = w.3;
    }

fits-permitted : (set : Set) (s : State) → Fits set s → permitted set s ≡ true
fits-permitted set s h = rw (lt-ltb _ _ h.sizes.address, lt-ltb _ _ h.sizes.divides, eq-eqb _ _ h.sizes.bit_3, h.mode)

-- ---- the turns of a step
-- Either set lets it run; and a set that lets it wait has every mode.
running-allowed : (set : Set) → mode_allowed set Running ≡ true
running-allowed Intel = refl
running-allowed Nec = refl

waiting-allowed : (set : Set) (m other : Mode) → is_waiting m ≡ true → mode_allowed set m ≡ true → mode_allowed set other ≡ true
waiting-allowed Intel m other w h = absurd (false≢true (sym (awake m h) ∙ w))
waiting-allowed Nec m other w h = refl

pub called-mode : (s : State) (vector : ℕ) → (called s vector).state.mode ≡ s.mode
unfolding called pushed
called-mode s vector = refl

module _ (set : Set) (s : State) (h : Fits set s) where
  reset-fits : Fits set (reset_state s)
  unfolding reset_state
  reset-fits =
      record {
        sizes = record { address = lit≤ tt; divides = h.sizes.divides; bit_3 = bit s.psw h.sizes.bit_3 };
        mode = running-allowed set;
      }
    where
      bit : (psw : ℕ) → psw / 8 % 2 ≡ 1 → (psw / 64 * 64 + psw / 8 % 2 * 8) / 8 % 2 ≡ 1
      bit psw e = omega arith

  released-fits : (first : ℕ) → is_waiting s.mode ≡ true → Fits set (released s first)
  released-fits first w =
      either (Fits set) _ _ _ (λ l. record { sizes = h.sizes; mode = waiting-allowed set s.mode _ w h.mode }) (λ l. h)

  called-fits : (vector : ℕ) → vector < 4096 → Fits set (called s vector).state
  unfolding called
  called-fits vector l =
      record { sizes = push-within (with_interrupts s _) vector h.sizes l; mode = subst (λ (m : Mode). mode_allowed set m ≡ true) (sym (called-mode s vector)) h.mode }

  request-fits : Fits set (without_request s)
  unfolding without_request
  request-fits = record { sizes = h.sizes; mode = h.mode }

after-within : (n pc : ℕ) → pc < 4096 → pc_after n pc < 4096
after-within n pc l = either (λ (x : ℕ). x < 4096) _ _ _ (λ t. next-within pc l) (λ t. next-within (next_pc pc) (next-within pc l))

-- An instruction that is read in Intel's set is neither HALT nor STOP, and leaves it running.
mode-left : (set : Set) (i : Instruction) (m : Mode) → (Without set i → ⊥) → ((Standby i → ⊥) → m ≡ Running) → mode_allowed set m ≡ true
mode-left Intel i m f g = rw (g (λ w. f (standby w)))
mode-left Nec i m f g = refl

instruction-fits :
    (program : Program) (ram : List ℕ) (s : State) (first second : ℕ) (i : Instruction) (n : ℕ)
    → instruction_at program s.pc ≡ given (sized i n) → Fits program.set s
    → Fits program.set (executed i program.bytes ram (running_at s (pc_after n s.pc)) s.pc first second).state
instruction-fits program ram s first second i n e h =
    let next = running_at s (pc_after n s.pc) in
    record {
      sizes =
          within i program.bytes ram next s.pc first second
          (record { address = after-within n s.pc h.sizes.address; divides = h.sizes.divides; bit_3 = h.sizes.bit_3 })
          h.sizes.address;
      mode =
          mode-left program.set i _ (read-within program s.pc i n e)
          (λ awake. (keeps i program.bytes ram next s.pc first second).mode awake);
    }

-- ---- a step, before its cycles are counted
record Leaves (set : Set) (c : Course) : Type 0 where
  fits : c.number ≡ 0 → Fits set c.state

declined-leaves : (set : Set) (n : ℕ) (s : State) → (n ≡ 0 → ⊥) → Leaves set (declined n s)
unfolding declined
declined-leaves set n s h = record { fits = λ z. absurd (h z) }

accepted-leaves : (set : Set) (e : Effect) (cycles : ℕ) → Fits set e.state → Leaves set (accepted e cycles)
unfolding accepted
accepted-leaves set e cycles h = record { fits = λ z. h }

waits-leaves : (set : Set) (s : State) (first : ℕ) → Fits set (released s first) → Leaves set (waits s first)
unfolding waits
waits-leaves set s first h = record { fits = λ z. h }

done-leaves : (set : Set) (e : Effect) (cycles : ℕ) (s : State) → Fits set e.state → Leaves set (done e cycles s)
unfolding done
done-leaves set e cycles s h =
    either (Leaves set) _ _ _ (λ t. accepted-leaves set e cycles h) (λ t. declined-leaves set _ s (eqb-false _ _ t))

carried-leaves :
    (program : Program) (ram : List ℕ) (s : State) (first second : ℕ) → Fits program.set s
    → Leaves program.set (carried program ram s first second)
unfolding carried
carried-leaves program ram s first second h = go (instruction_at program s.pc) refl
  where
    go : (a : Answer Sized) → instruction_at program s.pc ≡ a → Leaves program.set (carried_by a program ram s first second)
    go (refused n) e = declined-leaves program.set n s (refused-some program s.pc n e)
    go (given (sized i n)) e = done-leaves program.set _ _ s (instruction-fits program ram s first second i n e h)

module _ (roms : Roms) (ram : List ℕ) (s : State) (first second : ℕ) where
  abbrev Left : Course → Type 0
  Left c = Leaves roms.set c

  course-leaves : Left (course roms ram s first second)
  unfolding course
  course-leaves =
      either Left _ _ _ (λ t. declined-leaves roms.set _ s (eqb-false _ _ (not-true _ t)))
      (λ t.
      let w = allowed roms ram s first second (admitted-stands roms ram s first second (eqb-true _ _ (not-false _ t))) in
      let h = permitted-fits roms.set s w.state_permitted in
      either Left _ _ _ (λ u. accepted-leaves roms.set _ 1 (reset-fits roms.set s h))
      (λ u. either Left _ _ _ (λ y. waits-leaves roms.set s first (released-fits roms.set s h first y))
      (λ y. either Left _ _ _ (λ v. accepted-leaves roms.set _ 2 (called-fits roms.set s h _ (lit≤ tt)))
      (λ v. either Left _ _ _ (λ x. accepted-leaves roms.set _ 2 (called-fits roms.set (without_request s) (request-fits roms.set s h) _ (lit≤ tt)))
      (λ x. record { fits = (carried-leaves (seen_by roms first) ram s first second h).fits })))))

-- ---- its cycles: counting leaves the divider below 32
counted-divider : (counting : Counting) (x : Count) (t1 enabled : Bool) → x.divider < 32 → (counted counting x t1 enabled).divider < 32
counted-divider Stopped x t1 enabled l = l
counted-divider Timer x t1 enabled l = omega arith
counted-divider Counter x t1 enabled l = l

ticked-divider :
    (counting : Counting) (x : Count) (cycles : ℕ) (fresh enabled : Bool) (first second : ℕ) → x.divider < 32
    → (ticked counting x cycles fresh enabled first second).divider < 32
unfolding ticked
ticked-divider counting x cycles fresh enabled first second l =
    either (λ (y : Count). y.divider < 32) _ _ _ (λ z. l)
    (λ z. either (λ (y : Count). y.divider < 32) _ _ _ (λ t. l)
    (λ t. either (λ (y : Count). y.divider < 32) _ _ _
    (λ u. counted-divider counting _ _ enabled (counted-divider counting x _ enabled l)) (λ u. counted-divider counting x _ enabled l)))

settled-fits :
    (set : Set) (s : State) (cycles : ℕ) (fresh : Bool) (first second : ℕ) → Fits set s → Fits set (settled s cycles fresh first second)
unfolding settled
settled-fits set s cycles fresh first second h =
    record {
      sizes =
          record {
            address = h.sizes.address;
            divides = ticked-divider s.counting _ cycles fresh _ first second h.sizes.divides;
            bit_3 = h.sizes.bit_3;
          };
      mode = h.mode;
    }

-- ---- the law
pub accepted-permitted :
    (roms : Roms) (ram : List ℕ) (s : State) (first second : ℕ) → (step_of roms ram s first second).number ≡ 0
    → permitted roms.set (step_of roms ram s first second).state ≡ true
accepted-permitted roms ram s first second a =
    let c = course roms ram s first second in
    let n = course-number c s first second a in
    fits-permitted roms.set (step_of roms ram s first second).state
    (subst (Fits roms.set) (sym (plan-state c s first second n))
    (settled-fits roms.set c.state _ _ first second ((course-leaves roms ram s first second).fits n)))

-- ---- RAM keeps its length
pub written-length : (ram : List ℕ) (w : Write) → length (written ram w) ≡ length ram
unfolding written
written-length ram Nothing = refl
written-length ram (Byte at v) = length-set ram at v
written-length ram (Pair at low high) = length-set (set ram at low) (at + 1) high ∙ length-set ram at low

pub ram-length : (roms : Roms) (ram : List ℕ) (s : State) (first second : ℕ) → length (ram_after roms ram s first second) ≡ length ram
ram-length roms ram s first second = written-length ram _

-- So 1, 2 and 3, once not given, are not given again: of what a call of the step answered and the RAM that it left.
pub still-stands :
    (roms : Roms) (ram : List ℕ) (s : State) (first second : ℕ) (r : Moved) (left : List ℕ) → r ≡ moved_of (step_of roms ram s first second)
    → left ≡ ram_after roms ram s first second → r.number ≡ 0 → lent_of roms ram s ≡ 0
    → lent_of roms left r.state ≡ 0
unfolding lent_number pick
still-stands roms ram s first second r left er el a z =
    let w = allowed roms ram s first second z in
    let p = accepted-permitted roms ram s first second (rw er at a) in
    rw (er, el, ram-length roms ram s first second, w.program_sized, w.outside_sized, w.ram_sized, p)
