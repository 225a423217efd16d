-- An accepted step takes one cycle or two and uses as many samples, or is a wait, which takes none and uses one; and a refused one stores
-- nothing.
-- Assumes nothing.
use Prim.Native.Nat.{ℕ, ◌≤◌}
use mathlib.Core.Bool.{Bool, true, false, false≢true}
use mathlib.Core.List.{List}
use mathlib.Core.Path.{◌≡◌, refl, sym, ap, ◌∙◌}
use native.Mathlib.Omega.{arith}
use lib.Dec.{lit≤}
use borrow.Author.Tests.{eqb-true, eqb-false, not-true}
use Rattle.isa.specs.Choice.{pick}
use Rattle.isa.specs.Numbers.{Answer, given, refused}
use Rattle.isa.specs.Reading.{Program, Sized, sized, entry_at, instruction_at}
use Rattle.isa.specs.declared.Instruction.{Instruction}
use Rattle.isa.proofs.Entries.{defined-cycles}
use Rattle.isa.proofs.Finding.{Found, alone, paired, found, refused-some}
use Rattle.machine.specs.Mode.{is_waiting}
use Rattle.machine.specs.Rom.{Roms, seen_by}
use Rattle.machine.specs.declared.State.{State}
use Rattle.effects.specs.Effect.{Nothing, Effect}
use Rattle.chip.specs.Step.{Course, Plan, declined, accepted, waits, done, carried_by, carried, course_by, course, plan_by, plan_of, settled, ticked, moved_of, outcome_of}
use Rattle.chip.specs.declared.Turn.TheVariants.{CarryOut}
use Rattle.chip.proofs.Choices.{either}

record Lasting (s : State) (first : ℕ) (c : Course) : Type 0 where
  some : c.number ≡ 0 → c.waited ≡ false → 1 ≤ c.cycles
  few : c.number ≡ 0 → c.cycles ≤ 2
  silent : (c.number ≡ 0 → ⊥) → c.write ≡ Nothing
  halted : c.waited ≡ true → is_waiting s.mode ≡ true
  idle : c.waited ≡ true → c ≡ waits s first

module _ (s : State) (first : ℕ) where
  declined-lasting : (n : ℕ) (t : State) → (n ≡ 0 → ⊥) → Lasting s first (declined n t)
  unfolding declined
  declined-lasting n t h =
      record {
        some = λ z w. absurd (h z);
        few = λ z. absurd (h z);
        silent = λ z. refl;
        halted = λ w. absurd (false≢true w);
        idle = λ w. absurd (false≢true w);
      }

  accepted-lasting : (e : Effect) (cycles : ℕ) → 1 ≤ cycles → cycles ≤ 2 → Lasting s first (accepted e cycles)
  unfolding accepted
  accepted-lasting e cycles h k =
      record {
        some = λ z w. h;
        few = λ z. k;
        silent = λ z. absurd (z refl);
        halted = λ w. absurd (false≢true w);
        idle = λ w. absurd (false≢true w);
      }

  waits-lasting : is_waiting s.mode ≡ true → Lasting s first (waits s first)
  unfolding waits
  waits-lasting h =
      record {
        some = λ z w. absurd (false≢true (sym w));
        few = λ z. lit≤ tt;
        silent = λ z. absurd (z refl);
        halted = λ w. h;
        idle = λ w. refl;
      }

  done-lasting : (e : Effect) (cycles : ℕ) (t : State) → 1 ≤ cycles → cycles ≤ 2 → Lasting s first (done e cycles t)
  unfolding done
  done-lasting e cycles t h k =
      either (Lasting s first) _ _ _ (λ z. accepted-lasting e cycles h k) (λ z. declined-lasting _ t (eqb-false _ _ z))

-- What an instruction writes is what its effect does, since a refused one writes nothing.
pub done-writes : (e : Effect) (cycles : ℕ) (s : State) → ((e.number ≡ 0 → ⊥) → e.write ≡ Nothing) → (done e cycles s).write ≡ e.write
unfolding done accepted declined
done-writes e cycles s h = either (λ (c : Course). c.write ≡ e.write) _ _ _ (λ t. refl) (λ t. sym (h (eqb-false _ _ t)))

pub found-cycles :
    (program : Program) (a : ℕ) (i : Instruction) (n : ℕ) → Found program a i n
    → (1 ≤ (entry_at program a).cycles) × ((entry_at program a).cycles ≤ 2)
found-cycles program a i n (alone h p q j) = defined-cycles program.set _ p
found-cycles program a i n (paired h p q l j) = defined-cycles program.set _ p

-- An instruction that is carried out is no wait.
done-acts : (e : Effect) (cycles : ℕ) (s : State) → (done e cycles s).waited ≡ false
unfolding done accepted declined
done-acts e cycles s = either (λ (c : Course). c.waited ≡ false) _ _ _ (λ t. refl) (λ t. refl)

module _ (program : Program) (ram : List ℕ) (s : State) (first second : ℕ) where
  carried-lasting : Lasting s first (carried program ram s first second)
  unfolding carried
  carried-lasting = go (instruction_at program s.pc) refl
    where
      go : (a : Answer Sized) → instruction_at program s.pc ≡ a → Lasting s first (carried_by a program ram s first second)
      go (refused n) e = declined-lasting s first n s (refused-some program s.pc n e)
      go (given (sized i n)) e =
          let k = found-cycles program s.pc i n (found program s.pc i n e) in
          done-lasting s first _ _ s k.0 k.1

  carried-acts : (carried program ram s first second).waited ≡ false
  unfolding carried declined
  carried-acts = go (instruction_at program s.pc)
    where
      go : (a : Answer Sized) → (carried_by a program ram s first second).waited ≡ false
      go (refused n) = refl
      go (given (sized i n)) = done-acts _ _ s

module _ (roms : Roms) (ram : List ℕ) (s : State) (first second : ℕ) where
  instruction-lasting : Lasting s first (course_by CarryOut roms ram s first second)
  instruction-lasting =
      let l = carried-lasting (seen_by roms first) ram s first second in
      let acts = carried-acts (seen_by roms first) ram s first second in
      record {
        some = l.some;
        few = l.few;
        silent = l.silent;
        halted = λ w. absurd (false≢true (sym acts ∙ w));
        idle = λ w. absurd (false≢true (sym acts ∙ w));
      }

  course-lasting : Lasting s first (course roms ram s first second)
  unfolding course
  course-lasting =
      either (Lasting s first) _ _ _ (λ t. declined-lasting s first _ s (eqb-false _ _ (not-true _ t)))
      (λ t. either (Lasting s first) _ _ _ (λ u. accepted-lasting s first _ _ (lit≤ tt) (lit≤ tt))
      (λ u. either (Lasting s first) _ _ _ (λ h. waits-lasting s first h)
      (λ h. either (Lasting s first) _ _ _ (λ v. accepted-lasting s first _ _ (lit≤ tt) (lit≤ tt))
      (λ v. either (Lasting s first) _ _ _ (λ w. accepted-lasting s first _ _ (lit≤ tt) (lit≤ tt))
      (λ w. instruction-lasting)))))

-- What an accepted step spends.
pub data Spends (cycles used : ℕ) : Type 0 where
  in_cycles : 1 ≤ cycles → cycles ≤ 2 → used ≡ cycles → Spends cycles used
  in_waiting : cycles ≡ 0 → used ≡ 1 → Spends cycles used

pub record Busy (p : Plan) : Type 0 where
  pub spends : p.number ≡ 0 → Spends p.cycles p.used
  pub still : (p.number ≡ 0 → ⊥) → p.write ≡ Nothing

pub waits-cycles : (s : State) (first : ℕ) → (waits s first).cycles ≡ 0
unfolding waits
waits-cycles s first = refl

plan-by-busy : (c : Course) (s : State) (first second : ℕ) → Lasting s first c → Busy (plan_by c s first second)
unfolding plan_by
plan-by-busy c s first second l =
    either Busy _ _ _
    (λ t.
    record {
      spends = λ z.
          either (Spends c.cycles) _ _ _
          (λ w. in_waiting (ap (λ (x : Course). x.cycles) (l.idle w) ∙ waits-cycles s first) refl)
          (λ w. in_cycles (l.some (eqb-true _ _ t) w) (l.few (eqb-true _ _ t)) refl);
      still = λ z. absurd (z refl);
    })
    (λ t. record { spends = λ z. absurd (eqb-false _ _ t z); still = λ z. refl })

-- A wait, as the code answers it.
pub moved-waits :
    (c : Course) (s : State) (first second : ℕ) → c ≡ waits s first
    → record { number = 0; state = c.state; cycles = 0; used = 1 } ≡ moved_of (outcome_of (plan_by c s first second))
unfolding plan_by waits settled ticked pick
moved-waits c s first second e = rw e

-- What a step writes is what its course does, so that RAM is written before the cycles are counted.
plan-by-writes : (c : Course) (s : State) (first second : ℕ) → Lasting s first c → (plan_by c s first second).write ≡ c.write
unfolding plan_by
plan-by-writes c s first second l = either (λ (p : Plan). p.write ≡ c.write) _ _ _ (λ t. refl) (λ t. sym (l.silent (eqb-false _ _ t)))

module _ (roms : Roms) (ram : List ℕ) (s : State) (first second : ℕ) where
  pub plan-writes : (plan_of roms ram s first second).write ≡ (course roms ram s first second).write
  plan-writes = plan-by-writes _ s first second (course-lasting roms ram s first second)

  pub plan-busy : Busy (plan_of roms ram s first second)
  plan-busy = plan-by-busy _ s first second (course-lasting roms ram s first second)

  -- A course that is no wait takes a cycle.
  pub some-cycles : (course roms ram s first second).number ≡ 0 → (course roms ram s first second).waited ≡ false → 1 ≤ (course roms ram s first second).cycles
  some-cycles = (course-lasting roms ram s first second).some

  -- Only a machine that is halted or stopped waits, and a wait is what `waits` says.
  pub waits-only : (course roms ram s first second).waited ≡ true → course roms ram s first second ≡ waits s first
  waits-only = (course-lasting roms ram s first second).idle

  pub waits-halted : (course roms ram s first second).waited ≡ true → is_waiting s.mode ≡ true
  waits-halted = (course-lasting roms ram s first second).halted

  -- And a step without a cycle is one.
  pub idle-waits : (course roms ram s first second).number ≡ 0 → (course roms ram s first second).cycles ≡ 0 → (course roms ram s first second).waited ≡ true
  idle-waits a e = go (course roms ram s first second).waited refl
    where
      go : (b : Bool) → (course roms ram s first second).waited ≡ b → b ≡ true
      go true h = refl
      go false h = let l = some-cycles a h in absurd (omega (arith, l))

-- What the step's own code needs of a course.
pub ruleset lasts = (plan-writes, some-cycles, waits-only, moved-waits)
