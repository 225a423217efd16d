-- What the code's answers tell is what the definitions say: a refusal, a wait, or what is done in some cycles.
-- Assumes nothing.
use Prim.Native.Nat.{ℕ}
use mathlib.Core.Bool.{false}
use mathlib.Core.List.{List}
use mathlib.Core.Path.{◌≡◌, refl, sym, ap}
use native.Mathlib.Omega.{arith}
use borrow.Author.Tests.{eq-eqb, ne_eqb}
use Rattle.std.specs.Prelude.{Err}
use Rattle.isa.specs.Choice.{pick}
use Rattle.isa.specs.Numbers.{number_of}
use Rattle.isa.specs.declared.Refusal.{Refusal}
use Rattle.isa.specs.declared.Refusal.TheVariants.{ProgramLength, RamLength, StateOutside, UndefinedCode, PastEnd, SampleBits, LineTooShort, OperandTooLarge, SetUnknown}
use Rattle.machine.specs.declared.State.{State}
use Rattle.effects.specs.Effect.{Effect, Nothing, EffectAnswer, answer_of, done_as, effect_as, written}
use Rattle.effects.specs.declared.Effect as code_effect
use Rattle.chip.specs.Step.{CourseAnswer, course_answer, told_by, declined, accepted, waits, done}
use Rattle.chip.proofs.Exactly.{refused-writes, small_ram, lent-declines}

-- No refusal has the number 0.
pub some-number : (r : Refusal) → number_of r ≡ 0 → ⊥
some-number ProgramLength z = omega (arith, z)
some-number RamLength z = omega (arith, z)
some-number StateOutside z = omega (arith, z)
some-number UndefinedCode z = omega (arith, z)
some-number PastEnd z = omega (arith, z)
some-number SampleBits z = omega (arith, z)
some-number LineTooShort z = omega (arith, z)
some-number OperandTooLarge z = omega (arith, z)
some-number SetUnknown z = omega (arith, z)

-- An instruction that is carried out, and the state s that its step got.
module _ (x : Effect) (cycles : ℕ) (s : State) where
  pub done-refused : (r : Refusal) {t : State} → effect_as t (Err r) ≡ answer_of x → told_by s (Err r) ≡ course_answer (done x cycles s)
  unfolding done declined pick
  done-refused r h =
      let n : number_of r ≡ x.number = ap (λ (a : EffectAnswer). a.number) h in
      rw (← n, ne_eqb _ _ (some-number r))

  pub done-accepted :
      {e : code_effect.Effect} {t : CourseAnswer} → done_as e ≡ answer_of x → t ≡ course_answer (accepted x cycles) → t ≡ course_answer (done x cycles s)
  unfolding done pick
  done-accepted h g =
      let n : 0 ≡ x.number = ap (λ (a : EffectAnswer). a.number) h in
      rw (eq-eqb _ _ (sym n)) g

-- The courses, by what the code's answers speak of.
pub declined-is :
    (n : ℕ) (s : State)
    → ((declined n s).number ≡ n) × ((declined n s).state ≡ s) × ((declined n s).write ≡ Nothing) × ((declined n s).cycles ≡ 0)
    × ((declined n s).fresh ≡ false) × ((declined n s).waited ≡ false)
unfolding declined
declined-is n s = (refl, refl, refl, refl, refl, refl)

pub accepted-writes : (e : Effect) (cycles : ℕ) → (accepted e cycles).write ≡ e.write
unfolding accepted
accepted-writes e cycles = refl

pub waits-writes : (s : State) (first : ℕ) → (waits s first).write ≡ Nothing
unfolding waits
waits-writes s first = refl

pub done-zero : (e : Effect) (cycles : ℕ) (s : State) → e.number ≡ 0 → done e cycles s ≡ accepted e cycles
unfolding done pick
done-zero e cycles s z = rw (eq-eqb _ _ z)

pub done-numbered : (e : Effect) (cycles : ℕ) (s : State) → (e.number ≡ 0 → ⊥) → done e cycles s ≡ declined e.number s
unfolding done pick
done-numbered e cycles s n = rw (ne_eqb _ _ n)

pub written-nothing : (ram : List ℕ) → written ram Nothing ≡ ram
unfolding written
written-nothing ram = refl

pub ruleset courses = (some-number, small_ram, refused-writes, lent-declines, declined-is, accepted-writes, waits-writes, done-zero, done-numbered, written-nothing)
