-- Two answers of the code that tell the same are the same, for each definition of what an answer tells.
-- Assumes nothing.
use Prim.Native.Nat.{ℕ}
use mathlib.Core.Path.{◌≡◌, refl, sym, ap, ◌∙◌}
use Rattle.std.specs.Prelude.{Option, Some, None, Result, Ok, Err}
use Rattle.isa.specs.Choice.{pick}
use Rattle.isa.specs.Numbers.{number_of, number_given}
use Rattle.isa.specs.declared.Refusal.{Refusal}
use Rattle.isa.proofs.Once.{one-number}
use Rattle.machine.specs.declared.State.{State}
use Rattle.effects.specs.Effect.{EffectAnswer, done_as, effect_as}
use Rattle.effects.specs.declared.Effect as code_effect
use Rattle.chip.specs.Run.{Ran, Played, number_ended, ran_as, played_as}
use Rattle.chip.specs.Step.{CourseAnswer, Moved, Outcome, spent_as, told_as, told_by, moved_by, outcome_by}
use Rattle.chip.specs.declared.Course as code_course
use Rattle.chip.specs.declared.Moved as code_moved
use Rattle.chip.specs.declared.Outcome as code_outcome
use Rattle.chip.specs.declared.Played as code_played
use Rattle.chip.specs.declared.Ran as code_ran
use Rattle.chip.specs.declared.Spent.{Spent}
use Rattle.chip.specs.declared.Spent.TheVariants.{Waited, Cycles}
use Rattle.chip.proofs.Telling.{some-number}

-- What is told of an answer tells the answer, if a refusal is told by its number, what is done by 0, and what is done is told apart.
answer-once :
    {A B : Type 0} (tell : Result A Refusal → B) (number : B → ℕ) → ((a : A) → number (tell (Ok a)) ≡ 0) → ((r : Refusal) → number (tell (Err r)) ≡ number_of r)
    → ((a a' : A) → tell (Ok a) ≡ tell (Ok a') → a ≡ a') → (r r' : Result A Refusal) → tell r ≡ tell r' → r ≡ r'
answer-once tell number done refused apart (Ok a) (Ok a') h = ap Ok (apart a a' h)
answer-once tell number done refused apart (Ok a) (Err x) h = absurd (some-number x (sym (refused x) ∙ sym (ap number h) ∙ done a))
answer-once tell number done refused apart (Err x) (Ok a) h = absurd (some-number x (sym (refused x) ∙ ap number h ∙ done a))
answer-once tell number done refused apart (Err x) (Err y) h = ap Err (one-number x y (sym (refused x) ∙ ap number h ∙ refused y))

-- What the code answers is told by its number and values.
effect-back : EffectAnswer → code_effect.Effect
effect-back e = record { fresh = e.fresh; state = e.state }

pub done-as-once : (e e' : code_effect.Effect) → done_as e ≡ done_as e' → e ≡ e'
unfolding effect-back
done-as-once e e' h = ap (λ (x : EffectAnswer). effect-back x) h

pub effect-as-once : (s : State) (r r' : Result code_effect.Effect Refusal) → effect_as s r ≡ effect_as s r' → r ≡ r'
effect-as-once s = answer-once (effect_as s) (λ (a : EffectAnswer). a.number) (λ e. refl) (λ r. refl) done-as-once

told-back : CourseAnswer → code_course.Course
told-back a = record { spent = pick a.waited Waited (Cycles a.cycles a.fresh); state = a.state }

told-is : (x : Spent) (s : State) → told-back (spent_as x s) ≡ record { spent = x; state = s }
unfolding told-back pick
told-is Waited s = refl
told-is (Cycles n fresh) s = refl

pub told-as-once : (c c' : code_course.Course) → told_as c ≡ told_as c' → c ≡ c'
told-as-once c c' h = sym (told-is c.spent c.state) ∙ ap (λ (a : CourseAnswer). told-back a) h ∙ told-is c'.spent c'.state

-- A course has the number 0.
told-number : (x : Spent) (s : State) → (spent_as x s).number ≡ 0
told-number Waited s = refl
told-number (Cycles n fresh) s = refl

pub told-by-once : (s : State) (r r' : Result code_course.Course Refusal) → told_by s r ≡ told_by s r' → r ≡ r'
told-by-once s = answer-once (told_by s) (λ (a : CourseAnswer). a.number) (λ c. told-number c.spent c.state) (λ r. refl) told-as-once

moved-back : Moved → code_moved.Moved
moved-back m = record { state = m.state; cycles = m.cycles; used = m.used }

pub moved-by-once : (s : State) (r r' : Result code_moved.Moved Refusal) → moved_by s r ≡ moved_by s r' → r ≡ r'
unfolding moved-back
moved-by-once s = answer-once (moved_by s) (λ (m : Moved). m.number) (λ m. refl) (λ r. refl) (λ m m' h. ap (λ (x : Moved). moved-back x) h)

outcome-back : Outcome → code_outcome.Outcome
outcome-back o =
    record {
      moved = record { state = o.state; cycles = o.cycles; used = o.used };
      shown = record { event = o.event; outside = o.outside };
    }

pub outcome-by-once : (s : State) (r r' : Result code_outcome.Outcome Refusal) → outcome_by s r ≡ outcome_by s r' → r ≡ r'
unfolding outcome-back
outcome-by-once s = answer-once (outcome_by s) (λ (o : Outcome). o.number) (λ o. refl) (λ r. refl) (λ o o' h. ap (λ (x : Outcome). outcome-back x) h)

-- `admit` answers nothing beside.
pub number-given-once : (r r' : Result Unit Refusal) → number_given r ≡ number_given r' → r ≡ r'
number-given-once = answer-once number_given (λ (n : ℕ). n) (λ a. refl) (λ r. refl) (λ a a' h. refl)

number-ended-once : (x y : Option Refusal) → number_ended x ≡ number_ended y → x ≡ y
number-ended-once None None e = refl
number-ended-once None (Some y) e = absurd (some-number y (sym e))
number-ended-once (Some x) None e = absurd (some-number x e)
number-ended-once (Some x) (Some y) e = ap Some (one-number x y e)

ran-back : Option Refusal → Ran → code_ran.Ran
ran-back ended r = record { ended = ended; state = r.state; used = r.used; cycles = r.cycles }

pub ran-as-once : (r r' : code_ran.Ran) → ran_as r ≡ ran_as r' → r ≡ r'
unfolding ran-back
ran-as-once r r' e =
    ap (λ (x : Ran). ran-back r.ended x) e
    ∙ ap (λ (ended : Option Refusal). ran-back ended (ran_as r')) (number-ended-once r.ended r'.ended (ap (λ (x : Ran). x.number) e))

played-back : code_ran.Ran → Played → code_played.Played
played-back ran p = record { ran = ran; shown = p.shown }

pub played-as-once : (p p' : code_played.Played) → played_as p ≡ played_as p' → p ≡ p'
unfolding played-back
played-as-once p p' e =
    ap (λ (x : Played). played-back p.ran x) e
    ∙ ap (λ (ran : code_ran.Ran). played-back ran (played_as p')) (ran-as-once p.ran p'.ran (ap (λ (x : Played). x.ran) e))
