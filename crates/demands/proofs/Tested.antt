-- Document 02, item 9: when could a run's later step give 3? Never: an accepted step leaves no state that 3 would refuse. So a run that asks
-- for 1, 2 and 3 at its start alone gives every answer of one that asks in every step.
-- Assumes nothing.
use Prim.Native.Nat.{ℕ, ◌≤◌}
use mathlib.Core.Bool.{Bool, true, false}
use mathlib.Core.List.{List, [], ◌∷◌}
use mathlib.Core.Logic.{◌⊎◌, inl, inr}
use mathlib.Core.Path.{◌≡◌, refl, ap, ◌∙◌}
use native.Mathlib.Omega.{arith}
use lib.Dec.{eqb}
use borrow.Author.Tests.{eqb-true, eqb-false}
use Rattle.isa.specs.Choice.{pick}
use Rattle.machine.specs.Pins.{reset_pin, is_low}
use Rattle.machine.specs.Rom.{Roms}
use Rattle.machine.specs.declared.State.{State}
use Rattle.chip.specs.Admission.{lent_of, sample_number}
use Rattle.chip.specs.Run.{Progress, Ended, begun, gone, ended, run_over, run_of, EachStep}
use Rattle.chip.specs.Step.{Plan, accepted, course, plan_by, plan_of, step_of, ram_after, Outcome}
use Rattle.chip.proofs.Cycles.{course-number}
use Rattle.chip.proofs.Exactly.{admitted, admitted-stands, exactly-from, samples-decide, lent-refuses}
use Rattle.chip.proofs.Linking.{run-over, not-begun}
use Rattle.chip.proofs.Permitted.{still-stands}
use Rattle.chip.proofs.Standby.{numbers}
use Rattle.demands.specs.Tested.{untested_course, untested_plan, tested_once}
use Rattle.demands.proofs.Each.{each-step, run-number, run-same}

-- ---- no step after an accepted one gives 1, 2 or 3
-- The numbers of a step where they are not given before it.
abbrev Later : ℕ → Type 0
Later n = (n ≡ 0) ⊎ (4 ≤ n)

later-number : (roms : Roms) (ram : List ℕ) (s : State) (x y : ℕ) → lent_of roms ram s ≡ 0 → Later (step_of roms ram s x y).number
later-number roms ram s x y z = go (eqb (step_of roms ram s x y).number 0) refl
  where
    high : (n : ℕ) → (n ≡ 4) ⊎ ((n ≡ 5) ⊎ (n ≡ 6)) → 4 ≤ n
    high n (inl e) = omega (arith, e)
    high n (inr (inl e)) = omega (arith, e)
    high n (inr (inr e)) = omega (arith, e)

    go : (b : Bool) → eqb (step_of roms ram s x y).number 0 ≡ b → Later (step_of roms ram s x y).number
    go true e = inl (eqb-true _ _ e)
    go false e = inr (high _ (numbers roms ram s x y _ z (exactly-from roms ram s x y _ refl (eqb-false _ _ e))))

-- A step that accepts never leaves a state that 3 would refuse.
pub never-3 :
    (roms : Roms) (ram : List ℕ) (s : State) (first second : ℕ) → (step_of roms ram s first second).number ≡ 0 → (x y : ℕ)
    → (step_of roms (ram_after roms ram s first second) (step_of roms ram s first second).state x y).number ≡ 3 → ⊥
never-3 roms ram s first second a x y three = go (later-number roms _ _ x y (still-stands roms ram s first second _ _ refl refl a stood))
  where
    stood : lent_of roms ram s ≡ 0
    stood = admitted-stands roms ram s first second (admitted roms ram s first second (course-number (course roms ram s first second) s first second a))

    go : Later (step_of roms (ram_after roms ram s first second) (step_of roms ram s first second).state x y).number → ⊥
    go (inl e) = omega (arith, three, e)
    go (inr l) = omega (arith, three, l)

-- Where a run begins, 1, 2 and 3 are not given to any of its steps.
pub each-stands : (roms : Roms) (xs : List ℕ) (m : Progress) → lent_of roms m.ram m.state ≡ 0 → EachStep (λ ram s x y. lent_of roms ram s ≡ 0) roms xs m
unfolding EachStep pick
each-stands roms [] m z = tt
each-stands roms (x ∷ []) m z = tt
each-stands roms (x ∷ (y ∷ rest)) m z =
    (z, go (eqb p.number 0) (eqb p.used 1) refl (λ k v. each-stands roms (y ∷ rest) k v) (λ k v. each-stands roms rest k v))
  where
    E : List ℕ → Progress → Type 0
    E xs m = EachStep (λ ram s x y. lent_of roms ram s ≡ 0) roms xs m

    p : Plan
    p = plan_of roms m.ram m.state x y

    go :
        (a b : Bool) → eqb p.number 0 ≡ a → ((k : Progress) → lent_of roms k.ram k.state ≡ 0 → E (y ∷ rest) k)
        → ((k : Progress) → lent_of roms k.ram k.state ≡ 0 → E rest k) → pick a (pick b (E (y ∷ rest)) (E rest) (gone m p)) (Unit {0})
    go true true e f g = f _ (still-stands roms m.ram m.state x y _ _ refl refl (eqb-true _ _ e) z)
    go true false e f g = g _ (still-stands roms m.ram m.state x y _ _ refl refl (eqb-true _ _ e) z)
    go false b e f g = tt

-- Where they are not given, a step that doesn't ask for them is the same.
untested-same : (roms : Roms) (ram : List ℕ) (s : State) (x y : ℕ) → lent_of roms ram s ≡ 0 → plan_of roms ram s x y ≡ untested_plan roms ram s x y
unfolding course untested_course
untested-same roms ram s x y z = rw (samples-decide roms ram s x y z)

-- Where 3 is given, it is another: a reset, say, is accepted. So the test at the start is needed.
pub start-needed :
    (roms : Roms) (ram : List ℕ) (s : State) (x y : ℕ) → lent_of roms ram s ≡ 3 → sample_number x y ≡ 0 → is_low reset_pin x ≡ true
    → ((step_of roms ram s x y).number ≡ 3) × ((untested_plan roms ram s x y).number ≡ 0)
unfolding untested_course plan_by accepted pick
start-needed roms ram s x y three fine low =
    (ap (λ (o : Outcome). o.number) (lent-refuses roms ram s x y (λ z. omega (arith, three, z))).0 ∙ three, rw (fine, low))

module _ (roms : Roms) (ram : List ℕ) (s : State) (samples : List ℕ) where
  abbrev run : Ended
  run = run_of roms ram s samples

  stands : lent_of roms ram s ≡ 0 → EachStep (λ m t x y. lent_of roms m t ≡ 0) roms samples (begun ram s)
  stands z = each-stands roms samples (begun ram s) z

  -- A run that gives 1, 2 or 3 has done nothing: it gives them at its start alone.
  pub only-at-start :
      1 ≤ (run_of roms ram s samples).ran.number → (run_of roms ram s samples).ran.number ≤ 3
      → run_of roms ram s samples ≡ ended (begun ram s) (lent_of roms ram s)
  only-at-start some few = not-begun roms ram s samples (λ z. go _ (ap (λ (e : Ended). e.ran.number) (run-over roms ram s samples z)) (number z))
    where
      number : lent_of roms ram s ≡ 0 → Later (run_over roms samples (begun ram s)).ran.number
      number z =
          run-number Later roms (inl refl) samples (begun ram s)
          (each-step roms (λ m t x y v. later-number roms m t x y v) samples (begun ram s) (stands z))

      go : (n : ℕ) → run.ran.number ≡ n → Later n → ⊥
      go n e (inl z) = omega (arith, e, z, some)
      go n e (inr l) = omega (arith, e, l, few)

  -- For every input the answers are unchanged: the number, the state, the samples used, the cycles, the RAM, and the events in order.
  pub answers-unchanged : run_of roms ram s samples ≡ tested_once roms ram s samples
  unfolding run_of tested_once pick
  answers-unchanged = go (eqb (lent_of roms ram s) 0) refl
    where
      go : (b : Bool) → eqb (lent_of roms ram s) 0 ≡ b → run ≡ tested_once roms ram s samples
      go true e =
          rw e
          (run-same roms (untested_plan roms) samples (begun ram s)
          (each-step roms (λ m t x y v. untested-same roms m t x y v) samples (begun ram s) (stands (eqb-true _ _ e))))
      go false e = rw e
