-- What holds of each step of a run: it may be weakened, it tells of the run's number, and runs whose steps agree are the same.
-- Assumes nothing.
use Prim.Native.Nat.{ℕ}
use mathlib.Core.Bool.{Bool, true, false, false≢true}
use mathlib.Core.List.{List, [], ◌∷◌}
use mathlib.Core.Path.{◌≡◌, refl, ap, ◌∙◌}
use lib.Dec.{eqb}
use Rattle.isa.specs.Choice.{pick}
use Rattle.machine.specs.Rom.{Roms}
use Rattle.machine.specs.declared.State.{State}
use Rattle.chip.specs.Run.{Progress, Ended, gone, ended, turned, run_by, run_over, EachStep}
use Rattle.chip.specs.Step.{Plan, plan_of}

pub each-step :
    {P Q : List ℕ → State → ℕ → ℕ → Type 0} (roms : Roms) → ((ram : List ℕ) (s : State) (x y : ℕ) → P ram s x y → Q ram s x y)
    → (xs : List ℕ) (m : Progress) → EachStep P roms xs m → EachStep Q roms xs m
unfolding EachStep pick
each-step roms f [] m w = tt
each-step roms f (x ∷ []) m w = tt
each-step {P} {Q} roms f (x ∷ (y ∷ rest)) m w =
    (f _ _ _ _ w.0, go (eqb p.number 0) (eqb p.used 1) w.1 (λ k v. each-step roms f (y ∷ rest) k v) (λ k v. each-step roms f rest k v))
  where
    p : Plan
    p = plan_of roms m.ram m.state x y

    go :
        (a b : Bool) → pick a (pick b (EachStep P roms (y ∷ rest)) (EachStep P roms rest) (gone m p)) (Unit {0})
        → ((k : Progress) → EachStep P roms (y ∷ rest) k → EachStep Q roms (y ∷ rest) k)
        → ((k : Progress) → EachStep P roms rest k → EachStep Q roms rest k)
        → pick a (pick b (EachStep Q roms (y ∷ rest)) (EachStep Q roms rest) (gone m p)) (Unit {0})
    go true true v g h = g _ v
    go true false v g h = h _ v
    go false b v g h = tt

-- What holds of 0 and of each step's number holds of the run's.
pub run-number :
    (Q : ℕ → Type 0) (roms : Roms) → Q 0 → (xs : List ℕ) (m : Progress) → EachStep (λ ram s x y. Q (plan_of roms ram s x y).number) roms xs m
    → Q (run_over roms xs m).ran.number
unfolding run_by EachStep pick
run-number Q roms z [] m w = z
run-number Q roms z (x ∷ []) m w = z
run-number Q roms z (x ∷ (y ∷ rest)) m w =
    go (eqb p.number 0) (eqb p.used 1) w.1 (λ k v. run-number Q roms z (y ∷ rest) k v) (λ k v. run-number Q roms z rest k v)
  where
    E : List ℕ → Progress → Type 0
    E xs m = EachStep (λ ram s x y. Q (plan_of roms ram s x y).number) roms xs m

    p : Plan
    p = plan_of roms m.ram m.state x y

    go :
        (a b : Bool) → pick a (pick b (E (y ∷ rest)) (E rest) (gone m p)) (Unit {0})
        → ((k : Progress) → E (y ∷ rest) k → Q (run_over roms (y ∷ rest) k).ran.number) → ((k : Progress) → E rest k → Q (run_over roms rest k).ran.number)
        → Q (pick a (pick b (run_over roms (y ∷ rest)) (run_over roms rest) (gone m p)) (ended m p.number)).ran.number
    go true true v f g = f _ v
    go true false v f g = g _ v
    go false b v f g = w.0

turn-same :
    (p : Plan) (m : Progress) (one one' two two' : Progress → Ended)
    → (eqb p.number 0 ≡ true → pick (eqb p.used 1) one two (gone m p) ≡ pick (eqb p.used 1) one' two' (gone m p))
    → turned p m one two ≡ turned p m one' two'
unfolding pick
turn-same p m one one' two two' f = go (eqb p.number 0) f
  where
    go :
        (b : Bool) → (b ≡ true → pick (eqb p.used 1) one two (gone m p) ≡ pick (eqb p.used 1) one' two' (gone m p))
        → pick b (pick (eqb p.used 1) one two (gone m p)) (ended m p.number) ≡ pick b (pick (eqb p.used 1) one' two' (gone m p)) (ended m p.number)
    go true f = f refl
    go false f = refl

while : {A : Type 0} (b : Bool) → b ≡ true → pick b A (Unit {0}) → A
unfolding pick
while true e v = v
while false e v = absurd (false≢true e)

-- A run each step of which is what another step would be is the run by that step.
module _ (roms : Roms) (step : List ℕ → State → ℕ → ℕ → Plan) where
  abbrev Agrees : List ℕ → State → ℕ → ℕ → Type 0
  Agrees ram s x y = plan_of roms ram s x y ≡ step ram s x y

  pub run-same : (xs : List ℕ) (m : Progress) → EachStep Agrees roms xs m → run_over roms xs m ≡ run_by step xs m
  unfolding run_by EachStep pick
  run-same [] m w = refl
  run-same (x ∷ []) m w = refl
  run-same (x ∷ (y ∷ rest)) m w =
      turn-same p m (run_over roms (y ∷ rest)) (run_by step (y ∷ rest)) (run_over roms rest) (run_by step rest)
      (λ a. onward (eqb p.used 1) (while (eqb p.number 0) a w.1) (λ k v. run-same (y ∷ rest) k v) (λ k v. run-same rest k v))
      ∙ ap (λ (p : Plan). turned p m (run_by step (y ∷ rest)) (run_by step rest)) w.0
    where
      p : Plan
      p = plan_of roms m.ram m.state x y

      onward :
          (b : Bool) → pick b (EachStep Agrees roms (y ∷ rest)) (EachStep Agrees roms rest) (gone m p)
          → ((k : Progress) → EachStep Agrees roms (y ∷ rest) k → run_over roms (y ∷ rest) k ≡ run_by step (y ∷ rest) k)
          → ((k : Progress) → EachStep Agrees roms rest k → run_over roms rest k ≡ run_by step rest k)
          → pick b (run_over roms (y ∷ rest)) (run_over roms rest) (gone m p) ≡ pick b (run_by step (y ∷ rest)) (run_by step rest) (gone m p)
      onward true v f g = f _ v
      onward false v f g = g _ v
