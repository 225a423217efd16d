-- Two outcomes that meet the statement of a step, of a run, or of a play, are equal, and so are the RAMs that they leave.
-- Assumes nothing.
use Prim.Native.Nat.{ℕ}
use mathlib.Core.Bool.{Bool}
use mathlib.Core.List.{List}
use mathlib.Core.Path.{◌≡◌}
use Rattle.std.specs.Prelude.{Result}
use Rattle.isa.specs.declared.Refusal.{Refusal}
use Rattle.isa.proofs.Once.{once}
use Rattle.machine.specs.Rom.{Roms}
use Rattle.machine.specs.declared.State.{State}
use Rattle.chip.specs.Run.{ran_as, played_as, played_of, run_of}
use Rattle.chip.specs.Step.{outcome_by, step_of, ram_after}
use Rattle.chip.specs.declared.Outcome as code_outcome
use Rattle.chip.specs.declared.Played as code_played
use Rattle.chip.specs.declared.Ran as code_ran
use Rattle.chip.proofs.Once.{outcome-by-once, ran-as-once, played-as-once}

pub step-once :
    (roms : Roms) (ram : List ℕ) (s : State) (first second : ℕ) {r r' : Result code_outcome.Outcome Refusal} {m m' : List ℕ}
    → outcome_by s r ≡ step_of roms ram s first second → m ≡ ram_after roms ram s first second
    → outcome_by s r' ≡ step_of roms ram s first second → m' ≡ ram_after roms ram s first second → (r ≡ r') × (m ≡ m')
step-once roms ram s first second {r} {r'} p q p' q' = (outcome-by-once s r r' (once p p'), once q q')

pub run-once :
    (roms : Roms) (ram : List ℕ) (s : State) (samples : List ℕ) {r r' : code_ran.Ran} {m m' : List ℕ}
    → ran_as r ≡ (run_of roms ram s samples).ran → m ≡ (run_of roms ram s samples).ram
    → ran_as r' ≡ (run_of roms ram s samples).ran → m' ≡ (run_of roms ram s samples).ram → (r ≡ r') × (m ≡ m')
run-once roms ram s samples {r} {r'} p q p' q' = (ran-as-once r r' (once p p'), once q q')

pub play-once :
    (asked : Bool) (roms : Roms) (ram : List ℕ) (s : State) (samples : List ℕ) {p p' : code_played.Played} {m m' : List ℕ}
    → played_as p ≡ played_of asked roms ram s samples → m ≡ (run_of roms ram s samples).ram
    → played_as p' ≡ played_of asked roms ram s samples → m' ≡ (run_of roms ram s samples).ram → (p ≡ p') × (m ≡ m')
play-once asked roms ram s samples {p} {p'} h q h' q' = (played-as-once p p' (once h h'), once q q')
