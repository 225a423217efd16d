-- The owner's story, by computation. STRT T is carried out in cycle 7, so the overflow is in cycle 7 + 32 = 39, the first cycle of a
-- jump. Its request is stored; the next step is the call to location 7, complete in cycle 42, 3 cycles after the overflow.
-- Assumes nothing.
use mathlib.Core.Bool.{true, false}
use mathlib.Core.List.{[], ◌∷◌, map}
use mathlib.Core.Path.{◌≡◌, refl}
use Rattle.isa.specs.Choice.{pick}
use Rattle.isa.specs.Reading.{instruction_at, decoded_at}
use Rattle.isa.specs.Sheet.{kind_of, entry_of}
use Rattle.isa.specs.declared.Set.{Set}
use Rattle.isa.specs.declared.Set.TheVariants.{Intel, Nec}
use Rattle.machine.specs.Rom.{visible}
use Rattle.effects.specs.Effect.{written}
use Rattle.flow.specs.Stack.{pushed}
use Rattle.execute.specs.Execute.{executed}
use Rattle.chip.specs.Admission.{lent_number, admission}
use Rattle.chip.specs.Run.{run_by, run_of}
use Rattle.chip.specs.Step.{declined, accepted, reset_state, called, without_request, done, carried, course, ticked, settled, plan_by}
use Rattle.chip.specs.Story.{sight, waited}

pub story :
    (set : Set)
    → map (λ n. sight (waited set n)) (39 ∷ 41 ∷ 43 ∷ [])
    ≡ record { number = 0; cycles = 38; pc = 0x00E; t = 0xFF; tf = false; request = false; service = false }
    ∷ record { number = 0; cycles = 40; pc = 0x00E; t = 0; tf = true; request = true; service = false }
    ∷ record { number = 0; cycles = 42; pc = 0x007; t = 0; tf = true; request = false; service = true }
    ∷ []
unfolding run_of run_by plan_by settled ticked course carried done accepted declined reset_state called without_request written admission lent_number executed pushed instruction_at decoded_at visible entry_of kind_of pick
story Intel = refl
story Nec = refl
