-- The sixteen bench cases hold under either set, by computation from the definitions.
-- Assumes nothing.
use mathlib.Core.List.{map}
use mathlib.Core.Path.{◌≡◌, refl}
use Rattle.isa.specs.Choice.{pick}
use Rattle.isa.specs.Reading.{instruction_at, decoded_at}
use Rattle.isa.specs.Sheet.{kind_of, entry_of}
use Rattle.isa.specs.declared.Set.{Set}
use Rattle.isa.specs.declared.Set.TheVariants.{Intel, Nec}
use Rattle.machine.specs.Rom.{visible}
use Rattle.effects.specs.Effect.{written}
use Rattle.flow.specs.Stack.{pushed}
use Rattle.execute.specs.Execute.{executed}
use Rattle.chip.specs.Admission.{lent_number, admission}
use Rattle.chip.specs.Cases.{seen, cases}
use Rattle.chip.specs.Run.{run_by, run_of}
use Rattle.chip.specs.Step.{declined, accepted, reset_state, called, without_request, done, carried, course, ticked, settled, plan_by}

pub bench : (set : Set) → map (seen set) cases ≡ map (λ c. c.want) cases
unfolding run_of run_by plan_by settled ticked course carried done accepted declined reset_state called without_request written admission lent_number executed pushed instruction_at decoded_at visible entry_of kind_of pick
bench Intel = refl
bench Nec = refl
