-- Document 02, item 9: "Show that a step which accepts never leaves a state that 3 would refuse, then take that test out of the run's later
-- steps. It stays at the run's start". The run so tested, which is what the code does; `run_of` is document 01's, which tests in every step.
-- Assumes nothing.
use Rattle.std.specs.Prelude.{ℕ, not, List, eqb}
use Rattle.isa.specs.Choice.{pick}
use Rattle.machine.specs.Rom.{Roms}
use Rattle.machine.specs.declared.State.{State}
use Rattle.chip.specs.Admission.{sample_number}
use Rattle.chip.specs.Run.{Ended, begun, checked, run_by}
use Rattle.chip.specs.Step.{Course, Plan, declined, allowed_course, plan_by}

-- A step that does not ask for 1, 2 and 3: 6 alone, and then as any step.
unfoldable pub untested_course : Roms → List ℕ → State → ℕ → ℕ → Course
untested_course roms ram s first second =
    pick (not (eqb (sample_number first second) 0)) (declined (sample_number first second) s) (allowed_course roms ram s first second)

abbrev pub untested_plan : Roms → List ℕ → State → ℕ → ℕ → Plan
untested_plan roms ram s first second = plan_by (untested_course roms ram s first second) s first second

-- 1, 2 and 3 are asked for at the run's start, and by none of its steps.
unfoldable pub tested_once : Roms → List ℕ → State → List ℕ → Ended
tested_once roms ram s samples = checked roms ram s (run_by (untested_plan roms) samples (begun ram s))
