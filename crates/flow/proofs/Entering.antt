-- HALT and STOP by hand: with INT high the mode is entered, with INT low it isn't.
-- Assumes nothing.
use mathlib.Core.List.{[], ◌∷◌}
use mathlib.Core.Path.{◌≡◌, refl}
use Rattle.isa.specs.Choice.{pick}
use Rattle.machine.specs.State.{power_up}
use Rattle.machine.specs.declared.Mode.TheVariants.{Running, HaltMode, StopMode}
use Rattle.flow.specs.Control.{standing_by}

pub entering :
    (standing_by power_up HaltMode 0x0FFF_FFFF).mode ∷ (standing_by power_up StopMode 0x0FFF_FFFF).mode
    ∷ (standing_by power_up HaltMode 0x0EFF_FFFF).mode ∷ (standing_by power_up StopMode 0x0EFF_FFFF).mode ∷ []
    ≡ HaltMode ∷ StopMode ∷ Running ∷ Running ∷ []
unfolding pick
entering = refl
