-- Laws of a choice.
-- Assumes nothing.
use mathlib.Core.Bool.{Bool, true, false}
use mathlib.Core.Path.{◌≡◌, refl}
use Rattle.isa.specs.Choice.{pick}

-- What holds of both sides holds of the choice.
pub either : {A : Type 0} (P : A → Type 0) (b : Bool) (x y : A) → (b ≡ true → P x) → (b ≡ false → P y) → P (pick b x y)
unfolding pick
either P true x y f g = f refl
either P false x y f g = g refl
