-- The set that a caller in C names by a number.
-- Assumes nothing.
use Rattle.std.specs.Prelude.{ℕ, Result, Ok, Err, eqb}
use Rattle.isa.specs.Choice.{pick}
use Rattle.isa.specs.Numbers.{number_of, Answer, given, refused}
use Rattle.isa.specs.declared.Refusal.{Refusal}
use Rattle.isa.specs.declared.Set.{Set}
use Rattle.isa.specs.declared.Set.TheVariants.{Intel, Nec}

-- 0 names Intel's set and 1 NEC's. There is no other: any other number is 25.
unfoldable pub set_of : ℕ → Answer Set
set_of name = pick (eqb name 0) (given Intel) (pick (eqb name 1) (given Nec) (refused 25))

-- The set, or the number, of each answer of `Set::try_from`.
abbrev pub named_as : Result Set Refusal → Answer Set
named_as (Ok set) = given set
named_as (Err r) = refused (number_of r)
