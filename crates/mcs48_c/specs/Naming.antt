-- What a call from C gives by the set that its caller names.
-- Assumes nothing.
use Rattle.std.specs.Prelude.{ℕ}
use Rattle.isa.specs.Numbers.{Answer, given, refused}
use Rattle.isa.specs.declared.Set.{Set}

-- What a call gives by the set that is named: `known` tells it of a set that there is, and `unknown` of the number where there is none.
abbrev pub by_named : {A : Type 0} → Answer Set → (Set → A) → (ℕ → A) → A
by_named (given set) known unknown = known set
by_named (refused number) known unknown = unknown number
