-- Document 02, item 2: "The machine state gains whether it runs, is halted, is stopped or was just released by INT."
-- Assumes nothing.
use Rattle.std.specs.Prelude.{ℕ, Bool, true, false, eqb}
use Rattle.isa.specs.Choice.{pick}
use Rattle.isa.specs.declared.Set.{Set}
use Rattle.isa.specs.declared.Set.TheVariants.{Intel, Nec}
use Rattle.machine.specs.declared.Mode.{Mode}
use Rattle.machine.specs.declared.Mode.TheVariants.{Running, HaltMode, StopMode, Released}

-- It simply runs.
abbrev pub is_running : Mode → Bool
is_running Running = true
is_running HaltMode = false
is_running StopMode = false
is_running Released = false

-- It is halted or stopped.
abbrev pub is_waiting : Mode → Bool
is_waiting Running = false
is_waiting HaltMode = true
is_waiting StopMode = true
is_waiting Released = false

-- "3 for any but running under Intel."
abbrev pub mode_allowed : Set → Mode → Bool
mode_allowed Intel m = is_running m
mode_allowed Nec m = true

-- "Whether it runs, is halted, is stopped or was just released by INT" (document 02, item 2): 0, 1, 2, 3.
abbrev pub mode_byte : Mode → ℕ
mode_byte Running = 0
mode_byte HaltMode = 1
mode_byte StopMode = 2
mode_byte Released = 3

unfoldable pub mode_of : ℕ → Mode
mode_of n = pick (eqb n 0) Running (pick (eqb n 1) HaltMode (pick (eqb n 2) StopMode Released))
