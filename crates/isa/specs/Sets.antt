-- Which instructions a set is without, by name: what the rows of the sheet say by code.
-- Assumes nothing.
use Rattle.isa.specs.declared.Instruction.{Instruction}
use Rattle.isa.specs.declared.Instruction.TheVariants.{Halt, Stop}
use Rattle.isa.specs.declared.Set.{Set}
use Rattle.isa.specs.declared.Set.TheVariants.{Intel}

-- HALT or STOP.
pub data Standby : Instruction → Type 0 where
  halt : Standby Halt
  stop : Standby Stop

-- "It adds HALT at 01 and STOP at 82" (document 02, item 2): Intel's set is without them, and NEC's is without none.
pub data Without : Set → Instruction → Type 0 where
  standby : {i : Instruction} → Standby i → Without Intel i
