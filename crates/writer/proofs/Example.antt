-- The README's example, by computation.
-- Assumes nothing.
use mathlib.Core.Path.{◌≡◌, refl}
use mathlib.Core.List.{List, [], ◌∷◌}
use Prim.Native.Nat.{ℕ}
use Rattle.isa.specs.Choice.{pick}
use Rattle.isa.specs.Numbers.{given, refused}
use Rattle.isa.specs.Sheet.{kind_of, entry_of}
use Rattle.isa.specs.Reading.{under, sized, read_of, instruction_at, decoded_at}
use Rattle.isa.specs.declared.Source.TheVariants.{Immediate}
use Rattle.isa.specs.declared.Instruction.TheVariants.{MovA, Jmp, Halt}
use Rattle.isa.specs.declared.Set.TheVariants.{Intel, Nec}
use Rattle.isa.specs.Sets.{standby, halt}
use Rattle.writer.specs.Writing.{unknown, too_large, Writes}

abbrev program : List ℕ
program = 0x55 ∷ 0x23 ∷ 0x0F ∷ 0x24 ∷ 0x00 ∷ 0x66 ∷ []

read-1 : read_of (under Intel program) 1 ≡ given (sized (MovA (Immediate 0x0F)) 2)
unfolding read_of instruction_at decoded_at entry_of kind_of pick
read-1 = refl

read-3 : read_of (under Intel program) 3 ≡ given (sized (Jmp 0x100) 2)
unfolding read_of instruction_at decoded_at entry_of kind_of pick
read-3 = refl

read-5 : read_of (under Intel program) 5 ≡ refused 4
unfolding read_of instruction_at decoded_at entry_of kind_of pick
read-5 = refl

write-100 : Writes Intel (Jmp 0x100) (given (0x24 ∷ 0x00 ∷ []))
unfolding read_of instruction_at decoded_at entry_of kind_of pick
write-100 = refl

write-800 : Writes Intel (Jmp 0x800) (refused 23)
write-800 = too_large refl

-- Document 02: HALT is 01 under NEC, and 4 under Intel.
halt-nec : Writes Nec Halt (given (0x01 ∷ []))
unfolding read_of instruction_at decoded_at entry_of kind_of pick
halt-nec = refl

halt-intel : Writes Intel Halt (refused 4)
halt-intel = unknown (standby halt)
