-- How many bytes a step takes from the second program (document 02, item 7).
-- Assumes nothing.
use Rattle.std.specs.Prelude.{ℕ, ◌+◌, Bool, List, [], ◌∷◌, eqb}
use Rattle.isa.specs.Choice.{pick}
use Rattle.isa.specs.Pages.{movp_address, jmpp_address, movp3_address}
use Rattle.isa.specs.Reading.{Program, next_pc, byte_at, entry_at}
use Rattle.machine.specs.Pins.{ea_pin, is_high}
use Rattle.machine.specs.Rom.{Roms, answering, seen_by}
use Rattle.machine.specs.declared.State.{State}
use Rattle.machine.specs.declared.rom.Memory.{Memory}
use Rattle.machine.specs.declared.rom.Memory.TheVariants.{Internal, External}

-- MOVP (A3), JMPP (B3) and MOVP3 (E3) take a byte from a table: where it stands.
abbrev pub table_bytes : ℕ → ℕ → ℕ → List ℕ
table_bytes b base a =
    pick (eqb b 0xA3) (movp_address base a ∷ [])
    (pick (eqb b 0xB3) (jmpp_address base a ∷ [])
    (pick (eqb b 0xE3) (movp3_address base a ∷ []) []))

-- The addresses of all bytes that the instruction at base takes: of its first byte, and of its second or its table byte, if it has one.
abbrev pub bytes_taken : Program → ℕ → ℕ → List ℕ
bytes_taken program base a =
    base ∷ pick (eqb (entry_at program base).bytes 2) (next_pc base ∷ []) (table_bytes (byte_at program.bytes base) base a)

-- 1 for a byte from outside.
abbrev pub counted_outside : Memory → ℕ
counted_outside Internal = 0
counted_outside External = 1

-- How many of them the memory outside must answer, the program inside being `inside`.
abbrev pub outside_among : List ℕ → Bool → List ℕ → ℕ
outside_among inside ea [] = 0
outside_among inside ea (x ∷ xs) = counted_outside (answering inside ea x) + outside_among inside ea xs

-- "A step reports how many bytes came from outside."
unfoldable pub from_outside : Roms → ℕ → State → ℕ
from_outside roms first s = outside_among roms.inside (is_high ea_pin first) (bytes_taken (seen_by roms first) s.pc s.a)
