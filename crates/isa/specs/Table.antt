-- The opcode table's answer: an entry, or none for an undefined code.
-- Assumes nothing.
use Rattle.std.specs.Prelude.{Option, Some, None}
use Rattle.isa.specs.Sheet.{undefined_row}
use Rattle.isa.specs.declared.table.Entry.{Entry}

abbrev pub entry_as : Option Entry → Entry
entry_as (Some e) = e
entry_as None = record { bytes = undefined_row.bytes; cycles = undefined_row.cycles; kind = 0 }
