-- Program memory: the program in the chip, and a second one outside of it, or none (document 02, item 7).
-- Assumes nothing.
use Rattle.std.specs.Prelude.{ℕ, Bool, ◌||◌, List, [], ◌++◌, length, drop, Option, None, Some}
use Rattle.isa.specs.Choice.{pick}
use Rattle.isa.specs.Reading.{Program, under, lacks, byte_at}
use Rattle.isa.specs.declared.Set.{Set}
use Rattle.machine.specs.Pins.{ea_pin, is_high}
use Rattle.machine.specs.declared.rom.Lent.{Lent}
use Rattle.machine.specs.declared.rom.Seen.{Seen}
use Rattle.machine.specs.declared.rom.Memory.{Memory}
use Rattle.machine.specs.declared.rom.Memory.TheVariants.{Internal, External}

-- "A fetch past the internal end, or any fetch with EA high, takes its byte there": the memory that must answer.
abbrev pub answering : List ℕ → Bool → ℕ → Memory
answering inside ea a = pick (ea || lacks inside a) External Internal

abbrev pub bytes_of : Memory → List ℕ → List ℕ → List ℕ
bytes_of Internal inside outside = inside
bytes_of External inside outside = outside

-- What a fetch finds: the memory that must answer, whether it lacks the byte, and the byte, 0 where it is lacking.
pub record Byte : Type 0 where
  pub memory : Memory
  pub lacking : Bool
  pub value : ℕ

-- A fetch: "the fetch now says which memory answered".
abbrev pub fetched_by : Memory → List ℕ → List ℕ → ℕ → Byte
fetched_by m inside outside a =
    record { memory = m; lacking = lacks (bytes_of m inside outside) a; value = byte_at (bytes_of m inside outside) a }

unfoldable pub fetched : List ℕ → List ℕ → Bool → ℕ → Byte
fetched inside outside ea a = fetched_by (answering inside ea a) inside outside a

-- The byte alone, if it is not lacking.
unfoldable pub found_of : Byte → Option ℕ
found_of b = pick b.lacking None (Some b.value)

-- All that a step may fetch, as one program: at each address it has the byte that a fetch finds, and it lacks what a fetch lacks (the laws
-- `visible-lacks` and `visible-byte`).
unfoldable pub visible : List ℕ → List ℕ → Bool → List ℕ
visible inside outside ea = pick ea outside (inside ++ drop (length inside) outside)

-- The code's own type.
abbrev pub visible_in : Seen → List ℕ
visible_in s = visible s.lent.program.now s.lent.outside.now s.ea

-- What is lent as program memory: the set, the program in the chip, and the second one, which is empty where there is none.
pub record Roms : Type 0 where
  pub set : Set
  pub inside : List ℕ
  pub outside : List ℕ

abbrev pub both : Set → List ℕ → List ℕ → Roms
both set inside outside = record { set = set; inside = inside; outside = outside }

-- The code's own type has both as slices.
abbrev pub lent_as : Lent → Roms
lent_as l = both l.set l.program.now l.outside.now

abbrev pub alone : Set → List ℕ → Roms
alone set inside = both set inside []

-- "EA is bit 28 of the first sample": the program that a step with this first sample sees.
abbrev pub seen_by : Roms → ℕ → Program
seen_by roms first = under roms.set (visible roms.inside roms.outside (is_high ea_pin first))
