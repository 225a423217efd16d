-- "R0-R7 are RAM 0-7, or 24-31 in bank 1. An indirect address is taken modulo the RAM size."
-- Assumes nothing.
use Rattle.std.specs.Prelude.{ℕ, ◌+◌, ◌*◌, ◌%◌, List, length}
use Rattle.isa.specs.Reading.{byte_at}
use Rattle.isa.specs.declared.Cell.{Cell}
use Rattle.isa.specs.declared.Cell.TheVariants.{Register, Indirect}
use Rattle.isa.specs.declared.Source.{Source}
use Rattle.isa.specs.declared.Source.TheVariants.{FromCell, Immediate}
use Rattle.machine.specs.Psw.{bit_bs}

-- (A code holds r from 0 to 7; % 8 makes the definition total.)
abbrev pub register_at : ℕ → ℕ → ℕ
register_at psw r = bit_bs psw * 24 + r % 8

abbrev pub indirect_at : List ℕ → ℕ → ℕ → ℕ
indirect_at ram psw r = byte_at ram (register_at psw r) % length ram

-- Where Rr and @Rr stand in RAM.
abbrev pub place_of : Cell → List ℕ → ℕ → ℕ
place_of (Register r) ram psw = register_at psw r
place_of (Indirect r) ram psw = indirect_at ram psw r

-- What Rr, @Rr and #data give.
abbrev pub source_of : Source → List ℕ → ℕ → ℕ
source_of (FromCell c) ram psw = byte_at ram (place_of c ram psw)
source_of (Immediate d) ram psw = d
