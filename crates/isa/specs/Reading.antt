-- The reader: what stands at an address of a program.
-- Assumes nothing.
use Rattle.std.specs.Prelude.{ℕ, ◌+◌, ◌*◌, ◌/◌, ◌%◌, ◌<◌, Bool, List, eqb, leb, ltb, length, get_or, Result, Ok, Err}
use Rattle.isa.specs.Choice.{pick}
use Rattle.isa.specs.Numbers.{number_of, Answer, given, refused}
use Rattle.isa.specs.Sheet.{entry_of, instruction_of}
use Rattle.isa.specs.declared.Instruction.{Instruction}
use Rattle.isa.specs.declared.Set.{Set}
use Rattle.isa.specs.declared.Refusal.{Refusal}
use Rattle.isa.specs.declared.table.Entry.{Entry}
use Rattle.isa.specs.declared.Decoded.{Decoded}

-- A program, and the set whose codes it is written in. "The caller names the set, Intel or NEC."
pub record Program : Type 0 where
  pub set : Set
  pub bytes : List ℕ

abbrev pub under : Set → List ℕ → Program
under set bytes = record { set = set; bytes = bytes }

-- What the reader gives: an instruction and its length in bytes.
pub data Sized : Type 0 where
  sized : Instruction → ℕ → Sized

-- "PC: the low 11 bits count and wrap; bit 11 stays."
abbrev pub next_pc : ℕ → ℕ
next_pc pc = pc / 2048 * 2048 + (pc % 2048 + 1) % 2048

-- A fetch: there is no byte at an address; the byte there; the entry of its code.
abbrev pub lacks : List ℕ → ℕ → Bool
lacks bytes a = leb (length bytes) a

abbrev pub byte_at : List ℕ → ℕ → ℕ
byte_at bytes a = get_or bytes a 0

abbrev pub entry_at : Program → ℕ → Entry
entry_at program a = entry_of program.set (byte_at program.bytes a)

-- Each of a list's numbers is a byte.
abbrev pub Bytes : List ℕ → Type 0
Bytes bytes = (k : ℕ) → byte_at bytes k < 256

-- The instruction whose first byte, at the address a, is b, with its length; or 4, or 5 for a second byte.
-- "A second byte is at the next PC, which wraps as in a step."
unfoldable pub decoded_at : Program → ℕ → ℕ → Answer Sized
decoded_at program a b =
    pick (eqb (entry_of program.set b).bytes 0) (refused 4)
    (pick (eqb (entry_of program.set b).bytes 1) (given (sized (instruction_of program.set b 0) 1))
    (pick (lacks program.bytes (next_pc a)) (refused 5)
    (given (sized (instruction_of program.set b (byte_at program.bytes (next_pc a))) 2))))

-- The instruction at an address: "5 for the first byte, 4, 5 for the second".
unfoldable pub instruction_at : Program → ℕ → Answer Sized
instruction_at program a = pick (lacks program.bytes a) (refused 5) (decoded_at program a (byte_at program.bytes a))

-- "The reader takes a program as the listing does and an address, order 1, 5, 4, 5."
unfoldable pub read_of : Program → ℕ → Answer Sized
read_of program a = pick (ltb 4096 (length program.bytes)) (refused 1) (instruction_at program a)

-- The number and the values of each of the reader's answers.
abbrev pub read_as : Result Decoded Refusal → Answer Sized
read_as (Ok d) = given (sized d.instruction d.bytes)
read_as (Err r) = refused (number_of r)
