-- The line of a listing at an address of a program, what the routine answers and leaves in its buffer, and the listing of a whole program.
-- Assumes nothing.
use Rattle.std.specs.Prelude.{ℕ, zero, suc, ◌+◌, ◌%◌, Bool, ◌&&◌, List, [], ◌++◌, ltb, eqb, length, drop, Result, Ok, Err}
use Rattle.isa.specs.Choice.{pick, listed}
use Rattle.isa.specs.Numbers.{number_of, Answer, given, refused}
use Rattle.isa.specs.Reading.{Program, lacks, byte_at, entry_at}
use Rattle.isa.specs.declared.Refusal.{Refusal}
use Rattle.isa.specs.declared.table.Entry.{Entry}
use Rattle.listing.specs.Text.{line_one, line_two}
use Rattle.listing.specs.declared.Listed.{Listed}

-- Two bytes are shown: the code has two, it does not stand "at 7FF or FFF", and it does not lack its second byte.
abbrev pub two_at : List ℕ → ℕ → Entry → Bool
two_at bytes a e = eqb e.bytes 2 && (ltb (a % 2048) 2047 && ltb (a + 1) (length bytes))

-- How many bytes of the program the line at an address shows.
unfoldable pub size_at : Program → ℕ → ℕ
size_at program a = pick (two_at program.bytes a (entry_at program a)) 2 1

-- "An undefined code is DB. So is a two-byte code that lacks its second byte or stands at 7FF or FFF."
abbrev pub line_with : List ℕ → ℕ → ℕ → Entry → List ℕ
line_with bytes a b e =
    pick (two_at bytes a e) (line_two e.kind a b (byte_at bytes (a + 1)))
    (pick (eqb e.bytes 1) (line_one e.kind a b) (line_one 0 a b))

-- The line at an address. The program's set says which codes are undefined: "26 undefined codes for Intel, 24 for NEC" (document 02,
-- item 2).
unfoldable pub line_at : Program → ℕ → List ℕ
line_at program a = line_with program.bytes a (byte_at program.bytes a) (entry_at program a)

-- What a line gives: its length, and how many bytes of the program it shows.
pub data Shown : Type 0 where
  shown : ℕ → ℕ → Shown

-- "order 1, 7, 5, and 5 for its first byte only". The buffer has room bytes.
unfoldable pub listed_of : Program → ℕ → ℕ → Answer Shown
listed_of program a room =
    pick (ltb 4096 (length program.bytes)) (refused 1)
    (pick (ltb room 32) (refused 7)
    (pick (lacks program.bytes a) (refused 5) (given (shown (length (line_at program a)) (size_at program a)))))

-- "A refused line changes nothing in its buffer, an accepted one nothing past its LF."
unfoldable pub line_after : Program → ℕ → List ℕ → List ℕ
line_after program a old =
    pick (ltb 4096 (length program.bytes)) old
    (pick (ltb (length old) 32) old
    (pick (lacks program.bytes a) old (line_at program a ++ drop (length (line_at program a)) old)))

-- The number and the values of each of the routine's answers.
abbrev pub listed_as : Result Listed Refusal → Answer Shown
listed_as (Ok line) = given (shown line.length line.size)
listed_as (Err r) = refused (number_of r)

-- The lines from an address on, at most n of them: one after the other, each after the bytes that the one before shows.
unfoldable pub lines_from : ℕ → Program → ℕ → List ℕ
lines_from zero program a = []
lines_from (suc n) program a = pick (lacks program.bytes a) [] (line_at program a ++ lines_from n program (a + size_at program a))

-- The addresses whose bytes those lines show, in order.
unfoldable pub shown_from : ℕ → Program → ℕ → List ℕ
shown_from zero program a = []
shown_from (suc n) program a =
    pick (lacks program.bytes a) [] (listed (λ k. k) (size_at program a) a ++ shown_from n program (a + size_at program a))

-- The listing of a whole program. The program `list` prints it line by line and "stays Intel" (document 02, item 2). (A line shows at least
-- one byte, so there are no more lines than bytes.)
abbrev pub listing_of : Program → List ℕ
listing_of program = lines_from (length program.bytes) program 0
