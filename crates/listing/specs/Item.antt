-- What a line shows of an item: its text, its bytes and how many they are.
-- Assumes nothing.
use Rattle.std.specs.Prelude.{ℕ, ◌+◌, ◌%◌, ◌&&◌, List, Option, Some, None, ltb, length, unwrap_or}
use Rattle.isa.specs.Choice.{pick}
use Rattle.isa.specs.Reading.{byte_at}
use Rattle.listing.specs.Text.{expand, ending, line_one, line_two}
use Rattle.listing.specs.declared.item.Item.{Item}

-- The second byte of a code at an address, where the program has it and the code does not stand "at 7FF or FFF".
abbrev pub second_of : List ℕ → ℕ → Option ℕ
second_of bytes a = pick (ltb (a % 2048) 2047 && ltb (a + 1) (length bytes)) (Some (byte_at bytes (a + 1))) None

-- The byte that a text names: the second, or that of a DB itself.
abbrev pub data_of : Item → ℕ
data_of item = unwrap_or item.second item.code

-- What stands for a letter of the text.
abbrev pub letter_of : Item → ℕ → List ℕ
letter_of item letter = expand item.address item.code (data_of item) letter

-- What stands behind the bytes.
abbrev pub ending_of : Item → List ℕ
ending_of item = ending item.kind item.address item.code (data_of item)

-- The line of an item: one byte alone, or two.
abbrev pub line_of : Item → List ℕ
line_of item =
    elim item.second [ None ↦ line_one item.kind item.address item.code | Some d ↦ line_two item.kind item.address item.code d ]

abbrev pub size_of : Item → ℕ
size_of item = elim item.second [ None ↦ 1 | Some d ↦ 2 ]
