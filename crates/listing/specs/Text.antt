-- Numbers and texts of a listing, as lists of bytes.
-- Assumes nothing.
use Prim.Native.Char.{code}
use Rattle.std.specs.Prelude.{ℕ, ◌+◌, ◌*◌, ◌/◌, ◌%◌, List, ◌++◌, [] as []ᴸ, ◌∷◌ as ◌∷ᴸ◌, ltb, eqb}
use Prim.Native.String.{String, [], ◌∷◌}
use Rattle.isa.specs.Choice.{pick}
use Rattle.isa.specs.Pages.{branch_target}
use Rattle.isa.specs.Sheet.{row_of}

-- The bytes of a text.
abbrev pub ascii : String → List ℕ
ascii [] = []ᴸ
ascii (c ∷ s) = code c ∷ᴸ ascii s

-- "Numbers are capital hex with H, two digits for bytes, three for addresses, a 0 before a leading letter."
abbrev pub digit_of : ℕ → ℕ
digit_of v = pick (ltb v 10) (48 + v) (55 + v)

abbrev pub hex2 : ℕ → List ℕ
hex2 v = digit_of (v / 16) ∷ᴸ digit_of (v % 16) ∷ᴸ []ᴸ

abbrev pub hex3 : ℕ → List ℕ
hex3 v = digit_of (v / 256) ∷ᴸ hex2 (v % 256)

abbrev pub lead : ℕ → List ℕ
lead v = pick (ltb v 10) []ᴸ (ascii "0")

abbrev pub byte_number : ℕ → List ℕ
byte_number v = lead (v / 16) ++ (hex2 v ++ ascii "H")

abbrev pub address_number : ℕ → List ℕ
address_number v = lead (v / 256) ++ (hex3 v ++ ascii "H")

-- What stands for a letter of a row's text at the address a, for the code b and the second byte d. "JMP and CALL show 11 bits,
-- conditional jumps 12."
unfoldable pub expand : ℕ → ℕ → ℕ → ℕ → List ℕ
expand a b d letter =
    pick (eqb letter (code "r")) (digit_of (b % 8) ∷ᴸ []ᴸ)
    (pick (eqb letter (code "p")) (digit_of (b % 8) ∷ᴸ []ᴸ)
    (pick (eqb letter (code "b")) (digit_of (b / 32) ∷ᴸ []ᴸ)
    (pick (eqb letter (code "d")) (byte_number d)
    (pick (eqb letter (code "a")) (address_number (b / 32 * 256 + d))
    (pick (eqb letter (code "t")) (address_number (branch_target a d)) (letter ∷ᴸ []ᴸ))))))

abbrev pub expand_all : ℕ → ℕ → ℕ → List ℕ → List ℕ
expand_all a b d []ᴸ = []ᴸ
expand_all a b d (letter ∷ᴸ rest) = expand a b d letter ++ expand_all a b d rest

-- The letters of a row's text; row 0 is that of an undefined code, DB.
unfoldable pub letters_of : ℕ → List ℕ
letters_of kind = ascii (row_of kind).text

-- "A line: address in 3 hex digits, 2 spaces, bytes padded to 5, 2 spaces, text." And LF.
abbrev pub ending : ℕ → ℕ → ℕ → ℕ → List ℕ
ending kind a b d = ascii "  " ++ (expand_all a b d (letters_of kind) ++ ascii "\n")

-- A line that shows one byte; a DB has the code itself as data.
abbrev pub line_one : ℕ → ℕ → ℕ → List ℕ
line_one kind a b = (hex3 a ++ ascii "  ") ++ (hex2 b ++ (ascii "   " ++ ending kind a b b))

-- A line that shows two.
abbrev pub line_two : ℕ → ℕ → ℕ → ℕ → List ℕ
line_two kind a b d = (hex3 a ++ ascii "  ") ++ (hex2 b ++ (ascii " " ++ (hex2 d ++ ending kind a b d)))
