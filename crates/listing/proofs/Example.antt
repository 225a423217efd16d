-- Lines of a listing, by computation: document 01's example, the two instructions that NEC adds, and conditional jumps at the edges of pages.
-- Assumes nothing.
use Prim.Native.Nat.{ℕ, ◌%◌}
use mathlib.Core.List.{List, [], ◌∷◌, ◌++◌, flat_map}
use mathlib.Core.Path.{◌≡◌, refl}
use lib.Dec.{eqb}
use Rattle.isa.specs.Choice.{pick, listed}
use Rattle.isa.specs.Edges.{edges}
use Rattle.isa.specs.Reading.{under}
use Rattle.isa.specs.Sheet.{kind_of, entry_of}
use Rattle.isa.specs.declared.Set.{Set}
use Rattle.isa.specs.declared.Set.TheVariants.{Intel, Nec}
use Rattle.listing.specs.Listing.{size_at, line_at, lines_from, listing_of}
use Rattle.listing.specs.Text.{ascii, expand, letters_of}

-- "The six input bytes `55 23 0F 24 00 66` print exactly:"
pub six-bytes :
    listing_of (under Intel (0x55 ∷ 0x23 ∷ 0x0F ∷ 0x24 ∷ 0x00 ∷ 0x66 ∷ []))
    ≡ ascii "000  55     STRT T\n"
    ++ ascii "001  23 0F  MOV A,#0FH\n"
    ++ ascii "003  24 00  JMP 100H\n"
    ++ ascii "005  66     DB 66H\n"
unfolding lines_from line_at size_at expand letters_of entry_of kind_of pick
six-bytes = refl

-- Document 02, item 2: "It adds HALT at 01 and STOP at 82." Intel leaves both undefined, and they are DB.
abbrev standby_lines : Set → List ℕ
standby_lines Intel = ascii "000  01     DB 01H\n" ++ ascii "001  82     DB 82H\n"
standby_lines Nec = ascii "000  01     HALT\n" ++ ascii "001  82     STOP\n"

pub standby-lines : (set : Set) → listing_of (under set (0x01 ∷ 0x82 ∷ [])) ≡ standby_lines set
unfolding lines_from line_at size_at expand letters_of entry_of kind_of pick
standby-lines Intel = refl
standby-lines Nec = refl

-- A program of 4,096 bytes in which every page ends with the code of JC.
abbrev last_jc : List ℕ
last_jc = listed (λ k. pick (eqb (k % 256) 0xFF) 0xF6 0x34) 4096 0

-- Document 02, item 3: "The listing follows." At 7FF and FFF the line is a DB.
pub edge-lines :
    (set : Set)
    → flat_map (λ e. line_at (under set last_jc) e.first) edges
    ≡ ascii "0FF  F6 34  JC 134H\n"
    ++ ascii "1FF  F6 34  JC 234H\n"
    ++ ascii "3FF  F6 34  JC 434H\n"
    ++ ascii "7FF  F6     DB 0F6H\n"
    ++ ascii "8FF  F6 34  JC 934H\n"
    ++ ascii "FFF  F6     DB 0F6H\n"
unfolding line_at expand letters_of entry_of kind_of pick flat_map
edge-lines Intel = refl
edge-lines Nec = refl
