-- Document 02, item 3, at the edges of pages, as one table: for an instruction whose first byte is the last of a page, and low 8 bits of 34.
-- Assumes nothing.
use Rattle.std.specs.Prelude.{ℕ, List, [], ◌∷◌}

pub record Edge : Type 0 where
  pub first : ℕ  -- where the first byte stands
  pub next : ℕ  -- where the second byte stands, or the instruction that follows
  pub branch : ℕ  -- where a conditional jump to 34 goes
  pub movp : ℕ  -- the table byte of MOVP, A being 34
  pub jmpp : ℕ  -- that of JMPP
  pub movp3 : ℕ  -- that of MOVP3

abbrev pub edge : ℕ → ℕ → ℕ → ℕ → ℕ → ℕ → Edge
edge first next branch movp jmpp movp3 =
    record { first = first; next = next; branch = branch; movp = movp; jmpp = jmpp; movp3 = movp3 }

-- "A jump whose first byte is at 1FF goes to page 2, and one at 7FF, whose second byte is at 000, to page 0. MOVP uses the page of the
-- instruction that follows it. JMPP stays as 01 has it": in the page of its first byte. MOVP3 reads in page 3 of its bank. After FFF comes
-- 800, so the page there is 8.
abbrev pub edges : List Edge
edges =
    edge 0x0FF 0x100 0x134 0x134 0x034 0x334 ∷
    edge 0x1FF 0x200 0x234 0x234 0x134 0x334 ∷
    edge 0x3FF 0x400 0x434 0x434 0x334 0x334 ∷
    edge 0x7FF 0x000 0x034 0x034 0x734 0x334 ∷
    edge 0x8FF 0x900 0x934 0x934 0x834 0xB34 ∷
    edge 0xFFF 0x800 0x834 0x834 0xF34 0xB34 ∷
    []
