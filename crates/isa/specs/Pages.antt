-- Where a conditional jump goes and where a table byte stands, from the address of the instruction's first byte.
-- Assumes nothing.
use Rattle.std.specs.Prelude.{ℕ, ◌+◌, ◌*◌, ◌/◌, ◌%◌}
use Rattle.isa.specs.Reading.{next_pc}

-- The address in the 256-byte page of another that has these low 8 bits. (What is given as low bits is a byte; % 256 makes the definition
-- total, so that an address in a page stays below the page's end whatever number is given.)
abbrev pub in_page : ℕ → ℕ → ℕ
in_page of d = of / 256 * 256 + d % 256

-- "A conditional jump stays in the page of its second byte", which is at the next PC (document 02, item 3).
abbrev pub branch_target : ℕ → ℕ → ℕ
branch_target base d = in_page (next_pc base) d

-- "MOVP uses the page of the instruction that follows it" (item 3): at the next PC too, MOVP having one byte.
abbrev pub movp_address : ℕ → ℕ → ℕ
movp_address base a = in_page (next_pc base) a

-- "JMPP stays as 01 has it": "the 256-byte page of their first byte".
abbrev pub jmpp_address : ℕ → ℕ → ℕ
jmpp_address base a = in_page base a

-- "MOVP3 replaces bits 8-10 by 3 and leaves bit 11."
abbrev pub movp3_address : ℕ → ℕ → ℕ
movp3_address base a = base / 2048 * 2048 + 0x300 + a
