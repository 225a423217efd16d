-- Document 02, item 6: strings of rotates, and which may stand for which.
-- Assumes nothing.
use Rattle.std.specs.Prelude.{ℕ, ◌+◌, ◌-◌, ◌<◌, List, [], ◌∷◌, ◌++◌, ◌≡◌, length, replicate}
use Rattle.isa.specs.Sheet.{entry_of}
use Rattle.isa.specs.declared.Set.{Set}
use Rattle.isa.specs.declared.Unary.TheVariants.{RlA, RlcA, RrA, RrcA, SwapA}
use Rattle.machine.specs.declared.State.{State}
use Rattle.accumulator.specs.Accumulator.{changed}

-- The instructions of such a string: the rotates, and NOP, which turns nothing and fills a place.
pub data Rotate : Type 0 where
  Rl : Rotate
  Rlc : Rotate
  Rr : Rotate
  Rrc : Rotate
  Swap : Rotate
  Nop : Rotate

-- Their codes, by hand. That the sheet has these instructions there, of one byte and one cycle each, is shown: `one-each`, and `meant` in crate
-- rotates.
abbrev pub code_of : Rotate → ℕ
code_of Rl = 0xE7
code_of Rlc = 0xF7
code_of Rr = 0x77
code_of Rrc = 0x67
code_of Swap = 0x47
code_of Nop = 0x00

-- What each does, as the step does it.
abbrev pub turned : Rotate → State → State
turned Rl s = changed RlA s
turned Rlc s = changed RlcA s
turned Rr s = changed RrA s
turned Rrc s = changed RrcA s
turned Swap s = changed SwapA s
turned Nop s = s

-- Which way each turns: A and C before it and after it, by hand. (With RL and RR exchanged every law of strings would hold.)
pub record Example : Type 0 where
  pub rotate : Rotate
  pub a : ℕ
  pub c : ℕ
  pub after_a : ℕ
  pub after_c : ℕ

abbrev pub example : Rotate → ℕ → ℕ → ℕ → ℕ → Example
example rotate a c after_a after_c = record { rotate = rotate; a = a; c = c; after_a = after_a; after_c = after_c }

abbrev pub examples : List Example
examples =
    example Rl 0x01 0 0x02 0 ∷
    example Rlc 0x80 0 0x00 1 ∷
    example Rr 0x01 0 0x80 0 ∷
    example Rrc 0x01 0 0x00 1 ∷
    example Swap 0x12 0 0x21 0 ∷
    example Nop 0x12 1 0x12 1 ∷
    []

-- What a string does: its instructions, one after the other.
abbrev pub rotated : List Rotate → State → State
rotated [] s = s
rotated (r ∷ rs) s = rotated rs (turned r s)

-- The machine cycles of a string in a set, by the sheet.
abbrev pub cycles_of : Set → List Rotate → ℕ
cycles_of set [] = 0
cycles_of set (r ∷ rs) = (entry_of set (code_of r)).cycles + cycles_of set rs

-- A string and its cycles, and the string that may stand instead of it and the cycles of that.
pub record Law : Type 0 where
  pub string : List Rotate
  pub cycles : ℕ
  pub instead : List Rotate
  pub instead_cycles : ℕ

abbrev pub law : List Rotate → ℕ → List Rotate → ℕ → Law
law string cycles instead instead_cycles =
    record { string = string; cycles = cycles; instead = instead; instead_cycles = instead_cycles }

-- "Four RL equal one SWAP, eight RL and two SWAP are nothing, RR undoes RL, RRC undoes RLC both ways round, nine RLC are nothing." RR and RL
-- both ways round too, and nine RRC.
abbrev pub laws : List Law
laws =
    law (replicate 4 Rl) 4 (Swap ∷ []) 1 ∷
    law (replicate 8 Rl) 8 [] 0 ∷
    law (replicate 2 Swap) 2 [] 0 ∷
    law (Rl ∷ Rr ∷ []) 2 [] 0 ∷
    law (Rr ∷ Rl ∷ []) 2 [] 0 ∷
    law (Rlc ∷ Rrc ∷ []) 2 [] 0 ∷
    law (Rrc ∷ Rlc ∷ []) 2 [] 0 ∷
    law (replicate 9 Rlc) 9 [] 0 ∷
    law (replicate 9 Rrc) 9 [] 0 ∷
    []

-- The law with the places that become free filled with NOP, so that no byte after the string moves and no cycle is lost.
abbrev pub fill : Law → Law
fill l = law l.string l.cycles (l.instead ++ replicate (length l.string - length l.instead) Nop) l.cycles

-- Two strings leave the same state from every state whose A and PSW are bytes, as they are in every state of the code: the same A, the same
-- C, and all else as it was.
abbrev pub Same : List Rotate → List Rotate → Type 0
Same string instead = (s : State) → s.a < 256 → s.psw < 256 → rotated string s ≡ rotated instead s

-- A law holds: of A and C for all values, and of the cycles in either set.
pub record Holds (l : Law) : Type 0 where
  pub same : Same l.string l.instead
  pub cycles : (set : Set) → cycles_of set l.string ≡ l.cycles
  pub instead_cycles : (set : Set) → cycles_of set l.instead ≡ l.instead_cycles

abbrev pub AllHold : List Law → Type 0
AllHold [] = Unit {0}
AllHold (l ∷ ls) = Holds l × AllHold ls
