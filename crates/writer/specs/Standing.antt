-- The words of the round trips.
-- Assumes nothing.
use Rattle.std.specs.Prelude.{ℕ, ◌≡◌, false, List, [], ◌∷◌, length}
use Rattle.isa.specs.Numbers.{Answer, given, refused}
use Rattle.isa.specs.Reading.{next_pc, lacks, byte_at, Bytes}

-- Bytes stand in a program at the address a and at the PCs after it.
abbrev pub StandsAt : List ℕ → ℕ → List ℕ → Type 0
StandsAt program a [] = Unit {0}
StandsAt program a (b ∷ bs) = (lacks program a ≡ false) × (byte_at program a ≡ b) × StandsAt program (next_pc a) bs

-- The numbers that an answer of the writer gives are bytes.
abbrev pub BytesIn : Answer (List ℕ) → Type 0
BytesIn (given bytes) = Bytes bytes
BytesIn (refused m) = Unit {0}

-- An answer of the writer stands at the address a: it gives n bytes, and they stand there. A refusal has none to stand anywhere.
abbrev pub Stands : List ℕ → ℕ → ℕ → Answer (List ℕ) → Type 0
Stands program a n (given bytes) = (length bytes ≡ n) × StandsAt program a bytes
Stands program a n (refused m) = ⊥
