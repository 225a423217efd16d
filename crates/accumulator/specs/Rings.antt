-- Which strings of rotates do the same, by counting. The bits of A are a ring of 8; with C, which stands above bit 7, they are a ring of 9.
-- Assumes nothing.
use Rattle.std.specs.Prelude.{ℕ, ◌+◌, List, [], ◌∷◌}
use Rattle.accumulator.specs.Rotates.{Rotate, Rl, Rlc, Rr, Rrc, Swap, Nop}

pub data Ring : Type 0 where
  Alone : Ring
  WithC : Ring

abbrev pub bits : Ring → ℕ
bits Alone = 8
bits WithC = 9

-- A rotate turns a ring by so many places to the left: RR by all but one, as that is one to the right; SWAP by half of 8; NOP by none.
pub data Turns : Ring → Rotate → ℕ → Type 0 where
  rl : Turns Alone Rl 1
  rr : Turns Alone Rr 7
  swap : Turns Alone Swap 4
  rlc : Turns WithC Rlc 1
  rrc : Turns WithC Rrc 8
  nop : {ring : Ring} → Turns ring Nop 0

-- A string turns a ring by the sum. (One that has rotates of both rings turns neither.)
pub data TurnsBy (ring : Ring) : List Rotate → ℕ → Type 0 where
  none : TurnsBy ring [] 0
  more : {r : Rotate} {rs : List Rotate} {m n : ℕ} → Turns ring r m → TurnsBy ring rs n → TurnsBy ring (r ∷ rs) (m + n)
