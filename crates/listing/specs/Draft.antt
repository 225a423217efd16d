-- A line while it is made, as the list of its bytes, cut at 32.
-- Assumes nothing.
use Rattle.std.specs.Prelude.{ℕ, List, ◌-◌, ◌++◌, ◌≡◌, length, replicate, take}

unfoldable pub cut : List ℕ → List ℕ
cut xs = take 32 xs

-- r is the line l with the bytes x added.
pub record Adds (l x r : List ℕ) : Type 0 where
  pub is : r ≡ cut (l ++ x)

-- The array that holds a line: 0 past its end.
abbrev pub filled_up : List ℕ → List ℕ
filled_up xs = xs ++ replicate (32 - length xs) 0

-- `length`, where a field has that name.
abbrev pub length_of : List ℕ → ℕ
length_of xs = length xs
