-- The two corrections of DA A, in the manual's words and in document 01's.
-- Assumes nothing.
use Prim.Native.Nat.{ℕ, ◌+◌, ◌/◌, ◌%◌}
use mathlib.Core.Bool.{Bool, true, false, ◌||◌}
use mathlib.Core.Path.{◌≡◌, refl, sym}
use native.Mathlib.Omega.{arith}
use lib.Dec.{eqb, ltb, leb}
use borrow.Author.Tests.{leb-true, leb-false, lt-ltb, le-ltb}
use Rattle.isa.specs.Choice.{pick}
use Rattle.machine.specs.Psw.{bit_ac}
use Rattle.accumulator.specs.Accumulator.{low_adjusted}

-- Where the two ways past the first correction meet, a is v.
pub low-adjusted :
    (v psw a : ℕ) (first : Bool) → (ltb 9 (v % 16) || eqb (bit_ac psw) 1) ≡ first → a ≡ pick first (v + 6) v → low_adjusted v psw ≡ a
unfolding pick
low-adjusted v psw a true t e = rw t (sym e)
low-adjusted v psw a false t e = rw t (sym e)

-- The manual's "bits 4-7 exceed nine", a carry above them counted, is document 01's "at least A0 hex".
pub above-nine : (v : ℕ) → leb 0xA0 v ≡ ltb 9 (v / 16)
above-nine v = go (leb 0xA0 v) refl
  where
    go : (b : Bool) → leb 0xA0 v ≡ b → b ≡ ltb 9 (v / 16)
    go true e = sym (lt-ltb 9 (v / 16) (omega (arith, leb-true 0xA0 v e)))
    go false e = sym (le-ltb 9 (v / 16) (omega (arith, leb-false 0xA0 v e)))
