-- A number that names no set gives 25 in every call, and nothing is touched: no definition looks further than the number.
-- Assumes nothing.
use mathlib.Core.List.{List}
use mathlib.Core.Path.{◌≡◌, refl}
use Prim.Native.Nat.{ℕ, ◌<◌}
use lib.ListN.{length}
use Rattle.isa.specs.Choice.{pick}
use Rattle.mcs48_c.specs.Calls.{step_from, run_from, read_from, listed_from, line_from, totalled, totals_after}
use Rattle.mcs48_c.specs.Packed.{packed, packed_step, packed_read, packed_line}
use Rattle.mcs48_c.specs.Stepping.{Buffers, run_leaves, step_leaves}
use Rattle.mcs48_c.proofs.Naming.{none-25}

module _ (name : ℕ) (none : 1 < name) (program : List ℕ) where
  pub step-25 :
      (outside : List ℕ) (b : Buffers) (first second : ℕ)
      → (packed_step (step_from name program outside b.ram b.bytes first second) ≡ 25)
      × (step_leaves name program outside b first second ≡ b)
  unfolding packed pick
  step-25 outside b first second = rw (none-25 name none) (refl, refl)

  -- The totals are written, as 0 and 0.
  pub run-25 :
      (outside : List ℕ) (b : Buffers) (samples totals : List ℕ)
      → ((run_from name program outside b.ram b.bytes samples).ran.number ≡ 25) × (run_leaves name program outside b samples ≡ b)
      × (totals_after totals (run_from name program outside b.ram b.bytes samples).ran ≡ totalled totals 0 0)
  unfolding pick
  run-25 outside b samples totals = rw (none-25 name none) (refl, refl, refl)

  pub read-25 : (a : ℕ) → packed_read program a (read_from name program a) ≡ 25
  unfolding packed
  read-25 a = rw (none-25 name none)

  pub line-25 :
      (a : ℕ) (line : List ℕ) → (packed_line (listed_from name program a (length line)) ≡ 25) × (line_from name program a line ≡ line)
  unfolding packed
  line-25 a line = rw (none-25 name none) (refl, refl)
